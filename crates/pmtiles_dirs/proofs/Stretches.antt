-- Stretches of tiles: their ids are apart, their contents are among those of the tiles, and their tiles are all of them.
use Rattle.std.proofs.Common.{◌≡◌, ℕ, zero, suc, ◌+◌, ◌-◌, ◌^◌, ◌<◌, ◌≤◌, ◌==◌, ◌&&◌, ◌||◌, Bool, true, false, if◌then◌else◌, nat_lt, List, [], ◌∷◌, ◌++◌, length, map, refl, ap, sym, ◌∙◌, arith, append_assoc}
use Rattle.std.specs.Prelude.{flat_map}
use Rattle.std.specs.List.{fold, list_any}
use Rattle.std.specs.Str.{bytes_eq}
use Rattle.std.proofs.lemmas.Bool.{eqb-true, ltb-true}
use Rattle.std.proofs.lemmas.List.{append-nil}
use Rattle.std.proofs.lemmas.List.Folds.{list_any-append}
use Rattle.std.proofs.lemmas.Slice.Eq.{bytes_eq-Decides}
use Rattle.pmtiles_dirs.specs.Contents.{Tile, IsTile, AreTiles, with_content, contents_of, Stretch, one_tile, one_more, continues, with_tile}
use Rattle.pmtiles_dirs.specs.Back.{tiles_from}

pub both : (a b : Bool) → (a && b) ≡ true → (a ≡ true) × (b ≡ true)
both true b h = (refl, h)
both false b h = let no_way : false ≡ true = h in absurd cc

pub same-bytes : (xs ys : List ℕ) → bytes_eq xs ys ≡ true → xs ≡ ys
same-bytes xs ys h = (bytes_eq-Decides xs ys).0 h

pub continued : (s : Stretch) (t : Tile) → continues s t ≡ true → (t.id ≡ s.id + s.run) × (t.bytes ≡ s.bytes) × (s.run < 2 ^ 32 - 1)
unfolding continues
continued s t h =
    let one = both (t.id == s.id + s.run) (bytes_eq t.bytes s.bytes && nat_lt s.run (2 ^ 32 - 1)) h in
    let two = both (bytes_eq t.bytes s.bytes) (nat_lt s.run (2 ^ 32 - 1)) one.1 in
    (eqb-true _ _ one.0, same-bytes t.bytes s.bytes two.0, ltb-true _ _ two.1)

pub record IsStretch (s : Stretch) : Type 0 where
  pub some : 1 ≤ s.run
  pub run : s.run < 2 ^ 32
  pub bytes : 1 ≤ length s.bytes
  pub len : length s.bytes < 2 ^ 32
  pub last : s.id + s.run ≤ 2 ^ 64

-- stretches whose ids are apart, from one number on and below another
abbrev pub Apart : ℕ → List Stretch → ℕ → Type 0
Apart next [] end = next ≤ end
Apart next (s ∷ stretches) end = IsStretch s × (next ≤ s.id) × Apart (s.id + s.run) stretches end

one_tile-is : (t : Tile) → IsTile t → IsStretch (one_tile t)
one_tile-is t is = record { some = omega arith; run = omega arith; bytes = is.some; len = is.len; last = omega (arith, is.id) }

-- after a tile more
last-apart : (next end : ℕ) (s : Stretch) (t : Tile) (b : Bool) → continues s t ≡ b → IsStretch s → next ≤ s.id → s.id + s.run ≤ end → end ≤ t.id → IsTile t
    → Apart next (if b then one_more s ∷ [] else s ∷ one_tile t ∷ []) (t.id + 1)
last-apart next end s t true c is from within after tile =
    let goes = continued s t c in
    (record { some = omega arith; run = omega (arith, goes.2); bytes = is.bytes; len = is.len; last = omega (arith, goes.0, tile.id) }, from, omega (arith, goes.0))
last-apart next end s t false c is from within after tile = (is, from, (one_tile-is t tile, omega (arith, within, after), omega arith))

with_tile-apart : (next : ℕ) (stretches : List Stretch) (end : ℕ) (t : Tile) → Apart next stretches end → end ≤ t.id → IsTile t → Apart next (with_tile stretches t) (t.id + 1)
with_tile-apart next [] end t h after tile = (one_tile-is t tile, omega (arith, h, after), omega arith)
with_tile-apart next (s ∷ []) end t h after tile = last-apart next end s t (continues s t) refl h.0 h.1 h.2 after tile
with_tile-apart next (s ∷ u ∷ rest) end t h after tile = (h.0, h.1, with_tile-apart (s.id + s.run) (u ∷ rest) end t h.2 after tile)

pub fold-apart : (tiles : List Tile) (stretches : List Stretch) (end : ℕ) → Apart 0 stretches end → AreTiles end tiles → (last : ℕ) × Apart 0 (fold with_tile stretches tiles) last
fold-apart [] stretches end h are = (end, h)
fold-apart (t ∷ tiles) stretches end h are = fold-apart tiles (with_tile stretches t) (t.id + 1) (with_tile-apart 0 stretches end t h are.1 are.0) are.2

-- the tiles of stretches
abbrev pub all_tiles : List Stretch → List Tile
all_tiles stretches = flat_map (λ s. tiles_from s.id s.run s.bytes) stretches

tiles_from-more : (run id : ℕ) (bytes : List ℕ) → tiles_from id (suc run) bytes ≡ tiles_from id run bytes ++ record { id = id + run; bytes = bytes } ∷ []
tiles_from-more zero id bytes = let place : id + 0 ≡ id = omega arith in rw place refl
tiles_from-more (suc run) id bytes =
    let place : id + suc run ≡ id + 1 + run = omega arith in
    rw place (ap (λ tiles. record { id = id; bytes = bytes } ∷ tiles) (tiles_from-more run (id + 1) bytes))

grown-tiles : (s : Stretch) (t : Tile) → t.id ≡ s.id + s.run → t.bytes ≡ s.bytes → tiles_from s.id (s.run + 1) s.bytes ≡ tiles_from s.id s.run s.bytes ++ t ∷ []
grown-tiles s t id bytes =
    let more : s.run + 1 ≡ suc s.run = omega arith in
    let same : t ≡ record { id = s.id + s.run; bytes = s.bytes } = rw (← id, ← bytes) refl in
    rw (more, same) (tiles_from-more s.run s.id s.bytes)

last-tiles : (s : Stretch) (t : Tile) (b : Bool) → continues s t ≡ b → all_tiles (if b then one_more s ∷ [] else s ∷ one_tile t ∷ []) ≡ all_tiles (s ∷ []) ++ t ∷ []
last-tiles s t true c =
    let goes = continued s t c in
    append-nil (tiles_from s.id (s.run + 1) s.bytes) ∙ (grown-tiles s t goes.0 goes.1 ∙ ap (λ tiles. tiles ++ t ∷ []) (sym (append-nil (tiles_from s.id s.run s.bytes))))
last-tiles s t false c = ap (λ tiles. tiles ++ t ∷ []) (sym (append-nil (tiles_from s.id s.run s.bytes)))

with_tile-tiles : (stretches : List Stretch) (t : Tile) → all_tiles (with_tile stretches t) ≡ all_tiles stretches ++ t ∷ []
with_tile-tiles [] t = refl
with_tile-tiles (s ∷ []) t = last-tiles s t (continues s t) refl
with_tile-tiles (s ∷ u ∷ rest) t =
    ap (λ tiles. tiles_from s.id s.run s.bytes ++ tiles) (with_tile-tiles (u ∷ rest) t) ∙ sym (append_assoc (tiles_from s.id s.run s.bytes) (all_tiles (u ∷ rest)) (t ∷ []))

pub fold-tiles : (tiles : List Tile) (stretches : List Stretch) → all_tiles (fold with_tile stretches tiles) ≡ all_tiles stretches ++ tiles
fold-tiles [] stretches = sym (append-nil (all_tiles stretches))
fold-tiles (t ∷ tiles) stretches = fold-tiles tiles (with_tile stretches t) ∙ (ap (λ prefix. prefix ++ tiles) (with_tile-tiles stretches t) ∙ append_assoc (all_tiles stretches) (t ∷ []) tiles)

-- bytes that are one of the contents
abbrev pub Among : List ℕ → List (List ℕ) → Type 0
Among bytes contents = list_any (bytes_eq bytes) contents ≡ true

pub or-left : (a b : Bool) → a ≡ true → (a || b) ≡ true
or-left true b h = refl
or-left false b h = let no_way : false ≡ true = h in absurd cc

pub or-right : (a b : Bool) → b ≡ true → (a || b) ≡ true
or-right true b h = refl
or-right false b h = h

pub own-bytes : (bytes : List ℕ) → bytes_eq bytes bytes ≡ true
own-bytes bytes = (bytes_eq-Decides bytes bytes).1 refl

with_content-keeps : (contents : List (List ℕ)) (more bytes : List ℕ) (b : Bool) → Among bytes contents → Among bytes (if b then contents else contents ++ more ∷ [])
with_content-keeps contents more bytes true h = h
with_content-keeps contents more bytes false h = list_any-append (bytes_eq bytes) contents (more ∷ []) ∙ or-left (list_any (bytes_eq bytes) contents) (list_any (bytes_eq bytes) (more ∷ [])) h

with_content-has : (contents : List (List ℕ)) (bytes : List ℕ) (b : Bool) → list_any (bytes_eq bytes) contents ≡ b → Among bytes (if b then contents else contents ++ bytes ∷ [])
with_content-has contents bytes true h = h
with_content-has contents bytes false h =
    list_any-append (bytes_eq bytes) contents (bytes ∷ []) ∙ or-right (list_any (bytes_eq bytes) contents) (list_any (bytes_eq bytes) (bytes ∷ [])) (or-left (bytes_eq bytes bytes) false (own-bytes bytes))

abbrev bytes_in : List Tile → List (List ℕ)
bytes_in tiles = map (λ (t : Tile). t.bytes) tiles

pub fold-keeps : (more : List (List ℕ)) (contents : List (List ℕ)) (bytes : List ℕ) → Among bytes contents → Among bytes (fold with_content contents more)
fold-keeps [] contents bytes h = h
fold-keeps (one ∷ more) contents bytes h = fold-keeps more (with_content contents one) bytes (with_content-keeps contents one bytes (list_any (bytes_eq one) contents) h)

abbrev pub AllAmong : List (List ℕ) → List (List ℕ) → Type 0
AllAmong [] contents = Unit {0}
AllAmong (bytes ∷ more) contents = Among bytes contents × AllAmong more contents

fold-has : (more : List (List ℕ)) (contents : List (List ℕ)) → AllAmong more (fold with_content contents more)
fold-has [] contents = tt
fold-has (one ∷ more) contents =
    (fold-keeps more (with_content contents one) one (with_content-has contents one (list_any (bytes_eq one) contents) refl), fold-has more (with_content contents one))

pub tiles-among : (tiles : List Tile) → AllAmong (map (λ (t : Tile). t.bytes) tiles) (contents_of tiles)
unfolding contents_of
tiles-among tiles = fold-has (bytes_in tiles) []

-- the contents of stretches
abbrev pub bytes_of : List Stretch → List (List ℕ)
bytes_of stretches = map (λ (s : Stretch). s.bytes) stretches

last-among : (contents : List (List ℕ)) (s : Stretch) (t : Tile) (b : Bool) → Among s.bytes contents → Among t.bytes contents → AllAmong (bytes_of (if b then one_more s ∷ [] else s ∷ one_tile t ∷ [])) contents
last-among contents s t true h k = (h, tt)
last-among contents s t false h k = (h, (k, tt))

pub with_tile-among : (contents : List (List ℕ)) (stretches : List Stretch) (t : Tile) → AllAmong (bytes_of stretches) contents → Among t.bytes contents → AllAmong (bytes_of (with_tile stretches t)) contents
with_tile-among contents [] t h k = (k, tt)
with_tile-among contents (s ∷ []) t h k = last-among contents s t (continues s t) h.0 k
with_tile-among contents (s ∷ u ∷ rest) t h k = (h.0, with_tile-among contents (u ∷ rest) t h.1 k)

pub fold-among : (contents : List (List ℕ)) (tiles : List Tile) (stretches : List Stretch) → AllAmong (bytes_of stretches) contents → AllAmong (bytes_in tiles) contents → AllAmong (bytes_of (fold with_tile stretches tiles)) contents
fold-among contents [] stretches h k = h
fold-among contents (t ∷ tiles) stretches h k = fold-among contents tiles (with_tile stretches t) (with_tile-among contents stretches t h k.0) k.1
