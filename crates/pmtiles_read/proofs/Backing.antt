-- The tile of an id is the one that is read back.
use Rattle.std.proofs.Common.{◌≡◌, ℕ, zero, suc, ◌+◌, ◌<◌, ◌≤◌, ◌==◌, ◌&&◌, Bool, true, false, if◌then◌else◌, nat_eq, nat_le, nat_lt, Option, None, Some, IfSome, IsSome, IfOk, Result, Ok, Err, List, [], ◌∷◌, ◌++◌, length, refl, ap, sym, subst, ◌∙◌, arith}
use Rattle.std.specs.Prelude.{flat_map}
use Rattle.std.specs.List.{find}
use Rattle.std.specs.Option.{option_map}
use Rattle.std.proofs.lemmas.Bool.{eqb-true, eq-eqb, ne_eqb, leb-true, leb-false, ltb-true, ltb-false}
use Rattle.pmtiles_dirs.specs.declared.entry.DirEntry.{DirEntry}
use Rattle.pmtiles_dirs.specs.declared.fault.ArcFault.{ArcFault}
use Rattle.pmtiles_dirs.specs.Contents.{Tile}
use Rattle.pmtiles_dirs.specs.Fault.{Opened, opened, content_at}
use Rattle.pmtiles_dirs.specs.Back.{tiles_from, tiles_in, tiles_of, back_of, read_back, tile_at}
use Rattle.tb_outside.specs.Source.{SourceSeen}
use Rattle.pmtiles_read.specs.Tiles.{IsOpenedFrom, covers, covering_entry}
use Rattle.pmtiles_read.specs.Answers.{TileAnswers}

below : (run from id : ℕ) (bytes : List ℕ) (rest : List Tile) → id < from → tile_at (tiles_from from run bytes ++ rest) id ≡ tile_at rest id
below zero from id bytes rest h = refl
below (suc run) from id bytes rest h = rw (ne_eqb from id (λ same. absurd (omega (arith, same, h)))) (below run (from + 1) id bytes rest (omega (arith, h)))

past : (run from id : ℕ) (bytes : List ℕ) (rest : List Tile) → from + run ≤ id → tile_at (tiles_from from run bytes ++ rest) id ≡ tile_at rest id
past zero from id bytes rest h = refl
past (suc run) from id bytes rest h = rw (ne_eqb from id (λ same. absurd (omega (arith, same, h)))) (past run (from + 1) id bytes rest (omega (arith, h)))

first : (b : Bool) (from id : ℕ) (bytes : List ℕ) (rest : Option (List ℕ)) → nat_eq from id ≡ b → (from + 1 ≤ id → rest ≡ Some bytes) → from ≤ id → (if b then Some bytes else rest) ≡ Some bytes
first true from id bytes rest t later h = refl
first false from id bytes rest t later h = later (apart (nat_lt from id) refl)
  where
    apart : (c : Bool) → nat_lt from id ≡ c → from + 1 ≤ id
    apart true s = let less : from < id = ltb-true from id s in omega (arith, less)
    apart false s =
        let same : from ≡ id = omega (arith, h, ltb-false from id s) in let no_way : true ≡ false = sym (eq-eqb from id same) ∙ t in absurd cc

within : (run from id : ℕ) (bytes : List ℕ) (rest : List Tile) → from ≤ id → id < from + run → tile_at (tiles_from from run bytes ++ rest) id ≡ Some bytes
within zero from id bytes rest h l = absurd (omega (arith, h, l))
within (suc run) from id bytes rest h l =
    first (nat_eq from id) from id bytes (tile_at (tiles_from (from + 1) run bytes ++ rest) id) refl (λ more. within run (from + 1) id bytes rest more (omega (arith, l))) h

-- the tiles of one entry, before others
by_cover : (a b : Bool) (e : DirEntry) (id : ℕ) (bytes : List ℕ) (rest : List Tile) → nat_le e.id id ≡ a → nat_lt id (e.id + e.run) ≡ b
    → tile_at (tiles_from e.id e.run bytes ++ rest) id ≡ (if a && b then Some bytes else tile_at rest id)
by_cover true true e id bytes rest s t = within e.run e.id id bytes rest (leb-true e.id id s) (ltb-true id (e.id + e.run) t)
by_cover true false e id bytes rest s t = past e.run e.id id bytes rest (ltb-false id (e.id + e.run) t)
by_cover false b e id bytes rest s t = below e.run e.id id bytes rest (leb-false e.id id s)

found-or : (b : Bool) (archive : List ℕ) (o : Opened) (e : DirEntry) (more : Option DirEntry) (rest : Option (List ℕ)) → rest ≡ option_map (content_at archive o) more
    → (if b then Some (content_at archive o e) else rest) ≡ option_map (content_at archive o) (if b then Some e else more)
found-or true archive o e more rest h = refl
found-or false archive o e more rest h = h

pub tile-covered : (archive : List ℕ) (o : Opened) (entries : List DirEntry) (id : ℕ) → tile_at (flat_map (tiles_in archive o) entries) id ≡ option_map (content_at archive o) (covering_entry entries id)
tile-covered archive o [] id = refl
tile-covered archive o (e ∷ entries) id =
    by_cover (nat_le e.id id) (nat_lt id (e.id + e.run)) e id (content_at archive o e) (flat_map (tiles_in archive o) entries) refl refl
    ∙ found-or (nat_le e.id id && nat_lt id (e.id + e.run)) archive o e (covering_entry entries id) (tile_at (flat_map (tiles_in archive o) entries) id) (tile-covered archive o entries id)

-- what is read back from an open archive
pub back-is : (archive : List ℕ) (o : Opened) → opened archive ≡ Ok o → read_back archive ≡ Some (tiles_of archive o)
unfolding read_back
back-is archive o is = ap (back_of archive) is

pub back-tile : (archive : List ℕ) (o : Opened) (tiles : List Tile) (id : ℕ) → opened archive ≡ Ok o → read_back archive ≡ Some tiles → option_map (content_at archive o) (covering_entry o.entries id) ≡ tile_at tiles id
back-tile archive o tiles id is back =
    let same : Some (tiles_of archive o) ≡ Some tiles = sym (back-is archive o is) ∙ back in
    let tiles_are : tiles_of archive o ≡ tiles = cc in
    sym (tile-covered archive o o.entries id) ∙ ap (λ ts. tile_at ts id) tiles_are

told-is : (o : Opened) (bytes : Option (List ℕ)) (archive : List ℕ) → IfSome bytes (λ a. IsOpenedFrom a o) → bytes ≡ Some archive → IsOpenedFrom archive o
told-is o bytes archive told is = subst (λ (b : Option (List ℕ)). IfSome b (λ a. IsOpenedFrom a o)) is told

-- no entry covers the id
pub tile-none : (o : Opened) (s : SourceSeen) (id : ℕ) → IfSome s.bytes (λ archive. IsOpenedFrom archive o) → None ≡ covering_entry o.entries id → TileAnswers o s s id (Ok None)
tile-none o s id told is = record {
  none = sym is;
  some = tt;
  told = λ archive t. tt;
  back = λ archive tiles t b. ap (option_map (content_at archive o)) is ∙ back-tile archive o tiles id (told-is o s.bytes archive told t) b;
  reads = record { bytes = refl; counts = refl; never_falls = omega arith };
  never_bad = tt;
}

-- an entry does, and its bytes were loaded
pub tile-some : (o : Opened) (old new : SourceSeen) (id : ℕ) (e : DirEntry) (bytes : List ℕ) → IfSome old.bytes (λ archive. IsOpenedFrom archive o) → Some e ≡ covering_entry o.entries id → length bytes ≡ e.len
    → IfSome old.bytes (λ archive. bytes ≡ content_at archive o e) → new.bytes ≡ old.bytes → new.faults ≡ old.faults → old.faults ≤ new.faults → TileAnswers o old new id (Ok (Some bytes))
tile-some o old new id e bytes told is len loaded same counts rose =
    let content : (archive : List ℕ) → old.bytes ≡ Some archive → bytes ≡ content_at archive o e = λ archive t. subst (λ (b : Option (List ℕ)). IfSome b (λ a. bytes ≡ content_at a o e)) t loaded in
    record {
      none = tt;
      some = (subst (λ (found : Option DirEntry). IfSome found (λ x. length bytes ≡ x.len)) is len, subst IsSome is refl);
      told = λ archive t. subst (λ (found : Option DirEntry). IfSome found (λ x. bytes ≡ content_at archive o x)) is (content archive t);
      back = λ archive tiles t b. ap Some (content archive t) ∙ (ap (option_map (content_at archive o)) is ∙ back-tile archive o tiles id (told-is o old.bytes archive told t) b);
      reads = record { bytes = same; counts = counts; never_falls = rose };
      never_bad = tt;
    }
