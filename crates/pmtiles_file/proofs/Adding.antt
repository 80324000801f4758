-- A tile more: what becomes of contents, stretches and entries.
use Rattle.std.proofs.Common.{◌≡◌, ℕ, zero, suc, ◌+◌, ◌-◌, ◌^◌, ◌<◌, ◌≤◌, ◌==◌, ◌&&◌, ◌||◌, Bool, true, false, if◌then◌else◌, nat_eq, nat_lt, Option, None, Some, Ok, List, [], ◌∷◌, ◌++◌, length, map, refl, ap, sym, subst, ◌∙◌, arith}
use Rattle.std.specs.List.{fold, list_any}
use Rattle.std.specs.Str.{bytes_eq}
use Rattle.std.proofs.lemmas.Bool.{eq-eqb, ne_eqb, eqb-true}
use Rattle.std.proofs.lemmas.Slice.Eq.{bytes_eq-Decides}
use Rattle.std.proofs.lemmas.Grind.{fold-append}
use Rattle.std.proofs.lemmas.List.{map-append, length_push}
use Rattle.std.specs.Prelude.{⊤}
use Rattle.tb_outside.specs.Spill.{SpillSeen, Runs}
use Rattle.pmtiles_dirs.specs.declared.meta.Meta.{Meta}
use Rattle.pmtiles_dirs.specs.declared.entry.DirEntry.{DirEntry}
use Rattle.pmtiles_dirs.specs.Contents.{Tile, IsTile, AreTiles, with_content, contents_of, offset_in, Stretch, one_tile, one_more, continues, with_tile, stretches_of, entry_for, entries_of}
use Rattle.pmtiles_dirs.proofs.Stretches.{both, continued, Among, AllAmong, same-bytes, tiles-among, bytes_of, fold-among}
use Rattle.pmtiles_file.specs.declared.stored.Stored.{Stored}
use Rattle.pmtiles_file.specs.Distinct.{Holds, runs_with, HasPlace, StandIn, PlaceAnswers}
use Rattle.pmtiles_file.specs.Listed.{next_behind, entry_at, is_followed, one_longer, with_entry}
use Rattle.pmtiles_file.specs.Writing.{WriterSeen, next_id, RunsStand, Wrote, HasAdded, AddAnswers}
use Rattle.pmtiles_file.proofs.Holding.{or-split, offset-kept, kept-among, new-among}

contents-next : (tiles : List Tile) (t : Tile) → contents_of (tiles ++ t ∷ []) ≡ with_content (contents_of tiles) t.bytes
unfolding contents_of
contents-next tiles t =
    ap (fold with_content []) (map-append (λ (x : Tile). x.bytes) tiles (t ∷ [])) ∙ fold-append with_content [] (map (λ (x : Tile). x.bytes) tiles) (t.bytes ∷ [])

stretches-next : (tiles : List Tile) (t : Tile) → stretches_of (tiles ++ t ∷ []) ≡ with_tile (stretches_of tiles) t
unfolding stretches_of
stretches-next tiles t = fold-append with_tile [] tiles (t ∷ [])

-- each content has a byte
abbrev AllSome : List (List ℕ) → Type 0
AllSome [] = Unit {0}
AllSome (c ∷ contents) = (1 ≤ length c) × AllSome contents

some-push : (contents : List (List ℕ)) (bytes : List ℕ) → AllSome contents → 1 ≤ length bytes → AllSome (contents ++ bytes ∷ [])
some-push [] bytes h k = (k, tt)
some-push (c ∷ contents) bytes h k = (h.0, some-push contents bytes h.1 k)

some-with : (contents : List (List ℕ)) (bytes : List ℕ) (b : Bool) → AllSome contents → 1 ≤ length bytes → AllSome (if b then contents else contents ++ bytes ∷ [])
some-with contents bytes true h k = h
some-with contents bytes false h k = some-push contents bytes h k

some-fold : (tiles : List Tile) (next : ℕ) (contents : List (List ℕ)) → AllSome contents → AreTiles next tiles → AllSome (fold with_content contents (map (λ (x : Tile). x.bytes) tiles))
some-fold [] next contents h are = h
some-fold (t ∷ tiles) next contents h are =
    some-fold tiles (t.id + 1) (with_content contents t.bytes) (some-with contents t.bytes (list_any (bytes_eq t.bytes) contents) h are.0.some) are.2

all-some : (tiles : List Tile) → AreTiles 0 tiles → AllSome (contents_of tiles)
unfolding contents_of
all-some tiles are = some-fold tiles 0 [] tt are

-- contents at one offset are one
by-tests : (a b : Bool) (c one other : List ℕ) (contents : List (List ℕ)) → bytes_eq one c ≡ a → bytes_eq other c ≡ b → 1 ≤ length c → Among one (c ∷ contents) → Among other (c ∷ contents)
    → (if a then 0 else length c + offset_in contents one) ≡ (if b then 0 else length c + offset_in contents other) → (Among one contents → Among other contents → offset_in contents one ≡ offset_in contents other → one ≡ other) → one ≡ other
by-tests true true c one other contents s t some h k same later = same-bytes one c s ∙ sym (same-bytes other c t)
by-tests true false c one other contents s t some h k same later = absurd (omega (arith, some, same))
by-tests false true c one other contents s t some h k same later = absurd (omega (arith, some, same))
by-tests false false c one other contents s t some h k same later =
    later (or-split (bytes_eq one c) (list_any (bytes_eq one) contents) h s) (or-split (bytes_eq other c) (list_any (bytes_eq other) contents) k t) (omega (arith, same))

same-offset : (contents : List (List ℕ)) (one other : List ℕ) → AllSome contents → Among one contents → Among other contents → offset_in contents one ≡ offset_in contents other → one ≡ other
same-offset [] one other some h k same = let no_way : false ≡ true = h in absurd cc
same-offset (c ∷ contents) one other some h k same =
    by-tests (bytes_eq one c) (bytes_eq other c) c one other contents refl refl some.0 h k same (λ i j e. same-offset contents one other some.1 i j e)

differ : (one other : List ℕ) → bytes_eq one other ≡ false → one ≡ other → ⊥
differ one other f same = let is : bytes_eq one other ≡ true = (bytes_eq-Decides one other).1 same in let no_way : true ≡ false = sym is ∙ f in absurd cc

offsets-tell : (contents : List (List ℕ)) (one other : List ℕ) (b : Bool) → bytes_eq one other ≡ b → AllSome contents → Among one contents → Among other contents → b ≡ (offset_in contents one == offset_in contents other)
offsets-tell contents one other true t some h k = sym (eq-eqb (offset_in contents one) (offset_in contents other) (ap (offset_in contents) (same-bytes one other t)))
offsets-tell contents one other false t some h k =
    sym (ne_eqb (offset_in contents one) (offset_in contents other) (λ same. differ one other t (same-offset contents one other some h k same)))

followed-same : (contents : List (List ℕ)) (s : Stretch) (t : Tile) → AllSome contents → Among s.bytes contents → Among t.bytes contents → continues s t ≡ is_followed (entry_for contents s) (entry_for contents (one_tile t))
unfolding continues is_followed
followed-same contents s t some h k = ap (λ b. (t.id == s.id + s.run) && (b && nat_lt s.run (2 ^ 32 - 1))) (offsets-tell contents t.bytes s.bytes (bytes_eq t.bytes s.bytes) refl some k h)

last-entries : (contents : List (List ℕ)) (s : Stretch) (t : Tile) (b : Bool)
    → map (entry_for contents) (if b then one_more s ∷ [] else s ∷ one_tile t ∷ []) ≡ (if b then one_longer (entry_for contents s) ∷ [] else entry_for contents s ∷ entry_for contents (one_tile t) ∷ [])
last-entries contents s t true = refl
last-entries contents s t false = refl

entries-with : (contents : List (List ℕ)) (stretches : List Stretch) (t : Tile) → AllSome contents → AllAmong (bytes_of stretches) contents → Among t.bytes contents
    → map (entry_for contents) (with_tile stretches t) ≡ with_entry (map (entry_for contents) stretches) (entry_for contents (one_tile t))
entries-with contents [] t some h k = refl
entries-with contents (s ∷ []) t some h k =
    last-entries contents s t (continues s t)
    ∙ ap (λ (b : Bool). if b then one_longer (entry_for contents s) ∷ [] else entry_for contents s ∷ entry_for contents (one_tile t) ∷ []) (followed-same contents s t some h.0 k)
entries-with contents (s ∷ u ∷ rest) t some h k = ap (λ es. entry_for contents s ∷ es) (entries-with contents (u ∷ rest) t some h.1 k)

entries-kept : (contents : List (List ℕ)) (bytes : List ℕ) (b : Bool) (stretches : List Stretch) → AllAmong (bytes_of stretches) contents → map (entry_for (if b then contents else contents ++ bytes ∷ [])) stretches ≡ map (entry_for contents) stretches
entries-kept contents bytes true stretches h = refl
entries-kept contents bytes false [] h = refl
entries-kept contents bytes false (s ∷ stretches) h = rw (offset-kept contents (bytes ∷ []) s.bytes h.0, entries-kept contents bytes false stretches h.1) refl

among-kept : (contents : List (List ℕ)) (bytes : List ℕ) (b : Bool) (stretches : List Stretch) → AllAmong (bytes_of stretches) contents → AllAmong (bytes_of stretches) (if b then contents else contents ++ bytes ∷ [])
among-kept contents bytes b [] h = tt
among-kept contents bytes b (s ∷ stretches) h = (kept-among contents bytes s.bytes b h.0, among-kept contents bytes b stretches h.1)

stretches-among : (tiles : List Tile) → AllAmong (bytes_of (stretches_of tiles)) (contents_of tiles)
unfolding stretches_of
stretches-among tiles = fold-among (contents_of tiles) tiles [] tt (tiles-among tiles)

entries-next : (tiles : List Tile) (t : Tile) → AreTiles 0 tiles → IsTile t
    → entries_of (tiles ++ t ∷ []) ≡ with_entry (entries_of tiles) (entry_for (with_content (contents_of tiles) t.bytes) (one_tile t))
unfolding entries_of
entries-next tiles t are is =
    let old : List (List ℕ) = contents_of tiles in
    let found : Bool = list_any (bytes_eq t.bytes) old in
    let new : List (List ℕ) = with_content old t.bytes in
    let stretches : List Stretch = stretches_of tiles in
    let among : AllAmong (bytes_of stretches) old = stretches-among tiles in
    let some : AllSome new = some-with old t.bytes found (all-some tiles are) is.some in
    ap (λ cs. map (entry_for cs) (stretches_of (tiles ++ t ∷ []))) (contents-next tiles t)
    ∙ (ap (map (entry_for new)) (stretches-next tiles t)
    ∙ (entries-with new stretches t some (among-kept old t.bytes found stretches among) (new-among old t.bytes found refl)
    ∙ ap (λ es. with_entry es (entry_for new (one_tile t))) (entries-kept old t.bytes found stretches among)))

-- the least id behind tiles
abbrev next_tile : ℕ → List Tile → ℕ
next_tile next [] = next
next_tile next (t ∷ tiles) = next_tile (t.id + 1) tiles

are-more : (tiles : List Tile) (next : ℕ) (t : Tile) → AreTiles next tiles → next_tile next tiles ≤ t.id → IsTile t → AreTiles next (tiles ++ t ∷ [])
are-more [] next t are h is = (is, h, tt)
are-more (u ∷ tiles) next t are h is = (are.0, are.1, are-more tiles (u.id + 1) t are.2 h is)

abbrev stretch_end : ℕ → List Stretch → ℕ
stretch_end next [] = next
stretch_end next (s ∷ stretches) = stretch_end (s.id + s.run) stretches

end-by : (next : ℕ) (s : Stretch) (t : Tile) (b : Bool) → continues s t ≡ b → stretch_end next (if b then one_more s ∷ [] else s ∷ one_tile t ∷ []) ≡ t.id + 1
end-by next s t true c = let goes = continued s t c in omega (arith, goes.0)
end-by next s t false c = refl

end-with : (next : ℕ) (stretches : List Stretch) (t : Tile) → stretch_end next (with_tile stretches t) ≡ t.id + 1
end-with next [] t = refl
end-with next (s ∷ []) t = end-by next s t (continues s t) refl
end-with next (s ∷ u ∷ rest) t = end-with (s.id + s.run) (u ∷ rest) t

end-fold : (tiles : List Tile) (stretches : List Stretch) (next : ℕ) → stretch_end next (fold with_tile stretches tiles) ≡ next_tile (stretch_end next stretches) tiles
end-fold [] stretches next = refl
end-fold (t ∷ tiles) stretches next = end-fold tiles (with_tile stretches t) next ∙ ap (λ n. next_tile n tiles) (end-with next stretches t)

end-entries : (contents : List (List ℕ)) (next : ℕ) (stretches : List Stretch) → next_behind next (map (entry_for contents) stretches) ≡ stretch_end next stretches
end-entries contents next [] = refl
end-entries contents next (s ∷ stretches) = end-entries contents (s.id + s.run) stretches

entries-end : (tiles : List Tile) → next_behind 0 (entries_of tiles) ≡ next_tile 0 tiles
unfolding entries_of stretches_of
entries-end tiles = end-entries (contents_of tiles) 0 (stretches_of tiles) ∙ end-fold tiles [] 0

-- the least id behind entries with one more
followed-id : (last e : DirEntry) → is_followed last e ≡ true → e.id ≡ last.id + last.run
unfolding is_followed
followed-id last e h = eqb-true _ _ (both (e.id == last.id + last.run) (e.offset == last.offset && nat_lt last.run (2 ^ 32 - 1)) h).0

next-by : (next : ℕ) (last e : DirEntry) (b : Bool) → is_followed last e ≡ b → e.run ≡ 1 → next_behind next (if b then one_longer last ∷ [] else last ∷ e ∷ []) ≡ e.id + 1
next-by next last e true f one = omega (arith, followed-id last e f)
next-by next last e false f one = omega (arith, one)

pub next-entry : (next : ℕ) (entries : List DirEntry) (e : DirEntry) → e.run ≡ 1 → next_behind next (with_entry entries e) ≡ e.id + 1
next-entry next [] e one = omega (arith, one)
next-entry next (last ∷ []) e one = next-by next last e (is_followed last e) refl one
next-entry next (last ∷ u ∷ rest) e one = next-entry (last.id + last.run) (u ∷ rest) e one

-- a tile was added
pub tile-added : (old new : WriterSeen) (id : ℕ) (bytes : List ℕ) (s : Stored) (after : Option Runs) (runs : Runs) (tiles : List Tile) → Wrote old runs.ended tiles
    → HasPlace new.contents after (runs_with (contents_of tiles) runs bytes) (with_content (contents_of tiles) bytes) bytes s → new.entries ≡ with_entry old.entries (entry_at id s) → new.tiles ≡ old.tiles + 1
    → next_id old ≤ id → id < 2 ^ 64 → 1 ≤ length bytes → length bytes < 2 ^ 32 → HasAdded new after (runs_with (contents_of tiles) runs bytes) (tiles ++ record { id = id; bytes = bytes } ∷ [])
tile-added old new id bytes s after runs tiles wrote place entries count next fits some short =
    let t : Tile = record { id = id; bytes = bytes } in
    let is : IsTile t = record { id = fits; some = some; len = short } in
    let contents : List (List ℕ) = with_content (contents_of tiles) bytes in
    let entry : entry_at id s ≡ entry_for contents (one_tile t) = rw (place.len, place.offset) refl in
    let behind : next_tile 0 tiles ≤ id = omega (arith, next, sym (entries-end tiles), ap (next_behind 0) wrote.entries_are) in
    record {
      told = place.told;
      wrote = record {
        holds = subst (Holds new.contents (runs_with (contents_of tiles) runs bytes).ended) (sym (contents-next tiles t)) place.holds;
        entries_are = entries ∙ (ap (λ es. with_entry es (entry_at id s)) wrote.entries_are ∙ (ap (with_entry (entries_of tiles)) entry ∙ sym (entries-next tiles t wrote.are is)));
        count = count ∙ (ap (λ n. n + 1) wrote.count ∙ sym (length_push tiles t));
        are = are-more tiles 0 t wrote.are behind is;
      };
    }

-- what adding a tile answers, once its content is placed and its entry is there
pub add-answers : (old new : WriterSeen) (id : ℕ) (bytes : List ℕ) (spool after : SpillSeen) (s : Stored) (u : ⊤) → new.meta ≡ old.meta → PlaceAnswers old.contents new.contents bytes spool after (Ok s) → new.entries ≡ with_entry old.entries (entry_at id s)
    → new.tiles ≡ old.tiles + 1 → RunsStand old spool.runs → next_id old ≤ id → id < 2 ^ 64 → 1 ≤ length bytes → length bytes < 2 ^ 32 → AddAnswers old new id bytes spool after (Ok u)
add-answers old new id bytes spool after s u meta p entries count stand next fits some short = record {
  next = ap (next_behind 0) entries ∙ next-entry 0 old.entries (entry_at id s) refl;
  meta = meta;
  added = λ runs tiles is wrote. tile-added old new id bytes s after.runs runs tiles wrote (p.told runs (contents_of tiles) is wrote.holds) entries count next fits some short;
  stands = p.stands stand;
  untold = p.untold;
  kept = p.kept;
  counts = p.counts;
  never_falls = p.never_falls;
}

-- a writer that wrote nothing
pub wrote-none : (meta : Meta) (ended : List (List ℕ)) → Wrote (record { meta = meta; contents = record { hashes = []; stored = []; end = 0 }; entries = []; tiles = 0 }) ended []
unfolding contents_of entries_of stretches_of
wrote-none meta ended = record {
  holds = record { stand = λ n d h. absurd (omega (arith, h)); are = refl; hashed = refl; places = λ n d h. absurd (omega (arith, h)); all = refl };
  entries_are = refl;
  count = refl;
  are = tt;
}

pub none-stand : (runs : Option Runs) → StandIn runs []
none-stand None = tt
none-stand (Some r) = λ n d h. absurd (omega (arith, h))
