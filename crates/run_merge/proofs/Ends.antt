-- How the gathering of a tile ends: nothing was left, its items are a group, or they need too much and are put back.
use Rattle.std.proofs.Common.{◌≡◌, ◌≢◌, ℕ, ◌+◌, ◌-◌, ◌^◌, min, ◌<◌, ◌≤◌, false, Option, None, Some, IfSome, List, [], ◌∷◌, ◌++◌, length, map, get_or, set, take, Result, Ok, Err, All, refl, sym, ap, subst, ◌∙◌, arith}
use Rattle.std.specs.List.{AllByRecursion, sum_by}
use Rattle.std.proofs.lemmas.Bool.{ltb-false}
use Rattle.std.proofs.lemmas.List.{length-map, map-set, take_more, take_more_set}
use Rattle.std.proofs.lemmas.List.Elements.{All-from_recursion, recursion_from_All, All-from_get_or, All-get_or}
use Rattle.std.proofs.lemmas.List.Sums.{sum_by-cons}
use Rattle.tb_types.specs.Needs.{group_need}
use Rattle.sorted_lists.specs.Sorting.{by_rank, sorted_by}
use Rattle.sorted_lists.specs.Grouping.{grouped_by}
use Rattle.sorted_lists.specs.Merging.{concatenated, OnFirst}
use Rattle.sorted_lists.proofs.Orders.{each_append, each_weaker, sorted_from_ascends}
use Rattle.sorted_lists.proofs.Sorts.{each_sorted, same_first, same_rest}
use Rattle.sorted_lists.proofs.Only.{not-nil}
use Rattle.sorted_lists.proofs.Groups.{grouped-front}
use Rattle.tb_outside.specs.Spill.{Runs}
use Rattle.mvt_codec.specs.declared.item.RunItem.{RunItem}
use Rattle.mvt_codec.specs.declared.item.Group.{Group}
use Rattle.mvt_codec.specs.Items.{items_bytes}
use Rattle.run_merge.specs.declared.cursor.Head.{Head}
use Rattle.run_merge.specs.declared.cursor.Cursor.{Cursor}
use Rattle.run_merge.specs.declared.gather.Gathered.{Gathered}
use Rattle.run_merge.specs.declared.named_run.NamedRun.{NamedRun}
use Rattle.run_merge.specs.declared.window.Window.{Window}
use Rattle.run_merge.specs.declared.run_reader.RunReader.{RunReader}
use Rattle.run_merge.specs.Items.{item_rank, item_tile, IsItemOf}
use Rattle.run_merge.specs.declared.merge_err.MergeErr.{MergeErr}
use Rattle.run_merge.specs.declared.merge_err.MergeErr.TheVariants as merge_errors
use Rattle.run_merge.specs.Objects.{Objects, told_of, IsThere, AllTell, Keeps}
use Rattle.run_merge.specs.Cursors.{head_tile, item_head, IsDone, IsNext, IsPlaced, IsWithin, IsSound, IsAhead, Reads, cursors_of, runs_of, left_of, left_merged, left_groups, AreSound, AreThere, AreTold, IsTold, IsFrom, AreFrom}
use Rattle.run_merge.specs.Steps.{IsLeast, bytes_left}
use Rattle.run_merge.specs.Answers.{Merging, Gives, IsAtEnd, IsTooLarge, IfNext, first_need}
use Rattle.run_merge.proofs.Heads.{tile_of_item, item_tiles_rise}
use Rattle.run_merge.proofs.Lanes.{map_set_same}
use Rattle.run_merge.proofs.ObjectSteps.{keeps_same}
use Rattle.run_merge.proofs.Merged.{no_cursor, none_is_some, HasLeft, Left, all_have_left}
use Rattle.run_merge.proofs.Gathering.{TakenSoFar, SoFar, head_there, least_of_all, next_sound}

-- ---- many runs that are the same

each_map : {A B : Type 0} (f : A → B) (P : B → Type 0) (xs : List A) → AllByRecursion (λ x. P (f x)) xs → AllByRecursion P (map f xs)
each_map f P [] h = tt
each_map f P (x ∷ xs) h = (h.0, each_map f P xs h.1)

each_unmap : {A B : Type 0} (f : A → B) (P : B → Type 0) (xs : List A) → AllByRecursion P (map f xs) → AllByRecursion (λ x. P (f x)) xs
each_unmap f P [] h = tt
each_unmap f P (x ∷ xs) h = (h.0, each_unmap f P xs h.1)

-- what is there for some readers is there for readers of the same runs
pub there_same : {R : Type 0} (o : Objects R) (before after : List RunReader) → runs_of (cursors_of after) ≡ runs_of (cursors_of before) → AreThere o before → AreThere o after
there_same o before after e there =
    let P : NamedRun → Type 0 = λ run. IsThere o run.store in
    let cursors : AllByRecursion (λ (cursor : Cursor). P cursor.run) (cursors_of before) = each_map (λ (reader : RunReader). reader.cursor) (λ (cursor : Cursor). P cursor.run) before (recursion_from_All (λ (reader : RunReader). P reader.cursor.run) before there) in
    let runs : AllByRecursion P (runs_of (cursors_of before)) = each_map (λ (cursor : Cursor). cursor.run) P (cursors_of before) cursors in
    let after_runs : AllByRecursion P (runs_of (cursors_of after)) = subst (AllByRecursion P) (sym e) runs in
    All-from_recursion (λ (reader : RunReader). P reader.cursor.run) after (each_unmap (λ (reader : RunReader). reader.cursor) (λ (cursor : Cursor). P cursor.run) after (each_unmap (λ (cursor : Cursor). cursor.run) P (cursors_of after) after_runs))

-- ---- nothing is left

sum_zero : {A : Type 0} (f : A → ℕ) (xs : List A) → AllByRecursion (λ x. f x ≡ 0) xs → sum_by f xs ≡ 0
sum_zero f [] h = refl
sum_zero f (x ∷ xs) h = omega (arith, sum_by-cons f x xs, h.0, sum_zero f xs h.1)

none_next : (len at : ℕ) (head : Option Head) → IsNext len at head → head ≡ None → len - at ≡ 0
none_next len at None is e = omega (arith, is)
none_next len at (Some head) is e = absurd (none_is_some head e)

abbrev IsAtItsEnd : Cursor → Type 0
IsAtItsEnd cursor = cursor.run.run.len - cursor.at ≡ 0

pub no_bytes : (cursors : List Cursor) → All IsPlaced cursors → All IsDone cursors → bytes_left cursors ≡ 0
no_bytes cursors sound none = sum_zero (λ (cursor : Cursor). cursor.run.run.len - cursor.at) cursors (recursion_from_All IsAtItsEnd cursors (All-from_get_or IsAtItsEnd cursors no_cursor (λ k lt.
    let c = get_or cursors k no_cursor in
    none_next c.run.run.len c.at c.head (All-get_or IsPlaced cursors k no_cursor lt sound) (All-get_or IsDone cursors k no_cursor lt none))))

none_of : (layers : ℕ) (head : Option Head) (items : List RunItem) → HasLeft layers head items → head ≡ None → items ≡ []
none_of layers head [] has e = refl
none_of layers head (x ∷ xs) has e = absurd (none_is_some (item_head x) (sym has.first ∙ e))

no_lists : (layers : ℕ) (f : Cursor → List RunItem) (cursors : List Cursor) → AllByRecursion (Left layers f) cursors → AllByRecursion IsDone cursors → concatenated (map f cursors) ≡ []
no_lists layers f [] has none = refl
no_lists layers f (cursor ∷ cursors) has none = ap (λ (l : List RunItem). l ++ concatenated (map f cursors)) (none_of layers cursor.head (f cursor) has.0 none.0) ∙ no_lists layers f cursors has.1 none.1

pub none_merged : {R : Type 0} (o : Objects R) (layers : ℕ) (readers : List RunReader) → AllTell o → AreTold o layers readers → All IsDone (cursors_of readers) → left_merged o (cursors_of readers) ≡ []
none_merged o layers readers tell told none =
    ap (sorted_by (by_rank item_rank)) (no_lists layers (left_of o) (cursors_of readers) (recursion_from_All (Left layers (left_of o)) (cursors_of readers) (all_have_left o layers tell readers told)) (recursion_from_All IsDone (cursors_of readers) none))

pub at_end : {R : Type 0} (o : Objects R) (layers : ℕ) (readers : List RunReader) → AreSound readers → AreThere o readers → AreTold o layers readers → All IsDone (cursors_of readers)
    → IsAtEnd o (record { layers = layers; readers = readers }) (record { layers = layers; readers = readers })
at_end o layers readers sound there told none = record {
  ready = record { layers = refl; runs = refl; there = there; told_are = told };
  bytes = no_bytes (cursors_of readers) (next_sound readers sound) none;
  groups = λ tell. ap (grouped_by item_tile) (none_merged o layers readers tell told none);
}

-- ---- what is left is of later tiles

later_items : (layers tile : ℕ) (head : Option Head) (items : List RunItem) → HasLeft layers head items → IfSome head (λ h. tile + 1 ≤ head_tile h) → AllByRecursion (λ y. tile < item_tile y) items
later_items layers tile head [] has from = tt
later_items layers tile head (x ∷ xs) has from =
    let first : tile + 1 ≤ head_tile (item_head x) = subst (λ (h : Option Head). IfSome h (λ h. tile + 1 ≤ head_tile h)) has.first from in
    let here : tile < item_tile x = omega (arith, first, tile_of_item x has.each.0.types.key) in
    (here, rest xs has.up.0 has.each.1 here)
  where
    rest : (ys : List RunItem) → AllByRecursion (λ y. by_rank item_rank y x ≡ false) ys → AllByRecursion (IsItemOf layers) ys → tile < item_tile x → AllByRecursion (λ y. tile < item_tile y) ys
    rest [] above each here = tt
    rest (y ∷ ys) above each here = (omega (arith, here, item_tiles_rise x y has.each.0.types.key each.0.types.key (ltb-false _ _ above.0)), rest ys above.1 each.1 here)

later_lists : (layers tile : ℕ) (f : Cursor → List RunItem) (cursors : List Cursor) → AllByRecursion (Left layers f) cursors → AllByRecursion (IsFrom (tile + 1)) cursors → AllByRecursion (λ y. tile < item_tile y) (concatenated (map f cursors))
later_lists layers tile f [] has from = tt
later_lists layers tile f (cursor ∷ cursors) has from = each_append (λ y. tile < item_tile y) (f cursor) (concatenated (map f cursors)) (later_items layers tile cursor.head (f cursor) has.0 from.0) (later_lists layers tile f cursors has.1 from.1)

later_merged : {R : Type 0} (o : Objects R) (layers tile : ℕ) (readers : List RunReader) → AllTell o → AreTold o layers readers → AreFrom (tile + 1) (cursors_of readers) → AllByRecursion (λ y. tile < item_tile y) (left_merged o (cursors_of readers))
later_merged o layers tile readers tell told from =
    each_sorted (by_rank item_rank) (λ y. tile < item_tile y) (concatenated (map (left_of o) (cursors_of readers)))
    (later_lists layers tile (left_of o) (cursors_of readers) (recursion_from_All (Left layers (left_of o)) (cursors_of readers) (all_have_left o layers tell readers told)) (recursion_from_All (IsFrom (tile + 1)) (cursors_of readers) from))

first_later : (tile : ℕ) (ys : List RunItem) → AllByRecursion (λ y. tile < item_tile y) ys → OnFirst (λ y. item_tile y ≢ tile) ys
first_later tile [] h = tt
first_later tile (y ∷ ys) h = λ e. omega (arith, h.0, e)

front_group : (tile : ℕ) (items rest : List RunItem) → 1 ≤ length (items_bytes items) → AllByRecursion (λ y. item_tile y ≡ tile) items → AllByRecursion (λ y. tile < item_tile y) rest → grouped_by item_tile (items ++ rest) ≡ (tile, items) ∷ grouped_by item_tile rest
front_group tile [] rest some one later = absurd (omega (arith, some))
front_group tile (x ∷ xs) rest some one later = grouped-front item_tile tile x xs rest one.0 one.1 (first_later tile rest later)

-- the groups that were left, where all is told
groups_were : {R : Type 0} (o : Objects R) (layers part tile : ℕ) (before now : List RunReader) (g : Gathered) (total : ℕ) → 1 ≤ total → AllTell o → AreTold o layers now → AreFrom (tile + 1) (cursors_of now) → (taken : TakenSoFar o part tile total before now g)
    → left_groups o (cursors_of before) ≡ (tile, taken.items) ∷ left_groups o (cursors_of now)
groups_were o layers part tile before now g total some tell told later taken =
    ap (grouped_by item_tile) taken.merged
    ∙ front_group tile taken.items (left_merged o (cursors_of now)) (omega (arith, some, taken.len)) taken.one (later_merged o layers tile now tell told later)

some_items : (items : List RunItem) → 1 ≤ length (items_bytes items) → 0 < length items
some_items [] h = absurd (omega (arith, h))
some_items (x ∷ xs) h = omega arith

-- each run's next item is of a tile up to that of the least
from_least : (tile : ℕ) (cursors : List Cursor) (number : ℕ) (head : Head) → IsLeast cursors number head → head_tile head ≡ tile → (t : ℕ) → AreFrom t cursors → t ≤ tile
from_least tile cursors number head least e t from =
    let there : t ≤ head_tile head = subst (λ (h : Option Head). IfSome h (λ h. t ≤ head_tile h)) (head_there cursors number head least) (least_of_all cursors number head least (IsFrom t) from) in
    omega (arith, there, e)

abbrev pub group_of : ℕ → Gathered → Group
group_of tile g = record { tile = record { 0 = tile }; items = g.items; bytes = g.bytes }

pub gives : {R : Type 0} (o : Objects R) (layers part tile number : ℕ) (head : Head) (before now : List RunReader) (g : Gathered) → SoFar 1 o layers part tile before now g → IsLeast (cursors_of before) number head → head_tile head ≡ tile
    → AreFrom (tile + 1) (cursors_of now) → AreThere o before → group_need g.bytes ≤ part
    → Gives o part (record { layers = layers; readers = before }) (record { layers = layers; readers = now }) (group_of tile g)
gives o layers part tile number head before now g so_far least tile_is later there fits =
    let kept = so_far.kept fits in
    record {
      ready = record { layers = refl; runs = so_far.runs; there = there_same o before now so_far.runs there; told_are = so_far.told_are };
      is = record {
        some = some_items g.items (omega (arith, kept.len, so_far.some));
        each = All-from_recursion (IsItemOf layers) g.items kept.each;
        one = All-from_recursion (λ y. item_tile y ≡ tile) g.items kept.one;
        sorted = sorted_from_ascends (by_rank item_rank) g.items kept.up;
        bytes = omega (arith, so_far.sum, kept.len);
      };
      fits = fits;
      from = from_least tile (cursors_of before) number head least tile_is;
      later = later;
      bytes = omega (arith, so_far.bytes, kept.len);
      groups = λ tell.
          let taken = so_far.merged tell in
          groups_were o layers part tile before now g so_far.total so_far.some tell so_far.told_are later taken
          ∙ ap (λ (l : List RunItem). (tile, l) ∷ left_groups o (cursors_of now)) (sym (taken.kept fits));
    }

-- ---- items are put back

abbrev pub windows_of : List RunReader → List Window
windows_of readers = map (λ reader. reader.window) readers

-- a reader with another window of the same run
told_with : (layers : ℕ) (cursor : Cursor) (w window : Window) (told : Option Runs) → IfSome told (Reads layers (record { cursor = cursor; window = w })) → IfSome told (λ runs. IsAhead runs cursor.run window) → IfSome told (Reads layers (record { cursor = cursor; window = window }))
told_with layers cursor w window None is ahead = tt
told_with layers cursor w window (Some runs) is ahead = record { stands = is.stands; items = is.items; head = is.head; ahead = ahead }

ahead_of : (layers : ℕ) (reader : RunReader) (told : Option Runs) → IfSome told (Reads layers reader) → IfSome told (λ runs. IsAhead runs reader.cursor.run reader.window)
ahead_of layers reader None is = tt
ahead_of layers reader (Some runs) is = is.ahead

told_mixed : {R : Type 0} (o : Objects R) (layers : ℕ) (before now : RunReader) → now.cursor.run ≡ before.cursor.run → IsTold o layers before → IsTold o layers now → IsTold o layers (record { cursor = before.cursor; window = now.window })
told_mixed o layers before now run is is_now =
    told_with layers before.cursor before.window now.window (told_of o before.cursor.run) is
    (subst (λ (r : NamedRun). IfSome (told_of o r) (λ runs. IsAhead runs r now.window)) run (ahead_of layers now (told_of o now.cursor.run) is_now))

abbrev IsBoth : {R : Type 0} → Objects R → ℕ → RunReader → Type 0
IsBoth o layers reader = IsSound reader × IsTold o layers reader

all_mixed : {R : Type 0} (o : Objects R) (layers : ℕ) (before now after : List RunReader) → cursors_of after ≡ cursors_of before → windows_of after ≡ windows_of now → runs_of (cursors_of now) ≡ runs_of (cursors_of before)
    → AllByRecursion (IsBoth o layers) before → AllByRecursion (IsBoth o layers) now → AllByRecursion (IsBoth o layers) after
all_mixed o layers before now [] c w r is is_now = tt
all_mixed o layers [] now (a ∷ after) c w r is is_now = absurd (not-nil a.cursor (cursors_of after) c)
all_mixed o layers (b ∷ before) [] (a ∷ after) c w r is is_now = absurd (not-nil a.window (windows_of after) w)
all_mixed o layers (b ∷ before) (n ∷ now) (a ∷ after) c w r is is_now =
    let cursor : a.cursor ≡ b.cursor = same_first a.cursor b.cursor (cursors_of after) (cursors_of before) c in
    let window : a.window ≡ n.window = same_first a.window n.window (windows_of after) (windows_of now) w in
    let run : n.cursor.run ≡ b.cursor.run = same_first n.cursor.run b.cursor.run (runs_of (cursors_of now)) (runs_of (cursors_of before)) r in
    let whole : a ≡ record { cursor = b.cursor; window = n.window } = λ i. record { cursor = cursor i; window = window i } in
    let sound : IsSound (record { cursor = b.cursor; window = n.window }) = record { next = is.0.0.next; within = subst (λ (x : NamedRun). IsWithin x n.window) run is_now.0.0.within } in (
      subst (IsBoth o layers) (sym whole) (sound, told_mixed o layers b n run is.0.1 is_now.0.1),
      all_mixed o layers before now after
          (same_rest a.cursor b.cursor (cursors_of after) (cursors_of before) c)
          (same_rest a.window n.window (windows_of after) (windows_of now) w)
          (same_rest n.cursor.run b.cursor.run (runs_of (cursors_of now)) (runs_of (cursors_of before)) r)
          is.1 is_now.1,
    )

both : {R : Type 0} (o : Objects R) (layers : ℕ) (readers : List RunReader) → AllByRecursion IsSound readers → AllByRecursion (IsTold o layers) readers → AllByRecursion (IsBoth o layers) readers
both o layers [] s t = tt
both o layers (x ∷ xs) s t = ((s.0, t.0), both o layers xs s.1 t.1)

pub put_back_is : {R : Type 0} (o : Objects R) (layers : ℕ) (before now after : List RunReader) → cursors_of after ≡ cursors_of before → windows_of after ≡ windows_of now → runs_of (cursors_of now) ≡ runs_of (cursors_of before)
    → AreSound before → AreTold o layers before → AreSound now → AreTold o layers now → AreSound after × AreTold o layers after
put_back_is o layers before now after c w r sb tb sn tn =
    let all = all_mixed o layers before now after c w r (both o layers before (recursion_from_All IsSound before sb) (recursion_from_All (IsTold o layers) before tb)) (both o layers now (recursion_from_All IsSound now sn) (recursion_from_All (IsTold o layers) now tn)) in (
      All-from_recursion IsSound after (each_weaker (IsBoth o layers) IsSound (λ x h. h.0) after all),
      All-from_recursion (IsTold o layers) after (each_weaker (IsBoth o layers) (IsTold o layers) (λ x h. h.1) after all),
    )

same_need : (total bytes : ℕ) → bytes ≡ min total (2 ^ 64 - 1) → group_need bytes ≡ group_need total
same_need total bytes e = omega (arith, e)

pub too_large : {R : Type 0} (o : Objects R) (layers part tile : ℕ) (before now after : List RunReader) (g : Gathered) → SoFar 1 o layers part tile before now g → AreFrom (tile + 1) (cursors_of now) → AreThere o before → part < group_need g.bytes
    → cursors_of after ≡ cursors_of before → AreTold o layers after
    → IsTooLarge o part (record { layers = layers; readers = before }) (record { layers = layers; readers = after }) (group_need g.bytes)
too_large o layers part tile before now after g so_far later there above same told = record {
  ready = record { layers = refl; runs = ap runs_of same; there = there_same o before after (ap runs_of same) there; told_are = told };
  above = above;
  same = same;
  total = so_far.total;
  some = omega (arith, so_far.some);
  within = omega (arith, so_far.bytes);
  need_of = same_need so_far.total g.bytes so_far.sum;
  need_is = λ tell.
      let taken = so_far.merged tell in
      let groups = groups_were o layers part tile before now g so_far.total so_far.some tell so_far.told_are later taken in
      same_need so_far.total g.bytes so_far.sum ∙ ap group_need (sym taken.len) ∙ ap first_need (sym groups);
}

-- one more cursor is put back
pub cursors_more : (readers : List RunReader) (places : List Cursor) (i : ℕ) (r : RunReader) (d : Cursor) → i < length readers → i < length places → take i (cursors_of readers) ≡ take i places
    → take (i + 1) (cursors_of (set readers i (record { cursor = get_or places i d; window = r.window }))) ≡ take (i + 1) places
cursors_more readers places i r d lt lt' same =
    let cursors = cursors_of readers in
    let inside : i < length cursors = omega (arith, lt, length-map readers (λ (reader : RunReader). reader.cursor)) in
    ap (take (i + 1)) (map-set (λ (reader : RunReader). reader.cursor) readers i (record { cursor = get_or places i d; window = r.window }))
    ∙ take_more_set cursors i (get_or places i d) inside
    ∙ ap (λ (l : List Cursor). l ++ get_or places i d ∷ []) same
    ∙ sym (take_more places i d lt')

pub windows_more : (readers before : List RunReader) (i : ℕ) (r : RunReader) (c : Cursor) → i < length readers → windows_of readers ≡ windows_of before → windows_of (set readers i (record { cursor = c; window = (get_or readers i r).window })) ≡ windows_of before
windows_more readers before i r c lt same = map_set_same (λ (reader : RunReader). reader.window) readers i r (record { cursor = c; window = (get_or readers i r).window }) lt refl ∙ same

-- ---- what every call keeps

pub next_keeps : {R : Type 0} (old new : Objects R) (part : ℕ) (before after : Merging) (r : Result (Option Group) MergeErr) → IfNext old new part before after r → Keeps old new
next_keeps old new part before after (Ok None) h = keeps_same old new h.0
next_keeps old new part before after (Ok (Some group)) h = keeps_same old new h.0
next_keeps old new part before after (Err (merge_errors.TooLarge need)) h = keeps_same old new h.0
next_keeps old new part before after (Err (merge_errors.Spill whom)) h = h.keeps
next_keeps old new part before after (Err (merge_errors.Outside whom number at)) h = keeps_same old new h.same
next_keeps old new part before after (Err merge_errors.Memory) h = keeps_same old new h
