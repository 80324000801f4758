-- One step of a merge: the least of the first items is taken.
use Rattle.std.proofs.Common.{◌≡◌, ℕ, suc, ◌+◌, ◌-◌, ◌<◌, ◌≤◌, nat_lt, Bool, true, false, Option, None, Some, IfSome, IsSome, List, [], ◌∷◌, ◌++◌, length, map, get_or, set, take, drop, All, refl, sym, ap, subst, ◌∙◌, arith, true≢false}
use Rattle.std.specs.List.{AllByRecursion}
use Rattle.std.proofs.lemmas.Bool.{ltb-false}
use Rattle.std.proofs.lemmas.List.{length-map, length-take, length-drop, map-set, set_split, set-get_or, get_or-map, get_or-take, get_or-drop}
use Rattle.std.proofs.lemmas.List.Elements.{All-take, All-drop, All-get_or, All-from_get_or, recursion_from_All, All-from_recursion}
use Rattle.std.proofs.lemmas.List.Sums.{sum_by-set}
use Rattle.sorted_lists.specs.Sorting.{by_rank}
use Rattle.sorted_lists.specs.Merging.{OnFirst}
use Rattle.sorted_lists.proofs.Orders.{Ascends, ascends_from_sorted}
use Rattle.sorted_lists.proofs.Merges.{sorted-next}
use Rattle.tb_outside.specs.Spill.{Runs}
use Rattle.mvt_codec.specs.declared.item.RunItem.{RunItem}
use Rattle.run_merge.specs.declared.cursor.Head.{Head}
use Rattle.run_merge.specs.declared.cursor.Cursor.{Cursor}
use Rattle.run_merge.specs.declared.named_run.Store.TheVariants as stores
use Rattle.run_merge.specs.declared.named_run.NamedRun.{NamedRun}
use Rattle.run_merge.specs.declared.run_reader.RunReader.{RunReader}
use Rattle.run_merge.specs.Items.{item_rank, IsItemOf, merged_runs}
use Rattle.run_merge.specs.Objects.{Objects, told_of, AllTell}
use Rattle.run_merge.specs.Cursors.{head_rank, rank_at, item_head, first_head, IsFromRank, Reads, left_in, left_if, left_of, cursors_of, runs_of, ranks_of, AreTold, IsTold}
use Rattle.run_merge.specs.Steps.{IsLeast, TakesFirst, bytes_left}
use Rattle.run_merge.proofs.RunItems.{order}
use Rattle.run_merge.proofs.Heads.{rank_of_item}

pub no_cursor : Cursor
no_cursor = record { run = record { store = stores.Spool; run = record { run = 0; len = 0 } }; at = 0; head = None }

or_else : {A : Type 0} → A → Option A → A
or_else x None = x
or_else x (Some y) = y

pub some_same : {A : Type 0} (x y : A) → ◌≡◌ {A = Option A} (Some x) (Some y) → x ≡ y
unfolding or_else
some_same x y e = ap (or_else x) e

is_there : {A : Type 0} → Option A → Bool
is_there None = false
is_there (Some x) = true

pub none_is_some : {A : Type 0} (x : A) → ◌≡◌ {A = Option A} (Some x) None → ⊥
unfolding is_there
none_is_some x e = true≢false (ap is_there e)

-- what is next in a run, and what is left of it
pub record HasLeft (layers : ℕ) (head : Option Head) (items : List RunItem) : Type 0 where
  pub first : head ≡ first_head items
  pub each : AllByRecursion (IsItemOf layers) items
  pub up : Ascends (by_rank item_rank) items

-- what a cursor has left
abbrev pub Left : ℕ → (Cursor → List RunItem) → Cursor → Type 0
Left layers f cursor = HasLeft layers cursor.head (f cursor)

has_left : (layers : ℕ) (reader : RunReader) (told : Option Runs) → IsSome told → IfSome told (Reads layers reader) → HasLeft layers reader.cursor.head (left_if reader.cursor.run reader.cursor.at told)
has_left layers reader None s h = absurd (true≢false (sym s))
has_left layers reader (Some runs) s h = record { first = h.head; each = h.items.each; up = ascends_from_sorted (by_rank item_rank) order (left_in runs reader.cursor.run reader.cursor.at) h.items.sorted }

have_left : {R : Type 0} (o : Objects R) (layers : ℕ) → AllTell o → (readers : List RunReader) → AllByRecursion (IsTold o layers) readers → AllByRecursion (Left layers (left_of o)) (cursors_of readers)
have_left o layers tell [] h = tt
have_left o layers tell (reader ∷ readers) h = (has_left layers reader (told_of o reader.cursor.run) (tell reader.cursor.run.store) h.0, have_left o layers tell readers h.1)

pub all_have_left : {R : Type 0} (o : Objects R) (layers : ℕ) → AllTell o → (readers : List RunReader) → AreTold o layers readers → All (Left layers (left_of o)) (cursors_of readers)
all_have_left o layers tell readers h = All-from_recursion (Left layers (left_of o)) (cursors_of readers) (have_left o layers tell readers (recursion_from_All (IsTold o layers) readers h))

-- the first of some items, by the rank of what is next
first_above : (r : ℕ) (head : Option Head) (items : List RunItem) → head ≡ first_head items → nat_lt r (rank_at head) ≡ true → OnFirst (λ y. nat_lt r (item_rank y) ≡ true) items
first_above r head [] e h = tt
first_above r head (y ∷ ys) e h = ap (nat_lt r) (sym (rank_of_item y)) ∙ ap (λ (o : Option Head). nat_lt r (rank_at o)) (sym e) ∙ h

first_not_below : (r : ℕ) (head : Option Head) (items : List RunItem) → head ≡ first_head items → nat_lt (rank_at head) r ≡ false → OnFirst (λ y. nat_lt (item_rank y) r ≡ false) items
first_not_below r head [] e h = tt
first_not_below r head (y ∷ ys) e h = ap (λ (n : ℕ). nat_lt n r) (sym (rank_of_item y)) ∙ ap (λ (o : Option Head). nat_lt (rank_at o) r) (sym e) ∙ h

module _ (layers : ℕ) (f : Cursor → List RunItem) (cursors : List Cursor) (number : ℕ) (head : Head) (left : All (Left layers f) cursors) (least : IsLeast cursors number head) where
  within : number < length cursors
  within = least.first.0

  abbrev here : Cursor
  here = get_or cursors number no_cursor

  head_here : here.head ≡ Some head
  head_here = sym (get_or-map (λ (cursor : Cursor). cursor.head) cursors number no_cursor None within) ∙ least.head_is

  rank_at_place : (k : ℕ) → k < length cursors → get_or (ranks_of cursors) k 0 ≡ rank_at (get_or cursors k no_cursor).head
  rank_at_place k lt = get_or-map (λ (cursor : Cursor). rank_at cursor.head) cursors k no_cursor 0 lt

  rank_here : get_or (ranks_of cursors) number 0 ≡ head_rank head
  rank_here = rank_at_place number within ∙ ap rank_at head_here

  list_at_place : (k : ℕ) → k < length cursors → get_or (map f cursors) k [] ≡ f (get_or cursors k no_cursor)
  list_at_place k lt = get_or-map f cursors k no_cursor [] lt

  left_at_place : (k : ℕ) → k < length cursors → HasLeft layers (get_or cursors k no_cursor).head (get_or (map f cursors) k [])
  left_at_place k lt = subst (HasLeft layers (get_or cursors k no_cursor).head) (sym (list_at_place k lt)) (All-get_or (Left layers f) cursors k no_cursor lt left)

  before_above : (k : ℕ) → k < number → OnFirst (λ y. nat_lt (head_rank head) (item_rank y) ≡ true) (get_or (map f cursors) k [])
  before_above k lt =
      let inside : k < length cursors = omega (arith, lt, within) in
      let above = least.first.2 k 0 lt in
      let ranks : nat_lt (head_rank head) (rank_at (get_or cursors k no_cursor).head) ≡ true =
      (λ i. nat_lt (sym rank_here i) (sym (rank_at_place k inside) i)) ∙ above in
      first_above (head_rank head) (get_or cursors k no_cursor).head (get_or (map f cursors) k []) (left_at_place k inside).first ranks

  behind_not_below : (k : ℕ) → k < length cursors → OnFirst (λ y. nat_lt (item_rank y) (head_rank head) ≡ false) (get_or (map f cursors) k [])
  behind_not_below k inside =
      let below = least.first.1 k 0 inside in
      let ranks : nat_lt (rank_at (get_or cursors k no_cursor).head) (head_rank head) ≡ false =
      (λ i. nat_lt (sym (rank_at_place k inside) i) (sym rank_here i)) ∙ below in
      first_not_below (head_rank head) (get_or cursors k no_cursor).head (get_or (map f cursors) k []) (left_at_place k inside).first ranks

  count : length (map f cursors) ≡ length cursors
  count = length-map cursors f

  ups : All (λ xs. Ascends (by_rank item_rank) xs) (map f cursors)
  ups = All-from_get_or (λ (xs : List RunItem). Ascends (by_rank item_rank) xs) (map f cursors) [] (λ k lt. (left_at_place k (omega (arith, lt, count))).up)

  befores : All (OnFirst (λ y. nat_lt (head_rank head) (item_rank y) ≡ true)) (take number (map f cursors))
  befores = All-from_get_or (OnFirst (λ y. nat_lt (head_rank head) (item_rank y) ≡ true)) (take number (map f cursors)) [] (λ k lt.
      let lt' : k < number = omega (arith, lt, length-take number (map f cursors)) in
      subst (OnFirst (λ y. nat_lt (head_rank head) (item_rank y) ≡ true)) (sym (get_or-take number (map f cursors) k [] lt')) (before_above k lt'))

  behinds : All (OnFirst (λ y. nat_lt (item_rank y) (head_rank head) ≡ false)) (drop (suc number) (map f cursors))
  behinds = All-from_get_or (OnFirst (λ y. nat_lt (item_rank y) (head_rank head) ≡ false)) (drop (suc number) (map f cursors)) [] (λ k lt.
      let lt' : suc number + k < length cursors = omega (arith, lt, length-drop (suc number) (map f cursors), count) in
      subst (OnFirst (λ y. nat_lt (item_rank y) (head_rank head) ≡ false)) (sym (get_or-drop (suc number) (map f cursors) k [])) (behind_not_below (suc number + k) lt'))

  merged_step : (x : RunItem) (xs : List RunItem) → get_or (map f cursors) number [] ≡ x ∷ xs → head_rank head ≡ item_rank x → merged_runs (map f cursors) ≡ x ∷ merged_runs (set (map f cursors) number xs)
  merged_step x xs e rank =
      let inside : number < length (map f cursors) = omega (arith, within, count) in
      let split : map f cursors ≡ take number (map f cursors) ++ (x ∷ xs) ∷ drop (suc number) (map f cursors) =
      sym (set-get_or (map f cursors) number []) ∙ ap (set (map f cursors) number) e ∙ set_split (map f cursors) number (x ∷ xs) inside in
      let up_here : Ascends (by_rank item_rank) (x ∷ xs) = subst (Ascends (by_rank item_rank)) e (left_at_place number within).up in
      let above : AllByRecursion (OnFirst (λ y. by_rank item_rank x y ≡ true)) (take number (map f cursors)) =
      subst (λ (r : ℕ). AllByRecursion (OnFirst (λ y. nat_lt r (item_rank y) ≡ true)) (take number (map f cursors))) rank (recursion_from_All (OnFirst (λ y. nat_lt (head_rank head) (item_rank y) ≡ true)) (take number (map f cursors)) befores) in
      let not_below : AllByRecursion (OnFirst (λ y. by_rank item_rank y x ≡ false)) (drop (suc number) (map f cursors)) =
      subst (λ (r : ℕ). AllByRecursion (OnFirst (λ y. nat_lt (item_rank y) r ≡ false)) (drop (suc number) (map f cursors))) rank (recursion_from_All (OnFirst (λ y. nat_lt (item_rank y) (head_rank head) ≡ false)) (drop (suc number) (map f cursors)) behinds) in
      ap merged_runs split
      ∙ sorted-next (by_rank item_rank) order (take number (map f cursors)) (drop (suc number) (map f cursors)) x xs
      (recursion_from_All (λ (ys : List RunItem). Ascends (by_rank item_rank) ys) (take number (map f cursors)) (All-take (λ (ys : List RunItem). Ascends (by_rank item_rank) ys) number (map f cursors) ups))
      up_here
      (recursion_from_All (λ (ys : List RunItem). Ascends (by_rank item_rank) ys) (drop (suc number) (map f cursors)) (All-drop (λ (ys : List RunItem). Ascends (by_rank item_rank) ys) (suc number) (map f cursors) ups))
      above
      not_below
      ∙ ap (λ (l : List (List RunItem)). x ∷ merged_runs l) (sym (set_split (map f cursors) number xs inside))

  taken_of : (items : List RunItem) → get_or (map f cursors) number [] ≡ items → Some head ≡ first_head items → AllByRecursion (IsItemOf layers) items → TakesFirst layers head items (merged_runs (map f cursors)) (merged_runs (set (map f cursors) number (drop 1 items)))
  taken_of [] e h each = absurd (none_is_some head h)
  taken_of (x ∷ xs) e h each =
      let is : head ≡ item_head x = some_same head (item_head x) h in
      record { item = x; item_is = each.0; head_is = sym is; first = refl; merged = merged_step x xs e (ap head_rank is ∙ rank_of_item x) }

  pub taken : TakesFirst layers head (get_or (map f cursors) number []) (merged_runs (map f cursors)) (merged_runs (set (map f cursors) number (drop 1 (get_or (map f cursors) number []))))
  taken = taken_of (get_or (map f cursors) number []) refl (sym head_here ∙ (left_at_place number within).first) (left_at_place number within).each

-- what the least is among the others
module _ (cursors : List Cursor) (number : ℕ) (head : Head) (least : IsLeast cursors number head) where
  -- all ranks are from that of the least on
  pub ranks_from : All (IsFromRank (head_rank head)) cursors
  ranks_from = All-from_get_or (IsFromRank (head_rank head)) cursors no_cursor (λ k lt.
      let here : get_or (ranks_of cursors) number 0 ≡ rank_at (get_or cursors number no_cursor).head = get_or-map (λ (cursor : Cursor). rank_at cursor.head) cursors number no_cursor 0 least.first.0 in
      let head_is : (get_or cursors number no_cursor).head ≡ Some head = sym (get_or-map (λ (cursor : Cursor). cursor.head) cursors number no_cursor None least.first.0) ∙ least.head_is in
      let rank : rank_at (get_or cursors number no_cursor).head ≡ head_rank head = ap rank_at head_is in
      let there : get_or (ranks_of cursors) k 0 ≡ rank_at (get_or cursors k no_cursor).head = get_or-map (λ (cursor : Cursor). rank_at cursor.head) cursors k no_cursor 0 lt in
      let not_below : get_or (ranks_of cursors) number 0 ≤ get_or (ranks_of cursors) k 0 = ltb-false _ _ (least.first.1 k 0 lt) in
      omega (arith, not_below, here, rank, there))

  -- the bytes of an item fewer are left
  pub bytes_fewer : (taken_one next : Cursor) → get_or cursors number no_cursor ≡ taken_one → next.run ≡ taken_one.run → next.at ≡ taken_one.at + head.len → taken_one.at + head.len ≤ taken_one.run.run.len → bytes_left cursors ≡ bytes_left (set cursors number next) + head.len
  bytes_fewer taken_one next is run at within_run =
      let sums = sum_by-set (λ (cursor : Cursor). cursor.run.run.len - cursor.at) cursors number next no_cursor least.first.0 in
      let was : (get_or cursors number no_cursor).run.run.len - (get_or cursors number no_cursor).at ≡ taken_one.run.run.len - taken_one.at = ap (λ (c : Cursor). c.run.run.len - c.at) is in
      let len : next.run.run.len ≡ taken_one.run.run.len = ap (λ (r : NamedRun). r.run.len) run in
      omega (arith, sums, was, len, at, within_run)

  pub runs_same : (taken_one next : Cursor) → get_or cursors number no_cursor ≡ taken_one → next.run ≡ taken_one.run → runs_of (set cursors number next) ≡ runs_of cursors
  runs_same taken_one next is run =
      map-set (λ (cursor : Cursor). cursor.run) cursors number next
      ∙ ap (set (runs_of cursors) number) (run ∙ ap (λ (c : Cursor). c.run) (sym is) ∙ sym (get_or-map (λ (cursor : Cursor). cursor.run) cursors number no_cursor no_cursor.run least.first.0))
      ∙ set-get_or (runs_of cursors) number no_cursor.run
