-- The least of what is next in some runs.
use Rattle.std.proofs.Common.{◌≡◌, ℕ, ◌+◌, ◌<◌, ◌≤◌, nat_lt, Option, None, Some, IfSome, List, length, map, get_or, All, refl, sym, ap, subst, ◌∙◌, arith}
use Rattle.std.specs.Cmp.{IsStrictWeakOrder}
use Rattle.std.specs.List.{IsFirstBest}
use Rattle.std.proofs.lemmas.Bool.{ltb-false}
use Rattle.std.proofs.lemmas.List.{length-map, get_or-map}
use Rattle.std.proofs.lemmas.List.Elements.{All-from_get_or, All-get_or}
use Rattle.std.proofs.lemmas.List.Sorted.{IsStrictWeakOrder-by_number}
use Rattle.run_merge.specs.declared.cursor.Head.{Head}
use Rattle.run_merge.specs.declared.cursor.Cursor.{Cursor}
use Rattle.run_merge.specs.declared.run_reader.RunReader.{RunReader}
use Rattle.run_merge.specs.Cursors.{head_tile, last_rank, rank_at, IsNext, IsPlaced, IsDone, IsFrom, AreFrom, cursors_of, ranks_of, AreSound}
use Rattle.run_merge.specs.Steps.{IsLeast}
use Rattle.run_merge.proofs.Heads.{rank_below}
use Rattle.run_merge.proofs.Merged.{no_cursor, none_is_some, ranks_from}
use Rattle.run_merge.proofs.Gathering.{next_sound, from_ranks, least_of_all, head_there}

pub numbers : IsStrictWeakOrder nat_lt
numbers = IsStrictWeakOrder-by_number (λ (n : ℕ). n)

-- the cursor of a reader that was read
pub cursor_read : (readers : List RunReader) (i : ℕ) (d : RunReader) (c : Cursor) → i < length readers → get_or (cursors_of readers) i c ≡ (get_or readers i d).cursor
cursor_read readers i d c lt = get_or-map (λ (reader : RunReader). reader.cursor) readers i d c lt

-- its rank
pub rank_read : (readers : List RunReader) (i : ℕ) (d : RunReader) (n : ℕ) → i < length readers → rank_at (get_or readers i d).cursor.head ≡ get_or (ranks_of (cursors_of readers)) i n
rank_read readers i d n lt =
    ap (λ (x : Cursor). rank_at x.head) (sym (cursor_read readers i d no_cursor lt))
    ∙ sym (get_or-map (λ (cursor : Cursor). rank_at cursor.head) (cursors_of readers) i no_cursor n (omega (arith, lt, length-map readers (λ (reader : RunReader). reader.cursor))))

-- and its head
pub head_read : (readers : List RunReader) (i : ℕ) (d : RunReader) (head : Head) → i < length readers → (get_or readers i d).cursor.head ≡ Some head → get_or (map (λ (cursor : Cursor). cursor.head) (cursors_of readers)) i None ≡ Some head
head_read readers i d head lt e =
    get_or-map (λ (cursor : Cursor). cursor.head) (cursors_of readers) i no_cursor None (omega (arith, lt, length-map readers (λ (reader : RunReader). reader.cursor)))
    ∙ ap (λ (x : Cursor). x.head) (cursor_read readers i d no_cursor lt)
    ∙ e

last_is_none : (len at : ℕ) (head : Option Head) → IsNext len at head → last_rank ≤ rank_at head → head ≡ None
last_is_none len at None is le = refl
last_is_none len at (Some head) is le = absurd (omega (arith, le, rank_below len at head is))

-- where the least has nothing next, none has
pub all_done : (readers : List RunReader) (best : ℕ) (d : RunReader) → AreSound readers → IsFirstBest nat_lt (ranks_of (cursors_of readers)) (length readers) best → (get_or readers best d).cursor.head ≡ None → All IsDone (cursors_of readers)
all_done readers best d sound first none = All-from_get_or IsDone (cursors_of readers) no_cursor (λ k lt.
    let cursors = cursors_of readers in
    let count : length cursors ≡ length readers = length-map readers (λ (reader : RunReader). reader.cursor) in
    let c = get_or cursors k no_cursor in
    let last : get_or (ranks_of cursors) best 0 ≡ last_rank = sym (rank_read readers best d 0 first.0) ∙ ap rank_at none in
    let not_below : get_or (ranks_of cursors) best 0 ≤ get_or (ranks_of cursors) k 0 = ltb-false _ _ (first.1 k 0 (omega (arith, lt, count))) in
    let there : get_or (ranks_of cursors) k 0 ≡ rank_at c.head = get_or-map (λ (cursor : Cursor). rank_at cursor.head) cursors k no_cursor 0 lt in
    last_is_none c.run.run.len c.at c.head (All-get_or IsPlaced cursors k no_cursor lt (next_sound readers sound)) (omega (arith, not_below, last, there)))

-- the least is of another tile than this one, from which on all are
pub later_than : (readers : List RunReader) (number tile : ℕ) (head : Head) → AreSound readers → AreFrom tile (cursors_of readers) → IsLeast (cursors_of readers) number head → (head_tile head ≡ tile → ⊥) → AreFrom (tile + 1) (cursors_of readers)
later_than readers number tile head sound from least other =
    let cursors = cursors_of readers in
    let here : tile ≤ head_tile head = subst (λ (h : Option Head). IfSome h (λ h. tile ≤ head_tile h)) (head_there cursors number head least) (least_of_all cursors number head least (IsFrom tile) from) in
    from_ranks (tile + 1) head cursors (omega (arith, here, other)) (next_sound readers sound) (ranks_from cursors number head least)

-- none is next, so none is of a tile
pub done_from : (tile : ℕ) (cursors : List Cursor) → All IsDone cursors → AreFrom tile cursors
done_from tile cursors done = All-from_get_or (IsFrom tile) cursors no_cursor (λ k lt. from_none (get_or cursors k no_cursor).head (All-get_or IsDone cursors k no_cursor lt done))
  where
    from_none : (head : Option Head) → head ≡ None → IfSome head (λ head. tile ≤ head_tile head)
    from_none None e = tt
    from_none (Some head) e = absurd (none_is_some head e)
