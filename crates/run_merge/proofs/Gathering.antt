-- The items of one tile, one after another.
use Rattle.std.proofs.Common.{◌≡◌, ℕ, ◌+◌, ◌-◌, ◌^◌, min, ◌<◌, ◌≤◌, false, Option, None, Some, IfSome, List, [], ◌∷◌, ◌++◌, length, map, get_or, All, refl, sym, ap, subst, ◌∙◌, append_assoc, arith, length-append}
use Rattle.std.specs.List.{AllByRecursion}
use Rattle.std.proofs.lemmas.Bool.{le-ltb}
use Rattle.std.proofs.lemmas.List.{append-nil, get_or-map}
use Rattle.std.proofs.lemmas.List.Concat.{flat_map-append}
use Rattle.std.proofs.lemmas.List.Elements.{All-weaker, All-get_or, All-map, All-from_get_or}
use Rattle.tb_types.specs.Needs.{group_need}
use Rattle.sorted_lists.specs.Sorting.{by_rank}
use Rattle.sorted_lists.proofs.Orders.{Ascends, each_append, each_weaker}
use Rattle.sorted_lists.proofs.Sorts.{same_first}
use Rattle.mvt_codec.specs.declared.item.RunItem.{RunItem}
use Rattle.mvt_codec.specs.Items.{item_text, items_bytes}
use Rattle.run_merge.specs.declared.cursor.Head.{Head}
use Rattle.run_merge.specs.declared.cursor.Cursor.{Cursor}
use Rattle.run_merge.specs.declared.gather.Gathered.{Gathered}
use Rattle.run_merge.specs.declared.run_reader.RunReader.{RunReader}
use Rattle.run_merge.specs.Items.{item_rank, item_tile, IsItemOf}
use Rattle.run_merge.specs.Objects.{Objects, AllTell}
use Rattle.run_merge.specs.Cursors.{head_rank, rank_at, head_tile, item_head, IsFromRank, IsHead, IsNext, IsPlaced, IsSound, cursors_of, runs_of, left_of, left_merged, AreSound, AreTold, IsFrom, AreFrom}
use Rattle.run_merge.specs.Steps.{IsLeast, LoadsAt, AdvancesAt, Takes, left_at, bytes_left}
use Rattle.run_merge.proofs.Heads.{rank_of_item, len_of_item, tile_of_item, tiles_rise}
use Rattle.run_merge.proofs.Merged.{no_cursor, ranks_from}

-- what is next in each run, where all runs are read soundly
pub next_sound : (readers : List RunReader) → AreSound readers → All IsPlaced (cursors_of readers)
next_sound readers sound = All-map IsPlaced (λ (reader : RunReader). reader.cursor) readers (All-weaker IsSound (λ (reader : RunReader). IsPlaced reader.cursor) (λ reader is. is.next) readers sound)

-- the least item
module _ (cursors : List Cursor) (number : ℕ) (head : Head) (least : IsLeast cursors number head) where
  pub head_there : (get_or cursors number no_cursor).head ≡ Some head
  head_there = sym (get_or-map (λ (cursor : Cursor). cursor.head) cursors number no_cursor None least.first.0) ∙ least.head_is

  pub least_of_all : (P : Cursor → Type 0) → All P cursors → P (get_or cursors number no_cursor)
  least_of_all P all = All-get_or P cursors number no_cursor least.first.0 all

  pub least_head : All IsPlaced cursors → IsHead (get_or cursors number no_cursor).run.run.len (get_or cursors number no_cursor).at head
  least_head all = subst (IsNext (get_or cursors number no_cursor).run.run.len (get_or cursors number no_cursor).at) head_there (least_of_all IsPlaced all)

-- a tile is at most that of what is next
from_rank : (tile : ℕ) (head : Head) (len at : ℕ) (next : Option Head) → tile ≤ head_tile head → IsNext len at next → head_rank head ≤ rank_at next → IfSome next (λ h. tile ≤ head_tile h)
from_rank tile head len at None le is rank = tt
from_rank tile head len at (Some h) le is rank = omega (arith, le, tiles_rise head h is.suffix rank)

pub from_ranks : (tile : ℕ) (head : Head) (cursors : List Cursor) → tile ≤ head_tile head → All IsPlaced cursors → All (IsFromRank (head_rank head)) cursors → AreFrom tile cursors
from_ranks tile head cursors le sound ranks = All-from_get_or (IsFrom tile) cursors no_cursor (λ k lt.
    let c = get_or cursors k no_cursor in
    from_rank tile head c.run.run.len c.at c.head le (All-get_or IsPlaced cursors k no_cursor lt sound) (All-get_or (IsFromRank (head_rank head)) cursors k no_cursor lt ranks))

-- items that were kept
pub record Kept (layers tile low total : ℕ) (items : List RunItem) : Type 0 where
  pub each : AllByRecursion (IsItemOf layers) items
  pub one : AllByRecursion (λ item. item_tile item ≡ tile) items
  pub below : AllByRecursion (λ item. item_rank item ≤ low) items
  pub up : Ascends (by_rank item_rank) items
  pub len : length (items_bytes items) ≡ total

-- items that were taken, where all is told
pub record TakenSoFar {R : Type 0} (o : Objects R) (part tile total : ℕ) (before now : List RunReader) (g : Gathered) : Type 0 where
  pub items : List RunItem
  pub merged : left_merged o (cursors_of before) ≡ items ++ left_merged o (cursors_of now)
  pub one : AllByRecursion (λ item. item_tile item ≡ tile) items
  pub len : length (items_bytes items) ≡ total
  pub kept : group_need g.bytes ≤ part → g.items ≡ items

-- at least so many bytes were taken
pub record SoFar {R : Type 0} (fewest : ℕ) (o : Objects R) (layers part tile : ℕ) (before now : List RunReader) (g : Gathered) : Type 0 where
  pub total : ℕ
  pub some : fewest ≤ total
  pub tile_is : g.tile ≡ tile
  pub part_is : g.part ≡ part
  pub sum : g.bytes ≡ min total (2 ^ 64 - 1)
  pub runs : runs_of (cursors_of now) ≡ runs_of (cursors_of before)
  pub sound : AreSound now
  pub told_are : AreTold o layers now
  pub from : AreFrom tile (cursors_of now)
  pub low : ℕ
  pub rises : All (IsFromRank low) (cursors_of now)
  pub bytes : bytes_left (cursors_of before) ≡ bytes_left (cursors_of now) + total
  pub kept : group_need g.bytes ≤ part → Kept layers tile low total g.items
  pub merged : AllTell o → TakenSoFar o part tile total before now g

pub none_taken : {R : Type 0} (o : Objects R) (layers part tile : ℕ) (before : List RunReader) (g : Gathered) → g.tile ≡ tile → g.part ≡ part → g.bytes ≡ 0 → g.items ≡ [] → AreSound before → AreTold o layers before → AreFrom tile (cursors_of before)
    → SoFar 0 o layers part tile before before g
none_taken o layers part tile before g t p b none sound told from = record {
  total = 0;
  some = omega arith;
  tile_is = t;
  part_is = p;
  sum = omega (arith, b);
  runs = refl;
  sound = sound;
  told_are = told;
  from = from;
  low = 0;
  rises = All-from_get_or (IsFromRank 0) (cursors_of before) no_cursor (λ k lt. omega arith);
  bytes = omega arith;
  kept = λ _. subst (Kept layers tile 0 0) (sym none) (record { each = tt; one = tt; below = tt; up = tt; len = refl });
  merged = λ _. record { items = []; merged = refl; one = tt; len = refl; kept = λ _. none };
}

-- one item more keeps the order
pub ascends_push : (xs : List RunItem) (x : RunItem) → Ascends (by_rank item_rank) xs → AllByRecursion (λ y. item_rank y ≤ item_rank x) xs → Ascends (by_rank item_rank) (xs ++ x ∷ [])
ascends_push [] x up below = (tt, tt)
ascends_push (y ∷ ys) x up below =
    (each_append (λ z. by_rank item_rank z y ≡ false) ys (x ∷ []) up.0 (le-ltb _ _ below.0, tt), ascends_push ys x up.1 below.1)

pub bytes_push : (xs : List RunItem) (x : RunItem) → length (items_bytes (xs ++ x ∷ [])) ≡ length (items_bytes xs) + length (item_text x)
bytes_push xs x =
    ap length (flat_map-append item_text xs (x ∷ []) ∙ ap (λ (l : List ℕ). items_bytes xs ++ l) (append-nil (item_text x)))
    ∙ length-append (items_bytes xs) (item_text x)

pub kept_push : (layers tile low total : ℕ) (items : List RunItem) (item : RunItem) (head : Head) → Kept layers tile low total items → IsItemOf layers item → item_head item ≡ head → head_tile head ≡ tile → low ≤ head_rank head
    → Kept layers tile (head_rank head) (total + head.len) (items ++ item ∷ [])
kept_push layers tile low total items item head kept is head_is tile_is le =
    let rank : head_rank head ≡ item_rank item = ap head_rank (sym head_is) ∙ rank_of_item item in
    let item_tile_is : item_tile item ≡ tile = sym (tile_of_item item is.types.key) ∙ ap head_tile head_is ∙ tile_is in
    let below : AllByRecursion (λ y. item_rank y ≤ head_rank head) items = each_weaker (λ y. item_rank y ≤ low) (λ y. item_rank y ≤ head_rank head) (λ y h. omega (arith, h, le)) items kept.below in
    let size : length (item_text item) ≡ head.len = sym (len_of_item item) ∙ ap (λ (h : Head). h.len) head_is in
    record {
      each = each_append (IsItemOf layers) items (item ∷ []) kept.each (is, tt);
      one = each_append (λ y. item_tile y ≡ tile) items (item ∷ []) kept.one (item_tile_is, tt);
      below = each_append (λ y. item_rank y ≤ head_rank head) items (item ∷ []) below (omega (arith, rank), tt);
      up = ascends_push items item kept.up (each_weaker (λ y. item_rank y ≤ head_rank head) (λ y. item_rank y ≤ item_rank item) (λ y h. omega (arith, h, rank)) items below);
      len = omega (arith, bytes_push items item, kept.len, size);
    }

need_rises : (a b part : ℕ) → a ≤ b → group_need b ≤ part → group_need a ≤ part
need_rises a b part le fits = omega (arith, le, fits)

-- one item more is taken
pub one_taken : {R : Type 0} (fewest : ℕ) (o : Objects R) (layers part tile number : ℕ) (head : Head) (before now next : List RunReader) (g g' : Gathered) → SoFar fewest o layers part tile before now g → IsLeast (cursors_of now) number head → head_tile head ≡ tile
    → Takes o layers head now next g g' → AreSound next → SoFar 1 o layers part tile before next g'
one_taken fewest o layers part tile number head before now next g g' so_far least tile_is takes sound =
    let place = get_or (cursors_of now) number no_cursor in
    let is : IsHead place.run.run.len place.at head = least_head (cursors_of now) number head least (next_sound now so_far.sound) in
    let low : so_far.low ≤ head_rank head =
    subst (λ (n : Option Head). so_far.low ≤ rank_at n) (head_there (cursors_of now) number head least) (least_of_all (cursors_of now) number head least (IsFromRank so_far.low) so_far.rises) in
    let part_is : g.part ≡ part = so_far.part_is in
    let sum_up : g.bytes ≤ g'.bytes = omega (arith, takes.sum, so_far.sum) in
    record {
      total = so_far.total + head.len;
      some = omega (arith, is.some);
      tile_is = takes.tile ∙ so_far.tile_is;
      part_is = takes.part ∙ part_is;
      sum = omega (arith, takes.sum, so_far.sum);
      runs = takes.runs ∙ so_far.runs;
      sound = sound;
      told_are = takes.told_are;
      from = from_ranks tile head (cursors_of next) (omega (arith, tile_is)) (next_sound next sound) takes.rises;
      low = head_rank head;
      rises = takes.rises;
      bytes = omega (arith, takes.bytes, so_far.bytes);
      kept = λ fits.
          let old_fits : group_need g.bytes ≤ part = need_rises g.bytes g'.bytes part sum_up fits in
          let put = takes.kept (omega (arith, fits, part_is)) in
          subst (Kept layers tile (head_rank head) (so_far.total + head.len)) (sym put.1) (kept_push layers tile so_far.low so_far.total g.items put.0 head (so_far.kept old_fits) put.2 put.3 tile_is low);
      merged = λ tell.
          let x = takes.merged tell in
          let old = so_far.merged tell in
          let size : length (item_text x.item) ≡ head.len = sym (len_of_item x.item) ∙ ap (λ (h : Head). h.len) x.head_is in
          let item_tile_is : item_tile x.item ≡ tile = sym (tile_of_item x.item x.item_is.types.key) ∙ ap head_tile x.head_is ∙ tile_is in
          record {
            items = old.items ++ x.item ∷ [];
            merged = old.merged ∙ ap (λ (l : List RunItem). old.items ++ l) x.merged ∙ sym (append_assoc old.items (x.item ∷ []) (left_merged o (cursors_of next)));
            one = each_append (λ y. item_tile y ≡ tile) old.items (x.item ∷ []) old.one (item_tile_is, tt);
            len = omega (arith, bytes_push old.items x.item, old.len, size);
            kept = λ fits.
                let old_fits : group_need g.bytes ≤ part = need_rises g.bytes g'.bytes part sum_up fits in
                x.kept (omega (arith, fits, part_is)) ∙ ap (λ (l : List RunItem). l ++ x.item ∷ []) (old.kept old_fits);
          };
    }

-- the item that was read is taken and kept
pub takes_kept : {R : Type 0} (o : Objects R) (layers number : ℕ) (head : Head) (before mid after : List RunReader) (item : RunItem) (old new : Gathered) → LoadsAt o layers number head before mid item → AdvancesAt o layers number head mid after
    → new.tile ≡ old.tile → new.part ≡ old.part → new.bytes ≡ min (old.bytes + head.len) (2 ^ 64 - 1) → new.items ≡ old.items ++ item ∷ [] → Takes o layers head before after old new
takes_kept o layers number head before mid after item old new loads advances tile part sum items = record {
  tile = tile;
  part = part;
  sum = sum;
  runs = advances.runs ∙ ap runs_of loads.cursors;
  told_are = advances.told_are;
  rises = advances.rises;
  bytes = ap bytes_left (sym loads.cursors) ∙ advances.bytes;
  kept = λ fits. (item, items, loads.item_is, sym loads.head_is);
  merged = λ tell.
      let t = advances.merged tell in
      let left : left_at o before number ≡ left_at o mid number = ap (λ (l : List Cursor). get_or (map (left_of o) l) number []) (sym loads.cursors) in
      let same : t.item ≡ item = same_first t.item item _ _ (sym t.first ∙ sym left ∙ loads.first tell) in
      record { item = t.item; item_is = t.item_is; head_is = t.head_is; merged = ap (left_merged o) (sym loads.cursors) ∙ t.merged; kept = λ fits. items ∙ ap (λ (x : RunItem). old.items ++ x ∷ []) (sym same) };
}

-- fewer bytes are left
pub fewer_bytes : (before after : List Cursor) (number : ℕ) (head : Head) → IsLeast before number head → All IsPlaced before → bytes_left before ≡ bytes_left after + head.len → bytes_left after < bytes_left before
fewer_bytes before after number head least sound bytes = let is = least_head before number head least sound in omega (arith, bytes, is.some)

-- the first item is taken of all runs
pub first_taken : {R : Type 0} (o : Objects R) (layers part tile number : ℕ) (head : Head) (before next : List RunReader) (g g' : Gathered) → AreSound before → AreTold o layers before → IsLeast (cursors_of before) number head → tile ≡ head_tile head
    → g.tile ≡ tile → g.part ≡ part → g.bytes ≡ 0 → g.items ≡ [] → Takes o layers head before next g g' → AreSound next → SoFar 1 o layers part tile before next g'
first_taken o layers part tile number head before next g g' sound told least tile_is t p b none takes sound' =
    let from : AreFrom tile (cursors_of before) = from_ranks tile head (cursors_of before) (omega (arith, tile_is)) (next_sound before sound) (ranks_from (cursors_of before) number head least) in
    one_taken 0 o layers part tile number head before before next g g' (none_taken o layers part tile before g t p b none sound told from) least (sym tile_is) takes sound'
