-- The proofs of all laws, for callers to cite, as `(sorting X).only`.
use Rattle.std.proofs.Common.{ℕ, ◌≤◌, Bool, List, ◌∷◌, All, Contains, refl, sym, arith}
use Rattle.std.proofs.lemmas.List.Elements.{recursion_from_All}
use Rattle.std.proofs.lemmas.List.Sorted.{IsPermutation-map, sum_by-IsPermutation}
use Rattle.std.specs.Cmp.{IsStrictWeakOrder}
use Rattle.std.specs.List.{AllByRecursion}
use Rattle.std.specs.List.Sorted.{IsSortedBy, IsNonDecreasingBy}
use Rattle.sorted_lists.specs.Sorting.{by_key}
use Rattle.sorted_lists.specs.SortingLaws.{SortingLaws}
use Rattle.sorted_lists.specs.KeyLaws.{KeyLaws}
use Rattle.sorted_lists.specs.BagLaws.{BagLaws}
use Rattle.sorted_lists.specs.NumberLaws.{NumberLaws}
use Rattle.sorted_lists.specs.GroupingLaws.{GroupingLaws}
use Rattle.sorted_lists.specs.MergingLaws.{MergingLaws}
use Rattle.sorted_lists.specs.MapLaws.{MapLaws}
use Rattle.sorted_lists.proofs.Orders.{each_weaker, Pairs, pairs_from_AllPairs, Ascends, ascends_from_sorted}
use Rattle.sorted_lists.proofs.Sorts
use Rattle.sorted_lists.proofs.Only
use Rattle.sorted_lists.proofs.Groups
use Rattle.sorted_lists.proofs.Told
use Rattle.sorted_lists.proofs.Merges
use Rattle.sorted_lists.proofs.Shuffles
use Rattle.sorted_lists.proofs.Counts
use Rattle.sorted_lists.proofs.NumberLists
use Rattle.sorted_lists.proofs.Keys
use Rattle.sorted_lists.proofs.Climbing
use Rattle.sorted_lists.proofs.Maps
use Rattle.sorted_lists.proofs.Moved
use Rattle.sorted_lists.proofs.Kept
use Rattle.sorted_lists.proofs.Members
use Rattle.sorted_lists.proofs.Orders

module _ {X : Type 0} (lt : X → X → Bool) (o : IsStrictWeakOrder lt) where
  each_ascends : (lists : List (List X)) → All (λ xs. IsSortedBy lt xs) lists → AllByRecursion (λ xs. Ascends lt xs) lists
  each_ascends lists h = each_weaker _ _ (λ xs up. ascends_from_sorted lt o xs up) lists (recursion_from_All (λ xs. IsSortedBy lt xs) lists h)

module _ {X : Type 0} (class : X → ℕ) where
  rise : (xs : List X) → IsNonDecreasingBy class xs → Pairs (λ x y. class x ≤ class y) xs
  rise xs h = pairs_from_AllPairs (λ x y. class x ≤ class y) xs (λ i j d lt le. h i j d (omega (arith, lt)) le)

  among : (ns : List ℕ) (xs : List X) → All (λ x. Contains ns (class x)) xs → AllByRecursion (λ x. Groups.Among (class x) ns) xs
  among ns xs h = each_weaker _ _ (λ x c. Groups.among_from_contains (class x) ns c) xs (recursion_from_All (λ x. Contains ns (class x)) xs h)

pub sorting : (X : Type 0) → SortingLaws X
sorting X = record {
  rises = λ lt o xs. Sorts.rises lt o xs;
  keeps = λ lt xs. Sorts.keeps lt xs;
  stable = λ lt o xs. Sorts.stable lt o xs;
  only = λ lt o xs ys up same. Only.only lt o xs ys up same;
  already = λ lt o xs up. Sorts.sorted-ascends lt xs (ascends_from_sorted lt o xs up);
  any = λ lt o xs ys ties up m. Only.only lt o xs ys up (Only.stable_apart lt o xs ys ties m);
  one = λ lt o xs ys ties up up' m. Only.one_list lt o xs ys ties up up' m;
  moved = λ lt o xs ys ties m. Only.alike lt o xs ys (Only.stable_apart lt o xs ys ties m);
  part = λ lt xs us vs ties m. Only.ties_part lt xs us vs ties m;
  alike = λ lt o xs ys same. Only.alike lt o xs ys same;
  filtered = λ lt o p xs. Only.filter-sorted_by lt o p xs;
  agreed = λ lt other xs h. Only.sorted-agreed lt other xs (pairs_from_AllPairs _ xs h);
  neighbours = λ lt xs. Orders.neighbours lt xs;
}

pub keys : (X K : Type 0) → KeyLaws X K
keys X K = record {
  order = λ key cmp o. Keys.order key cmp o;
  differ = λ key cmp xs o exact apart. Keys.differ key cmp xs o exact apart;
  moved = λ key xs ys apart m. Moved.keys-moved key xs ys apart m;
  one = λ key cmp xs ys o exact apart up up' m. Only.one_list (λ x y. by_key key cmp x y) (Keys.order key cmp o) xs ys (Keys.differ key cmp xs o exact apart) up up' m;
  named = λ key xs differ x y at_x at_y e. Keys.named key xs differ x y at_x at_y e;
  level = λ key cmp x y o h. Keys.level key cmp x y o h;
  parts = Keys.parts;
  number = Keys.number;
  integer = Keys.integer;
  first = λ key number more. Keys.first key number more;
  second = λ key number next more x y e h. Keys.second key number next more x y e h;
  last = λ key cmp more x y h. Keys.last key cmp more x y h;
  ranked = λ rank. Keys.ranked_order rank;
  ranks_differ = λ rank xs apart. Keys.ranks_differ rank xs apart;
}

pub bags : (A B X : Type 0) → BagLaws A B X
bags A B X = record {
  each = λ f xs ys m. Shuffles.flat_map-permutation f xs ys m;
  alike = λ f g xs h. Shuffles.flat_map-alike f g xs (recursion_from_All _ xs h);
  exchanged = λ f xs ys. Shuffles.exchanged f xs ys;
  chosen = λ p xs ys m. Shuffles.filter-permutation p xs ys m;
  valued = λ f xs ys m. Shuffles.choice-permutation f xs ys m;
  mapped = λ f xs ys m. IsPermutation-map f xs ys m;
  members = λ xs ys h k same. Members.members xs ys h k same;
  kept = λ p xs x. Kept.contains-filter p xs x;
  walked = λ f xs y. Kept.contains-flat_map f xs y;
  weighed = λ xs ys m weight. sym (sum_by-IsPermutation weight xs ys m);
  shuffled = λ same decides xs ys h. Counts.shuffled same decides xs ys h;
}

pub numbers : NumberLaws
numbers = record {
  counted = NumberLists.counted;
  each_once = NumberLists.each_once;
  one = λ xs ys up up' same. Climbing.climbing-one xs ys (Groups.climbs_from_increasing xs up) (Groups.climbs_from_increasing ys up') same;
  climbing = NumberLists.climbing;
  adjacent = NumberLists.adjacent;
  within = NumberLists.within;
  counting = NumberLists.counting;
}

pub grouping : (X : Type 0) → GroupingLaws X
grouping X = record {
  whole = λ class xs. Groups.grouped-whole class xs;
  front = λ class x xs rest same other. Groups.grouped-front class (class x) x xs rest refl (recursion_from_All _ xs same) other;
  groups = λ class ns xs up up' at. Groups.grouped-groups class ns xs (Groups.climbs_from_increasing ns up) (rise class xs up') (among class ns xs at);
  sorted = λ class lt first o ns xs up at. Groups.grouped-sorted class lt first o ns xs (Groups.climbs_from_increasing ns up) (among class ns xs at);
  classes = λ class ns xs up at. Groups.sorted-classes class ns xs (Groups.climbs_from_increasing ns up) (among class ns xs at);
  tells = λ class lt first o xs. Told.tells class lt first o xs;
  told = λ class lt first o xs groups ties are. Told.told class lt first o xs groups ties are;
  taken = λ class lt first o xs rest g ties one m later. Told.taken class lt first o xs rest g ties one m later;
}

pub merging : (X : Type 0) → MergingLaws X
merging X = record {
  two = λ lt o xs ys up up'. Merges.merged-sorted lt o xs ys (ascends_from_sorted lt o xs up) (ascends_from_sorted lt o ys up');
  all = λ lt o lists up. Merges.all_merged-sorted lt o lists (each_ascends lt o lists up);
  next = λ lt o before behind x xs up here up' h k. Merges.sorted-next lt o before behind x xs (each_ascends lt o before up) (ascends_from_sorted lt o (x ∷ xs) here) (each_ascends lt o behind up') (recursion_from_All _ before h) (recursion_from_All _ behind k);
  least = λ lt o before behind x xs ties up here up' h k. Merges.sorted-least lt o before behind x xs ties (each_ascends lt o before up) (ascends_from_sorted lt o (x ∷ xs) here) (each_ascends lt o behind up') (recursion_from_All _ before h) (recursion_from_All _ behind k);
  parts = λ lt o lists. Merges.sorted-parts lt o lists;
  middle = λ lt o several. Merges.sorted-middle lt o several;
}

pub maps : (X Y : Type 0) → MapLaws X Y
maps X Y = record {
  sorted = λ f lt xs. Maps.map-sorted f lt xs;
  grouped = λ f class xs. Maps.map-grouped f class xs;
}
