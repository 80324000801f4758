-- The tiles are the groups of their items.
use Rattle.std.proofs.Common.{◌≡◌, ℕ, ◌<◌, Bool, Option, Some, None, IfSome, List, [], ◌∷◌, ◌++◌, length, map, flat_map, refl, sym, ap, ◌∙◌, arith}
use Rattle.std.proofs.lemmas.List.Elements.{recursion_from_All, All-from_recursion}
use Rattle.std.proofs.lemmas.List.Sorted.{IsPermutation-trans}
use Rattle.std.specs.List.{AllByRecursion, cons_option}
use Rattle.std.specs.List.Sorted.{IsSortedBy, IsPermutation}
use Rattle.sorted_lists.specs.Sorting.{sorted_by, TiesAreEqual}
use Rattle.sorted_lists.specs.Grouping.{grouped_by, group_of, elements_of, IsGroup, AreGroups}
use Rattle.sorted_lists.proofs.Orders.{each_weaker}
use Rattle.sorted_lists.proofs.Sorts.{each_sorted, keeps, rises}
use Rattle.sorted_lists.proofs.Groups.{Climbs, climbs_from_increasing, increasing_from_climbs}
use Rattle.sorted_lists.proofs.Shuffles.{same, flat_map-alike}
use Rattle.sorted_lists.proofs.Proved.{sorting, grouping}
use Rattle.tile_model.specs.Walks.{items_in, by_tile, rows_in, tiles_of, AreTiles}

module _ {X : Type 0} where
  group-elements : (n : ℕ) (xs : List X) (gs : List (ℕ × List X)) → elements_of (cons_option (group_of n xs) gs) ≡ xs ++ elements_of gs
  group-elements n [] gs = refl
  group-elements n (x ∷ xs) gs = refl

  group-each : (P : ℕ × List X → Type 0) (n : ℕ) (xs : List X) (gs : List (ℕ × List X)) → (0 < length xs → P (n, xs)) → AllByRecursion P gs → AllByRecursion P (cons_option (group_of n xs) gs)
  group-each P n [] gs p h = h
  group-each P n (x ∷ xs) gs p h = (p (omega arith), h)

  group-above : (n m : ℕ) (xs : List X) (gs : List (ℕ × List X)) → n < m → AllByRecursion (λ k. n < k) (map (λ g. g.0) gs) → AllByRecursion (λ k. n < k) (map (λ g. g.0) (cons_option (group_of m xs) gs))
  group-above n m [] gs lt h = h
  group-above n m (x ∷ xs) gs lt h = (lt, h)

  group-climbs : (n : ℕ) (xs : List X) (gs : List (ℕ × List X)) → AllByRecursion (λ k. n < k) (map (λ g. g.0) gs) → Climbs (map (λ g. g.0) gs) → Climbs (map (λ g. g.0) (cons_option (group_of n xs) gs))
  group-climbs n [] gs above h = h
  group-climbs n (x ∷ xs) gs above h = (above, h)

module _ {F T X : Type 0} (lt : X → X → Bool) (class : X → ℕ) (id : T → ℕ) (item : F → T → Option X) (features : List F) where
  abbrev Own : T → Type 0
  Own t = AllByRecursion (λ f. IfSome (item f t) (λ x. class x ≡ id t)) features

  tiles-elements : (ts : List T) → elements_of (tiles_of lt id item features ts) ≡ flat_map (λ t. rows_in lt item features t) ts
  tiles-elements [] = refl
  tiles-elements (t ∷ ts) =
      group-elements (id t) (rows_in lt item features t) (tiles_of lt id item features ts)
      ∙ ap (λ l. rows_in lt item features t ++ l) (tiles-elements ts)

  rows-keep : (ts : List T) → AllByRecursion (λ t. IsPermutation (items_in item features t) (rows_in lt item features t)) ts
  rows-keep [] = tt
  rows-keep (t ∷ ts) = (keeps lt (items_in item features t), rows-keep ts)

  tiles-keep : (ts : List T) → IsPermutation (by_tile item features ts) (elements_of (tiles_of lt id item features ts))
  tiles-keep ts =
      IsPermutation-trans _ _ _ (flat_map-alike (items_in item features) (rows_in lt item features) ts (rows-keep ts))
      (same _ _ (sym (tiles-elements ts)))

  ids-above : (n : ℕ) (ts : List T) → AllByRecursion (λ k. n < k) (map id ts) → AllByRecursion (λ k. n < k) (map (λ g. g.0) (tiles_of lt id item features ts))
  ids-above n [] h = tt
  ids-above n (t ∷ ts) h = group-above n (id t) (rows_in lt item features t) (tiles_of lt id item features ts) h.0 (ids-above n ts h.1)

  ids-climb : (ts : List T) → Climbs (map id ts) → Climbs (map (λ g. g.0) (tiles_of lt id item features ts))
  ids-climb [] h = tt
  ids-climb (t ∷ ts) h =
      group-climbs (id t) (rows_in lt item features t) (tiles_of lt id item features ts) (ids-above (id t) ts h.0) (ids-climb ts h.1)

  items-own-if : (t : T) (r : Option X) (xs : List X) → IfSome r (λ x. class x ≡ id t) → AllByRecursion (λ x. class x ≡ id t) xs → AllByRecursion (λ x. class x ≡ id t) (cons_option r xs)
  items-own-if t None xs h k = k
  items-own-if t (Some x) xs h k = (h, k)

  pub items-own : (t : T) (fs : List F) → AllByRecursion (λ f. IfSome (item f t) (λ x. class x ≡ id t)) fs → AllByRecursion (λ x. class x ≡ id t) (items_in item fs t)
  items-own t [] h = tt
  items-own t (f ∷ fs) h = items-own-if t (item f t) (items_in item fs t) h.0 (items-own t fs h.1)

  module _ (are_order : AreTiles lt class id item features []) where
    tile-group : (t : T) → Own t → 0 < length (rows_in lt item features t) → IsGroup lt class (id t, rows_in lt item features t)
    tile-group t own some = record {
      some = some;
      one = All-from_recursion (λ x. class x ≡ id t) (rows_in lt item features t) (each_sorted lt (λ x. class x ≡ id t) (items_in item features t) (items-own t features own));
      sorted = rises lt are_order.order (items_in item features t);
    }

    tile-groups : (ts : List T) → AllByRecursion Own ts → AllByRecursion (IsGroup lt class) (tiles_of lt id item features ts)
    tile-groups [] h = tt
    tile-groups (t ∷ ts) h =
        group-each (IsGroup lt class) (id t) (rows_in lt item features t) (tiles_of lt id item features ts) (tile-group t h.0) (tile-groups ts h.1)

  module _ (tiles : List T) (are : AreTiles lt class id item features tiles) where
    pub own-each : AllByRecursion Own tiles
    own-each =
        each_weaker _ Own (λ t h. recursion_from_All (λ f. IfSome (item f t) (λ x. class x ≡ id t)) features h) tiles (recursion_from_All _ tiles are.own)

    none : AreTiles lt class id item features []
    none = record { order = are.order; class_first = are.class_first; ascend = increasing_from_climbs [] tt; own = All-from_recursion _ [] tt }

    pub tells : AreGroups lt class (by_tile item features tiles) (tiles_of lt id item features tiles)
    tells = record {
      each = All-from_recursion (IsGroup lt class) (tiles_of lt id item features tiles) (tile-groups none tiles own-each);
      ascend = increasing_from_climbs (map (λ g. g.0) (tiles_of lt id item features tiles)) (ids-climb tiles (climbs_from_increasing (map id tiles) are.ascend));
      same = tiles-keep tiles;
    }

    module _ (ties : TiesAreEqual lt (by_tile item features tiles)) (ys : List X) (m : IsPermutation (by_tile item features tiles) ys) where
      pub sorted : grouped_by class (sorted_by lt ys) ≡ tiles_of lt id item features tiles
      sorted =
          ap (grouped_by class) (sym ((sorting X).moved lt are.order (by_tile item features tiles) ys ties m))
          ∙ sym ((grouping X).told class lt are.class_first are.order (by_tile item features tiles) (tiles_of lt id item features tiles) ties tells)

      pub grouped : IsSortedBy lt ys → grouped_by class ys ≡ tiles_of lt id item features tiles
      grouped up =
          ap (grouped_by class) ((sorting X).any lt are.order (by_tile item features tiles) ys ties up m ∙ (sorting X).moved lt are.order (by_tile item features tiles) ys ties m) ∙ sorted

      pub told : (groups : List (ℕ × List X)) → AreGroups lt class ys groups → groups ≡ tiles_of lt id item features tiles
      told groups are_groups =
          let all : AreGroups lt class (by_tile item features tiles) groups = record { each = are_groups.each; ascend = are_groups.ascend; same = IsPermutation-trans _ _ _ m are_groups.same } in
          (grouping X).told class lt are.class_first are.order (by_tile item features tiles) groups ties all
          ∙ sym ((grouping X).told class lt are.class_first are.order (by_tile item features tiles) (tiles_of lt id item features tiles) ties tells)
