-- Keys of different items differ.
use Rattle.std.proofs.Common.{◌≡◌, ◌≢◌, ℕ, ◌<◌, Bool, Option, Some, None, IfSome, List, [], ◌∷◌, map, All, sym, subst, ◌∙◌, arith}
use Rattle.std.proofs.lemmas.List.Elements.{recursion_from_All}
use Rattle.std.specs.List.{AllByRecursion, cons_option}
use Rattle.sorted_lists.specs.Sorting.{KeysDiffer}
use Rattle.sorted_lists.proofs.Orders.{each_weaker, each_append, Pairs, pairs_from_AllPairs, AllPairs_from_pairs}
use Rattle.sorted_lists.proofs.Told.{pairs_append}
use Rattle.sorted_lists.proofs.Groups.{climbs_from_increasing}
use Rattle.tile_model.specs.Walks.{items_in, by_tile, AreTiles}
use Rattle.tile_model.proofs.Tiled.{items-own, own-each}

module _ {F T X K N : Type 0} (key : X → K) (name : X → N) (tag : F → N) (class : X → ℕ) (id : T → ℕ) (item : F → T → Option X) (tells : (x y : X) → key x ≡ key y → (class x ≡ class y) × (name x ≡ name y)) where
  abbrev Named : T → F → Type 0
  Named t f = IfSome (item f t) (λ x. name x ≡ tag f)

  -- items of later features of a tile have other names
  other-if : (t : T) (n : N) (f : F) (r : Option X) (xs : List X) → IfSome r (λ x. name x ≡ tag f) → n ≢ tag f → AllByRecursion (λ x. n ≢ name x) xs → AllByRecursion (λ x. n ≢ name x) (cons_option r xs)
  other-if t n f None xs own h k = k
  other-if t n f (Some x) xs own h k = (λ e. h (e ∙ own), k)

  others : (t : T) (n : N) (fs : List F) → AllByRecursion (Named t) fs → AllByRecursion (λ f. n ≢ tag f) fs → AllByRecursion (λ x. n ≢ name x) (items_in item fs t)
  others t n [] own h = tt
  others t n (f ∷ fs) own h = other-if t n f (item f t) (items_in item fs t) own.0 h.0 (others t n fs own.1 h.1)

  tile-if : (t : T) (f : F) (r : Option X) (xs : List X) → IfSome r (λ x. name x ≡ tag f) → AllByRecursion (λ x. tag f ≢ name x) xs → Pairs (λ x y. key x ≢ key y) xs → Pairs (λ x y. key x ≢ key y) (cons_option r xs)
  tile-if t f None xs own h k = k
  tile-if t f (Some x) xs own h k = (each_weaker (λ y. tag f ≢ name y) (λ y. key x ≢ key y) (λ y other e. other (sym own ∙ (tells x y e).1)) xs h, k)

  in-tile : (t : T) (fs : List F) → AllByRecursion (Named t) fs → Pairs (λ f g. tag f ≢ tag g) fs → Pairs (λ x y. key x ≢ key y) (items_in item fs t)
  in-tile t [] own h = tt
  in-tile t (f ∷ fs) own h = tile-if t f (item f t) (items_in item fs t) own.0 (others t (tag f) fs own.1 h.0) (in-tile t fs own.1 h.1)

  -- items of later tiles have other classes
  above : (features : List F) (n : ℕ) (ts : List T) → AllByRecursion (λ t. AllByRecursion (λ x. class x ≡ id t) (items_in item features t)) ts → AllByRecursion (λ m. n < m) (map id ts)
      → AllByRecursion (λ y. n < class y) (by_tile item features ts)
  above features n [] own h = tt
  above features n (t ∷ ts) own h =
      each_append (λ y. n < class y) (items_in item features t) (by_tile item features ts)
      (each_weaker (λ x. class x ≡ id t) (λ y. n < class y) (λ y e. subst (λ m. n < m) (sym e) h.0) (items_in item features t) own.0) (above features n ts own.1 h.1)

  across : (t : T) (xs ys : List X) → AllByRecursion (λ x. class x ≡ id t) xs → AllByRecursion (λ y. id t < class y) ys → AllByRecursion (λ x. AllByRecursion (λ y. key x ≢ key y) ys) xs
  across t xs ys own h =
      each_weaker (λ x. class x ≡ id t) (λ x. AllByRecursion (λ y. key x ≢ key y) ys)
      (λ x e. each_weaker (λ y. id t < class y) (λ y. key x ≢ key y) (λ y up k. omega (arith, up, sym e ∙ (tells x y k).0)) ys h) xs own

  all-tiles : (features : List F) (ts : List T) → AllByRecursion (λ t. AllByRecursion (λ x. class x ≡ id t) (items_in item features t)) ts → AllByRecursion (λ t. AllByRecursion (Named t) features) ts
      → Pairs (λ m n. m < n) (map id ts) → Pairs (λ f g. tag f ≢ tag g) features → Pairs (λ x y. key x ≢ key y) (by_tile item features ts)
  all-tiles features [] own named up h = tt
  all-tiles features (t ∷ ts) own named up h =
      pairs_append (λ x y. key x ≢ key y) (items_in item features t) (by_tile item features ts) (in-tile t features named.0 h) (all-tiles features ts own.1 named.1 up.1 h)
      (across t (items_in item features t) (by_tile item features ts) own.0 (above features (id t) ts own.1 up.0))

  pub differ : (lt : X → X → Bool) (features : List F) (tiles : List T) → AreTiles lt class id item features tiles → All (λ t. All (Named t) features) tiles → KeysDiffer tag features
      → KeysDiffer key (by_tile item features tiles)
  differ lt features tiles are named apart =
      AllPairs_from_pairs (λ x y. key x ≢ key y) (by_tile item features tiles)
      (all-tiles features tiles
      (each_weaker _ _ (λ t own. items-own lt class id item features t features own) tiles (own-each lt class id item features tiles are))
      (each_weaker _ _ (λ t h. recursion_from_All (Named t) features h) tiles (recursion_from_All _ tiles named))
      (climbs_from_increasing (map id tiles) are.ascend) (pairs_from_AllPairs (λ f g. tag f ≢ tag g) features apart))
