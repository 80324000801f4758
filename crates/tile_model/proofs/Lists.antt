-- Lists whose elements stand once, what stands in ranges and maps, and choices over walks.
use Rattle.std.proofs.Common.{◌≡◌, ◌≢◌, ◌↔◌, ℕ, zero, suc, ◌+◌, ◌<◌, ◌≤◌, Option, List, [], ◌∷◌, ◌++◌, map, filter_map, flat_map, Contains, refl, sym, ap, subst, ◌∙◌, inl, inr, arith}
use Rattle.std.proofs.lemmas.List.Elements.{filter_map-append}
use Rattle.std.specs.List.{AllByRecursion, range_with_len}
use Rattle.tb_types.specs.Bags.{below}
use Rattle.sorted_lists.proofs.Orders.{each_weaker, each_append, Pairs}
use Rattle.sorted_lists.proofs.Told.{pairs_append}
use Rattle.sorted_lists.proofs.Groups.{Climbs, climbs_from_increasing}
use Rattle.sorted_lists.proofs.Kept.{In, in_from_contains, contains_from_in}
use Rattle.sorted_lists.proofs.NumberLists.{within, counting, climbing}

-- numbers of a range
range-in : (k a n : ℕ) → In k (range_with_len a n) → (a ≤ k) × (k < a + n)
range-in k a zero i = absurd i
range-in k a (suc n) (inl e) = (omega (arith, e), omega (arith, e))
range-in k a (suc n) (inr i) = let h = range-in k (a + 1) n i in (omega (arith, h.0), omega (arith, h.1))

pub contains-range : (a n k : ℕ) → Contains (range_with_len a n) k ↔ ((a ≤ k) × (k < a + n))
contains-range a n k = (λ c. range-in k a n (in_from_contains k (range_with_len a n) c), λ h. within a n k h.0 h.1)

pub contains-below : (n k : ℕ) → Contains (below n) k ↔ (k < n)
contains-below n k = (
  λ c. let h = (contains-range 0 n k).0 (subst (λ l. Contains l k) (counting n) c) in omega (arith, h.1),
  λ h. subst (λ l. Contains l k) (sym (counting n)) ((contains-range 0 n k).1 (omega arith, omega (arith, h))),
)

pub below-climbs : (n : ℕ) → Climbs (below n)
below-climbs n = subst Climbs (sym (counting n)) (climbs_from_increasing (range_with_len 0 n) (climbing 0 n))

pub range-climbs : (a n : ℕ) → Climbs (range_with_len a n)
range-climbs a n = climbs_from_increasing (range_with_len a n) (climbing a n)

module _ {A B : Type 0} (f : A → B) where
  map-in : (y : B) (xs : List A) → In y (map f xs) → (x : A) × In x xs × (f x ≡ y)
  map-in y [] i = absurd i
  map-in y (x ∷ xs) (inl e) = (x, inl refl, e)
  map-in y (x ∷ xs) (inr i) = let r = map-in y xs i in (r.0, inr r.1, r.2)

  in-map : (x : A) (xs : List A) → In x xs → In (f x) (map f xs)
  in-map x [] i = absurd i
  in-map x (z ∷ xs) (inl e) = inl (ap f e)
  in-map x (z ∷ xs) (inr i) = inr (in-map x xs i)

  pub contains-map : (xs : List A) (y : B) → Contains (map f xs) y ↔ ((x : A) × Contains xs x × (f x ≡ y))
  contains-map xs y = (
    λ c. let r = map-in y xs (in_from_contains y (map f xs) c) in (r.0, contains_from_in r.0 xs r.1, r.2),
    λ r. subst (Contains (map f xs)) r.2 (contains_from_in (f r.0) (map f xs) (in-map r.0 xs (in_from_contains r.0 xs r.1))),
  )

module _ {X : Type 0} where
  pub pairs_both : (P : X → Type 0) (R S : X → X → Type 0) → ((x y : X) → P x → P y → R x y → S x y) → (xs : List X) → AllByRecursion P xs → Pairs R xs → Pairs S xs
  pairs_both P R S f [] p h = tt
  pairs_both P R S f (x ∷ xs) p h = (each_both x xs p.0 p.1 h.0, pairs_both P R S f xs p.1 h.1)
    where
      each_both : (x : X) (ys : List X) → P x → AllByRecursion P ys → AllByRecursion (R x) ys → AllByRecursion (S x) ys
      each_both x [] p q r = tt
      each_both x (y ∷ ys) p q r = (f x y p q.0 r.0, each_both x ys p q.1 r.1)

  pub pairs_map : {Y : Type 0} (R : Y → Y → Type 0) (f : X → Y) (xs : List X) → Pairs (λ x y. R (f x) (f y)) xs → Pairs R (map f xs)
  pairs_map R f [] h = tt
  pairs_map R f (x ∷ xs) h = (each_map x xs h.0, pairs_map R f xs h.1)
    where
      each_map : (x : X) (ys : List X) → AllByRecursion (λ y. R (f x) (f y)) ys → AllByRecursion (R (f x)) (map f ys)
      each_map x [] h = tt
      each_map x (y ∷ ys) h = (h.0, each_map x ys h.1)

-- A walk over ascending numbers, each with a list whose elements are marked by it.
module _ {B : Type 0} (mark : B → ℕ) (f : ℕ → List B) where
  abbrev Marked : ℕ → Type 0
  Marked n = AllByRecursion (λ u. mark u ≡ n) (f n)

  later-marks : (n : ℕ) (ns : List ℕ) → AllByRecursion (λ m. n < m) ns → AllByRecursion Marked ns → AllByRecursion (λ u. n < mark u) (flat_map f ns)
  later-marks n [] up h = tt
  later-marks n (m ∷ ns) up h =
      each_append (λ u. n < mark u) (f m) (flat_map f ns) (each_weaker (λ u. mark u ≡ m) (λ u. n < mark u) (λ u e. subst (λ k. n < k) (sym e) up.0) (f m) h.0) (later-marks n ns up.1 h.1)

  pub once-walked : (ns : List ℕ) → Climbs ns → AllByRecursion Marked ns → AllByRecursion (λ n. Pairs (λ u v. u ≢ v) (f n)) ns → Pairs (λ u v. u ≢ v) (flat_map f ns)
  once-walked [] up h k = tt
  once-walked (n ∷ ns) up h k =
      pairs_append (λ u v. u ≢ v) (f n) (flat_map f ns) k.0 (once-walked ns up.1 h.1 k.1)
      (each_weaker (λ u. mark u ≡ n) (λ u. AllByRecursion (λ v. u ≢ v) (flat_map f ns))
      (λ u e. each_weaker (λ v. n < mark v) (λ v. u ≢ v) (λ v lt same. omega (arith, lt, e, ap mark same)) (flat_map f ns) (later-marks n ns up.0 h.1)) (f n) h.0)

-- a choice over a walk
pub choice-over : {A B X : Type 0} (g : B → Option X) (f : A → List B) (xs : List A) → filter_map g (flat_map f xs) ≡ flat_map (λ a. filter_map g (f a)) xs
choice-over g f [] = refl
choice-over g f (x ∷ xs) = filter_map-append g (f x) (flat_map f xs) ∙ ap (λ l. filter_map g (f x) ++ l) (choice-over g f xs)

-- a fact of each element that stands in a list
pub each_in : {X : Type 0} (P : X → Type 0) (xs : List X) → ((x : X) → In x xs → P x) → AllByRecursion P xs
each_in P [] h = tt
each_in P (x ∷ xs) h = (h x (inl refl), each_in P xs (λ y i. h y (inr i)))

pub each_contained : {X : Type 0} (P : X → Type 0) (xs : List X) → ((x : X) → Contains xs x → P x) → AllByRecursion P xs
each_contained P xs h = each_in P xs (λ x i. h x (contains_from_in x xs i))
