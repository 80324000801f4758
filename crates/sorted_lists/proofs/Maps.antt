-- Elements that are made into others, before or after they are put in order or grouped.
use Rattle.std.proofs.Common.{◌≡◌, ℕ, ◌==◌, Bool, true, false, cond, List, [], ◌∷◌, map, refl, ap, ◌∙◌}
use Rattle.sorted_lists.specs.Sorting.{inserted_by, sorted_by}
use Rattle.sorted_lists.specs.Grouping.{with_first, grouped_by}

module _ {X Y : Type 0} (f : X → Y) where
  either : (b : Bool) (us vs : List X) → map f (cond b us vs) ≡ cond b (map f us) (map f vs)
  either true us vs = refl
  either false us vs = refl

  map-placed : (lt : Y → Y → Bool) (x : X) (ys : List X) → map f (inserted_by (λ a b. lt (f a) (f b)) x ys) ≡ inserted_by lt (f x) (map f ys)
  map-placed lt x [] = refl
  map-placed lt x (y ∷ ys) =
      either (lt (f y) (f x)) (y ∷ inserted_by (λ a b. lt (f a) (f b)) x ys) (x ∷ y ∷ ys)
      ∙ ap (λ l. cond (lt (f y) (f x)) (f y ∷ l) (f x ∷ f y ∷ map f ys)) (map-placed lt x ys)

  pub map-sorted : (lt : Y → Y → Bool) (xs : List X) → map f (sorted_by (λ a b. lt (f a) (f b)) xs) ≡ sorted_by lt (map f xs)
  map-sorted lt [] = refl
  map-sorted lt (x ∷ xs) = map-placed lt x (sorted_by (λ a b. lt (f a) (f b)) xs) ∙ ap (inserted_by lt (f x)) (map-sorted lt xs)

  abbrev in-group : ℕ × List X → ℕ × List Y
  in-group g = (g.0, map f g.1)

  with-first-if : (b : Bool) (n : ℕ) (x : X) (g : ℕ × List X) (gs : List (ℕ × List X))
      → cond b ((n, f x ∷ map f g.1) ∷ map in-group gs) ((n, f x ∷ []) ∷ in-group g ∷ map in-group gs) ≡ map in-group (cond b ((n, x ∷ g.1) ∷ gs) ((n, x ∷ []) ∷ g ∷ gs))
  with-first-if true n x g gs = refl
  with-first-if false n x g gs = refl

  with-first : (n : ℕ) (x : X) (gs : List (ℕ × List X)) → with_first n (f x) (map in-group gs) ≡ map in-group (with_first n x gs)
  with-first n x [] = refl
  with-first n x (g ∷ gs) = with-first-if (g.0 == n) n x g gs

  pub map-grouped : (class : Y → ℕ) (xs : List X) → grouped_by class (map f xs) ≡ map (λ g. (g.0, map f g.1)) (grouped_by (λ x. class (f x)) xs)
  map-grouped class [] = refl
  map-grouped class (x ∷ xs) = ap (with_first (class (f x)) (f x)) (map-grouped class xs) ∙ with-first (class (f x)) x (grouped_by (λ y. class (f y)) xs)
