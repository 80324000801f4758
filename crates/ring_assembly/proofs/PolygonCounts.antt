-- Polygons have no more points than the rings that they are made of.
use Rattle.std.proofs.Common.{◌≡◌, ℕ, zero, suc, ◌+◌, ◌%◌, ◌<◌, ◌≤◌, ◌==◌, Bool, true, false, cond, Option, Some, None, is_some, List, [], ◌∷◌, map, length, get_or, refl, sym, ap, ◌∙◌, le_refl, arith}
use Rattle.std.specs.List.{range_with_len, filter, filter_map, find, cons_option}
use Rattle.std.proofs.lemmas.Bool.{ne_eqb, eqb-true}
use Rattle.tb_types.specs.Bags.{total}
use Rattle.tb_types.specs.declared.location.World.{World}
use Rattle.ring_assembly.specs.Nesting.{numbers, ring_at, depth_of, is_outer_of, outer_of, is_number, inners_at, polygon_at, nested}
use Rattle.ring_assembly.specs.Counts.{points_of_rings, points_of_polygons}

module _ {X : Type 0} where
  total_below : (f g : X → ℕ) → ((x : X) → f x ≤ g x) → (xs : List X) → total f xs ≤ total g xs
  total_below f g h [] = le_refl 0
  total_below f g h (x ∷ xs) = omega (arith, h x, total_below f g h xs)

  total_add : (f g : X → ℕ) (xs : List X) → total (λ x. f x + g x) xs ≡ total f xs + total g xs
  total_add f g [] = refl
  total_add f g (x ∷ xs) = omega (arith, total_add f g xs)

  total_zero : (xs : List X) → total (λ x. 0) xs ≡ 0
  total_zero [] = refl
  total_zero (x ∷ xs) = omega (arith, total_zero xs)

  total_map : {Y : Type 0} (f : Y → ℕ) (g : X → Y) (xs : List X) → total f (map g xs) ≡ total (λ x. f (g x)) xs
  total_map f g [] = refl
  total_map f g (x ∷ xs) = ap (λ n. f (g x) + n) (total_map f g xs)

  total_filter : (f : X → ℕ) (p : X → Bool) (xs : List X) → total f (filter p xs) ≡ total (λ x. cond (p x) (f x) 0) xs
  total_filter f p [] = refl
  total_filter f p (x ∷ xs) = here (p x) ∙ ap (λ n. cond (p x) (f x) 0 + n) (total_filter f p xs)
    where
      here : (b : Bool) → total f (cond b (x ∷ filter p xs) (filter p xs)) ≡ cond b (f x) 0 + total f (filter p xs)
      here true = refl
      here false = omega arith

-- the order of two sums
exchanged : (f : ℕ → ℕ → ℕ) (is js : List ℕ) → total (λ i. total (f i) js) is ≡ total (λ j. total (λ i. f i j) is) js
exchanged f [] js = sym (total_zero js)
exchanged f (i ∷ is) js = ap (λ n. total (f i) js + n) (exchanged f is js) ∙ sym (total_add (f i) (λ j. total (λ k. f k j) is) js)

-- a number stands once among the numbers from one on
no_number : (p w a n : ℕ) → p < a → total (λ i. cond (p == i) w 0) (range_with_len a n) ≡ 0
no_number p w a zero h = refl
no_number p w a (suc n) h =
    let other : (p == a) ≡ false = ne_eqb p a (λ e. absurd (omega arith)) in
    let here : cond (p == a) w 0 ≡ 0 = ap (λ b. cond b w 0) other in
    omega (arith, here, no_number p w (a + 1) n (omega arith))

one_number : (p w a n : ℕ) → total (λ i. cond (p == i) w 0) (range_with_len a n) ≤ w
one_number p w a zero = omega arith
one_number p w a (suc n) = here (p == a) refl (one_number p w (a + 1) n)
  where
    here : (b : Bool) → (p == a) ≡ b → total (λ i. cond (p == i) w 0) (range_with_len (a + 1) n) ≤ w → cond b w 0 + total (λ i. cond (p == i) w 0) (range_with_len (a + 1) n) ≤ w
    here true e more = let same : p ≡ a = eqb-true p a e in omega (arith, no_number p w (a + 1) n (omega arith))
    here false e more = omega (arith, more)

at_most_once : (o : Option ℕ) (w a n : ℕ) → total (λ i. cond (is_number o i) w 0) (range_with_len a n) ≤ cond (is_some o) w 0
at_most_once None w a n = omega (arith, total_zero (range_with_len a n))
at_most_once (Some p) w a n = one_number p w a n

-- the lengths of rings by their numbers
total_numbers : (f : ℕ → ℕ) (a : ℕ) (rings : List (List World)) → ((k : ℕ) → k < length rings → f (a + k) ≡ length (get_or rings k [])) → total f (range_with_len a (length rings)) ≡ total length rings
total_numbers f a [] h = refl
total_numbers f a (ring ∷ rings) h =
    let first : f a ≡ length ring = let z : a ≡ a + 0 = omega arith in ap f z ∙ h 0 (omega arith) in
    let more = total_numbers f (a + 1) rings (λ k l. let s : a + 1 + k ≡ a + suc k = omega arith in ap f s ∙ h (suc k) (omega arith)) in
    omega (arith, first, more)

module _ (rings : List (List World)) where
  abbrev len : ℕ → ℕ
  len i = length (ring_at rings i)

  abbrev even : ℕ → Bool
  even i = depth_of rings i % 2 == 0

  -- what a ring adds as an inner ring to the polygon of another
  abbrev adds : ℕ → ℕ → ℕ
  adds i j = cond (is_number (outer_of rings j) i) (len j) 0

  inners_points : (i : ℕ) → points_of_rings (inners_at rings i) ≡ total (adds i) (numbers rings)
  unfolding inners_at
  inners_points i =
      let held : List ℕ = filter (λ j. is_number (outer_of rings j) i) (numbers rings) in
      total_map length (ring_at rings) held ∙ total_filter len (λ j. is_number (outer_of rings j) i) (numbers rings)

  listed_points : (is : List ℕ) → points_of_polygons (filter_map (polygon_at rings) is) ≤ total (λ i. cond (even i) (len i) 0 + total (adds i) (numbers rings)) is
  unfolding polygon_at
  listed_points [] = le_refl 0
  listed_points (i ∷ is) = here (even i) (listed_points is)
    where
      here : (b : Bool) → points_of_polygons (filter_map (polygon_at rings) is) ≤ total (λ k. cond (even k) (len k) 0 + total (adds k) (numbers rings)) is → points_of_polygons (cons_option (cond b (Some (record { outer = ring_at rings i; inners = inners_at rings i })) None) (filter_map (polygon_at rings) is))
          ≤ (cond b (len i) 0 + total (adds i) (numbers rings)) + total (λ k. cond (even k) (len k) 0 + total (adds k) (numbers rings)) is
      here true more = omega (arith, inners_points i, more)
      here false more = omega (arith, more)

  -- a ring is an outer ring, or an inner ring, or neither
  one_part : (j : ℕ) → cond (even j) (len j) 0 + cond (is_some (outer_of rings j)) (len j) 0 ≤ len j
  unfolding outer_of
  one_part j = here (even j) (find (λ i. is_outer_of rings i j) (numbers rings))
    where
      here : (b : Bool) (o : Option ℕ) → cond b (len j) 0 + cond (is_some (cond b None o)) (len j) 0 ≤ len j
      here true o = omega arith
      here false None = omega arith
      here false (Some p) = omega arith

  pub nested_points : points_of_polygons (nested rings) ≤ points_of_rings rings
  unfolding nested
  nested_points =
      let ps = numbers rings in
      let n = length rings in
      let all = listed_points ps in
      let split = total_add (λ i. cond (even i) (len i) 0) (λ i. total (adds i) ps) ps in
      let turned = exchanged adds ps ps in
      let once = total_below (λ j. total (λ i. adds i j) ps) (λ j. cond (is_some (outer_of rings j)) (len j) 0) (λ j. at_most_once (outer_of rings j) (len j) 0 n) ps in
      let extended = total_add (λ j. cond (even j) (len j) 0) (λ j. cond (is_some (outer_of rings j)) (len j) 0) ps in
      let parts = total_below (λ j. cond (even j) (len j) 0 + cond (is_some (outer_of rings j)) (len j) 0) len one_part ps in
      let lengths = total_numbers len 0 rings (λ k h. let z : 0 + k ≡ k = omega arith in ap len z) in
      omega (arith, all, split, turned, once, extended, parts, lengths)
