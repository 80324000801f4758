-- The rings of polygons are rings of the list that they are made of.
use Rattle.std.proofs.Common.{◌≡◌, ℕ, zero, suc, ◌+◌, ◌%◌, ◌<◌, ◌==◌, Bool, true, false, cond, Some, None, List, [], ◌∷◌, length, All, subst, arith}
use Rattle.std.specs.List.{range_with_len, filter, filter_map, cons_option}
use Rattle.std.proofs.lemmas.List.Elements.{All-nil, All-cons, All-head, All-tail, All-map, All-filter}
use Rattle.tb_types.specs.declared.location.World.{World}
use Rattle.ring_assembly.specs.Nesting.{numbers, ring_at, depth_of, outer_of, is_number, inners_at, polygon_at, nested}
use Rattle.ring_assembly.specs.Counts.{IsRing, IsArea}

all_range : (P : ℕ → Type 0) (a n : ℕ) → ((k : ℕ) → k < n → P (a + k)) → All P (range_with_len a n)
all_range P a zero h = All-nil P
all_range P a (suc n) h =
    let first : a + 0 ≡ a = omega arith in
    All-cons P a (range_with_len (a + 1) n) (subst P first (h 0 (omega arith))) (all_range P (a + 1) n (λ k l. let next : a + suc k ≡ a + 1 + k = omega arith in subst P next (h (suc k) (omega arith))))

module _ (rings : List (List World)) (are : All IsRing rings) where
  abbrev IsRingAt : ℕ → Type 0
  IsRingAt i = IsRing (ring_at rings i)

  all_numbers : All IsRingAt (numbers rings)
  all_numbers = all_range IsRingAt 0 (length rings) (λ k h. let z : k ≡ 0 + k = omega arith in subst IsRingAt z (are k [] h))

  inners_are : (i : ℕ) → All IsRing (inners_at rings i)
  unfolding inners_at
  inners_are i = All-map IsRing (ring_at rings) (filter (λ j. is_number (outer_of rings j) i) (numbers rings)) (All-filter (λ j. is_number (outer_of rings j) i) IsRingAt (numbers rings) all_numbers)

  listed_are : (is : List ℕ) → All IsRingAt is → All IsArea (filter_map (polygon_at rings) is)
  unfolding polygon_at
  listed_are [] h = All-nil IsArea
  listed_are (i ∷ is) h = here (depth_of rings i % 2 == 0) (listed_are is (All-tail IsRingAt i is h))
    where
      here : (b : Bool) → All IsArea (filter_map (polygon_at rings) is) → All IsArea (cons_option (cond b (Some (record { outer = ring_at rings i; inners = inners_at rings i })) None) (filter_map (polygon_at rings) is))
      here true more = All-cons IsArea (record { outer = ring_at rings i; inners = inners_at rings i }) (filter_map (polygon_at rings) is) (record { outer = All-head IsRingAt i is h; inners = inners_are i }) more
      here false more = more

  pub nested_are : All IsArea (nested rings)
  unfolding nested
  nested_are = listed_are (numbers rings) all_numbers
