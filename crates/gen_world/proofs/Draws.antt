-- Where draws stand in the sequence, and where nodes stand.
use Rattle.std.proofs.Common.{◌≡◌, ◌≢◌, ◌==◌, ◌<◌, ◌≤◌, ◌^◌, ℕ, ℤ, pos, ◌-ℤ◌, ◌≤ℤ◌, w32, to_z, of_z, ◌+◌, ◌-◌, ◌*◌, ◌%◌, ◌+ℤ◌, Bool, true, false, if◌then◌else◌, ap, sym, arith, refl, ◌∙◌}
use Rattle.std.proofs.lemmas.Int.{ints, to_z-of_z, to_z_pos}
use Rattle.std.specs.Prelude.{FitsSigned}
use Rattle.std.proofs.lemmas.Bool.{eqb-true, eqb-false, eq-eqb, ne_eqb}
use Rattle.gen_world.specs.declared.node.Spot.{Spot}
use Rattle.gen_world.specs.Numbers.{around}
use Rattle.gen_world.specs.Elements.{coordinate, way_draws, counts_of}
use Rattle.gen_world.specs.Places.{place_of, corner_of, IsNear}
use Rattle.gen_world.specs.Draws.{AreCounts}

pub ways_none : way_draws 0 ≡ 0
unfolding way_draws
ways_none = refl

-- the way draws nothing
pub ways_same : (id : ℕ) → id % 4 ≡ 3 → way_draws id ≡ way_draws (id - 1)
unfolding way_draws
ways_same id h = omega arith

pub ways_more : (id : ℕ) → 0 < id → id % 4 ≢ 3 → way_draws id ≡ way_draws (id - 1) + 1
unfolding way_draws
ways_more id some h = omega arith

-- what a way takes
pub ways_next : (id before : ℕ) → 0 < id → (if id % 4 == 3 then before + way_draws (id - 1) else before + way_draws (id - 1) + 1) ≡ before + way_draws id
ways_next id before some = by_test (id % 4 == 3) id before some refl where
  by_test : (b : Bool) (id before : ℕ) → 0 < id → (id % 4 == 3) ≡ b → (if b then before + way_draws (id - 1) else before + way_draws (id - 1) + 1) ≡ before + way_draws id
  by_test true id before some e = let same = ways_same id (eqb-true (id % 4) 3 e) in omega arith
  by_test false id before some e = let more = ways_more id some (eqb-false (id % 4) 3 e) in omega arith

-- the first node of a cluster
pub first_there : (seed i axis : ℕ) → i % 10 ≡ 0 → coordinate seed i axis ≡ around seed (3 * i + axis) 80000000
unfolding coordinate
first_there seed i axis h = let test : (i % 10 == 0) ≡ true = eq-eqb (i % 10) 0 h in rw test refl

-- another one
pub near_there : (seed i axis : ℕ) → i % 10 ≢ 0 → coordinate seed i axis ≡ coordinate seed (i - i % 10) axis +ℤ around seed (3 * i + axis) 1000000
unfolding coordinate
near_there seed i axis h =
    let other : (i % 10 == 0) ≡ false = ne_eqb (i % 10) 0 h in
    let first : (i - i % 10) % 10 ≡ 0 = omega arith in
    let test : ((i - i % 10) % 10 == 0) ≡ true = eq-eqb ((i - i % 10) % 10) 0 first in
    rw (other, test) refl

-- the corner with which the next node goes on
pub corner_kept : (seed i : ℕ) (spot corner : Spot) → spot ≡ place_of seed i → (i % 10 ≢ 0 → corner ≡ corner_of seed i) →
    (i + 1) % 10 ≢ 0 → (if i % 10 == 0 then spot else corner) ≡ corner_of seed (i + 1)
corner_kept seed i spot corner here kept inside = by_test (i % 10 == 0) seed i spot corner here kept inside refl where
  by_test : (b : Bool) (seed i : ℕ) (spot corner : Spot) → spot ≡ place_of seed i → (i % 10 ≢ 0 → corner ≡ corner_of seed i) →
      (i + 1) % 10 ≢ 0 → (i % 10 == 0) ≡ b → (if b then spot else corner) ≡ corner_of seed (i + 1)
  by_test true seed i spot corner here kept inside e =
      let first = eqb-true (i % 10) 0 e in
      let same : i ≡ i + 1 - (i + 1) % 10 = omega arith in
      here ∙ ap (place_of seed) same
  by_test false seed i spot corner here kept inside e =
      let other = eqb-false (i % 10) 0 e in
      let same : i - i % 10 ≡ i + 1 - (i + 1) % 10 = omega arith in
      kept other ∙ ap (place_of seed) same

pub near_kept : (i : ℕ) (spot corner : Spot) → (i % 10 ≡ 0 → IsNear spot) → IsNear corner → IsNear (if i % 10 == 0 then spot else corner)
near_kept i spot corner here kept = by_test (i % 10 == 0) i spot corner here kept refl where
  by_test : (b : Bool) (i : ℕ) (spot corner : Spot) → (i % 10 ≡ 0 → IsNear spot) → IsNear corner → (i % 10 == 0) ≡ b → IsNear (if b then spot else corner)
  by_test true i spot corner here kept e = here (eqb-true (i % 10) 0 e)
  by_test false i spot corner here kept e = kept

pub spot_is : (seed i : ℕ) (spot : Spot) → spot.lat ≡ coordinate seed i 1 → spot.lon ≡ coordinate seed i 2 → spot ≡ place_of seed i
spot_is seed i spot lat lon =
    let make : ℤ → ℤ → Spot = λ a b. record { lat = a; lon = b } in
    ap (λ a. make a spot.lon) lat ∙ ap (λ b. make (coordinate seed i 1) b) lon

-- a coordinate of the first node of a cluster, as it was drawn
pub first_is : (seed own i n axis : ℕ) (z : ℤ) → i % 10 ≡ 0 → own ≡ seed → n ≡ 3 * i + axis → z ≡ around own n 80000000 → z ≡ coordinate seed i axis
first_is seed own i n axis z first same at drawn =
    drawn ∙ ap (λ s. around s n 80000000) same ∙ ap (λ m. around seed m 80000000) at ∙ sym (first_there seed i axis first)

-- a coordinate of another one
pub near_is : (seed own i n axis : ℕ) (z from by : ℤ) → i % 10 ≢ 0 → own ≡ seed → n ≡ 3 * i + axis → by ≡ around own n 1000000 →
    from ≡ coordinate seed (i - i % 10) axis → z ≡ from +ℤ by → z ≡ coordinate seed i axis
near_is seed own i n axis z from by other same at drawn corner moved =
    moved ∙ ap (λ x. x +ℤ by) corner
    ∙ ap (λ x. coordinate seed (i - i % 10) axis +ℤ x) (drawn ∙ ap (λ s. around s n 1000000) same ∙ ap (λ m. around seed m 1000000) at)
    ∙ sym (near_there seed i axis other)

-- signed numbers as they are stored
pub near_fits : (a : ℤ) → (pos 0 -ℤ pos 80000000) ≤ℤ a → a ≤ℤ pos 80000000 → FitsSigned w32 a
near_fits a low high = omega (arith, ints)

pub small_fits : (a : ℤ) → (pos 0 -ℤ pos 1000000) ≤ℤ a → a ≤ℤ pos 1000000 → FitsSigned w32 a
small_fits a low high = omega (arith, ints)

pub sum_fits : (a b : ℤ) → (pos 0 -ℤ pos 80000000) ≤ℤ a → a ≤ℤ pos 80000000 → (pos 0 -ℤ pos 1000000) ≤ℤ b → b ≤ℤ pos 1000000 → FitsSigned w32 (a +ℤ b)
sum_fits a b low high lower higher = omega (arith, ints)

pub stored_sum : (a b : ℤ) → FitsSigned w32 a → FitsSigned w32 b → FitsSigned w32 (a +ℤ b) →
    to_z w32 (of_z w32 (to_z w32 (of_z w32 a) +ℤ to_z w32 (of_z w32 b))) ≡ a +ℤ b
stored_sum a b p q r =
    ap (λ x. to_z w32 (of_z w32 (x +ℤ to_z w32 (of_z w32 b)))) (to_z-of_z w32 a p)
    ∙ ap (λ x. to_z w32 (of_z w32 (a +ℤ x))) (to_z-of_z w32 b q) ∙ to_z-of_z w32 (a +ℤ b) r

pub stored_difference : (n m : ℕ) → n < 2 ^ 31 → m < 2 ^ 31 → to_z w32 (of_z w32 (to_z w32 n -ℤ to_z w32 m)) ≡ pos n -ℤ pos m
stored_difference n m h k =
    let fits : FitsSigned w32 (pos n -ℤ pos m) = omega (arith, ints) in
    ap (λ x. to_z w32 (of_z w32 (x -ℤ to_z w32 m))) (to_z_pos w32 n h)
    ∙ ap (λ x. to_z w32 (of_z w32 (pos n -ℤ x))) (to_z_pos w32 m k) ∙ to_z-of_z w32 (pos n -ℤ pos m) fits

-- the numbers of elements
pub counts_are : (count : ℕ) → 100 ≤ count → count ≤ 10000000 → AreCounts (counts_of count)
unfolding counts_of
counts_are count least most = record { cluster = omega arith; nodes = omega arith; ring = omega arith; ways = omega arith; relations = omega arith }

pub draws_few : (ways : ℕ) → way_draws ways ≤ ways
unfolding way_draws
draws_few ways = omega arith
