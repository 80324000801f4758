-- Assembled rings are rings, and have no more points than the ways.
use Rattle.std.proofs.Common.{◌≡◌, ℕ, zero, suc, ◌+◌, ◌-◌, ◌<◌, ◌≤◌, ◌==◌, ◌||◌, nat_lt, Option, Some, None, IfSome, List, [], ◌∷◌, ◌++◌, length, take, drop, reverse, length-append, length-take, length-drop, All, refl, le_refl, arith}
use Rattle.std.specs.List.{cons_option}
use Rattle.std.proofs.lemmas.Bool.{cond_both, or_parts, ltb-false, eqb-false}
use Rattle.std.proofs.lemmas.List.{length-reverse}
use Rattle.std.proofs.lemmas.List.Elements.{All-nil, All-cons}
use Rattle.tb_types.specs.declared.location.World.{World}
use Rattle.tb_types.specs.declared.element.OsmId.{OsmId}
use Rattle.ring_assembly.specs.declared.way.WayShape.{WayShape}
use Rattle.tb_types.specs.Points.{same, distinct_after, unclosed}
use Rattle.ring_assembly.specs.Rings.{x_of, y_of, distinct_ring, absolute_doubled_area, clean_ring}
use Rattle.ring_assembly.specs.Chains.{Chain, same_node, is_closed, chain_of, fits, extended, keeping, first_fit, if_found, grown, ring_of, rings_of, assembled}
use Rattle.ring_assembly.specs.Counts.{IsRing, points_of_ways, points_of_rings}

-- a ring that is made of some points
pub record IsRingOf (most : ℕ) (ring : List World) : Type 0 where
  pub kept : IsRing ring
  pub few : length ring ≤ most

fewer_distinct : (p : World) (rest : List World) → length (distinct_after x_of y_of p rest) ≤ length rest
fewer_distinct p [] = le_refl 0
fewer_distinct p (q ∷ rest) = cond_both (same x_of y_of p q) (distinct_after x_of y_of p rest) (q ∷ distinct_after x_of y_of q rest) (λ l. length l ≤ suc (length rest)) (λ _. omega (arith, fewer_distinct p rest)) (λ _. omega (arith, fewer_distinct q rest))

fewer_unclosed : (first : World) (points : List World) → length (unclosed x_of y_of first points) ≤ length points
fewer_unclosed first [] = le_refl 0
fewer_unclosed first (p ∷ []) = cond_both (same x_of y_of first p) [] (p ∷ []) (λ l. length l ≤ 1) (λ _. omega arith) (λ _. omega arith)
fewer_unclosed first (p ∷ q ∷ rest) = let more = fewer_unclosed first (q ∷ rest) in omega arith

fewer_ring : (points : List World) → length (distinct_ring points) ≤ length points
fewer_ring [] = le_refl 0
fewer_ring (p ∷ rest) = omega (arith, fewer_unclosed p (distinct_after x_of y_of p rest), fewer_distinct p rest)

clean_is : (points : List World) → IfSome (clean_ring points) (IsRingOf (length points))
unfolding clean_ring
clean_is points =
    let ring = distinct_ring points in
    cond_both (nat_lt (length ring) 3 || (absolute_doubled_area ring == 0)) None (Some ring) (λ o. IfSome o (IsRingOf (length points))) (λ _. tt) (λ kept.
    let parts = or_parts (nat_lt (length ring) 3) (absolute_doubled_area ring == 0) kept in
    let long : 3 ≤ length ring = ltb-false (length ring) 3 parts.0 in
    let wide : 0 < absolute_doubled_area ring = positive (absolute_doubled_area ring) (eqb-false (absolute_doubled_area ring) 0 parts.1) in
    record { kept = record { points = long; area = wide }; few = fewer_ring points })
  where
    positive : (n : ℕ) → (n ≡ 0 → ⊥) → 0 < n
    positive zero h = absurd (h refl)
    positive (suc n) h = omega arith

ring_is : (chain : Chain) → IfSome (ring_of chain) (IsRingOf (length chain.points))
unfolding ring_of
ring_is chain = cond_both (is_closed chain) (clean_ring (take (length chain.points - 1) chain.points)) None (λ o. IfSome o (IsRingOf (length chain.points))) (λ _. wider (clean_ring (take (length chain.points - 1) chain.points)) (clean_is (take (length chain.points - 1) chain.points))) (λ _. tt)
  where
    wider : (o : Option (List World)) → IfSome o (IsRingOf (length (take (length chain.points - 1) chain.points))) → IfSome o (IsRingOf (length chain.points))
    wider None h = tt
    wider (Some ring) h = record { kept = h.kept; few = omega (arith, h.few, length-take (length chain.points - 1) chain.points) }

-- a way that was found has its points among those of the unused ways
abbrev HasPoints : List WayShape → Option (WayShape × List WayShape) → Type 0
HasPoints unused o = IfSome o (λ found. points_of_ways unused ≡ length found.0.points + points_of_ways found.1)

found_points : (node : OsmId) (unused : List WayShape) → HasPoints unused (first_fit node unused)
found_points node [] = tt
found_points node (w ∷ ws) = cond_both (fits node w) (Some (w, ws)) (keeping w (first_fit node ws)) (HasPoints (w ∷ ws)) (λ _. refl) (λ _. behind (first_fit node ws) (found_points node ws))
  where
    behind : (o : Option (WayShape × List WayShape)) → HasPoints ws o → HasPoints (w ∷ ws) (keeping w o)
    behind None h = tt
    behind (Some found) h = omega (arith, h)

extended_points : (chain : Chain) (way : WayShape) → length (extended chain way).points ≤ length chain.points + length way.points
extended_points chain way =
    cond_both (same_node chain.end way.first) (record { start = chain.start; end = way.last; points = chain.points ++ drop 1 way.points }) (record { start = chain.start; end = way.first; points = chain.points ++ drop 1 (reverse way.points) })
    (λ (c : Chain). length c.points ≤ length chain.points + length way.points)
    (λ _. omega (arith, length-append chain.points (drop 1 way.points), length-drop 1 way.points))
    (λ _. omega (arith, length-append chain.points (drop 1 (reverse way.points)), length-drop 1 (reverse way.points), length-reverse way.points))

-- a chain and what it leaves have no more points than there were
abbrev points_in : Chain × List WayShape → ℕ
points_in x = length x.0.points + points_of_ways x.1

grown_points : (most : ℕ) (chain : Chain) (unused : List WayShape) → points_in (grown most chain unused) ≤ length chain.points + points_of_ways unused
unfolding grown
grown_points zero chain unused = le_refl (length chain.points + points_of_ways unused)
grown_points (suc most) chain unused =
    cond_both (is_closed chain) (chain, unused) (if_found (first_fit chain.end unused) (chain, unused) (λ way rest. grown most (extended chain way) rest)) (λ (x : Chain × List WayShape). points_in x ≤ length chain.points + points_of_ways unused)
    (λ _. le_refl (length chain.points + points_of_ways unused)) (λ _. step (first_fit chain.end unused) (found_points chain.end unused) (λ next rest. grown_points most next rest))
  where
    step : (o : Option (WayShape × List WayShape)) → HasPoints unused o → ((next : Chain) (rest : List WayShape) → points_in (grown most next rest) ≤ length next.points + points_of_ways rest) → points_in (if_found o (chain, unused) (λ way rest. grown most (extended chain way) rest)) ≤ length chain.points + points_of_ways unused
    step None h more = le_refl (length chain.points + points_of_ways unused)
    step (Some found) h more = omega (arith, more (extended chain found.0) found.1, extended_points chain found.0, h)

pub record AreRings (most : ℕ) (rings : List (List World)) : Type 0 where
  pub all : All IsRing rings
  pub few : points_of_rings rings ≤ most

rings_are : (most : ℕ) (unused : List WayShape) → AreRings (points_of_ways unused) (rings_of most unused)
unfolding rings_of
rings_are zero unused = record { all = All-nil IsRing; few = omega arith }
rings_are (suc most) [] = record { all = All-nil IsRing; few = omega arith }
rings_are (suc most) (way ∷ unused) =
    let chain = grown (length unused) (chain_of way) unused in
    one (ring_of chain.0) (length chain.0.points) (points_of_ways chain.1) (ring_is chain.0) (rings_of most chain.1) (rings_are most chain.1) (grown_points (length unused) (chain_of way) unused)
  where
    one : (o : Option (List World)) (m n : ℕ) → IfSome o (IsRingOf m) → (rings : List (List World)) → AreRings n rings → m + n ≤ length way.points + points_of_ways unused → AreRings (points_of_ways (way ∷ unused)) (cons_option o rings)
    one None m n h rings more bound = record { all = more.all; few = omega (arith, more.few, bound) }
    one (Some ring) m n h rings more bound = record { all = All-cons IsRing ring rings h.kept more.all; few = omega (arith, h.few, more.few, bound) }

pub assembled_are : (ways : List WayShape) → AreRings (points_of_ways ways) (assembled ways)
unfolding assembled
assembled_are ways = rings_are (length ways) ways
