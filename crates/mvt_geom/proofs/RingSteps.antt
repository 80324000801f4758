-- The polygons of rings are read one ring after another.
use Rattle.std.proofs.Common.{◌≡◌, ℤ, pos, ◌<ℤ◌, ◌≤ℤ◌, true, false, Option, None, Some, List, [], ◌∷◌, ◌++◌, refl, sym, ap, ◌∙◌, arith, append_assoc}
use Rattle.std.specs.Prelude.{int_lt}
use Rattle.std.proofs.lemmas.Int.{ints}
use Rattle.tb_types.specs.declared.location.Grid.{Grid}
use Rattle.tb_types.specs.declared.shape.GridPolygon.{GridPolygon}
use Rattle.mvt_geom.specs.declared.polygons.Pending.{Pending}
use Rattle.mvt_geom.specs.Options.{◌>>=◌}
use Rattle.tb_types.specs.Clean.{doubled_area}
use Rattle.mvt_geom.specs.Rings.{polygon, polygons_from}
use Rattle.mvt_geom.specs.Walks.{with_prefix, polygons_behind, GoesOn}

pub lt_true : (a b : ℤ) → a <ℤ b → int_lt a b ≡ true
lt_true a b h = grind (arith, ints)

pub lt_false : (a b : ℤ) → b ≤ℤ a → int_lt a b ≡ false
lt_false a b h = grind (arith, ints)

one_more : (whole : List GridPolygon) (g : GridPolygon) (r : Option (List GridPolygon)) → with_prefix whole (r >>= λ later. Some (g ∷ later)) ≡ with_prefix (whole ++ g ∷ []) r
one_more whole g None = refl
one_more whole g (Some later) = rw append_assoc refl

-- a ring of positive area ends the polygon before it
pub goes-outer : (pending next : Pending) (ring : List Grid) (area : ℤ) → area ≡ doubled_area ring → pos 0 <ℤ area → next.whole ≡ pending.whole ++ polygon pending.outer pending.inners ∷ [] → next.outer ≡ ring → next.inners ≡ [] → GoesOn pending ring (Some next)
goes-outer pending next ring area is positive whole outer inners rings =
    let e : int_lt (pos 0) (doubled_area ring) ≡ true = rw is at (lt_true (pos 0) area positive) in
    let step : polygons_behind pending (ring ∷ rings) ≡ with_prefix (pending.whole ++ polygon pending.outer pending.inners ∷ []) (polygons_from ring [] rings) =
    rw e (one_more pending.whole (polygon pending.outer pending.inners) (polygons_from ring [] rings)) in
    step ∙ sym (λ i. with_prefix (whole i) (polygons_from (outer i) (inners i) rings))

-- one of negative area is inner to it
pub goes-inner : (pending next : Pending) (ring : List Grid) (area : ℤ) → area ≡ doubled_area ring → area <ℤ pos 0 → next.whole ≡ pending.whole → next.outer ≡ pending.outer → next.inners ≡ pending.inners ++ ring ∷ [] → GoesOn pending ring (Some next)
goes-inner pending next ring area is negative whole outer inners rings =
    let e : int_lt (pos 0) (doubled_area ring) ≡ false = rw is at (lt_false (pos 0) area (omega (arith, ints, negative))) in
    let f : int_lt (doubled_area ring) (pos 0) ≡ true = rw is at (lt_true area (pos 0) negative) in
    let step : polygons_behind pending (ring ∷ rings) ≡ with_prefix pending.whole (polygons_from pending.outer (pending.inners ++ ring ∷ []) rings) = rw (e, f) refl in
    step ∙ sym (λ i. with_prefix (whole i) (polygons_from (outer i) (inners i) rings))

-- and another is none
pub goes-none : (pending : Pending) (ring : List Grid) (area : ℤ) → area ≡ doubled_area ring → area ≤ℤ pos 0 → pos 0 ≤ℤ area → GoesOn pending ring None
goes-none pending ring area is low high rings =
    let e : int_lt (pos 0) (doubled_area ring) ≡ false = rw is at (lt_false (pos 0) area low) in
    let f : int_lt (doubled_area ring) (pos 0) ≡ false = rw is at (lt_false area (pos 0) high) in
    rw (e, f) refl

-- the last polygon
pub goes-end : (pending : Pending) (rings : List (List Grid)) → rings ≡ [] → polygons_behind pending rings ≡ Some (pending.whole ++ polygon pending.outer pending.inners ∷ [])
goes-end pending rings none = ap (polygons_behind pending) none
