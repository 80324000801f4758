-- The needs of kept relations, one by one.
use Rattle.std.proofs.Common.{◌≡◌, ℕ, ◌+◌, ◌-◌, ◌<◌, ◌^◌, min, Option, None, Some, List, [], ◌∷◌, ◌++◌, length, take, get_or, map, filter_map, refl, sym, ap, ◌∙◌, arith}
use Rattle.std.specs.Prelude.{max, sum_by}
use Rattle.std.specs.List.{cons_option}
use Rattle.std.proofs.lemmas.List.{take_more, map-append}
use Rattle.std.proofs.lemmas.List.Elements.{filter_map-append}
use Rattle.std.proofs.lemmas.List.Sums.{sum_by-append}
use Rattle.tb_types.specs.Needs.{relation_need}
use Rattle.tb_types.specs.declared.element.OsmId.{OsmId}
use Rattle.ring_assembly.specs.declared.way.WayShape.{WayShape}
use Rattle.member_sets.specs.declared.kept.KeptRelation.{KeptRelation}
use Rattle.tile_model.specs.Needs.{largest, member_points}
use Rattle.pass_shapes.specs.Kept.{points_if, points_at, needs_of}

-- the points of the ways of these ids
abbrev pub points_of : (OsmId → Option WayShape) → List OsmId → ℕ
points_of shape_at ids = sum_by (λ (w : WayShape). length w.points) (filter_map shape_at ids)

one-way : (o : Option WayShape) → sum_by (λ (w : WayShape). length w.points) (cons_option o []) ≡ points_if o
one-way None = refl
one-way (Some w) = omega arith

points-last : (shape_at : OsmId → Option WayShape) (ids : List OsmId) (i : ℕ) (d : OsmId) → i < length ids → points_of shape_at (take (i + 1) ids) ≡ points_of shape_at (take i ids) + points_at shape_at (get_or ids i d)
points-last shape_at ids i d more =
    ap (points_of shape_at) (take_more ids i d more)
    ∙ (ap (sum_by (λ (w : WayShape). length w.points)) (filter_map-append shape_at (take i ids) (get_or ids i d ∷ []))
    ∙ (sum_by-append (λ (w : WayShape). length w.points) (filter_map shape_at (take i ids)) (filter_map shape_at (get_or ids i d ∷ []))
    ∙ ap (λ n. points_of shape_at (take i ids) + n) (one-way (shape_at (get_or ids i d)))))

-- one way more, up to the largest number
pub points_next : (shape_at : OsmId → Option WayShape) (ids : List OsmId) (i count more new : ℕ) (d : OsmId) → i < length ids → count ≡ min (points_of shape_at (take i ids)) (2 ^ 64 - 1) → more ≡ points_at shape_at (get_or ids i d)
    → new ≡ min (count + more) (2 ^ 64 - 1) → new ≡ min (points_of shape_at (take (i + 1) ids)) (2 ^ 64 - 1)
points_next shape_at ids i count more new d within is each sum =
    let last = points-last shape_at ids i d within in
    omega (arith, is, each, sum, last)

largest-last : (ns : List ℕ) (n : ℕ) → largest (ns ++ n ∷ []) ≡ max (largest ns) n
largest-last [] n = omega arith
largest-last (m ∷ ns) n = let rest = largest-last ns n in omega (arith, rest)

pub largest_next : (shape_at : OsmId → Option WayShape) (kept : List KeptRelation) (i most need new : ℕ) (d : KeptRelation) → i < length kept → most ≡ largest (needs_of shape_at (take i kept))
    → need ≡ relation_need (member_points shape_at (get_or kept i d).members) → new ≡ max most need → new ≡ largest (needs_of shape_at (take (i + 1) kept))
largest_next shape_at kept i most need new d within is one next =
    let f : KeptRelation → ℕ = λ k. relation_need (member_points shape_at k.members) in
    next ∙ ((λ j. max (is j) (one j)) ∙ (sym (largest-last (needs_of shape_at (take i kept)) (f (get_or kept i d)))
    ∙ (ap largest (sym (map-append f (take i kept) (get_or kept i d ∷ []))) ∙ ap (λ ks. largest (needs_of shape_at ks)) (sym (take_more kept i d within)))))

-- a number of points above the last number of 64 bits needs as much as that
pub need-least : (shape_at : OsmId → Option WayShape) (ids read : List OsmId) (points : ℕ) → read ≡ ids → points ≡ min (member_points shape_at read) (2 ^ 64 - 1) → relation_need points ≡ relation_need (member_points shape_at ids)
need-least shape_at ids read points same is =
    let sum : points ≡ min (member_points shape_at ids) (2 ^ 64 - 1) = is ∙ ap (λ xs. min (member_points shape_at xs) (2 ^ 64 - 1)) same in
    omega (arith, sum)
