-- An outline touches no column or row that it doesn't reach.
use Rattle.std.proofs.Common.{◌≡◌, ℕ, ◌+◌, ◌*◌, ◌<◌, ◌≤◌, Bool, true, false, not, ◌&&◌, cond, ◌⊎◌, inl, inr, ℤ, pos, ◌+ℤ◌, ◌-ℤ◌, ◌≤ℤ◌, ◌<ℤ◌, Some, None, option_and_then, List, [], ◌∷◌, All, filter_map, refl, sym, ap, ◌∙◌, arith}
use Rattle.std.specs.List.{cons_option}
use Rattle.std.specs.Prelude.{filter, int_lt}
use Rattle.std.proofs.lemmas.Int.{ints}
use Rattle.std.proofs.lemmas.List.Elements.{All-head, All-tail}
use Rattle.tb_types.specs.declared.location.Grid.{Grid}
use Rattle.strip_clip.specs.declared.axis.Axis.{Axis}
use Rattle.strip_clip.specs.declared.strip.Strip.{Strip}
use Rattle.strip_clip.specs.Axes.{along}
use Rattle.strip_clip.specs.Edges.{inside, meets}
use Rattle.strip_clip.specs.Cuts.{IsBetween}
use Rattle.tile_clip.specs.declared.edge.Edge.{Edge}
use Rattle.tile_clip.specs.declared.outline.RingEdges.{RingEdges}
use Rattle.tile_clip.specs.declared.outline.Outline.{Outline}
use Rattle.tile_clip.specs.declared.outline.Outline.TheVariants.{OnePoint, Paths, Polygons}
use Rattle.tile_clip.specs.Bounds.{IsEdgeWithin, AreRingsWithin, IsWithin}
use Rattle.tile_clip.specs.Outlines.{touches, some_edges, touching_rings, touching, is_nothing, strip_of}

-- an outline between two bounds doesn't touch a strip beyond them
apart_above : (a b lo low high : ℤ) → high <ℤ lo → lo ≤ℤ a → lo ≤ℤ b → (not (int_lt a low && int_lt b low) && not (int_lt high a && int_lt high b)) ≡ false
apart_above a b lo low high h j k = grind (arith, ints)

apart_below : (a b hi low high : ℤ) → hi <ℤ low → a ≤ℤ hi → b ≤ℤ hi → (not (int_lt a low && int_lt b low) && not (int_lt high a && int_lt high b)) ≡ false
apart_below a b hi low high h j k = grind (arith, ints)

module _ (axis : Axis) (lo hi low high : ℤ) (apart : (high <ℤ lo) ⊎ (hi <ℤ low)) where
  abbrev beyond : Strip
  beyond = record { axis = axis; lo = low; hi = high }

  not-meets : (p q : Grid) → IsBetween lo hi (along axis p) → IsBetween lo hi (along axis q) → meets beyond p q ≡ false
  not-meets p q h k = elim apart as (λ _. meets beyond p q ≡ false) [ inl less ↦ apart_above (along axis p) (along axis q) lo low high less h.low k.low | inr less ↦ apart_below (along axis p) (along axis q) hi low high less h.high k.high ]

  alone_is : (a b : Bool) → not (a && a) && not (b && b) ≡ not a && not b
  alone_is true b = refl
  alone_is false true = refl
  alone_is false false = refl

  not-inside : (p : Grid) → IsBetween lo hi (along axis p) → inside beyond p ≡ false
  not-inside p h = sym (alone_is (int_lt (along axis p) low) (int_lt high (along axis p))) ∙ not-meets p p h h

  edges-beyond : (es : List Edge) → All (IsEdgeWithin axis lo hi) es → filter (touches beyond) es ≡ []
  edges-beyond [] h = refl
  edges-beyond (e ∷ es) h =
      let here = All-head (IsEdgeWithin axis lo hi) e es h in
      ap (λ b. cond b (e ∷ filter (touches beyond) es) (filter (touches beyond) es)) (not-meets e.from e.to here.from here.to) ∙ edges-beyond es (All-tail (IsEdgeWithin axis lo hi) e es h)

  rings-beyond : (rings : RingEdges) → AreRingsWithin axis lo hi rings → touching_rings beyond rings ≡ None
  rings-beyond rings h = ap (λ es. option_and_then (λ outer. Some (record { outer = outer; inners = filter_map (λ inner. some_edges (filter (touches beyond) inner)) rings.inners })) (some_edges es)) (edges-beyond rings.outer h.outer)

  polygons-beyond : (polygons : List RingEdges) → All (AreRingsWithin axis lo hi) polygons → filter_map (touching_rings beyond) polygons ≡ []
  polygons-beyond [] h = refl
  polygons-beyond (rings ∷ polygons) h =
      ap (λ o. cons_option o (filter_map (touching_rings beyond) polygons)) (rings-beyond rings (All-head (AreRingsWithin axis lo hi) rings polygons h)) ∙ polygons-beyond polygons (All-tail (AreRingsWithin axis lo hi) rings polygons h)

  nothing-beyond : (outline : Outline) → IsWithin axis lo hi outline → is_nothing (touching beyond outline) ≡ true
  nothing-beyond (OnePoint p) h = ap (λ b. is_nothing (cond b (OnePoint p) (Paths []))) (not-inside p h)
  nothing-beyond (Paths es) h = ap (λ xs. is_nothing (Paths xs)) (edges-beyond es h)
  nothing-beyond (Polygons polygons) h = ap (λ xs. is_nothing (Polygons xs)) (polygons-beyond polygons h)

-- columns or rows before the first or behind the last that lie between its bounds
module _ (axis : Axis) (buffer : ℕ) (outline : Outline) (lo hi : ℤ) (within : IsWithin axis lo hi outline) where
  above : (at : ℕ) → (pos (4096 * at) +ℤ pos (4096 + buffer)) <ℤ lo → (pos (4096 * (at + 1)) +ℤ pos buffer) <ℤ lo
  above at h = omega (arith, ints)

  nothing-before : (at : ℕ) → (pos (4096 * at) +ℤ pos (4096 + buffer)) <ℤ lo → is_nothing (touching (strip_of axis buffer at 1) outline) ≡ true
  nothing-before at h = nothing-beyond axis lo hi (pos (4096 * at) -ℤ pos buffer) (pos (4096 * (at + 1)) +ℤ pos buffer) (inl (above at h)) outline within

  nothing-behind : (at : ℕ) → hi <ℤ (pos (4096 * at) -ℤ pos buffer) → is_nothing (touching (strip_of axis buffer at 1) outline) ≡ true
  nothing-behind at h = nothing-beyond axis lo hi (pos (4096 * at) -ℤ pos buffer) (pos (4096 * (at + 1)) +ℤ pos buffer) (inr h) outline within

  module _ (first count side : ℕ) (before : (at : ℕ) → at < first → (pos (4096 * at) +ℤ pos (4096 + buffer)) <ℤ lo) (after : (at : ℕ) → first + count ≤ at → at < side → hi <ℤ (pos (4096 * at) -ℤ pos buffer)) where
    pub unreached : (at : ℕ) → at < side → (at < first) ⊎ (first + count ≤ at) → is_nothing (touching (strip_of axis buffer at 1) outline) ≡ true
    unreached at inside which = elim which as (λ _. is_nothing (touching (strip_of axis buffer at 1) outline) ≡ true) [ inl h ↦ nothing-before at (before at h) | inr h ↦ nothing-behind at (after at h inside) ]
