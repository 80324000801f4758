-- Rows through which all edges of an area go straight have one piece, counted from their corners.
use Rattle.std.proofs.Common.{◌≡◌, ℕ, ◌+◌, ◌*◌, ◌<◌, ◌≤◌, Bool, true, false, ◌&&◌, ◌||◌, inl, inr, ℤ, pos, neg_ℤ, ◌+ℤ◌, ◌-ℤ◌, ◌<ℤ◌, None, option_and_then, List, [], ◌∷◌, ◌++◌, map, filter_map, refl, sym, ap, ◌∙◌, arith}
use Rattle.std.specs.Ordering.{int_eq}
use Rattle.std.specs.Prelude.{int_lt}
use Rattle.std.specs.List.{cons_option}
use Rattle.std.proofs.lemmas.Bool.{false≢true}
use Rattle.std.proofs.lemmas.Int.{ints}
use Rattle.std.proofs.lemmas.List.{map-append}
use Rattle.tb_types.specs.declared.location.Grid.{Grid}
use Rattle.strip_clip.specs.declared.axis.Axis.TheVariants.{Y}
use Rattle.strip_clip.specs.declared.strip.Strip.{Strip}
use Rattle.strip_clip.specs.Rings.{edge_points}
use Rattle.strip_clip.specs.Cleaning.{clean_ring}
use Rattle.strip_clip.specs.Cuts.{row, corner_of, relative, with_holes, some_area}
use Rattle.tile_clip.specs.declared.edge.Edge.{Edge}
use Rattle.tile_clip.specs.declared.outline.RingEdges.{RingEdges}
use Rattle.tile_clip.specs.declared.outline.Outline.{Outline}
use Rattle.tile_clip.specs.declared.outline.Outline.TheVariants.{OnePoint, Paths, Polygons}
use Rattle.tile_clip.specs.Outlines.{points_in, ring_cut, polygon_cut, row_cut, row_piece, strip_of}
use Rattle.tile_clip.specs.Pieces.{tile_at, with_tile, of_each}
use Rattle.tile_clip.specs.Steady.{runs_down, runs_up, are_steady, all_steady, is_polygon_steady, are_polygons_steady, is_steady, like_piece}
use Rattle.tile_clip.proofs.Giving.{of_each-same, of_each-nothing}
use Rattle.tile_clip.proofs.SideEdges.{at, and_first, and_second, or_cases, is_eq, is_lt, Runs, down_points, up_points}

from_low : (z : ℤ) (buffer : ℕ) → (z -ℤ pos buffer) -ℤ z ≡ neg_ℤ (pos buffer)
from_low z buffer = omega (arith, ints)

from_high : (z : ℤ) (buffer : ℕ) → (z +ℤ pos (4096 + buffer)) -ℤ z ≡ pos (4096 + buffer)
from_high z buffer = omega (arith, ints)

starts_before : (first y buffer : ℕ) (s : ℤ) → first ≤ y → s <ℤ (pos (4096 * first) -ℤ pos buffer) → s <ℤ (pos (4096 * y) -ℤ pos buffer)
starts_before first y buffer s h k = omega (arith, ints)

ends_behind : (end y buffer : ℕ) (t : ℤ) → y < end → (pos (4096 * end) +ℤ pos buffer) <ℤ t → (pos (4096 * y) +ℤ pos (4096 + buffer)) <ℤ t
ends_behind end y buffer t h k = omega (arith, ints)

module _ (z buffer x first count : ℕ) where
  abbrev rows : Strip
  rows = strip_of Y buffer first count

  abbrev corner : ℕ → Grid
  corner y = corner_of (tile_at z x y)

  -- the points of an edge in a row, counted from its corner
  abbrev edge_in : ℕ → Edge → List Grid
  edge_in y e = map (relative (corner y)) (edge_points (row (corner y) buffer) e.from e.to)

  abbrev aside : Edge → ℤ
  aside e = e.from.x -ℤ pos (4096 * x)

  abbrev upper : Edge → Grid
  upper e = at (aside e) (neg_ℤ (pos buffer))

  abbrev lower : Edge → Grid
  lower e = at (aside e) (pos (4096 + buffer))

  module _ (y : ℕ) (low : first ≤ y) (high : y < first + count) (e : Edge) where
    upper_is : relative (corner y) (at e.from.x (pos (4096 * y) -ℤ pos buffer)) ≡ upper e
    upper_is = ap (at (aside e)) (from_low (pos (4096 * y)) buffer)

    lower_is : relative (corner y) (at e.from.x (pos (4096 * y) +ℤ pos (4096 + buffer))) ≡ lower e
    lower_is = ap (at (aside e)) (from_high (pos (4096 * y)) buffer)

    runs_over : (from to : Grid) → from.x ≡ e.from.x → to.x ≡ e.from.x → (int_lt from.y rows.lo && int_lt rows.hi to.y) ≡ true → Runs e.from.x (pos (4096 * y) -ℤ pos buffer) (pos (4096 * y) +ℤ pos (4096 + buffer)) from to
    runs_over from to at_from at_to ends = record {
      from_x = at_from;
      to_x = at_to;
      start = starts_before first y buffer from.y low (is_lt from.y rows.lo (and_first (int_lt from.y rows.lo) (int_lt rows.hi to.y) ends));
      end = ends_behind (first + count) y buffer to.y high (is_lt rows.hi to.y (and_second (int_lt from.y rows.lo) (int_lt rows.hi to.y) ends));
    }

    down_in : runs_down rows e ≡ true → edge_in y e ≡ upper e ∷ lower e ∷ []
    unfolding runs_down
    down_in h =
        let ends = int_lt e.from.y rows.lo && int_lt rows.hi e.to.y in
        let runs = runs_over e.from e.to refl (sym (is_eq e.from.x e.to.x (and_first (int_eq e.from.x e.to.x) ends h))) (and_second (int_eq e.from.x e.to.x) ends h) in
        ap (map (relative (corner y))) (down_points (corner y) buffer e.from.x e.from e.to runs) ∙ ap (λ p. p ∷ relative (corner y) (at e.from.x (pos (4096 * y) +ℤ pos (4096 + buffer))) ∷ []) upper_is ∙ ap (λ p. upper e ∷ p ∷ []) lower_is

    up_in : runs_up rows e ≡ true → edge_in y e ≡ lower e ∷ upper e ∷ []
    unfolding runs_up
    up_in h =
        let ends = int_lt e.to.y rows.lo && int_lt rows.hi e.from.y in
        let runs = runs_over e.to e.from (sym (is_eq e.from.x e.to.x (and_first (int_eq e.from.x e.to.x) ends h))) refl (and_second (int_eq e.from.x e.to.x) ends h) in
        ap (map (relative (corner y))) (up_points (corner y) buffer e.from.x e.from e.to runs) ∙ ap (λ p. p ∷ relative (corner y) (at e.from.x (pos (4096 * y) -ℤ pos buffer)) ∷ []) lower_is ∙ ap (λ p. lower e ∷ p ∷ []) upper_is

  -- two of the rows
  module _ (y other : ℕ) (low : first ≤ y) (high : y < first + count) (low' : first ≤ other) (high' : other < first + count) where
    edge_same : (e : Edge) → (runs_down rows e || runs_up rows e) ≡ true → edge_in y e ≡ edge_in other e
    edge_same e h = elim (or_cases (runs_down rows e) (runs_up rows e) h) as (λ _. edge_in y e ≡ edge_in other e) [ inl down ↦ down_in y low high e down ∙ sym (down_in other low' high' e down) | inr up ↦ up_in y low high e up ∙ sym (up_in other low' high' e up) ]

    points_same : (es : List Edge) → are_steady rows es ≡ true → map (relative (corner y)) (points_in (row (corner y) buffer) es) ≡ map (relative (corner other)) (points_in (row (corner other) buffer) es)
    points_same [] h = refl
    points_same (e ∷ es) h =
        let here = and_first (runs_down rows e || runs_up rows e) (are_steady rows es) h in
        let rest = and_second (runs_down rows e || runs_up rows e) (are_steady rows es) h in
        map-append (relative (corner y)) (edge_points (row (corner y) buffer) e.from e.to) (points_in (row (corner y) buffer) es) ∙ ap (λ ps. ps ++ map (relative (corner y)) (points_in (row (corner y) buffer) es)) (edge_same e here) ∙ ap (λ ps. edge_in other e ++ ps) (points_same es rest) ∙ sym (map-append (relative (corner other)) (edge_points (row (corner other) buffer) e.from e.to) (points_in (row (corner other) buffer) es))

    ring_same : (outer : Bool) (es : List Edge) → are_steady rows es ≡ true → ring_cut (corner y) buffer outer es ≡ ring_cut (corner other) buffer outer es
    ring_same outer es h = ap (clean_ring outer) (points_same es h)

    inners_same : (inners : List (List Edge)) → all_steady rows inners ≡ true → filter_map (ring_cut (corner y) buffer false) inners ≡ filter_map (ring_cut (corner other) buffer false) inners
    inners_same [] h = refl
    inners_same (inner ∷ inners) h =
        ap (λ o. cons_option o (filter_map (ring_cut (corner y) buffer false) inners)) (ring_same false inner (and_first (are_steady rows inner) (all_steady rows inners) h)) ∙ ap (cons_option (ring_cut (corner other) buffer false inner)) (inners_same inners (and_second (are_steady rows inner) (all_steady rows inners) h))

    polygon_same : (rings : RingEdges) → is_polygon_steady rows rings ≡ true → polygon_cut (corner y) buffer rings ≡ polygon_cut (corner other) buffer rings
    polygon_same rings h =
        ap (option_and_then (λ outer. with_holes outer (filter_map (ring_cut (corner y) buffer false) rings.inners))) (ring_same true rings.outer (and_first (are_steady rows rings.outer) (all_steady rows rings.inners) h)) ∙ ap (λ holes. option_and_then (λ outer. with_holes outer holes) (ring_cut (corner other) buffer true rings.outer)) (inners_same rings.inners (and_second (are_steady rows rings.outer) (all_steady rows rings.inners) h))

    polygons_same : (polygons : List RingEdges) → are_polygons_steady rows polygons ≡ true → filter_map (polygon_cut (corner y) buffer) polygons ≡ filter_map (polygon_cut (corner other) buffer) polygons
    polygons_same [] h = refl
    polygons_same (rings ∷ polygons) h =
        ap (λ o. cons_option o (filter_map (polygon_cut (corner y) buffer) polygons)) (polygon_same rings (and_first (is_polygon_steady rows rings) (are_polygons_steady rows polygons) h)) ∙ ap (cons_option (polygon_cut (corner other) buffer rings)) (polygons_same polygons (and_second (is_polygon_steady rows rings) (are_polygons_steady rows polygons) h))

    row_same : (outline : Outline) → is_steady rows outline ≡ true → row_cut (corner y) buffer outline ≡ row_cut (corner other) buffer outline
    unfolding row_cut
    row_same (OnePoint p) h = absurd (false≢true h)
    row_same (Paths es) h = absurd (false≢true h)
    row_same (Polygons polygons) h = ap some_area (polygons_same polygons h)

  -- the pieces of such rows
  pub rows-alike : (outline : Outline) → 0 < count → is_steady rows outline ≡ true → of_each (row_piece z buffer x outline) first count ≡ of_each (like_piece z x (row_cut (corner first) buffer outline)) first count
  rows-alike outline some h = of_each-same (row_piece z buffer x outline) (like_piece z x (row_cut (corner first) buffer outline)) first count (λ y low high. ap (with_tile (tile_at z x y)) (row_same y first low high (omega arith) (omega arith) outline h))

pub like-none : (z x first count : ℕ) → of_each (like_piece z x None) first count ≡ []
like-none z x first count = of_each-nothing (like_piece z x None) first count (λ y low high. refl)
