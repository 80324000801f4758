-- What is left of an outline is the cut of its shape, and rests on the edges alone that touch.
use Rattle.std.proofs.Common.{◌≡◌, ℕ, Bool, true, false, not, ◌&&◌, ◌||◌, cond, ℤ, ◌≤ℤ◌, Option, Some, None, option_and_then, List, [], ◌∷◌, ◌++◌, map, filter_map, refl, sym, ap, ◌∙◌, arith}
use Rattle.std.specs.List.{cons_option}
use Rattle.std.specs.Prelude.{flat_map, filter, int_lt}
use Rattle.std.proofs.lemmas.Int.{ints}
use Rattle.tb_types.specs.declared.location.Grid.{Grid}
use Rattle.tb_types.specs.declared.shape.Shape.{Shape}
use Rattle.tb_types.specs.declared.shape.Shape.TheVariants.{Point, Line, Area}
use Rattle.tb_types.specs.declared.shape.GridPolygon.{GridPolygon}
use Rattle.strip_clip.specs.declared.axis.Axis.{Axis}
use Rattle.strip_clip.specs.declared.strip.Strip.{Strip}
use Rattle.strip_clip.specs.Axes.{along}
use Rattle.strip_clip.specs.Edges.{below, above, inside, meets, reach}
use Rattle.strip_clip.specs.Lines.{line_paths}
use Rattle.strip_clip.specs.Rings.{edge_points, ring_points}
use Rattle.strip_clip.specs.Cleaning.{clean_paths, clean_ring}
use Rattle.strip_clip.specs.Cuts.{column, row, corner_of, relative, cut_line, cut_ring, with_holes, cut_polygon, some_line, some_area, cut_at, cut_of}
use Rattle.tile_clip.specs.declared.edge.Edge.{Edge}
use Rattle.tile_clip.specs.declared.outline.RingEdges.{RingEdges}
use Rattle.tile_clip.specs.declared.outline.Outline.{Outline}
use Rattle.tile_clip.specs.declared.outline.Outline.TheVariants.{OnePoint, Paths, Polygons}
use Rattle.tile_clip.specs.Pieces.{tile_at}
use Rattle.tile_clip.specs.Outlines.{is_empty, path_edges, ring_edges, polygon_edges, outline_of, touches, some_edges, touching_rings, touching, is_nothing, edge_part, points_in, ring_in, rings_in, outline_in, paths_of, ring_cut, polygon_cut, paths_cut, row_cut, tile_cut}
use Rattle.tile_clip.proofs.EdgeLists.{points-ring_edges, parts-paths, clean-paths_of}

-- the cut of a shape
module _ (corner : Grid) (buffer : ℕ) where
  abbrev col : Strip
  col = column corner buffer

  place_case : (i : Bool) (p : Grid) → row_cut corner buffer (cond i (OnePoint p) (Paths [])) ≡ cond (i && inside (row corner buffer) p) (Some (Point (relative corner p))) None
  unfolding row_cut
  place_case true p = refl
  place_case false p = refl

  paths_case : (paths : List (List Grid)) → row_cut corner buffer (Paths (filter_map (edge_part col) (flat_map path_edges paths))) ≡ some_line (cut_line corner buffer paths)
  unfolding row_cut cut_line
  paths_case paths =
      let in_column = flat_map (line_paths col) paths in
      ap (λ es. some_line (paths_cut corner buffer es)) (parts-paths col paths) ∙ ap (λ es. some_line (clean_paths (map (map (relative corner)) (paths_of es)))) (parts-paths (row corner buffer) in_column) ∙ ap some_line (clean-paths_of (relative corner) (flat_map (line_paths (row corner buffer)) in_column))

  ring_case : (outer : Bool) (ring : List Grid) → ring_cut corner buffer outer (ring_in col (ring_edges ring)) ≡ cut_ring corner buffer outer ring
  unfolding cut_ring
  ring_case outer ring =
      ap (λ ps. clean_ring outer (map (relative corner) ps)) (points-ring_edges (row corner buffer) (points_in col (ring_edges ring)) ∙ ap (ring_points (row corner buffer)) (points-ring_edges col ring))

  inners_case : (inners : List (List Grid)) → filter_map (ring_cut corner buffer false) (map (ring_in col) (map ring_edges inners)) ≡ filter_map (cut_ring corner buffer false) inners
  inners_case [] = refl
  inners_case (inner ∷ inners) = ap (λ o. cons_option o (filter_map (ring_cut corner buffer false) (map (ring_in col) (map ring_edges inners)))) (ring_case false inner) ∙ ap (cons_option (cut_ring corner buffer false inner)) (inners_case inners)

  polygon_case : (polygon : GridPolygon) → polygon_cut corner buffer (rings_in col (polygon_edges polygon)) ≡ cut_polygon corner buffer polygon
  unfolding cut_polygon
  polygon_case polygon =
      ap (λ holes. option_and_then (λ outer. with_holes outer holes) (ring_cut corner buffer true (ring_in col (ring_edges polygon.outer)))) (inners_case polygon.inners) ∙ ap (option_and_then (λ outer. with_holes outer (filter_map (cut_ring corner buffer false) polygon.inners))) (ring_case true polygon.outer)

  polygons_case : (polygons : List GridPolygon) → filter_map (polygon_cut corner buffer) (map (rings_in col) (map polygon_edges polygons)) ≡ filter_map (cut_polygon corner buffer) polygons
  polygons_case [] = refl
  polygons_case (polygon ∷ polygons) = ap (λ o. cons_option o (filter_map (polygon_cut corner buffer) (map (rings_in col) (map polygon_edges polygons)))) (polygon_case polygon) ∙ ap (cons_option (cut_polygon corner buffer polygon)) (polygons_case polygons)

  left-cut : (shape : Shape) → row_cut corner buffer (outline_in col (outline_of shape)) ≡ cut_at corner buffer shape
  unfolding row_cut
  left-cut (Point p) = place_case (inside col p) p
  left-cut (Line paths) = paths_case paths
  left-cut (Area polygons) = ap some_area (polygons_case polygons)

pub tile_cut-cut : (z buffer x y : ℕ) (shape : Shape) → tile_cut z buffer x y (outline_of shape) ≡ cut_of (tile_at z x y) buffer shape
unfolding cut_of
tile_cut-cut z buffer x y shape = left-cut (corner_of (tile_at z x y)) buffer shape

-- An edge that doesn't touch a strip doesn't touch a part of it.
still_apart : (a b lo hi low high : ℤ) → low ≤ℤ lo → hi ≤ℤ high → (not (int_lt a low && int_lt b low) && not (int_lt high a && int_lt high b)) ≡ false → (not (int_lt a lo && int_lt b lo) && not (int_lt hi a && int_lt hi b)) ≡ false
still_apart a b lo hi low high h k e = grind (arith, ints)

abbrev pub IsPart : Strip → Strip → Type 0
IsPart s t = (p q : Grid) → meets t p q ≡ false → meets s p q ≡ false

pub part : (axis : Axis) (lo hi low high : ℤ) → low ≤ℤ lo → hi ≤ℤ high → IsPart (record { axis = axis; lo = lo; hi = hi }) (record { axis = axis; lo = low; hi = high })
part axis lo hi low high h k = λ p q e. still_apart (along axis p) (along axis q) lo hi low high h k e

alone_is : (a b : Bool) → not (a && a) && not (b && b) ≡ not a && not b
alone_is true b = refl
alone_is false true = refl
alone_is false false = refl

pub outside_part : (s t : Strip) (p : Grid) → IsPart s t → inside t p ≡ false → inside s p ≡ false
outside_part s t p sub e = sym (alone_is (below s p) (above s p)) ∙ sub p p (alone_is (below t p) (above t p) ∙ e)

-- of lists
module _ {A B C : Type 0} where
  filter_map-map : (f : B → Option C) (g : A → B) (xs : List A) → filter_map f (map g xs) ≡ filter_map (λ x. f (g x)) xs
  filter_map-map f g [] = refl
  filter_map-map f g (x ∷ xs) = ap (cons_option (f (g x))) (filter_map-map f g xs)

  kept_case : (g : B → Option C) (x : A) (o : Option B) (rest : List B) (wanted : Option C) → option_and_then g o ≡ wanted → filter_map g (cons_option o rest) ≡ cons_option wanted (filter_map g rest)
  kept_case g x None rest wanted e = ap (λ w. cons_option w (filter_map g rest)) e
  kept_case g x (Some y) rest wanted e = ap (λ w. cons_option w (filter_map g rest)) e

  -- what is dropped first would give nothing
  filter_map-kept : (f : A → Option B) (g : B → Option C) (h : A → Option C) (xs : List A) → ((x : A) → option_and_then g (f x) ≡ h x) → filter_map g (filter_map f xs) ≡ filter_map h xs
  filter_map-kept f g h [] same = refl
  filter_map-kept f g h (x ∷ xs) same = kept_case g x (f x) (filter_map f xs) (h x) (same x) ∙ ap (cons_option (h x)) (filter_map-kept f g h xs same)

module _ (s t : Strip) (sub : IsPart s t) where
  points_case : (e : Edge) (es : List Edge) (m : Bool) → touches t e ≡ m → points_in s (cond m (e ∷ filter (touches t) es) (filter (touches t) es)) ≡ edge_points s e.from e.to ++ points_in s (filter (touches t) es)
  points_case e es true m = refl
  points_case e es false m = sym (ap (λ b. cond b (cond (inside s e.from) (reach s e.from e.to e.to ∷ []) (reach s e.from e.to e.from ∷ reach s e.from e.to e.to ∷ [])) [] ++ points_in s (filter (touches t) es)) (sub e.from e.to m))

  points-touching : (es : List Edge) → points_in s (filter (touches t) es) ≡ points_in s es
  points-touching [] = refl
  points-touching (e ∷ es) = points_case e es (touches t e) refl ∙ ap (λ xs. edge_points s e.from e.to ++ xs) (points-touching es)

  parts_case : (e : Edge) (es : List Edge) (m : Bool) → touches t e ≡ m → filter_map (edge_part s) (cond m (e ∷ filter (touches t) es) (filter (touches t) es)) ≡ cons_option (edge_part s e) (filter_map (edge_part s) (filter (touches t) es))
  parts_case e es true m = refl
  parts_case e es false m = sym (ap (λ b. cons_option (cond b (Some (record { from = reach s e.from e.to e.from; to = reach s e.from e.to e.to; last = e.last || not (inside s e.to) })) None) (filter_map (edge_part s) (filter (touches t) es))) (sub e.from e.to m))

  parts-touching : (es : List Edge) → filter_map (edge_part s) (filter (touches t) es) ≡ filter_map (edge_part s) es
  parts-touching [] = refl
  parts-touching (e ∷ es) = parts_case e es (touches t e) refl ∙ ap (cons_option (edge_part s e)) (parts-touching es)

-- what a strip leaves of rings, by what it leaves of one, where that rests on the edges alone that touch a wider strip
module _ (t : Strip) (ring : Bool → List Edge → Option (List Grid)) (same : (outer : Bool) (es : List Edge) → ring outer (filter (touches t) es) ≡ ring outer es) (none : (outer : Bool) → ring outer [] ≡ None) where
  abbrev by_ring : RingEdges → Option GridPolygon
  by_ring rings = option_and_then (λ outer. with_holes outer (filter_map (ring false) rings.inners)) (ring true rings.outer)

  some_case : (outer : Bool) (es : List Edge) → option_and_then (ring outer) (some_edges es) ≡ ring outer es
  some_case outer [] = sym (none outer)
  some_case outer (e ∷ es) = refl

  inners_kept : (inners : List (List Edge)) → filter_map (ring false) (filter_map (λ inner. some_edges (filter (touches t) inner)) inners) ≡ filter_map (ring false) inners
  inners_kept inners = filter_map-kept (λ inner. some_edges (filter (touches t) inner)) (ring false) (ring false) inners (λ inner. some_case false (filter (touches t) inner) ∙ same false inner)

  outer_case : (es : List Edge) (inners left : List (List Edge)) → filter_map (ring false) left ≡ filter_map (ring false) inners → option_and_then by_ring (option_and_then (λ outer. Some (record { outer = outer; inners = left })) (some_edges es)) ≡ option_and_then (λ outer. with_holes outer (filter_map (ring false) inners)) (ring true es)
  outer_case [] inners left e = sym (ap (option_and_then (λ outer. with_holes outer (filter_map (ring false) inners))) (none true))
  outer_case (x ∷ es) inners left e = ap (λ holes. option_and_then (λ outer. with_holes outer holes) (ring true (x ∷ es))) e

  rings_kept : (rings : RingEdges) → option_and_then by_ring (touching_rings t rings) ≡ by_ring rings
  rings_kept rings =
      outer_case (filter (touches t) rings.outer) rings.inners (filter_map (λ inner. some_edges (filter (touches t) inner)) rings.inners) (inners_kept rings.inners) ∙ ap (option_and_then (λ outer. with_holes outer (filter_map (ring false) rings.inners))) (same true rings.outer)

  polygons_kept : (polygons : List RingEdges) → filter_map by_ring (filter_map (touching_rings t) polygons) ≡ filter_map by_ring polygons
  polygons_kept polygons = filter_map-kept (touching_rings t) by_ring by_ring polygons rings_kept

module _ (corner : Grid) (buffer : ℕ) (t : Strip) where
  clean-none : (outer : Bool) → clean_ring outer [] ≡ None
  unfolding clean_ring
  clean-none outer = refl

  place_row : (i : Bool) (p : Grid) → IsPart (row corner buffer) t → inside t p ≡ i → row_cut corner buffer (cond i (OnePoint p) (Paths [])) ≡ row_cut corner buffer (OnePoint p)
  unfolding row_cut
  place_row true p sub e = refl
  place_row false p sub e = sym (ap (λ b. cond b (Some (Point (relative corner p))) None) (outside_part (row corner buffer) t p sub e))

  -- in a row
  pub row-touching : (outline : Outline) → IsPart (row corner buffer) t → row_cut corner buffer (touching t outline) ≡ row_cut corner buffer outline
  unfolding row_cut
  row-touching (OnePoint p) sub = place_row (inside t p) p sub refl
  row-touching (Paths es) sub = ap (λ xs. some_line (clean_paths (map (map (relative corner)) (paths_of xs)))) (parts-touching (row corner buffer) t sub es)
  row-touching (Polygons polygons) sub = ap some_area (polygons_kept t (ring_cut corner buffer) (λ outer es. ap (λ ps. clean_ring outer (map (relative corner) ps)) (points-touching (row corner buffer) t sub es)) clean-none polygons)

  module _ (s : Strip) (sub : IsPart s t) where
    abbrev in_both : Bool → List Edge → Option (List Grid)
    in_both outer es = ring_cut corner buffer outer (ring_in s es)

    by_both : (rings : RingEdges) → polygon_cut corner buffer (rings_in s rings) ≡ by_ring t in_both (λ outer es. ap (λ ps. ring_cut corner buffer outer (ring_edges ps)) (points-touching s t sub es)) clean-none rings
    by_both rings = ap (λ holes. option_and_then (λ outer. with_holes outer holes) (in_both true rings.outer)) (filter_map-map (ring_cut corner buffer false) (ring_in s) rings.inners)

    both_each : (polygons : List RingEdges) → filter_map (polygon_cut corner buffer) (map (rings_in s) polygons) ≡ filter_map (by_ring t in_both (λ outer es. ap (λ ps. ring_cut corner buffer outer (ring_edges ps)) (points-touching s t sub es)) clean-none) polygons
    both_each [] = refl
    both_each (rings ∷ polygons) = ap (λ o. cons_option o (filter_map (polygon_cut corner buffer) (map (rings_in s) polygons))) (by_both rings) ∙ ap (cons_option (by_ring t in_both (λ outer es. ap (λ ps. ring_cut corner buffer outer (ring_edges ps)) (points-touching s t sub es)) clean-none rings)) (both_each polygons)

    place_column : (i : Bool) (p : Grid) → inside t p ≡ i → outline_in s (cond i (OnePoint p) (Paths [])) ≡ outline_in s (OnePoint p)
    place_column true p e = refl
    place_column false p e = sym (ap (λ b. cond b (OnePoint p) (Paths [])) (outside_part s t p sub e))

    -- and in a column
    pub column-touching : (outline : Outline) → row_cut corner buffer (outline_in s (touching t outline)) ≡ row_cut corner buffer (outline_in s outline)
    unfolding row_cut
    column-touching (OnePoint p) = ap (row_cut corner buffer) (place_column (inside t p) p refl)
    column-touching (Paths es) = ap (λ xs. row_cut corner buffer (Paths xs)) (parts-touching s t sub es)
    column-touching (Polygons polygons) = ap some_area (both_each (filter_map (touching_rings t) polygons) ∙ polygons_kept t in_both (λ outer es. ap (λ ps. ring_cut corner buffer outer (ring_edges ps)) (points-touching s t sub es)) clean-none polygons ∙ sym (both_each polygons))

  -- of nothing nothing is left
  nothing-case : (es : List Edge) → is_empty es ≡ true → es ≡ []
  nothing-case [] e = refl
  nothing-case (x ∷ es) e = absurd (cc)

  nothing-rings : (polygons : List RingEdges) → is_empty polygons ≡ true → polygons ≡ []
  nothing-rings [] e = refl
  nothing-rings (x ∷ polygons) e = absurd (cc)

  pub row-nothing : (outline : Outline) → is_nothing outline ≡ true → row_cut corner buffer outline ≡ None
  unfolding row_cut
  row-nothing (OnePoint p) e = absurd (cc)
  row-nothing (Paths es) e = ap (λ xs. some_line (paths_cut corner buffer xs)) (nothing-case es e)
  row-nothing (Polygons polygons) e = ap (λ xs. some_area (filter_map (polygon_cut corner buffer) xs)) (nothing-rings polygons e)

  pub column-nothing : (s : Strip) (outline : Outline) → is_nothing outline ≡ true → row_cut corner buffer (outline_in s outline) ≡ None
  unfolding row_cut
  column-nothing s (OnePoint p) e = absurd (cc)
  column-nothing s (Paths es) e = ap (λ xs. some_line (paths_cut corner buffer (filter_map (edge_part s) xs))) (nothing-case es e)
  column-nothing s (Polygons polygons) e = ap (λ xs. some_area (filter_map (polygon_cut corner buffer) (map (rings_in s) xs))) (nothing-rings polygons e)
