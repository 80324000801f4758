-- What holds of all paths, or of all rings of polygons, after clean-up.
use Rattle.std.proofs.Common.{List, [], ◌∷◌, ◌++◌, All}
use Rattle.std.proofs.lemmas.List.Elements.{All-head, All-tail, All-cons, All-nil}
use Rattle.tb_types.specs.declared.location.Grid.{Grid}
use Rattle.tb_types.specs.declared.shape.GridPolygon.{GridPolygon}
use Rattle.tb_types.specs.Clean.{IsPath, IsOuter, IsInner, IsPolygon}
use Rattle.mvt_geom.specs.Text.{rings_of}

module _ (Fits : Grid → Type 0) (P : List Grid → Type 0) where
  pub all_paths : ((path : List Grid) → IsPath Fits path → P path) → (paths : List (List Grid)) → All (IsPath Fits) paths → All P paths
  all_paths each [] is = All-nil P
  all_paths each (path ∷ paths) is = All-cons P path paths (each path (All-head (IsPath Fits) path paths is)) (all_paths each paths (All-tail (IsPath Fits) path paths is))

  module _ (outer : (ring : List Grid) → IsOuter Fits ring → P ring) (inner : (ring : List Grid) → IsInner Fits ring → P ring) where
    all_inners : (inners rings : List (List Grid)) → All (IsInner Fits) inners → All P rings → All P (inners ++ rings)
    all_inners [] rings is later = later
    all_inners (ring ∷ inners) rings is later =
        All-cons P ring (inners ++ rings) (inner ring (All-head (IsInner Fits) ring inners is)) (all_inners inners rings (All-tail (IsInner Fits) ring inners is) later)

    pub all_rings : (polygons : List GridPolygon) → All (IsPolygon Fits) polygons → All P (rings_of polygons)
    all_rings [] is = All-nil P
    all_rings (g ∷ polygons) is =
        let one = All-head (IsPolygon Fits) g polygons is in
        All-cons P g.outer (g.inners ++ rings_of polygons) (outer g.outer one.outer)
        (all_inners g.inners (rings_of polygons) one.inners (all_rings polygons (All-tail (IsPolygon Fits) g polygons is)))
