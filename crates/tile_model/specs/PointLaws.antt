-- The laws of points in tiles.
use Rattle.std.specs.Prelude.{◌≡◌, ℕ, ◌≤◌, true, pos, negsuc, Some, is_some, List, map, filter_map}
use Rattle.tb_types.specs.declared.location.Grid.{Grid}
use Rattle.tb_types.specs.declared.location.World.{World}
use Rattle.tb_types.specs.declared.shape.Shape.TheVariants.{Point}
use Rattle.tb_types.specs.declared.tile.TileXyz.{TileXyz}
use Rattle.osm_elements.specs.declared.element.NodeEl.{NodeEl}
use Rattle.profile_rules.specs.declared.parts.Parts.{Parts}
use Rattle.profile_rules.specs.declared.spec.Spec.{Spec}
use Rattle.strip_clip.specs.Cuts.{cut_of, corner_of, relative, IsBetween}
use Rattle.tile_model.specs.Features.{item_at}
use Rattle.tile_model.specs.Tiles.{IsTold}
use Rattle.tile_model.specs.Points.{point_feature, point_item, IsPointTold}
use Rattle.tile_model.specs.World.{buffer_of, grid_point}

pub record PointLaws : Type 0 where
  -- the tiles in which the cut leaves a point are those in which its feature has a row
  pub told : (parts : Parts) (block : ℕ) (n : NodeEl) (w : World) (spec : Spec) (zoom : ℕ) (tiles : List TileXyz)
      → IsPointTold zoom (buffer_of parts spec.layer) (grid_point w zoom) tiles → IsTold (point_feature parts block n w spec) zoom tiles
  -- in each of them it has the row of the point counted from the tile's corner,
  pub items : (parts : Parts) (block : ℕ) (n : NodeEl) (w : World) (spec : Spec) (zoom : ℕ) (tiles : List TileXyz) → spec.min ≤ zoom → zoom ≤ spec.max
      → IsPointTold zoom (buffer_of parts spec.layer) (grid_point w zoom) tiles
      → filter_map (item_at (point_feature parts block n w spec)) tiles ≡ map (point_item parts block n w spec zoom) tiles
  -- and this lies at most 256 units beside the tile
  pub near : (t : TileXyz) (buffer : ℕ) (p : Grid) → buffer ≤ 256 → is_some (cut_of t buffer (Point p)) ≡ true
      → (cut_of t buffer (Point p) ≡ Some (Point (relative (corner_of t) p)))
      × IsBetween (negsuc 255) (pos 4352) (relative (corner_of t) p).x × IsBetween (negsuc 255) (pos 4352) (relative (corner_of t) p).y
