-- Worked cases, computed.
use Rattle.std.proofs.Common.{refl}
use Rattle.hilbert_ids.specs.Ids.{number_of}
use Rattle.tb_wire.specs.Varint.{encoding}
use Rattle.mvt_codec.specs.Items.{fixed, key_text, row_text, item_text}
use Rattle.int_mercator.specs.Cosine.{series, cosine_of}
use Rattle.int_mercator.specs.Quarter.{secant_of, height_of, entry_of, quarter}
use Rattle.int_mercator.specs.Places.{x_of, north_of, y_of, world_of, grid_of}
use Rattle.strip_clip.specs.Cuts.{cut_of}
use Rattle.tile_model.specs.Tiles.{tiles_between}
use Rattle.tile_model.specs.Worked.{WorkedPoints, WorkedTiles}
use Rattle.tile_model.specs.WorkedNeeds.{WorkedNeeds}
use Rattle.tile_model.specs.WorkedRelations.{WorkedRelations}
use Rattle.tile_model.specs.WorkedWays.{WorkedWays}
use Rattle.ring_assembly.specs.Chains.{grown, ring_of, rings_of, assembled}
use Rattle.ring_assembly.specs.Nesting.{encloses, contains, depth_of, is_outer_of, outer_of, inners_at, polygon_at, nested}
use Rattle.ring_assembly.specs.Rings.{clean_ring}
use Rattle.tb_types.specs.Points.{turn}
use Rattle.ring_assembly.specs.Sides.{on_edge, crosses}
use Rattle.tile_model.specs.World.{simple_path, simple_ring}
use Rattle.line_simplify.specs.Key.{key_of, distance_of, scalar_of, cross_of}
use Rattle.line_simplify.specs.Rule.{simplified, kept, split_of}

pub points : WorkedPoints
unfolding cut_of grid_of
points = record { corner = refl; buffered = refl; past = refl; alone = refl; far_edge = refl; far_grid = refl; ids = refl; last_id = refl; ints = refl }

pub tiles : WorkedTiles
unfolding number_of tiles_between
tiles = record { ids = refl; none = refl; rows = refl; emitted = refl; walk = refl; upper = refl }

pub ways : WorkedWays
unfolding simple_path simple_ring simplified kept split_of key_of distance_of scalar_of cross_of world_of x_of y_of north_of quarter entry_of height_of secant_of cosine_of series grid_of
ways = record { moved_away = refl; moved_back = refl; other_order = refl; unknown = refl; closed = refl; alone = refl; missing = refl; twice = refl; area = refl; open_area = refl; line = refl; grid_line = refl; one_point = refl; grid_area = refl; gone = refl }

pub relations : WorkedRelations
unfolding turn grown ring_of rings_of assembled encloses contains depth_of is_outer_of outer_of inners_at polygon_at nested clean_ring on_edge crosses world_of x_of y_of north_of quarter entry_of height_of secant_of cosine_of series
relations = record { ways = refl; once = refl; along = refl; alone = refl; latest = refl; missing = refl; square = refl; unclosed = refl; line = refl }

pub needs : WorkedNeeds
unfolding encoding fixed key_text row_text item_text
needs = record { parts = refl; none = refl; blocks = refl; most = refl; tiles = refl; first = refl }
