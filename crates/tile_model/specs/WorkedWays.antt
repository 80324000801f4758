-- Worked cases: where nodes are, which ways have which shapes, and what is left of these on a grid.
use Rattle.std.specs.Prelude.{◌≡◌, ℕ, pos, unsigned_abs, true, false, ◌==◌, if◌then◌else◌, Option, None, Some, List, [], ◌∷◌, map}
use Rattle.tb_types.specs.declared.element.OsmId.{OsmId}
use Rattle.tb_types.specs.declared.location.LatLon.{LatLon}
use Rattle.tb_types.specs.declared.location.World.{World}
use Rattle.tb_types.specs.declared.shape.Shape.TheVariants as shapes
use Rattle.osm_elements.specs.declared.element.NodeEl.{NodeEl}
use Rattle.osm_elements.specs.declared.element.Block.{Block}
use Rattle.profile_rules.specs.declared.parts.Form.TheVariants as forms
use Rattle.tile_model.specs.Extract.{location_of}
use Rattle.tile_model.specs.Ways.{is_closed, path_of, way_shape}
use Rattle.tile_model.specs.World.{simple_shape}
use Rattle.tile_model.specs.declared.world.WorldShape.TheVariants as worlds

abbrev pub id : ℕ → OsmId
id n = record { 0 = pos n }

abbrev pub world : ℕ → ℕ → World
world x y = record { x = x; y = y }

-- the points of nodes 1 to 4: a square of 2^20 units at the world's upper left corner
abbrev pub corner_of : ℕ → Option World
corner_of n =
    if n == 1 then Some (world 0 0) else if n == 2 then Some (world 1048576 0) else if n == 3 then Some (world 1048576 1048576) else if n == 4 then Some (world 0 1048576) else None

abbrev pub corner : OsmId → Option World
corner node = corner_of (unsigned_abs node.0)

-- a node without tags
abbrev pub node_at : ℕ → ℕ → Option LatLon → NodeEl
node_at index n at = record { index = index; id = id n; at = at; tags = record { pairs = [] } }

abbrev pub block_of : ℕ → List NodeEl → ℕ × Block
block_of number nodes = (number, record { nodes = nodes; ways = []; relations = [] })

abbrev pub origin : LatLon
origin = record { lat = pos 0; lon = pos 0 }

abbrev pub middle : World
middle = record { x = 2147483648; y = 2147483648 }

pub record WorkedWays : Type 0 where
  -- of two nodes of one id the one at the greatest place decides, also where its location is missing, and in whatever order blocks stand
  pub moved_away : location_of (block_of 1 (node_at 0 7 (Some origin) ∷ []) ∷ block_of 2 (node_at 0 7 None ∷ []) ∷ []) (id 7) ≡ None
  pub moved_back : location_of (block_of 1 (node_at 0 7 None ∷ node_at 1 8 None ∷ node_at 2 7 (Some origin) ∷ []) ∷ []) (id 7) ≡ Some middle
  pub other_order : location_of (block_of 2 (node_at 0 7 None ∷ []) ∷ block_of 1 (node_at 0 7 (Some origin) ∷ []) ∷ []) (id 7) ≡ None
  pub unknown : location_of (block_of 1 (node_at 0 7 (Some origin) ∷ []) ∷ []) (id 8) ≡ None
  -- closed ways have at least four nodes
  pub closed : map is_closed ((id 1 ∷ id 2 ∷ id 3 ∷ id 1 ∷ []) ∷ (id 1 ∷ id 2 ∷ id 1 ∷ []) ∷ (id 1 ∷ id 2 ∷ id 3 ∷ id 4 ∷ []) ∷ [] ∷ []) ≡ true ∷ false ∷ false ∷ false ∷ []
  -- a way has at least two nodes, and all of them are somewhere
  pub alone : path_of corner (id 1 ∷ []) ≡ None
  pub missing : path_of corner (id 1 ∷ id 9 ∷ []) ≡ None
  pub twice : path_of corner (id 1 ∷ id 1 ∷ []) ≡ Some (world 0 0 ∷ world 0 0 ∷ [])
  -- its area is that of its ring, whose last point isn't repeated; an open way has none
  pub area : way_shape corner (id 1 ∷ id 2 ∷ id 3 ∷ id 4 ∷ id 1 ∷ []) forms.Area ≡ Some (worlds.Area (record { outer = world 0 0 ∷ world 1048576 0 ∷ world 1048576 1048576 ∷ world 0 1048576 ∷ []; inners = [] } ∷ []))
  pub open_area : way_shape corner (id 1 ∷ id 2 ∷ id 3 ∷ id 4 ∷ []) forms.Area ≡ None
  pub line : way_shape corner (id 1 ∷ id 2 ∷ []) forms.Line ≡ Some (worlds.Line (world 0 0 ∷ world 1048576 0 ∷ []))
  -- at zoom 0 a unit of the grid has 2^20 units of the world; what is one point there has no line
  pub grid_line : simple_shape 0 0 (worlds.Line (world 0 0 ∷ world 1048576 0 ∷ [])) ≡ Some (shapes.Line ((record { x = pos 0; y = pos 0 } ∷ record { x = pos 1; y = pos 0 } ∷ []) ∷ []))
  pub one_point : simple_shape 0 0 (worlds.Line (world 0 0 ∷ world 5 5 ∷ [])) ≡ None
  -- a square of one unit stays without tolerance and goes with one of 1
  pub grid_area : simple_shape 0 0 (worlds.Area (record { outer = world 0 0 ∷ world 1048576 0 ∷ world 1048576 1048576 ∷ world 0 1048576 ∷ []; inners = [] } ∷ []))
      ≡ Some (shapes.Area (record { outer = record { x = pos 0; y = pos 0 } ∷ record { x = pos 1; y = pos 0 } ∷ record { x = pos 1; y = pos 1 } ∷ record { x = pos 0; y = pos 1 } ∷ []; inners = [] } ∷ []))
  pub gone : simple_shape 0 2 (worlds.Area (record { outer = world 0 0 ∷ world 1048576 0 ∷ world 1048576 1048576 ∷ world 0 1048576 ∷ []; inners = [] } ∷ [])) ≡ None
