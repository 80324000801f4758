-- Worked cases: which ways a relation has, and what area.
use Rattle.std.specs.Prelude.{◌≡◌, ℕ, unsigned_abs, ◌==◌, if◌then◌else◌, Option, None, Some, List, [], ◌∷◌}
use Rattle.tb_types.specs.declared.element.Kind.{Kind}
use Rattle.tb_types.specs.declared.element.Kind.TheVariants as kinds
use Rattle.tb_types.specs.declared.element.OsmId.{OsmId}
use Rattle.tb_types.specs.declared.location.World.{World}
use Rattle.osm_elements.specs.declared.element.Member.{Member}
use Rattle.osm_elements.specs.declared.element.WayEl.{WayEl}
use Rattle.osm_elements.specs.declared.element.Block.{Block}
use Rattle.profile_rules.specs.declared.parts.Form.TheVariants as forms
use Rattle.ring_assembly.specs.declared.way.WayShape.{WayShape}
use Rattle.tile_model.specs.Extract.{shape_of}
use Rattle.tile_model.specs.Relations.{way_along, way_ids, first_each, relation_shape}
use Rattle.tile_model.specs.WorkedWays.{id, world, corner, node_at, origin, middle}
use Rattle.tile_model.specs.declared.world.WorldShape.TheVariants as worlds

abbrev pub member : Kind → ℕ → Member
member kind n = record { kind = kind; id = id n }

-- a way without tags
abbrev pub way_at : ℕ → ℕ → List OsmId → WayEl
way_at index n refs = record { index = index; id = id n; tags = record { pairs = [] }; refs = refs }

-- node 7, and ways
abbrev pub block_with : ℕ → List WayEl → ℕ × Block
block_with number ways = (number, record { nodes = node_at 0 7 (Some origin) ∷ []; ways = ways; relations = [] })

abbrev pub shape : ℕ → ℕ → List World → WayShape
shape first last points = record { first = id first; last = id last; points = points }

-- way 1 from corner 1 over 2 to 3, and way 2 from corner 1 over 4 to 3
abbrev pub half : ℕ → Option WayShape
half n =
    if n == 1 then Some (shape 1 3 (world 0 0 ∷ world 1048576 0 ∷ world 1048576 1048576 ∷ []))
    else if n == 2 then Some (shape 1 3 (world 0 0 ∷ world 0 1048576 ∷ world 1048576 1048576 ∷ [])) else None

abbrev pub half_at : OsmId → Option WayShape
half_at way = half (unsigned_abs way.0)

pub record WorkedRelations : Type 0 where
  -- the ways among members, each id at its first occurrence
  pub ways : way_ids (member kinds.Way 3 ∷ member kinds.Node 4 ∷ member kinds.Way 1 ∷ member kinds.Relation 2 ∷ member kinds.Way 3 ∷ []) ≡ id 3 ∷ id 1 ∷ id 3 ∷ []
  pub once : first_each (id 3 ∷ id 1 ∷ id 3 ∷ id 2 ∷ id 1 ∷ []) ≡ id 3 ∷ id 1 ∷ id 2 ∷ []
  -- a way by its ends and points; one node has none
  pub along : way_along corner (id 1 ∷ id 2 ∷ id 3 ∷ []) ≡ Some (shape 1 3 (world 0 0 ∷ world 1048576 0 ∷ world 1048576 1048576 ∷ []))
  pub alone : way_along corner (id 1 ∷ []) ≡ None
  -- of two ways of one id the one at the greatest place decides, also where it has no shape
  pub latest : shape_of (block_with 1 (way_at 1 5 (id 7 ∷ []) ∷ way_at 2 5 (id 7 ∷ id 7 ∷ []) ∷ []) ∷ []) (id 5) ≡ Some (shape 7 7 (middle ∷ middle ∷ []))
  pub missing : shape_of (block_with 2 (way_at 1 5 (id 7 ∷ []) ∷ []) ∷ block_with 1 (way_at 1 5 (id 7 ∷ id 7 ∷ []) ∷ []) ∷ []) (id 5) ≡ None
  -- two halves are a square, the second reversed; ways without a shape are left out; one half is none, and no relation is a line
  pub square : relation_shape half_at (id 1 ∷ id 9 ∷ id 2 ∷ id 1 ∷ []) forms.Area ≡ Some (worlds.Area (record { outer = world 0 0 ∷ world 1048576 0 ∷ world 1048576 1048576 ∷ world 0 1048576 ∷ []; inners = [] } ∷ []))
  pub unclosed : relation_shape half_at (id 1 ∷ id 9 ∷ []) forms.Area ≡ None
  pub line : relation_shape half_at (id 1 ∷ id 2 ∷ []) forms.Line ≡ None
