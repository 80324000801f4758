-- Lines and areas of ways.
use Rattle.std.specs.Prelude.{ℕ, nat_le, Bool, false, ◌&&◌, if◌then◌else◌, Option, None, Some, option_map, option_and_then, List, [], ◌∷◌, length, filter_map, flat_map}
use Rattle.tb_types.specs.declared.element.Kind.TheVariants as kinds
use Rattle.tb_types.specs.declared.element.OsmId.{OsmId}
use Rattle.tb_types.specs.declared.location.World.{World}
use Rattle.osm_elements.specs.declared.element.WayEl.{WayEl}
use Rattle.osm_elements.specs.declared.element.Block.{Block}
use Rattle.profile_rules.specs.declared.parts.Form.{Form}
use Rattle.profile_rules.specs.declared.parts.Form.TheVariants as forms
use Rattle.profile_rules.specs.declared.parts.Parts.{Parts}
use Rattle.profile_rules.specs.declared.spec.Spec.{Spec}
use Rattle.profile_rules.specs.Features.{specs_of}
use Rattle.ring_assembly.specs.Chains.{same_node}
use Rattle.tile_model.specs.Features.{Feature}
use Rattle.tile_model.specs.Rows.{form_feature}
use Rattle.tile_model.specs.declared.world.Origin.{Origin}
use Rattle.tile_model.specs.World.{without_last}
use Rattle.tile_model.specs.declared.world.WorldShape.{WorldShape}
use Rattle.tile_model.specs.declared.world.WorldShape.TheVariants.{Line, Area}

-- where the nodes of these ids are, if all of them are somewhere
abbrev pub all_located : (OsmId → Option World) → List OsmId → Option (List World)
all_located locate [] = Some []
all_located locate (id ∷ ids) = option_and_then (λ w. option_map (λ points. w ∷ points) (all_located locate ids)) (locate id)

-- the points of a way: it has at least 2 nodes, and all of them have locations
abbrev pub path_of : (OsmId → Option World) → List OsmId → Option (List World)
path_of locate refs = if nat_le 2 (length refs) then all_located locate refs else None

-- the last of some nodes is this one
abbrev pub ends_with : OsmId → List OsmId → Bool
ends_with id [] = false
ends_with id (last ∷ []) = same_node id last
ends_with id (next ∷ last ∷ refs) = ends_with id (last ∷ refs)

abbrev pub ends_meet : List OsmId → Bool
ends_meet [] = false
ends_meet (first ∷ refs) = ends_with first refs

-- a way is closed: its first and its last node are one, and it has at least 4
abbrev pub is_closed : List OsmId → Bool
is_closed refs = nat_le 4 (length refs) && ends_meet refs

-- the area of a closed way: its ring is its points without the last
abbrev pub ring_area : List World → WorldShape
ring_area path = Area (record { outer = without_last path; inners = [] } ∷ [])

-- the shape of a way in a form
abbrev pub way_shape : (OsmId → Option World) → List OsmId → Form → Option WorldShape
way_shape locate refs forms.Point = None
way_shape locate refs forms.Line = option_map (λ path. Line path) (path_of locate refs)
way_shape locate refs forms.Area = if is_closed refs then option_map ring_area (path_of locate refs) else None

abbrev pub way_origin : ℕ → WayEl → Origin
way_origin block w = record { kind = kinds.Way; place = record { block = block; index = w.index }; id = w.id }

-- what a spec makes of a way of a block, if the way has the shape that it asks for
abbrev pub way_feature : Parts → (OsmId → Option World) → ℕ → WayEl → Spec → Option Feature
way_feature parts locate block w spec = form_feature parts (way_origin block w) (way_shape locate w.refs) spec

-- the features of a way, in the order of its rules
abbrev pub way_features : Parts → (OsmId → Option World) → ℕ → WayEl → List Feature
way_features parts locate block w = filter_map (way_feature parts locate block w) (specs_of parts w.tags kinds.Way)

-- the features of the ways of a block with its number
abbrev pub block_ways : Parts → (OsmId → Option World) → ℕ × Block → List Feature
block_ways parts locate b = flat_map (way_features parts locate b.0) b.1.ways

-- the features of all ways, in file order
abbrev pub ways_of : Parts → (OsmId → Option World) → List (ℕ × Block) → List Feature
ways_of parts locate blocks = flat_map (block_ways parts locate) blocks
