-- Areas of relations.
use Rattle.std.specs.Prelude.{ℕ, not, Option, None, Some, option_map, List, [], ◌∷◌, filter, filter_map, flat_map}
use Rattle.tb_types.specs.declared.element.Kind.{Kind}
use Rattle.tb_types.specs.declared.element.Kind.TheVariants as kinds
use Rattle.tb_types.specs.declared.element.OsmId.{OsmId}
use Rattle.tb_types.specs.declared.location.World.{World}
use Rattle.osm_elements.specs.declared.element.Member.{Member}
use Rattle.osm_elements.specs.declared.element.RelEl.{RelEl}
use Rattle.osm_elements.specs.declared.element.Block.{Block}
use Rattle.profile_rules.specs.declared.parts.Form.{Form}
use Rattle.profile_rules.specs.declared.parts.Form.TheVariants as forms
use Rattle.profile_rules.specs.declared.parts.Parts.{Parts}
use Rattle.profile_rules.specs.Features.{specs_of}
use Rattle.ring_assembly.specs.declared.polygon.Polygon.{Polygon}
use Rattle.ring_assembly.specs.declared.way.WayShape.{WayShape}
use Rattle.ring_assembly.specs.Chains.{same_node, assembled}
use Rattle.ring_assembly.specs.Nesting.{nested}
use Rattle.tile_model.specs.Features.{Feature}
use Rattle.tile_model.specs.Rows.{form_feature}
use Rattle.tile_model.specs.Ways.{path_of}
use Rattle.tile_model.specs.declared.world.Origin.{Origin}
use Rattle.tile_model.specs.declared.world.WorldShape.{WorldShape}
use Rattle.tile_model.specs.declared.world.WorldShape.TheVariants.{Area}

-- the last of some nodes
abbrev pub last_of : OsmId → List OsmId → OsmId
last_of id [] = id
last_of id (next ∷ refs) = last_of next refs

-- a way along these nodes, if it has a shape: at least 2 nodes, and all of them have locations
abbrev pub way_along : (OsmId → Option World) → List OsmId → Option WayShape
way_along locate [] = None
way_along locate (first ∷ refs) = option_map (λ points. record { first = first; last = last_of first refs; points = points }) (path_of locate (first ∷ refs))

abbrev pub if_way : Kind → OsmId → Option OsmId
if_way kinds.Node id = None
if_way kinds.Way id = Some id
if_way kinds.Relation id = None

-- the ids of the ways among members, in member order
abbrev pub way_ids : List Member → List OsmId
way_ids members = filter_map (λ (m : Member). if_way m.kind m.id) members

-- each id at its first occurrence
abbrev pub first_each : List OsmId → List OsmId
first_each [] = []
first_each (id ∷ ids) = id ∷ filter (λ other. not (same_node id other)) (first_each ids)

-- the polygons of member ways: ways without a shape are left out, whatever their roles
abbrev pub polygons_of : (OsmId → Option WayShape) → List OsmId → List Polygon
polygons_of shape_at ids = nested (assembled (filter_map shape_at (first_each ids)))

-- an area without a polygon is none
abbrev pub area_of : List Polygon → Option WorldShape
area_of [] = None
area_of (p ∷ polygons) = Some (Area (p ∷ polygons))

-- the shape of a relation with these member ways in a form
abbrev pub relation_shape : (OsmId → Option WayShape) → List OsmId → Form → Option WorldShape
relation_shape shape_at ids forms.Point = None
relation_shape shape_at ids forms.Line = None
relation_shape shape_at ids forms.Area = area_of (polygons_of shape_at ids)

abbrev pub relation_origin : ℕ → RelEl → Origin
relation_origin block r = record { kind = kinds.Relation; place = record { block = block; index = r.index }; id = r.id }

-- the features of a relation, in the order of its rules
abbrev pub relation_features : Parts → (OsmId → Option WayShape) → ℕ → RelEl → List Feature
relation_features parts shape_at block r = filter_map (form_feature parts (relation_origin block r) (relation_shape shape_at (way_ids r.members))) (specs_of parts r.tags kinds.Relation)

-- the features of the relations of a block with its number
abbrev pub block_relations : Parts → (OsmId → Option WayShape) → ℕ × Block → List Feature
block_relations parts shape_at b = flat_map (relation_features parts shape_at b.0) b.1.relations

-- the features of all relations, in file order
abbrev pub relations_of : Parts → (OsmId → Option WayShape) → List (ℕ × Block) → List Feature
relations_of parts shape_at blocks = flat_map (block_relations parts shape_at) blocks
