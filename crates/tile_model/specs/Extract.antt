-- The features of an extract, by the elements of its blocks.
use Rattle.std.specs.Prelude.{ℕ, Option, None, Some, option_and_then, if◌then◌else◌, Bool, true, false, ◌||◌, List, [], ◌∷◌, ◌++◌, map, filter, flat_map}
use Rattle.std.specs.Ordering.{is_lt}
use Rattle.tb_types.specs.Orders.{place_order}
use Rattle.tb_types.specs.declared.element.Kind.TheVariants as kinds
use Rattle.tb_types.specs.declared.element.OsmId.{OsmId}
use Rattle.tb_types.specs.declared.element.Place.{Place}
use Rattle.tb_types.specs.declared.location.World.{World}
use Rattle.osm_elements.specs.declared.element.NodeEl.{NodeEl}
use Rattle.osm_elements.specs.declared.element.RelEl.{RelEl}
use Rattle.osm_elements.specs.declared.element.WayEl.{WayEl}
use Rattle.osm_elements.specs.declared.element.Block.{Block}
use Rattle.profile_rules.specs.declared.parts.Parts.{Parts}
use Rattle.profile_rules.specs.Features.{specs_of}
use Rattle.ring_assembly.specs.Chains.{same_node}
use Rattle.ring_assembly.specs.declared.way.WayShape.{WayShape}
use Rattle.tile_model.specs.Features.{Feature}
use Rattle.tile_model.specs.Points.{point_of, points_of}
use Rattle.tile_model.specs.Ways.{ways_of}
use Rattle.tile_model.specs.Relations.{way_along, relations_of}

-- the nodes of a block, each with its place
abbrev pub placed_nodes : ℕ × Block → List (Place × NodeEl)
placed_nodes b = map (λ (n : NodeEl). (record { block = b.0; index = n.index }, n)) b.1.nodes

abbrev pub all_nodes : List (ℕ × Block) → List (Place × NodeEl)
all_nodes blocks = flat_map placed_nodes blocks

-- of elements with their places the one at the greatest place, of those at one place the first
abbrev pub later : {X : Type 0} → Place × X → Option (Place × X) → Option (Place × X)
later x None = Some x
later x (Some y) = Some (if is_lt (place_order x.0 y.0) then y else x)

abbrev pub latest : {X : Type 0} → List (Place × X) → Option (Place × X)
latest [] = None
latest (x ∷ xs) = later x (latest xs)

-- The location of a node in an extract: that of the node of its id at the greatest place, also where it is missing.
abbrev pub location_of : List (ℕ × Block) → OsmId → Option World
location_of blocks id = option_and_then (λ n. point_of n.1) (latest (filter (λ n. same_node n.1.id id) (all_nodes blocks)))

-- the ways of a block, each with its place
abbrev pub placed_ways : ℕ × Block → List (Place × WayEl)
placed_ways b = map (λ (w : WayEl). (record { block = b.0; index = w.index }, w)) b.1.ways

abbrev pub all_ways : List (ℕ × Block) → List (Place × WayEl)
all_ways blocks = flat_map placed_ways blocks

-- The shape of a way in an extract: that of the way of its id at the greatest place, also where it is missing.
abbrev pub shape_of : List (ℕ × Block) → OsmId → Option WayShape
shape_of blocks id = option_and_then (λ w. way_along (location_of blocks) w.1.refs) (latest (filter (λ w. same_node w.1.id id) (all_ways blocks)))

-- the features of an extract: those of its nodes, of its ways and of its relations
abbrev pub features_of : Parts → List (ℕ × Block) → List Feature
features_of parts blocks = points_of parts blocks ++ (ways_of parts (location_of blocks) blocks ++ relations_of parts (shape_of blocks) blocks)

-- a rule makes something of a relation
abbrev pub is_some_list : {A : Type 0} → List A → Bool
is_some_list [] = false
is_some_list (x ∷ xs) = true

abbrev pub is_kept : Parts → RelEl → Bool
is_kept parts r = is_some_list (specs_of parts r.tags kinds.Relation)

-- a rule makes something of a way
abbrev pub is_drawn : Parts → WayEl → Bool
is_drawn parts w = is_some_list (specs_of parts w.tags kinds.Way)

-- the nodes that a way needs, if a rule makes something of it, or it is one of these members of relations
abbrev pub needed_refs : Parts → (OsmId → Bool) → WayEl → List OsmId
needed_refs parts is_member w = if is_drawn parts w || is_member w.id then w.refs else []

-- all nodes that the ways of blocks need
abbrev pub all_refs : Parts → (OsmId → Bool) → List (ℕ × Block) → List OsmId
all_refs parts is_member blocks = flat_map (λ (b : ℕ × Block). flat_map (needed_refs parts is_member) b.1.ways) blocks
