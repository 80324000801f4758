-- What the stores of a build tell of nodes and of ways.
use Rattle.std.specs.Prelude.{ℕ, Bool, is_some, Option, option_map, option_and_then, List, Vec, map, filter}
use Rattle.std.specs.declared.alloc.Global.{Global}
use Rattle.tb_types.specs.declared.element.OsmId.{OsmId}
use Rattle.tb_types.specs.declared.location.World.{World}
use Rattle.osm_elements.specs.declared.element.NodeEl.{NodeEl}
use Rattle.osm_elements.specs.declared.element.WayEl.{WayEl}
use Rattle.ring_assembly.specs.declared.way.WayShape.{WayShape}
use Rattle.shard_store.specs.Join.{Entry, value_at}
use Rattle.member_sets.specs.declared.unit.Unit.{Unit}
use Rattle.node_store.specs.declared.located.Located.{Located}
use Rattle.node_store.specs.declared.shaped.Shaped.{Shaped}
use Rattle.tile_model.specs.Points.{point_of}
use Rattle.tile_model.specs.Relations.{way_along}

-- where a store has a node, if it has a point there
abbrev pub locate_in : List (Entry Located) → OsmId → Option World
locate_in store id = option_and_then (λ (l : Located). l.at) (value_at id store)

-- a set has an id
abbrev pub is_needed : List (Entry Unit) → OsmId → Bool
is_needed set id = is_some (value_at id set)

-- a node of a block: its place, and its point if it has a location
abbrev pub located_at : ℕ → NodeEl → Located
located_at block n = record { place = record { block = block; index = n.index }; at = point_of n }

abbrev pub located_entry : ℕ → NodeEl → Entry Located
located_entry block n = (n.id, located_at block n)

-- the needed nodes among those of a block
abbrev pub located_in : List (Entry Unit) → ℕ → List NodeEl → List (Entry Located)
located_in needed block nodes = map (located_entry block) (filter (λ n. is_needed needed n.id) nodes)

-- the shape of a way in a store, if it has one there
abbrev pub shape_in : List (Entry Shaped) → OsmId → Option WayShape
shape_in store id = option_and_then (λ (s : Shaped). s.shape) (value_at id store)

-- a way of a block: its place, and its shape if it has one
abbrev pub shaped_at : (OsmId → Option World) → ℕ → WayEl → Shaped
shaped_at locate block w = record { place = record { block = block; index = w.index }; shape = way_along locate w.refs }

abbrev pub shaped_entry : (OsmId → Option World) → ℕ → WayEl → Entry Shaped
shaped_entry locate block w = (w.id, shaped_at locate block w)

-- the needed ways among those of a block
abbrev pub shaped_in : List (Entry Unit) → (OsmId → Option World) → ℕ → List WayEl → List (Entry Shaped)
shaped_in needed locate block ways = map (shaped_entry locate block) (filter (λ w. is_needed needed w.id) ways)

-- points as a list
abbrev pub seen_path : Option (Vec World Global) → Option (List World)
seen_path path = option_map (λ (v : Vec World Global). v.items) path
