-- How values that stand at places are ordered, and the greater of two.
use Rattle.std.specs.Prelude.{if◌then◌else◌}
use Rattle.std.specs.Ordering.{nat_cmp, int_cmp, ordering_then, is_lt}
use Rattle.std.specs.Cmp.Lexicographic.{slice_cmp}
use Rattle.std.specs.Option.{option_cmp}
use Rattle.std.specs.declared.cmp.Ordering.{Ordering}
use Rattle.tb_types.specs.declared.location.World.{World}
use Rattle.tb_types.specs.Orders.{place_order}
use Rattle.ring_assembly.specs.declared.way.WayShape.{WayShape}
use Rattle.node_store.specs.declared.located.Located.{Located}
use Rattle.node_store.specs.declared.shaped.Shaped.{Shaped}

-- the second where the first is below it
abbrev pub greater : {A : Type 0} → (A → A → Ordering) → A → A → A
greater order x y = if is_lt (order x y) then y else x

-- points of the world stand by x, and of one x by y
abbrev pub world_order : World → World → Ordering
world_order p q = ordering_then (nat_cmp p.x q.x) (nat_cmp p.y q.y)

-- nodes stand by their places; of one place a node without a location is below one that has one, and these stand by their points
abbrev pub located_order : Located → Located → Ordering
located_order x y = ordering_then (place_order x.place y.place) (option_cmp world_order x.at y.at)

abbrev pub located_join : Located → Located → Located
located_join = greater located_order

-- shapes of ways stand by their first nodes, then by their last ones, then by their points from the first on
abbrev pub way_order : WayShape → WayShape → Ordering
way_order s t = ordering_then (ordering_then (int_cmp s.first.0 t.first.0) (int_cmp s.last.0 t.last.0)) (slice_cmp world_order s.points t.points)

-- ways stand by their places; of one place a way without a shape is below one that has one, and these stand by their shapes
abbrev pub shaped_order : Shaped → Shaped → Ordering
shaped_order x y = ordering_then (place_order x.place y.place) (option_cmp way_order x.shape y.shape)

abbrev pub shaped_join : Shaped → Shaped → Shaped
shaped_join = greater shaped_order
