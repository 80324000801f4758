-- Worked cases that the definitions were checked on, also what they refuse.
use Rattle.std.specs.Prelude.{◌≡◌, ℕ, pos, Option, Some, None, List, [], ◌∷◌}
use Rattle.std.specs.declared.cmp.Ordering.TheVariants.{Less, Equal, Greater}
use Rattle.tb_types.specs.declared.element.OsmId.{OsmId}
use Rattle.tb_types.specs.declared.location.World.{World}
use Rattle.shard_store.specs.Join.{join_all}
use Rattle.ring_assembly.specs.declared.way.WayShape.{WayShape}
use Rattle.node_store.specs.declared.located.Located.{Located}
use Rattle.node_store.specs.declared.shaped.Shaped.{Shaped}
use Rattle.node_store.specs.Order.{located_order, located_join, way_order, shaped_order, shaped_join}

abbrev pub at : ℕ → ℕ → Option World → Located
at block index point = record { place = record { block = block; index = index }; at = point }

abbrev pub point : ℕ → ℕ → Option World
point x y = Some (record { x = x; y = y })

abbrev pub seven : OsmId
seven = record { 0 = pos 7 }

abbrev pub world : ℕ → ℕ → World
world x y = record { x = x; y = y }

-- a way from one node to another, along some points
abbrev pub way : ℕ → ℕ → List World → WayShape
way first last points = record { first = record { 0 = pos first }; last = record { 0 = pos last }; points = points }

abbrev pub lies : ℕ → ℕ → Option WayShape → Shaped
lies block index shape = record { place = record { block = block; index = index }; shape = shape }

abbrev pub short : WayShape
short = way 1 2 (world 0 0 ∷ world 5 6 ∷ [])

pub record WorkedPlaces : Type 0 where
  -- a later place decides, also where nothing is known there
  pub missing : located_join (at 1 0 (point 5 6)) (at 2 0 None) ≡ at 2 0 None
  pub missing_back : located_join (at 2 0 None) (at 1 0 (point 5 6)) ≡ at 2 0 None
  pub index : located_join (at 1 9 None) (at 1 10 (point 5 6)) ≡ at 1 10 (point 5 6)
  -- the block's number counts before the number in the block
  pub block : located_order (at 1 9 None) (at 2 0 None) ≡ Less
  -- of one place the rest decides: nothing is below a point, and points stand by x and then by y
  pub one_place : located_join (at 1 0 (point 5 6)) (at 1 0 None) ≡ at 1 0 (point 5 6)
  pub by_x : located_order (at 1 0 (point 5 6)) (at 1 0 (point 6 0)) ≡ Less
  pub by_y : located_order (at 1 0 (point 5 6)) (at 1 0 (point 5 5)) ≡ Greater
  pub same : located_order (at 1 0 (point 5 6)) (at 1 0 (point 5 6)) ≡ Equal
  -- the row of two places by two seats, in both orders
  pub row : join_all located_join ((seven, at 1 0 (point 5 6)) ∷ (seven, at 2 0 None) ∷ []) seven ≡ Some (at 2 0 None)
  pub row_back : join_all located_join ((seven, at 2 0 None) ∷ (seven, at 1 0 (point 5 6)) ∷ []) seven ≡ Some (at 2 0 None)

pub record WorkedWays : Type 0 where
  -- a later place decides, also where the way has no shape there
  pub missing : shaped_join (lies 1 0 (Some short)) (lies 2 0 None) ≡ lies 2 0 None
  pub missing_back : shaped_join (lies 2 0 None) (lies 1 0 (Some short)) ≡ lies 2 0 None
  pub index : shaped_join (lies 1 10 None) (lies 1 9 (Some short)) ≡ lies 1 10 None
  -- of one place the rest decides: nothing is below a shape, and shapes stand by their first nodes, their last ones and their points
  pub one_place : shaped_join (lies 1 0 None) (lies 1 0 (Some short)) ≡ lies 1 0 (Some short)
  pub by_first : way_order (way 1 9 (world 7 7 ∷ [])) (way 2 0 []) ≡ Less
  pub by_last : way_order (way 1 2 []) (way 1 1 (world 0 0 ∷ [])) ≡ Greater
  pub by_point : way_order (way 1 2 (world 5 6 ∷ [])) (way 1 2 (world 5 7 ∷ [])) ≡ Less
  pub by_length : way_order short (way 1 2 (world 0 0 ∷ [])) ≡ Greater
  pub same : shaped_order (lies 1 0 (Some short)) (lies 1 0 (Some short)) ≡ Equal
  pub row : join_all shaped_join ((seven, lies 1 0 (Some short)) ∷ (seven, lies 2 0 None) ∷ []) seven ≡ Some (lies 2 0 None)
  pub row_back : join_all shaped_join ((seven, lies 2 0 None) ∷ (seven, lies 1 0 (Some short)) ∷ []) seven ≡ Some (lies 2 0 None)
