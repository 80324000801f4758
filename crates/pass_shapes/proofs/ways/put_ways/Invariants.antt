use Rattle.std.proofs.Common.{take, flat_map}
use Rattle.osm_elements.specs.declared.element.WayEl.{WayEl}
use Rattle.tile_model.specs.Ways.{way_features}
use Rattle.tile_model.specs.Tiles.{emitted_items}
use Rattle.pass_shapes.specs.Stores.{locate_in}
use Rattle.pass_shapes.proofs.Emitting.{Sends}
use Rattle.pass_shapes.proofs.ways.put_ways.Given as goal

abbrev pub invariant-loop-way : goal.invariant-loop-way
invariant-loop-way g l = Sends l.profile (flat_map (λ (x : WayEl). emitted_items (way_features l.profile (locate_in l.locations) l.block x)) (take l.way-index l.ways)) (g.S.Spill.seen l.fn.spill, l.fn.buffer) (g.S.Spill.seen l.spill, l.buffer)
