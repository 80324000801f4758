use Rattle.tile_model.specs.Ways.{way_origin, way_shape}
use Rattle.pass_shapes.specs.Stores.{locate_in}
use Rattle.pass_shapes.proofs.SpecItems.{SpecsSent}
use Rattle.pass_shapes.proofs.ways.put_specs.Given as goal

abbrev pub invariant-loop-spec : goal.invariant-loop-spec
invariant-loop-spec g l = SpecsSent l.profile (way_origin l.block l.way) (way_shape (locate_in l.locations) l.way.refs) l.fn.specs l.spec-iterator.rest.items (g.S.Spill.seen l.fn.spill, l.fn.buffer) (g.S.Spill.seen l.spill, l.buffer)
