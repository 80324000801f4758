use Rattle.std.proofs.Common.{rules}
use Rattle.tile_model.specs.Ways.{way_origin, way_shape}
use Rattle.pass_shapes.specs.Stores.{locate_in}
use Rattle.pass_shapes.proofs.Emitting.{emits-memory}
use Rattle.pass_shapes.proofs.SpecItems.{no-shape}
use Rattle.pass_shapes.proofs.ways.put_spec.Goals as goal

pub returns-in-Ok-None : goal.returns-in-Ok-None
returns-in-Ok-None g c = no-shape c.args.profile.now (way_origin c.args.block c.args.way.now) (way_shape (locate_in c.args.locations.now) c.args.way.now.refs) c.args.spec (g.S.Spill.seen c.args.spill.now, c.args.buffer.now) (search rules)

pub returns-in-Err : goal.returns-in-Err
returns-in-Err g c = emits-memory c.args.profile.now _ (g.S.Spill.seen c.args.spill.now) c.args.buffer.now c.args.buffer.now
