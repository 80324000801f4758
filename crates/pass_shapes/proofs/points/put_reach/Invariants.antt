use Rattle.std.proofs.Common.{◌+◌, map}
use Rattle.tile_model.specs.Items.{item_in, column_tiles}
use Rattle.pass_shapes.proofs.Ranging.{Sent}
use Rattle.pass_shapes.proofs.points.put_reach.Given as goal

abbrev pub invariant-loop-x : goal.invariant-loop-x
invariant-loop-x g l = Sent l.profile (λ x. map (item_in l.block l.node l.spec l.p) (column_tiles l.zoom x l.fn.reach.rows)) l.fn.reach.columns.first l.x (l.fn.reach.columns.last + 1) (g.S.Spill.seen l.fn.spill, l.fn.buffer) (g.S.Spill.seen l.spill, l.buffer)
