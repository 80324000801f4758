use Rattle.std.proofs.Common.{◌∷◌, [], ◌+◌}
use Rattle.tile_model.specs.Items.{item_in}
use Rattle.pass_shapes.proofs.Ranging.{Sent}
use Rattle.pass_shapes.proofs.points.put_column.Given as goal

abbrev pub invariant-loop-y : goal.invariant-loop-y
invariant-loop-y g l = Sent l.profile (λ y. item_in l.block l.node l.spec l.p (record { z = l.zoom; x = l.x; y = y }) ∷ []) l.fn.rows.first l.y (l.fn.rows.last + 1) (g.S.Spill.seen l.fn.spill, l.fn.buffer) (g.S.Spill.seen l.spill, l.buffer)
