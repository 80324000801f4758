use Rattle.std.proofs.Common.{◌+◌}
use Rattle.pass_shapes.proofs.Features.{made}
use Rattle.pass_shapes.proofs.Ranging.{Sent}
use Rattle.pass_shapes.proofs.feature.put_feature.Given as goal

abbrev pub invariant-loop-zoom : goal.invariant-loop-zoom
invariant-loop-zoom g l = Sent l.profile (made l.fn.profile l.fn.origin l.shape l.fn.spec) l.fn.spec.min l.zoom (l.fn.spec.max + 1) (g.S.Spill.seen l.fn.spill, l.fn.buffer) (g.S.Spill.seen l.spill, l.buffer)
