use Rattle.std.proofs.Common.{sym, ◌∙◌}
use Rattle.tb_types.proofs.RingEnds.{opened_drops, opened_keeps}
use Rattle.tb_types.proofs.ring.opened_length.Goals as goal

pub returns-then-is_same : goal.returns-then-is_same
returns-then-is_same g c = opened_drops g.P.Point.x_of g.P.Point.y_of c.args.ring.now c.index-ring-0.result c.index-ring-last.result c.if-ring-lt2.false c.index-ring-0.is c.index-ring-last.is (sym c.is_same.ensures ∙ c.if-is_same.true)

pub returns : goal.returns
returns g c = opened_keeps g.P.Point.x_of g.P.Point.y_of c.args.ring.now c.index-ring-0.result c.index-ring-last.result c.if-ring-lt2.false c.index-ring-0.is c.index-ring-last.is (sym c.is_same.ensures ∙ c.if-is_same.false)
