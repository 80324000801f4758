use Rattle.std.proofs.Common.{Some, nat_lt, ap, sym, ◌∙◌, arith}
use Rattle.tb_types.specs.declared.location.World.{World}
use Rattle.ring_assembly.specs.Sides.{differ}
use Rattle.ring_assembly.proofs.Outside.{passed_left, passed_right}
use Rattle.ring_assembly.proofs.side.crossed.Goals as goal

pub returns-then-p-envelope : goal.returns-then-p-envelope
returns-then-p-envelope c = sym (passed_right c.args.envelope c.args.from c.args.stretch.now c.args.p c.requires (sym c.has.ensures ∙ c.if-has.false) (omega (arith, c.if-p-envelope.true)))

pub returns : goal.returns
returns c =
    let p = c.args.p in
    ap Some (c.differ.ensures ∙ ap (λ (q : World). differ (nat_lt p.y c.args.from.y) (nat_lt p.y q.y)) c.end_of-end.ensures)
    ∙ sym (passed_left c.args.envelope c.args.from c.args.stretch.now p c.requires (sym c.has.ensures ∙ c.if-has.false) (omega (arith, c.if-p-envelope.false)))
