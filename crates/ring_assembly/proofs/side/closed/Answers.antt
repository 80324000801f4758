use Rattle.std.proofs.Common.{Some, refl, ap, sym, ◌∙◌}
use Rattle.ring_assembly.specs.Sides.{differ}
use Rattle.ring_assembly.proofs.Paths.{path_on, last_on, last_off}
use Rattle.ring_assembly.proofs.side.closed.Goals as goal

pub returns-then-is_on : goal.returns-then-is_on
returns-then-is_on c = last_on c.args.p c.args.from c.args.path.now c.args.first c.end_of-last.result c.end_of-last.ensures c.in-Some.odd (sym c.along.ensures ∙ c.in-Some.is) (sym c.is_on.ensures ∙ c.if-is_on.true)

pub returns-else-is_on : goal.returns-else-is_on
returns-else-is_on c =
    ap Some (c.differ.ensures ∙ ap (differ c.in-Some.odd) c.is_crossed.ensures)
    ∙ last_off c.args.p c.args.from c.args.path.now c.args.first c.end_of-last.result c.end_of-last.ensures c.in-Some.odd (sym c.along.ensures ∙ c.in-Some.is) (sym c.is_on.ensures ∙ c.if-is_on.false)

pub returns-in-None : goal.returns-in-None
returns-in-None c = path_on c.args.p c.args.from c.args.path.now c.args.first _ refl (sym c.along.ensures ∙ c.in-None.is)
