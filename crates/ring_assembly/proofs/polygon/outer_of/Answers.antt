use Rattle.std.proofs.Common.{ℕ, length, sym, ◌∙◌}
use Rattle.ring_assembly.specs.Nesting.{is_outer_of}
use Rattle.ring_assembly.proofs.Numbers.{find_later}
use Rattle.ring_assembly.proofs.polygon.outer_of.Goals as goal

pub loop-outer-preserved : goal.loop-outer-preserved
loop-outer-preserved c =
    let later = find_later (λ (i : ℕ). is_outer_of c.args.rings.now i c.args.inner) c.loop-outer.outer (length c.args.rings.now) c.loop-outer-test.true (sym c.is_outer_of.ensures ∙ c.if-is_outer_of.false) in
    sym later ∙ c.loop-outer.invariant
