-- The count of what is left is what is left.
use Rattle.std.proofs.Common.{subst, sym, ap, ◌∙◌}
use Rattle.std.proofs.lemmas.Bool.{eqb-true, eqb-false}
use Rattle.flow_core.specs.State.{CoreState, left_of}
use Rattle.flow_core.specs.Kept.{IsKept}
use Rattle.flow_core.proofs.SettledLemmas.{settled_is}
use Rattle.flow_core.proofs.ProgressLemmas.{goes_on}
use Rattle.flow_core.proofs.machine.Core.settled.Goals as goal

pub returns-clause-end : goal.returns-clause-end
returns-clause-end c = λ t.
    let left = sym (c.self.invariant.1 ∙ ap left_of c.self.view_is) ∙ eqb-true c.self.inside.left 0 t in
    settled_is c.args.self.now (subst (λ (s : CoreState). IsKept s) c.self.view_is c.self.invariant.0.0) left

pub returns-clause-goes_on : goal.returns-clause-goes_on
returns-clause-goes_on c = λ f.
    let left = c.self.invariant.1 ∙ ap left_of c.self.view_is in
    goes_on c.args.self.now (subst (λ (s : CoreState). IsKept s) c.self.view_is c.self.invariant.0.0) (λ none. eqb-false c.self.inside.left 0 f (left ∙ none))
