use Rattle.std.proofs.Common.{◌≡◌, ◌++◌, drop}
use Rattle.profile_rules.specs.ByKey.{specs_by}
use Rattle.profile_rules.proofs.spec.specs_by.Given as goal

abbrev pub invariant-loop-number : goal.invariant-loop-number
invariant-loop-number l = l.specs ++ specs_by l.tags l.kind l.rules (drop l.number-index l.numbers) ≡ specs_by l.tags l.kind l.rules l.numbers
