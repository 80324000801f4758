use Rattle.std.proofs.Common.{◌≡◌, drop}
use Rattle.profile_rules.specs.ByKey.{gathered, numbers_for}
use Rattle.profile_rules.proofs.by_key.numbers_for.Given as goal

abbrev pub invariant-loop-tag : goal.invariant-loop-tag
invariant-loop-tag l = gathered l.places l.numbers.items (drop l.tag-index l.tags) ≡ numbers_for l.places l.tags
