use Rattle.std.proofs.Common.{◌≡◌, ◌+◌, ◌++◌, length}
use Rattle.profile_rules.specs.ByKey.{merged}
use Rattle.profile_rules.proofs.merge.merged.Given as goal

abbrev pub invariant-loop-number : goal.invariant-loop-number
invariant-loop-number l = l.all.items ++ merged l.left l.right ≡ merged l.xs l.ys

abbrev pub decreases-loop-number : goal.decreases-loop-number
decreases-loop-number l = length l.left + length l.right
