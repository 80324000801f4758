use Rattle.std.proofs.Common.{◌≡◌, ◌++◌, take, All}
use Rattle.pass_survey.specs.Kept.{kept_in, IsSoundKept}
use Rattle.pass_survey.proofs.kept.put_kept.Given as goal

abbrev pub invariant-loop-relation : goal.invariant-loop-relation
invariant-loop-relation l =
    (l.kept.items ≡ l.fn.kept.items ++ kept_in l.profile l.block (take l.relation-index l.relations))
    × (All (IsSoundKept l.profile) l.fn.kept.items → All (IsSoundKept l.profile) l.kept.items)
