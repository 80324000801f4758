use Rattle.std.proofs.Common.{◌≡◌, ◌++◌, take}
use Rattle.member_sets.specs.Ids.{entries_of}
use Rattle.pass_survey.specs.Kept.{members_of}
use Rattle.pass_survey.proofs.ways.put_members.Given as goal

abbrev pub invariant-loop-relation : goal.invariant-loop-relation
invariant-loop-relation l = l.ids.items ≡ l.fn.ids.items ++ entries_of (members_of (take l.relation-index l.kept))
