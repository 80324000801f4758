use Rattle.std.proofs.Common.{◌≡◌, ◌++◌, take}
use Rattle.member_sets.specs.Ids.{entries_of}
use Rattle.pass_survey.proofs.needed.put_ids.Given as goal

abbrev pub invariant-loop-id : goal.invariant-loop-id
invariant-loop-id l = l.ids.items ≡ l.fn.ids.items ++ entries_of (take l.id-index l.more)
