use Rattle.std.proofs.Common.{rules}
use Rattle.claim_desk.proofs.Keeps.{deals}
use Rattle.claim_desk.proofs.desk.Desk.split.Goals as goal

pub split_seat-requires : goal.split_seat-requires
split_seat-requires c = (search rules, search rules, deals _ _ _ (search rules) (search rules) (search rules))
