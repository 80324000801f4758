use Rattle.std.proofs.Common.{rules}
use Rattle.claim_desk.proofs.Keeps.{gathers}
use Rattle.claim_desk.proofs.desk.Desk.join.Goals as goal

pub join_seat-requires : goal.join_seat-requires
join_seat-requires c = (search rules, search rules, search rules, search rules, gathers _ _ _ _ _ (search rules) (search rules) (search rules))
