use Rattle.std.proofs.Common.{refl}
use Rattle.sorted_lists.proofs.worked.worked_lists.Goals as goal

pub returns : goal.returns
returns c = record { stable = refl; empty = refl; groups = refl; elements = refl; chosen = refl; asked = refl; merge = refl; merges = refl; behind = refl }
