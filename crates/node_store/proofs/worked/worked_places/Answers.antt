use Rattle.std.proofs.Common.{refl}
use Rattle.node_store.proofs.worked.worked_places.Goals as goal

pub returns-clause-nodes : goal.returns-clause-nodes
returns-clause-nodes c = record { missing = refl; missing_back = refl; index = refl; block = refl; one_place = refl; by_x = refl; by_y = refl; same = refl; row = refl; row_back = refl }

pub returns-clause-ways : goal.returns-clause-ways
returns-clause-ways c = record { missing = refl; missing_back = refl; index = refl; one_place = refl; by_first = refl; by_last = refl; by_point = refl; by_length = refl; same = refl; row = refl; row_back = refl }
