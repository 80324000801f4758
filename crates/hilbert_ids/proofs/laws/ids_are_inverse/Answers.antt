use Rattle.std.proofs.Common.{refl}
use Rattle.hilbert_ids.specs.Ids.{number_of}
use Rattle.hilbert_ids.proofs.Tiles.{one_to_one}
use Rattle.hilbert_ids.proofs.laws.ids_are_inverse.Goals as goal

pub returns-clause-one_to_one : goal.returns-clause-one_to_one
returns-clause-one_to_one c = one_to_one

pub returns-clause-known : goal.returns-clause-known
unfolding number_of
returns-clause-known c = record { first = refl; middle = refl; last = refl }
