use Rattle.std.proofs.Common.{rules}
use Rattle.shard_store.proofs.Steps.{takes_one}
use Rattle.shard_store.proofs.tests.hold.Goals as goal

pub compare_exchange-requires : goal.compare_exchange-requires
compare_exchange-requires g c = (search rules, search rules, takes_one _ g.met.V.Join.associates g.met.V.Join.commutes _ _ _ _ (search rules) (search rules) (search rules))
