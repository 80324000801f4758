use Rattle.shard_store.proofs.Growth.{grows}
use Rattle.shard_store.proofs.laws.puts_grow.Goals as goal

pub returns : goal.returns
returns g c = λ old new entries puts. grows g.V.Join.both g.met.V.Join.associates old new entries puts
