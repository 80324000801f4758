use Rattle.std.proofs.Common.{sym, subst}
use Rattle.shard_store.specs.Facts.{IsOfShard}
use Rattle.shard_store.proofs.Fillings.{is_of_shard, puts_all}
use Rattle.shard_store.proofs.putting.put_all.Goals as goal

pub put_buckets-requires-clause-buckets : goal.put_buckets-requires-clause-buckets
put_buckets-requires-clause-buckets g c = (c.in_ok-buckets.ensures.0, λ k. subst (IsOfShard k) (sym (c.in_ok-buckets.ensures.1 k)) (is_of_shard k c.args.entries.items))

pub returns-in-Ok-clause-ok : goal.returns-in-Ok-clause-ok
returns-in-Ok-clause-ok g c = puts_all _ _ _ _ _ c.in_ok-buckets.ensures.1 c.in-Ok.ensures.moves c.in-Ok.ensures.ok
