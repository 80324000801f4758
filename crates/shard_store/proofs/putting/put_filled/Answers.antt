use Rattle.std.proofs.Common.{rules, ◌≡◌, ◌<◌, ◌++◌, length, sym, subst, ap, ◌∙◌}
use Rattle.shard_store.specs.Facts.{IsOfShard, SeatFacts}
use Rattle.shard_store.specs.PutAll.{bucket}
use Rattle.shard_store.proofs.Fillings.{moves_one, bucket_same, bucket_other, bucket_read}
use Rattle.shard_store.proofs.putting.put_filled.Goals as goal

pub put-requires-clause-ids : goal.put-requires-clause-ids
put-requires-clause-ids g c =
    let inside : c.args.shard < length c.args.buckets.now.items = search rules in
    let read : c.items.inside.items.items ≡ bucket c.args.shard c.args.buckets.now.items = bucket_read _ _ _ inside (search rules) in
    subst (IsOfShard c.args.shard) (sym read) (c.requires.bucket.2 c.args.shard)

pub returns-in-Ok-clause-moves : goal.returns-in-Ok-clause-moves
returns-in-Ok-clause-moves g c =
    let inside : c.args.shard < length c.args.buckets.now.items = search rules in
    let read : c.items.inside.items.items ≡ bucket c.args.shard c.args.buckets.now.items = bucket_read _ _ _ inside (search rules) in
    moves_one _ _ _ _ c.args.shard (c.requires.bucket.2 c.args.shard) (ap (λ (s : SeatFacts _). s.puts) c.in-Ok.ensures.ok ∙ ap (λ l. c.args.seat.now.puts ++ l) read)
    (bucket_same _ _ _ inside ∙ c.replace.ensures.after ∙ c.empty-empty.ensures) (λ j apart. bucket_other _ _ j _ inside apart)
