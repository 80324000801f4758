use Rattle.std.proofs.Common.{rules, ◌≡◌, ◌∷◌, ◌++◌, ◌<◌, [], length, get_or, set, sym, ap, ◌∙◌, append_assoc}
use Rattle.shard_store.specs.PutAll.{bucket}
use Rattle.shard_store.proofs.Fillings.{none_yet, one_more}
use Rattle.shard_store.proofs.putting.by_shard.Goals as goal

pub loop-entry-init : goal.loop-entry-init
loop-entry-init g c = (ap length c.in_ok-buckets.ensures, search rules, λ k. ap (bucket k) c.in_ok-buckets.ensures ∙ none_yet 64 k)

pub loop-entry-preserved : goal.loop-entry-preserved
loop-entry-preserved g c =
    let inv = c.loop-entry.invariant in
    let inside : c.shard_of-shard.result < length c.loop-entry.buckets.items = search rules in
    let pushed : c.push.new.self ≡ get_or c.loop-entry.buckets.items c.shard_of-shard.result c.index_mut.result.now ++ c.in-Some.entry ∷ [] = search rules in (
      search rules,
      inv.1 ∙ ap (λ l. c.loop-entry.yielded ++ l) (c.in-Some.ensures {u = tt}).steps.0 ∙ sym (append_assoc c.loop-entry.yielded (c.in-Some.entry ∷ []) c.next.new.self.rest.items),
      λ k. ap (λ x. bucket k (set c.loop-entry.buckets.items c.shard_of-shard.result x)) pushed
          ∙ one_more c.loop-entry.buckets.items c.loop-entry.yielded c.in-Some.entry c.shard_of-shard.result c.index_mut.result.now c.shard_of-shard.ensures.number inside inv.2 k,
    )
