use Rattle.std.proofs.Common.{rules, [], arith, append-nil, sym, ◌∙◌}
use Rattle.shard_store.proofs.Steps.{takes_one, gives_back}
use Rattle.shard_store.proofs.shards.Shards.put.Goals as goal

pub compare_exchange-requires : goal.compare_exchange-requires
compare_exchange-requires g c = (search rules, search rules, takes_one _ g.met.V.Join.associates g.met.V.Join.commutes _ _ _ _ (search rules) (search rules) (search rules))

pub store-requires : goal.store-requires
store-requires g c =
    let took = c.compare_exchange.ensures.2.0 c.if-compare_exchange-ne0.false in
    let out = c.exchange-content.ensures in
    let back = c.exchange.ensures in (
      search rules,
      search rules,
      gives_back _ g.met.V.Join.associates g.met.V.Join.commutes _ c.args.entries.items c.exchange-content.result c.in-Ok.content _ c.seat.inside.seat.me _ _ _ took out.2 out.3 back.3 (search rules) _ _ (search rules) (search rules) c.requires.ids,
    )

pub store-requires-in-Err : goal.store-requires-in-Err
store-requires-in-Err g c =
    let took = c.compare_exchange.ensures.2.0 c.if-compare_exchange-ne0.false in
    let out = c.exchange-content.ensures in
    let back = c.exchange-in-Err.ensures in (
      search rules,
      search rules,
      gives_back _ g.met.V.Join.associates g.met.V.Join.commutes _ [] c.exchange-content.result c.in-Err.content _ c.seat.inside.seat.me _ _ _ took out.2 out.3 back.3 (c.in-Err.ensures.0 ∙ sym (append-nil c.exchange-content.result)) _ _ (search rules) (search rules)
          (λ j d less. absurd (omega arith)),
    )
