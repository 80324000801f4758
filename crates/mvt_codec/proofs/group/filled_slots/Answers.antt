use Rattle.std.proofs.Common.{◌≡◌, ◌<◌, ◌++◌, ◌∷◌, [], length, ap, sym, ◌∙◌, arith}
use Rattle.std.proofs.lemmas.List.{append_assoc}
use Rattle.mvt_codec.proofs.GroupRows.{slots-pushed, length-slots, layer-within}
use Rattle.mvt_codec.proofs.group.filled_slots.Goals as goal

pub index_mut-requires : goal.index_mut-requires
index_mut-requires c =
    let within : c.in-Some.item.key.layer < length c.args.layers.items =
    layer-within _ c.args.items.items c.loop-item.yielded c.loop-item.item-iterator.rest.items c.next.new.self.rest.items _ c.requires.within c.loop-item.invariant.1 (c.in-Some.ensures {u = tt}).steps.0 in
    let same : length c.loop-item.layers.items ≡ length c.args.layers.items = ap length c.loop-item.invariant.0 ∙ length-slots 0 _ _ in
    omega (arith, within, same, c.from-number.ensures, c.loop-item.layers.ok)

pub loop-item-preserved : goal.loop-item-preserved
loop-item-preserved c =
    let within : c.in-Some.item.key.layer < length c.args.layers.items =
    layer-within _ c.args.items.items c.loop-item.yielded c.loop-item.item-iterator.rest.items c.next.new.self.rest.items _ c.requires.within c.loop-item.invariant.1 (c.in-Some.ensures {u = tt}).steps.0 in (
      slots-pushed _ _ _ c.in-Some.item _ c.index_mut.result.now c.push.new.self c.loop-item.invariant.0 c.from-number.ensures (omega (arith, within, c.from-number.ensures))
          c.index_mut.ensures.value (c.in_ok-push.ensures {u = tt}).ok,
      c.loop-item.invariant.1 ∙ ap (λ l. c.loop-item.yielded ++ l) (c.in-Some.ensures {u = tt}).steps.0
          ∙ sym (append_assoc c.loop-item.yielded (c.in-Some.item ∷ []) c.next.new.self.rest.items),
    )
