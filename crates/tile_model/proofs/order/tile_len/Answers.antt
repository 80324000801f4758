use Rattle.std.proofs.Common.{◌≡◌, length, get_or, sym, ap, ◌∙◌, arith, le_refl}
use Rattle.std.proofs.lemmas.List.{get_or_default, take_all}
use Rattle.std.proofs.lemmas.List.Elements.{All-same}
use Rattle.sorted_lists.proofs.Fronts.{front-at}
use Rattle.mvt_codec.specs.declared.item.RunItem.{RunItem}
use Rattle.tile_model.specs.Keys.{tile_of}
use Rattle.tile_model.proofs.order.tile_len.Goals as goal

pub returns-then-items-len-clause-group : goal.returns-then-items-len-clause-group
returns-then-items-len-clause-group c =
    front-at tile_of _ c.args.items.now c.loop-len.len c.loop-len.auto.len (omega (arith, c.loop-len-test.true)) c.loop-len.invariant
    (λ lt d e. c.if-items-len.true (ap tile_of (get_or_default c.args.items.now c.loop-len.len c.index-items-len.result d lt) ∙ e))

pub returns-clause-group : goal.returns-clause-group
returns-clause-group c =
    let xs = c.args.items.now in
    let whole = take_all (length xs) xs (le_refl (length xs)) ∙ sym (take_all c.loop-len.len xs c.loop-len-test.false) in
    let tile = tile_of (get_or xs 0 c.index-items-0.result) in
    front-at tile_of tile xs (length xs) c.requires (le_refl (length xs)) (All-same (λ (x : RunItem). tile_of x ≡ tile) _ _ whole c.loop-len.invariant) (λ lt d e. omega (arith, lt))
