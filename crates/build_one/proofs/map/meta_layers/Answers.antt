use Rattle.std.proofs.Common.{◌∙◌, ap}
use Rattle.tile_model.specs.Map.{meta_layer}
use Rattle.build_one.proofs.Metas.{meta-next}
use Rattle.build_one.proofs.map.meta_layers.Goals as goal

pub loop-i-preserved : goal.loop-i-preserved
loop-i-preserved c =
    meta-next c.args.profile.now c.layers-infos.result.now c.loop-i.i _ c.loop-i.found.items c.push.new.self.items c.in_ok-meta_layer.field-0 c.layers-infos.ensures.value c.loop-i-test.true c.loop-i.invariant ((c.in_ok-push.ensures {u = tt}).items)
    (c.in_ok-meta_layer.ensures {u = tt} ∙ ap (λ info. meta_layer c.args.profile.now (c.loop-i.i, info)) c.index-infos-i.is)
