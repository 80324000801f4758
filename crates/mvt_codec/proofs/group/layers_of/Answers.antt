use Rattle.std.proofs.Common.{◌<◌, [], length, All, sym, subst, ap, ◌∙◌}
use Rattle.std.proofs.lemmas.Result.{IfOk-weaker}
use Rattle.mvt_codec.specs.Tile.{AreWritable}
use Rattle.mvt_codec.specs.Groups.{slots}
use Rattle.mvt_codec.proofs.GroupRows.{length-slots, layers-are, layers-writable}
use Rattle.mvt_codec.proofs.group.layers_of.Goals as goal

pub filled_slots-requires-clause-empty : goal.filled_slots-requires-clause-empty
filled_slots-requires-clause-empty c =
    let empty = c.in_ok-slots.ensures {u = tt} in
    empty ∙ ap (λ n. slots 0 n []) (sym (ap length empty ∙ length-slots 0 _ []))

pub filled_slots-requires-clause-within : goal.filled_slots-requires-clause-within
filled_slots-requires-clause-within c =
    let count = ap length (c.in_ok-slots.ensures {u = tt}) ∙ length-slots 0 _ [] in
    subst (λ n. All (λ item. item.key.layer < n) c.into_vec.result.items) (sym count) (subst (All (λ item. item.key.layer < length c.args.names.now)) (sym c.into_vec.ensures) c.requires)

pub returns-clause-layers : goal.returns-clause-layers
returns-clause-layers c =
    let count = ap length (c.in_ok-slots.ensures {u = tt}) ∙ length-slots 0 _ [] in
    let rows = c.in_ok-slots-2.ensures {u = tt} ∙ ap (λ n. slots 0 n c.into_vec.result.items) count ∙ ap (slots 0 (length c.args.names.now)) c.into_vec.ensures in
    IfOk-weaker c.named_layers.result _ _ (λ layers are. layers-are c.args.names.now c.args.items _ layers rows are) c.named_layers.ensures.layers

pub returns-clause-writable : goal.returns-clause-writable
returns-clause-writable c =
    λ ready. IfOk-weaker c.named_layers.result _ _ (λ layers are. subst AreWritable (sym are) (layers-writable c.args.names.now c.args.items ready)) (returns-clause-layers c)
