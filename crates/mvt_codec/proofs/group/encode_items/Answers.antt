use Rattle.std.proofs.Common.{◌≡◌, List, All, sym, subst, ◌∙◌}
use Rattle.std.specs.Str.{IsUtf8}
use Rattle.std.proofs.lemmas.Result.{IfOk-weaker}
use Rattle.mvt_codec.specs.declared.row.LayerRows.{LayerRows}
use Rattle.mvt_codec.specs.Again.{AreReadable}
use Rattle.mvt_codec.specs.Groups.{layers_of}
use Rattle.mvt_codec.proofs.GroupAgain.{readable, read_as}
use Rattle.mvt_codec.proofs.group.encode_items.Goals as goal

pub returns-clause-again : goal.returns-clause-again
returns-clause-again c = λ differ are fit.
    let names = c.args.names.now in
    let items = c.args.items in
    let made = c.in_ok-layers.ensures {u = tt} in
    let seen : c.as_slice.result.now ≡ layers_of names items = c.as_slice.ensures ∙ made.layers in
    let texts = subst (λ (ls : List LayerRows). All (λ layer. IsUtf8 layer.name) ls) made.layers made.texts in
    let ready : AreReadable c.as_slice.result.now = subst AreReadable (sym seen) (readable names items differ are fit texts) in
    IfOk-weaker c.encode_tile.result _ _ (λ tile read. read_as names items c.as_slice.result.now tile.items seen read) (c.encode_tile.ensures.again ready)
