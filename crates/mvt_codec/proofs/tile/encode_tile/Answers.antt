use Rattle.std.proofs.Common.{◌≡◌, ◌^◌, ◌<◌, All, length, get_or, ap, sym, subst, ◌∙◌, rules}
use Rattle.std.proofs.lemmas.List.{take_all}
use Rattle.std.proofs.lemmas.List.Elements.{All-more}
use Rattle.mvt_codec.specs.Tile.{tile_text, HasRoom}
use Rattle.mvt_codec.specs.Grammar.{tile_of}
use Rattle.mvt_codec.proofs.AgainTiles.{tiles_are_read_again}
use Rattle.mvt_codec.proofs.Written.{tile-more}
use Rattle.mvt_codec.proofs.tile.encode_tile.Goals as goal

pub loop-layer-preserved : goal.loop-layer-preserved
loop-layer-preserved c =
    let layers = c.args.layers.now in
    let i = c.loop-layer.layer-index in
    let layer = c.layer-item.result in
    let at : get_or layers i layer ≡ layer = search rules in
    let put = c.in_ok-put_layer.ensures {u = tt} in
    record {
      text = tile-more c.loop-layer.tile.items c.put_layer.new.out.items layers i layer c.loop-layer-test.true at c.loop-layer.invariant.text put.text;
      room = All-more HasRoom layers i layer c.loop-layer-test.true c.loop-layer.invariant.room (subst HasRoom (sym at) put.room);
    }

pub returns-clause-again : goal.returns-clause-again
returns-clause-again c =
    λ readable.
    let layers = c.args.layers.now in
    let all = take_all c.loop-layer.layer-index layers c.loop-layer-test.false in
    let text = c.loop-layer.invariant.text ∙ ap tile_text all in
    let room = subst (All HasRoom) all c.loop-layer.invariant.room in
    let size : length c.loop-layer.tile.items < 2 ^ 64 = search rules in
    ap tile_of text ∙ tiles_are_read_again layers (record { sound = readable.sound; room = room; names = readable.names; size = subst (λ t. length t < 2 ^ 64) text size })
