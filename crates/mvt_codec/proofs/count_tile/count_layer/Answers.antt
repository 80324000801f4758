use Rattle.std.proofs.Common.{◌≡◌, ◌==◌, ◌||◌, true, Some, is_some, length, ap, sym, ◌∙◌, rules}
use Rattle.std.proofs.lemmas.List.{length-map}
use Rattle.mvt_codec.specs.Messages.{said_from}
use Rattle.mvt_codec.specs.Grammar.{no_layer, note_layer, rows_in}
use Rattle.mvt_codec.specs.Reading.{seen_layer, seen_name}
use Rattle.mvt_codec.proofs.CountSteps.{layer-counted}
use Rattle.mvt_codec.proofs.count_tile.count_layer.Goals as goal

pub returns-in-Some : goal.returns-in-Some
returns-in-Some c =
    let l = seen_layer c.in_ok-layer.layer in
    let name = c.in-Some.name.now in
    let said : said_from note_layer no_layer c.args.bytes.now 0 ≡ Some l = search rules in
    let known : ((l.version == 1) || (l.version == 2)) ≡ true = search rules in
    let named : l.name ≡ Some name = ap (seen_name (λ n. n.now)) c.in-Some.is in
    let rows : is_some (rows_in l.keys l.values l.features) ≡ true = search rules in
    let many : c.len.result ≡ length c.in_ok-layer.layer.features.items = search rules in
    layer-counted c.args.bytes.now l name c.len.result said known named rows (many ∙ sym (length-map c.in_ok-layer.layer.features.items (λ b. b.now)))
