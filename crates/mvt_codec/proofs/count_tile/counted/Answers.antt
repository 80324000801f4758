use Rattle.std.proofs.Common.{◌≡◌, ◌==◌, true, false, not, Some, ap, sym, ◌∙◌, rules}
use Rattle.std.specs.List.{list_any}
use Rattle.std.specs.Str.{bytes_eq}
use Rattle.tb_wire.specs.Field.{entry_of}
use Rattle.mvt_codec.specs.Messages.{bytes_in}
use Rattle.mvt_codec.specs.Grammar.{names_of}
use Rattle.mvt_codec.specs.Growth.{with_use}
use Rattle.mvt_codec.proofs.CountSteps.{tile-counted, added-new, not-old}
use Rattle.mvt_codec.proofs.count_tile.counted.Goals as goal

pub returns : goal.returns
returns c =
    λ layers same.
    let f = entry_of c.args.field in
    let bytes = c.in_ok-bytes.bytes.now in
    let name = c.in_ok-name.name.now in
    let put = c.in_ok-add.ensures {u = tt} in
    let is_layer : (f.number == 3) ≡ true = search rules in
    let has : bytes_in f.value ≡ Some bytes = search rules in
    let new : list_any (bytes_eq name) (names_of layers) ≡ false = not-old _ (sym c.if-not-branch.false ∙ put.new ∙ ap (λ l. not (list_any (bytes_eq name) l)) same) in
    let added = added-new (names_of layers) c.add.new.self name (put.items ∙ ap (λ l. with_use l name) same) new in
    let found = c.in_ok-name.ensures {u = tt} in
    tile-counted layers f bytes name c.add.new.self c.in_ok-name.rows found.0 is_layer has found.1 found.2 new added
