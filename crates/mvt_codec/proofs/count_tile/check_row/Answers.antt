use Rattle.std.proofs.Common.{◌≡◌, Some, is_some, false, map, ap, ◌∙◌, rules}
use Rattle.mvt_geom.specs.Options.{◌>>=◌}
use Rattle.mvt_codec.specs.Messages.{said_from}
use Rattle.mvt_codec.specs.Grammar.{no_feature, note_feature, row_of}
use Rattle.mvt_codec.specs.Reading.{seen_feature, seen_value}
use Rattle.mvt_codec.proofs.CountSteps.{none}
use Rattle.mvt_codec.proofs.count_tile.check_row.Goals as goal

pub returns-then-not-is_row : goal.returns-then-not-is_row
returns-then-not-is_row c =
    let keys = map (λ k. k.now) c.args.keys.now in
    let values = map seen_value c.args.values.now in
    let f = seen_feature c.in_ok-feature.feature c.feature_in.new.numbers in
    let said : said_from note_feature no_feature c.args.bytes.now 0 ≡ Some f = search rules in
    let bad : is_some (row_of keys values f) ≡ false = search rules in
    ap (λ r. r >>= row_of keys values) said ∙ none keys values (row_of keys values f) bad
