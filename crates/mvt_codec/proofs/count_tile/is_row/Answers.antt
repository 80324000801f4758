use Rattle.std.proofs.Common.{◌≡◌, ◌&&◌, true, map, length, ap, sym, ◌∙◌, rules}
use Rattle.std.proofs.lemmas.List.{length-map}
use Rattle.mvt_geom.specs.Commands.{has_form}
use Rattle.mvt_codec.specs.Reading.{seen_feature, seen_value}
use Rattle.mvt_codec.specs.Counting.{are_tags}
use Rattle.mvt_codec.proofs.CountSteps.{row-there}
use Rattle.mvt_codec.proofs.count_tile.is_row.Goals as goal

pub returns-then-is_some : goal.returns-then-is_some
returns-then-is_some c =
    let keys = map (λ k. k.now) c.args.keys.now in
    let values = map seen_value c.args.values.now in
    let f = seen_feature c.args.feature c.args.numbers.now in
    let form : has_form f.form f.ints ≡ true = search rules in
    let tags : c.are_tags.result ≡ are_tags (length c.args.keys.now) (length c.args.values.now) f.tags = search rules in
    let seen : are_tags (length c.args.keys.now) (length c.args.values.now) f.tags ≡ are_tags (length keys) (length values) f.tags = simp length-map in
    row-there keys values f c.are_tags.result (tags ∙ seen ∙ sym (ap (λ b. b && are_tags (length keys) (length values) f.tags) form))
