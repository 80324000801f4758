use Rattle.std.proofs.Common.{◌≡◌, ◌+◌, ◌<◌, Some, ◌∷◌, [], ◌++◌, map, length, drop, get_or, ap, sym, ◌∙◌, arith, rules}
use Rattle.mvt_codec.specs.Grammar.{attribute_at, attributes_at}
use Rattle.mvt_codec.specs.Reading.{with_list, seen_value}
use Rattle.mvt_codec.proofs.TagSteps.{attributes-step, attributes-odd}
use Rattle.mvt_codec.proofs.read_feature.attributes_at.Goals as goal

pub returns-then-at-tags : goal.returns-then-at-tags
returns-then-at-tags c =
    let odd : c.loop-at.at + 1 ≡ length c.args.tags.now = search rules in
    sym c.loop-at.invariant.told ∙ attributes-odd (map (λ k. k.now) c.args.keys.now) (map seen_value c.args.values.now) c.loop-at.attributes.items c.args.tags.now c.loop-at.at odd

pub loop-at-preserved : goal.loop-at-preserved
loop-at-preserved c =
    let keys = map (λ k. k.now) c.args.keys.now in
    let values = map seen_value c.args.values.now in
    let tags = c.args.tags.now in
    let at = c.loop-at.at in
    let prefix = c.loop-at.attributes.items in
    let a = c.in_ok-attribute.attribute in
    let two : at + 1 < length tags = search rules in
    let read : attribute_at keys values (get_or tags at 0) (get_or tags (at + 1) 0) ≡ Some a = search rules in
    let pushed : c.push.new.self.items ≡ prefix ++ a ∷ [] = search rules in
    record {
      within = omega (arith, two);
      told = ap (λ l. with_list l (attributes_at keys values (drop (at + 2) tags))) pushed ∙ sym (attributes-step keys values prefix a tags at two read) ∙ c.loop-at.invariant.told;
    }
