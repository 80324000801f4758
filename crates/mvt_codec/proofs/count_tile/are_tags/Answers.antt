use Rattle.std.proofs.Common.{◌+◌, ◌<◌, ◌≤◌, length, get_or, sym, ◌∙◌, arith, rules}
use Rattle.std.proofs.lemmas.Bool.{le-ltb}
use Rattle.mvt_codec.proofs.CountSteps.{tags-key, tags-value, tags-odd}
use Rattle.mvt_codec.proofs.count_tile.are_tags.Goals as goal

pub returns-then-at-tags : goal.returns-then-at-tags
returns-then-at-tags c = sym (sym c.loop-at.invariant.told ∙ tags-odd c.args.keys c.args.values c.args.tags.now c.loop-at.at c.if-at-tags.true)

pub returns-then-tags-at : goal.returns-then-tags-at
returns-then-tags-at c =
    let tags = c.args.tags.now in
    let at = c.loop-at.at in
    let two : at + 1 < length tags = omega arith in
    let past : c.args.keys ≤ get_or tags at 0 = search rules in
    sym (sym c.loop-at.invariant.told ∙ tags-key c.args.keys c.args.values tags at two (le-ltb _ _ past))

pub returns-then-tags-at-2 : goal.returns-then-tags-at-2
returns-then-tags-at-2 c =
    let tags = c.args.tags.now in
    let at = c.loop-at.at in
    let two : at + 1 < length tags = omega arith in
    let past : c.args.values ≤ get_or tags (at + 1) 0 = search rules in
    sym (sym c.loop-at.invariant.told ∙ tags-value c.args.keys c.args.values tags at two (le-ltb _ _ past))
