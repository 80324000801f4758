use Rattle.std.proofs.Common.{◌≡◌, get_or, map, sym, ap, ◌∙◌, rules}
use Rattle.gen_world.specs.Words.{text_of}
use Rattle.gen_world.specs.Tables.{with_text}
use Rattle.gen_world.proofs.Texts.{uses_none, uses_more}
use Rattle.gen_world.proofs.strings.Strings.of.Goals as goal

pub loop-tag-init : goal.loop-tag-init
loop-tag-init c = ap (map text_of) c.new.ensures.items ∙ sym uses_none

pub loop-tag-preserved : goal.loop-tag-preserved
loop-tag-preserved c =
    let tags = c.args.tags.now in
    let i = c.loop-tag.tag-index in
    let tag = c.tag-item.result in
    let at : get_or tags i tag ≡ tag = search rules in
    c.in_ok-add-2.ensures {u = tt}
    ∙ ap (λ s. with_text s (text_of tag.value)) (c.in_ok-add.ensures {u = tt} ∙ ap (λ s. with_text s (text_of tag.key)) c.loop-tag.invariant)
    ∙ sym (uses_more tags i tag c.loop-tag-test.true at)
