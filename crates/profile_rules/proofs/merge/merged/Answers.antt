use Rattle.std.proofs.Common.{sym, ◌∙◌}
use Rattle.profile_rules.proofs.Merging.{merged-more, merged-end}
use Rattle.profile_rules.proofs.merge.merged.Goals as goal

pub loop-number-preserved : goal.loop-number-preserved
loop-number-preserved c =
    merged-more c.loop-number.all.items _ c.loop-number.left.now c.loop-number.right.now _ _ _ c.in-Some.number (sym c.least.ensures ∙ c.in-Some.is) c.in_ok-push.ensures.items
    c.without-left.ensures c.without-right.ensures c.loop-number.invariant

pub returns : goal.returns
returns c = merged-end c.loop-number.all.items c.loop-number.left.now c.loop-number.right.now _ (sym c.least.ensures ∙ c.in_default.is) c.loop-number.invariant
