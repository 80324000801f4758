use Rattle.std.proofs.Common.{[], ◌∷◌, ◌++◌, ap, ◌∙◌}
use Rattle.mvt_codec.proofs.GroupRows.{slots-empty}
use Rattle.mvt_codec.proofs.group.empty_slots.Goals as goal

pub loop-number-preserved : goal.loop-number-preserved
loop-number-preserved c =
    let items = (c.in_ok-push.ensures {u = tt}).items in
    slots-empty _ c.loop-number.slots.items _ c.loop-number.invariant (items ∙ ap (λ l. c.loop-number.slots.items ++ l ∷ []) c.new.ensures)
