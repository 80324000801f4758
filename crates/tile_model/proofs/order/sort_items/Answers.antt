use Rattle.std.proofs.Common.{◌+◌, rules, sym, ap, ◌∙◌, get_or}
use Rattle.std.specs.Ordering.{is_lt}
use Rattle.std.proofs.lemmas.List.Sorted.{answers_always}
use Rattle.mvt_codec.specs.declared.item.RunItem.{RunItem}
use Rattle.tile_model.proofs.KeySorts.{derived}
use Rattle.tile_model.proofs.order.sort_items.Goals as goal

pub returns-clause-sorted : goal.returns-clause-sorted
returns-clause-sorted c =
    let keys = answers_always _ _ _ (λ f a r next called. search rules) in
    let h = c.sort_unstable_by_key.ensures.sorted (λ (item : RunItem). item.key) keys in
    let items = c.sort_unstable_by_key.new.self in
    λ k d low le. sym (ap is_lt (derived (get_or items (k + 1) d).key (get_or items k d).key)) ∙ h k d low le
