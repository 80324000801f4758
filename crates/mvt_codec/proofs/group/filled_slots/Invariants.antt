use Rattle.std.proofs.Common.{◌≡◌, ◌++◌, length}
use Rattle.mvt_codec.specs.Groups.{slots}
use Rattle.mvt_codec.proofs.group.filled_slots.Given as goal

abbrev pub invariant-loop-item : goal.invariant-loop-item
invariant-loop-item l =
    (l.layers.items ≡ slots 0 (length l.initial.layers.items) l.yielded)
    × (l.fn.items.items ≡ l.yielded ++ l.item-iterator.rest.items)
