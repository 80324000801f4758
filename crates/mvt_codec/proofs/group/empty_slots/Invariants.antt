use Rattle.std.proofs.Common.{◌≡◌, []}
use Rattle.mvt_codec.specs.Groups.{slots}
use Rattle.mvt_codec.proofs.group.empty_slots.Given as goal

abbrev pub invariant-loop-number : goal.invariant-loop-number
invariant-loop-number l = l.slots.items ≡ slots 0 l.number []
