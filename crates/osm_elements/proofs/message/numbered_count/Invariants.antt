use Rattle.std.proofs.Common.{◌≤◌}
use Rattle.osm_elements.proofs.message.numbered_count.Given as goal

abbrev pub invariant-loop-field : goal.invariant-loop-field
invariant-loop-field l = l.count ≤ l.field-index
