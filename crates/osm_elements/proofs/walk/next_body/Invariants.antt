use Rattle.std.proofs.Common.{◌≡◌, ◌-◌, ◌≤◌, length}
use Rattle.osm_elements.specs.Walks.{bodies_at}
use Rattle.osm_elements.proofs.walk.next_body.Given as goal

abbrev pub invariant-loop-field : goal.invariant-loop-field
invariant-loop-field l = record {
  begun : l.from ≤ l.at;
  within : l.at ≤ length l.bytes;
  told : bodies_at l.number l.bytes l.at ≡ bodies_at l.number l.bytes l.from;
}

abbrev pub decreases-loop-field : goal.decreases-loop-field
decreases-loop-field l = length l.bytes - l.at
