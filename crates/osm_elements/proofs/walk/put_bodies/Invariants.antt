use Rattle.std.proofs.Common.{◌≡◌, ◌-◌, ◌≤◌, length, map}
use Rattle.osm_elements.specs.Fields.{with_found}
use Rattle.osm_elements.specs.Walks.{bodies_at}
use Rattle.osm_elements.specs.Words.{seen_words}
use Rattle.osm_elements.proofs.walk.put_bodies.Given as goal

abbrev pub invariant-loop-body : goal.invariant-loop-body
invariant-loop-body l = record {
  within : l.at ≤ length l.bytes;
  told : with_found (seen_words l.out.items) (bodies_at l.number l.bytes l.at) ≡ with_found (seen_words l.fn.out.items) (bodies_at l.number l.bytes 0);
}

abbrev pub decreases-loop-body : goal.decreases-loop-body
decreases-loop-body l = length l.bytes - l.at
