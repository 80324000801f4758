use Rattle.std.proofs.Common.{◌≡◌, ◌+◌, ◌^◌, ◌<◌}
use Rattle.hilbert_ids.specs.Curve.{place}
use Rattle.hilbert_ids.proofs.id.place_of.Given as goal

-- what is counted so far, and the place inside the quadrant of this level
abbrev pub invariant-loop-level : goal.invariant-loop-level
invariant-loop-level l = record {
  column : l.x < 2 ^ l.level;
  row : l.y < 2 ^ l.level;
  told : l.found + place l.level l.x l.y ≡ place l.fn.zoom l.fn.x l.fn.y;
}
