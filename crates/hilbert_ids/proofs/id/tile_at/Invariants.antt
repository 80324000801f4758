use Rattle.std.proofs.Common.{◌≡◌, ◌+◌, ◌*◌, ◌^◌, ◌<◌}
use Rattle.hilbert_ids.specs.Curve.{place}
use Rattle.hilbert_ids.proofs.id.tile_at.Given as goal

-- what is found so far is a tile of the square of this level, and the rest tells the quadrants around it
abbrev pub invariant-loop-level : goal.invariant-loop-level
invariant-loop-level l = record {
  column : l.x < 2 ^ l.level;
  row : l.y < 2 ^ l.level;
  told : l.rest * 4 ^ l.level + place l.level l.x l.y ≡ l.fn.at;
}
