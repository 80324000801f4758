use Rattle.std.proofs.Common.{◌≡◌, ◌++◌, ◌≤◌, length, take, drop, reverse}
use Rattle.ring_assembly.proofs.chain.append_backward.Given as goal

-- the points so far and those before this index are the whole
abbrev pub invariant-loop-at : goal.invariant-loop-at
invariant-loop-at l = record {
  told : l.points.items ++ reverse (take l.at l.more) ≡ l.fn.points.items ++ drop 1 (reverse l.more);
  within : l.at ≤ length l.more;
}

abbrev pub decreases-loop-at : goal.decreases-loop-at
decreases-loop-at l = l.at
