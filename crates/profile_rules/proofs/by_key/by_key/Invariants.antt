use Rattle.std.proofs.Common.{◌≡◌, ◌+◌, ◌≤◌, take, length}
use Rattle.profile_rules.proofs.Placing.{ArePlaced}
use Rattle.profile_rules.proofs.by_key.by_key.Given as goal

abbrev pub invariant-loop-i : goal.invariant-loop-i
invariant-loop-i l = record {
  few : length l.rules ≤ 1024;
  count : length l.places.items ≡ l.count + 1;
  placed : ArePlaced l.count (take l.i l.rules) l.places.items;
}
