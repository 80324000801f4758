use Rattle.std.proofs.Common.{◌≡◌, ◌-◌}
use Rattle.feature_runs.specs.ItemReading.{int_at, parts_at}
use Rattle.feature_runs.proofs.Loops.{with_front}
use Rattle.feature_runs.proofs.read_parts.ints_of.Given as goal

abbrev pub invariant-loop : goal.invariant-loop
invariant-loop l = with_front l.ints.items (parts_at int_at (l.count - l.counter) l.rest) ≡ parts_at int_at l.count l.bytes
