use Rattle.std.proofs.Common.{◌≡◌, ◌-◌}
use Rattle.feature_runs.specs.ItemReading.{attribute_at, parts_at}
use Rattle.feature_runs.proofs.Loops.{with_front}
use Rattle.feature_runs.proofs.item_reader.attributes_of.Given as goal

abbrev pub invariant-loop : goal.invariant-loop
invariant-loop l = with_front l.attributes.items (parts_at attribute_at (l.count - l.counter) l.rest) ≡ parts_at attribute_at l.count l.bytes
