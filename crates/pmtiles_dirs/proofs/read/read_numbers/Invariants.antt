use Rattle.std.proofs.Common.{◌≡◌, ◌-◌, ◌≤◌, length}
use Rattle.tb_wire.specs.Items.{with_prefix}
use Rattle.tb_wire.specs.Message.{packed, packed_at}
use Rattle.pmtiles_dirs.proofs.read.read_numbers.Given as goal

abbrev pub invariant-loop-at : goal.invariant-loop-at
invariant-loop-at l = record {
  within : l.at ≤ length l.bytes;
  told : with_prefix l.numbers.items (packed_at l.bytes l.at) ≡ packed l.bytes;
}

abbrev pub decreases-loop-at : goal.decreases-loop-at
decreases-loop-at l = length l.bytes - l.at
