use Rattle.std.proofs.Common.{◌≡◌, ◌-◌, ◌≤◌, length, map}
use Rattle.tb_wire.specs.Field.{entry_of}
use Rattle.tb_wire.specs.Items.{with_prefix}
use Rattle.tb_wire.specs.Message.{message, message_at}
use Rattle.osm_elements.proofs.message.put_fields.Given as goal

abbrev pub invariant-loop-at : goal.invariant-loop-at
invariant-loop-at l = record {
  within : l.at ≤ length l.bytes;
  told : with_prefix (map entry_of l.out.items) (message_at l.bytes l.at) ≡ with_prefix (map entry_of l.fn.out.items) (message l.bytes);
}

abbrev pub decreases-loop-at : goal.decreases-loop-at
decreases-loop-at l = length l.bytes - l.at
