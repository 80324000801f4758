use Rattle.std.proofs.Common.{◌≡◌, ◌-◌, ◌≤◌, length}
use Rattle.tb_wire.specs.Message.{message, message_at}
use Rattle.pbf_blobs.specs.Messages.{found_in, nothing, seen}
use Rattle.pbf_blobs.proofs.message.find.Given as goal

abbrev pub invariant-loop-at : goal.invariant-loop-at
invariant-loop-at l = record {
  within : l.at ≤ length l.bytes;
  told : found_in l.message (seen l.found) (message_at l.bytes l.at) ≡ found_in l.message nothing (message l.bytes);
}

abbrev pub decreases-loop-at : goal.decreases-loop-at
decreases-loop-at l = length l.bytes - l.at
