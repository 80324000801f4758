use Rattle.std.proofs.Common.{◌≡◌, take}
use Rattle.block_pass.specs.Orders.{needs_of}
use Rattle.block_pass.proofs.needs.needs_of.Given as goal

abbrev pub invariant-loop-block : goal.invariant-loop-block
invariant-loop-block l = l.needs.items ≡ needs_of (take l.block-index l.blocks)
