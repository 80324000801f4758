use Rattle.std.proofs.Common.{◌≡◌, take}
use Rattle.tile_model.specs.Needs.{block_needs, largest}
use Rattle.build_one.proofs.needs.largest_block.Given as goal

abbrev pub invariant-loop-block : goal.invariant-loop-block
invariant-loop-block l = l.most ≡ largest (block_needs (take l.block-index l.blocks))
