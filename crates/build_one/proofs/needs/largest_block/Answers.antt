use Rattle.std.proofs.Common.{sym, ap, ◌∙◌}
use Rattle.std.specs.Prelude.{max}
use Rattle.build_one.proofs.BlockNeeds.{larger-next, same-next}
use Rattle.build_one.proofs.needs.largest_block.Goals as goal
use Rattle.build_one.proofs.needs.largest_block.Goals.{then-is_read, else-is_read}

pub loop-block-preserved : goal.loop-block-preserved
loop-block-preserved c = elim c.if-is_read.branch [
  | then-is_read w ↦ larger-next c.args.blocks.now c.loop-block.block-index c.loop-block.most c.if-is_read.most _ c.loop-block-test.true (sym (w.if-is_read.ensures {u = tt})) c.loop-block.invariant
      (w.most-is ∙ (w.larger-most.ensures ∙ ap (max c.loop-block.most) w.block_need.ensures))
  | else-is_read w ↦ w.most-is ∙ same-next c.args.blocks.now c.loop-block.block-index c.loop-block.most _ c.loop-block-test.true (sym (w.if-is_read.ensures {u = tt})) c.loop-block.invariant
]
