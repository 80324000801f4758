use Rattle.std.proofs.Common.{sym, subst, ◌∙◌, arith}
use Rattle.gen_world.specs.Draws.{AreCounts}
use Rattle.gen_world.proofs.Draws.{counts_are}
use Rattle.gen_world.proofs.FrameList.{none_taken}
use Rattle.gen_world.proofs.Sizes.{bytes_few, blocks_few}
use Rattle.gen_world.proofs.world.gen_blocks.Goals as goal

pub invariant_of-result : goal.invariant_of-result
invariant_of-result c =
    (c.new.ensures.taken ∙ sym (none_taken c.counts_of.result), subst AreCounts (sym c.counts_of.ensures) (counts_are c.args.count c.requires.least c.requires.most), omega arith)

pub returns-clause-few : goal.returns-clause-few
returns-clause-few c = blocks_few c.new.result.seed c.counts_of.result (subst AreCounts (sym c.counts_of.ensures) (counts_are c.args.count c.requires.least c.requires.most))

pub returns-clause-short : goal.returns-clause-short
returns-clause-short c = bytes_few c.new.result.seed c.counts_of.result (subst AreCounts (sym c.counts_of.ensures) (counts_are c.args.count c.requires.least c.requires.most))
