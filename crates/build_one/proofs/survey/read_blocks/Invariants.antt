use Rattle.std.proofs.Common.{◌≡◌, take}
use Rattle.build_one.specs.Survey.{read_of}
use Rattle.build_one.proofs.survey.read_blocks.Given as goal

abbrev pub invariant-loop-block : goal.invariant-loop-block
invariant-loop-block l = l.read.items ≡ read_of (take l.block-index l.blocks)
