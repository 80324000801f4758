use Rattle.std.proofs.Common.{length}
use Rattle.gen_world.specs.Frames.{frames_of}
use Rattle.build_cli.proofs.Generating.{Generating}
use Rattle.build_cli.proofs.generate.write_extract.Given as goal

abbrev pub invariant-loop-frame : goal.invariant-loop-frame
invariant-loop-frame g l = Generating (frames_of l.fn.seed l.fn.count) l.world (g.K.Sink.seen l.fn.archive) (g.K.Sink.seen l.archive) (record { blocks = l.blocks; bytes = l.bytes })

abbrev pub decreases-loop-frame : goal.decreases-loop-frame
decreases-loop-frame g l = length l.world
