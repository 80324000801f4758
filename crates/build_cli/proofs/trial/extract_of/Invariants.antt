use Rattle.std.proofs.Common.{length}
use Rattle.gen_world.specs.Frames.{frames_of}
use Rattle.build_cli.proofs.Trying.{Trying}
use Rattle.build_cli.proofs.trial.extract_of.Given as goal

abbrev pub invariant-loop-bytes : goal.invariant-loop-bytes
invariant-loop-bytes l = Trying (frames_of l.fn.seed l.fn.count) l.world l.bytes.items

abbrev pub decreases-loop-bytes : goal.decreases-loop-bytes
decreases-loop-bytes l = length l.world
