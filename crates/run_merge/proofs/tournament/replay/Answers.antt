use Rattle.std.proofs.Common.{length, arith}
use Rattle.run_merge.specs.Cursors.{cursors_of, ranks_of}
use Rattle.run_merge.proofs.Rounds.{played_up, right_at_last}
use Rattle.run_merge.proofs.tournament.replay.Goals as goal

pub loop-place-preserved : goal.loop-place-preserved
loop-place-preserved c =
    let cursors = cursors_of c.args.readers.now in
    let inv = c.loop-place.invariant in
    let place = c.loop-place.place in
    record {
      right = played_up (length cursors) (ranks_of cursors) c.loop-place.winners c.play.new.winners place inv.right (omega (arith, c.loop-place-test.true)) inv.small c.play.ensures;
      small = omega (arith, inv.small);
    }

pub returns : goal.returns
returns c =
    let cursors = cursors_of c.args.readers.now in
    right_at_last (length cursors) (ranks_of cursors) c.loop-place.winners c.loop-place.place (omega (arith, c.loop-place-test.false)) c.loop-place.invariant.right
