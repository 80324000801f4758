use Rattle.std.proofs.Common.{◌≡◌, ℕ, ◌+◌, ◌-◌, ◌<◌, length, subst, arith}
use Rattle.run_merge.specs.Cursors.{cursors_of, ranks_of}
use Rattle.run_merge.specs.Winners.{AreRightBut}
use Rattle.run_merge.proofs.Rounds.{From, count_cursors, right_first, right_wider, played_down}
use Rattle.run_merge.proofs.tournament.play_all.Goals as goal

pub loop-place-init : goal.loop-place-init
loop-place-init c =
    let readers = c.args.readers.now in
    let cursors = cursors_of readers in
    record {
      right = subst (λ (n : ℕ). AreRightBut (From n) (length cursors) (ranks_of cursors) c.args.winners.now) (count_cursors readers) (right_first (length cursors) (ranks_of cursors) c.args.winners.now c.requires.twice);
      small = omega (arith, count_cursors readers);
    }

pub loop-place-preserved : goal.loop-place-preserved
loop-place-preserved c =
    let cursors = cursors_of c.args.readers.now in
    let inv = c.loop-place.invariant in
    let place = c.loop-place.place in
    let above : 1 < place = omega (arith, c.loop-place-test.true) in
    let here : place ≡ (place - 1) + 1 = omega (arith, above) in
    let right = subst (λ (k : ℕ). AreRightBut (From k) (length cursors) (ranks_of cursors) c.loop-place.winners) here inv.right in
    record {
      right = played_down (length cursors) (ranks_of cursors) c.loop-place.winners c.play.new.winners (place - 1) right (omega (arith, above)) (omega (arith, above, inv.small)) c.play.ensures;
      small = omega (arith, inv.small);
    }

pub returns : goal.returns
returns c =
    let cursors = cursors_of c.args.readers.now in
    let place = c.loop-place.place in
    right_wider (From place) (λ m. m < 1) (length cursors) (ranks_of cursors) c.loop-place.winners (λ m h. omega (arith, h, c.loop-place-test.false)) c.loop-place.invariant.right
