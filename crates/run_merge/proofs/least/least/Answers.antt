use Rattle.std.proofs.Common.{ℕ, ◌<◌, nat_lt, length, get_or, subst, arith, rules}
use Rattle.std.specs.List.{IsFirstBest}
use Rattle.run_merge.specs.Cursors.{cursors_of, ranks_of}
use Rattle.run_merge.proofs.Leasts.{head_read, all_done}
use Rattle.run_merge.proofs.Rounds.{is_first, count_ranks, count_cursors}
use Rattle.run_merge.proofs.least.least.Goals as goal

pub returns-in-Some : goal.returns-in-Some
returns-in-Some c =
    let readers = c.args.readers.now in
    let cursors = cursors_of readers in
    let some : 0 < length readers = search rules in
    let first = is_first (length cursors) (ranks_of cursors) c.args.winners.now c.requires.winners (count_ranks readers) (omega (arith, some, count_cursors readers)) in
    record {
      head_is = head_read readers (get_or c.args.winners.now 1 0) _ c.in-Some.head (omega (arith, first.0, count_cursors readers)) c.in-Some.is;
      first = first;
    }

pub returns-in-None : goal.returns-in-None
returns-in-None c =
    let readers = c.args.readers.now in
    let cursors = cursors_of readers in
    let some : 0 < length readers = search rules in
    let first = is_first (length cursors) (ranks_of cursors) c.args.winners.now c.requires.winners (count_ranks readers) (omega (arith, some, count_cursors readers)) in
    all_done readers (get_or c.args.winners.now 1 0) _ c.requires.sound (subst (λ (n : ℕ). IsFirstBest nat_lt (ranks_of cursors) n (get_or c.args.winners.now 1 0)) (count_cursors readers) first) c.in-None.is
