use Rattle.std.proofs.Common.{◌<◌, length, sym, ◌∙◌, arith}
use Rattle.run_merge.proofs.Leasts.{rank_read}
use Rattle.run_merge.proofs.Rounds.{count_cursors, first_by_test, first_by_order}
use Rattle.run_merge.proofs.tournament.first_in_order.Goals as goal

pub returns-then-is_before-clause-a : goal.returns-then-is_before-clause-a
returns-then-is_before-clause-a c =
    let readers = c.args.readers.now in
    let b_within : c.args.b < length readers = omega (arith, c.requires.within, count_cursors readers) in
    let a_within : c.args.a < length readers = omega (arith, b_within, c.requires.order) in
    first_by_test _ _ _ _ c.args.b c.args.a (rank_read readers c.args.b _ 0 b_within) (rank_read readers c.args.a _ 0 a_within) (sym c.is_before.ensures ∙ c.if-is_before.true)

pub returns-clause-b : goal.returns-clause-b
returns-clause-b c =
    let readers = c.args.readers.now in
    let b_within : c.args.b < length readers = omega (arith, c.requires.within, count_cursors readers) in
    let a_within : c.args.a < length readers = omega (arith, b_within, c.requires.order) in
    first_by_order _ _ _ _ c.args.a c.args.b (rank_read readers c.args.a _ 0 a_within) (rank_read readers c.args.b _ 0 b_within) c.requires.order (sym c.is_before.ensures ∙ c.if-is_before.false)
