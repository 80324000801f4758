use Rattle.run_merge.proofs.Rounds.{reader_changed}
use Rattle.run_merge.proofs.steps.advance_at.Goals as goal

pub replay-requires-clause-right : goal.replay-requires-clause-right
replay-requires-clause-right g c = reader_changed c.args.readers.now c.take_one.new.readers c.args.number c.take_one.ensures.one.0 c.args.winners.now c.requires.least.first.0 c.take_one.ensures.one.1 c.requires.winners
