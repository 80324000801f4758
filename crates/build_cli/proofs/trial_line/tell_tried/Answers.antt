use Rattle.build_cli.proofs.Appending.{both-appended}
use Rattle.build_cli.proofs.trial_line.tell_tried.Goals as goal

pub returns-in-Ok : goal.returns-in-Ok
returns-in-Ok g c =
    both-appended (g.K.Sink.seen c.args.console.now) (g.K.Sink.seen c.tell_town.new.console) (g.K.Sink.seen c.tell_totals.new.console) _ _ c.tell_totals.result (c.in-Ok.ensures {u = tt}) c.tell_totals.ensures
