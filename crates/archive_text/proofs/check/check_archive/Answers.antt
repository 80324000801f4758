use Rattle.archive_text.proofs.Looking.{check-done}
use Rattle.archive_text.proofs.check.check_archive.Goals as goal

pub returns : goal.returns
returns g c =
    check-done (g.R.Source.seen c.args.source.now) (g.R.Source.seen c.open_archive.new.source) (g.R.Source.seen c.count_contents.new.source) c.in-Ok.archive c.in-Ok-count_contents.totals c.in_ok-text.text (c.in_ok-text.ensures {u = tt}) c.in-Ok.ensures c.in-Ok-count_contents.ensures
