use Rattle.archive_text.proofs.Looking.{show-done}
use Rattle.archive_text.proofs.show.show_tile.Goals as goal

pub returns-in-Ok-count_contents : goal.returns-in-Ok-count_contents
returns-in-Ok-count_contents g c =
    show-done (g.R.Source.seen c.args.source.now) (g.R.Source.seen c.open_archive.new.source) (g.R.Source.seen c.count_contents.new.source) c.in-Ok.archive c.args.tile c.id_of.result.0 (g.R.Source.seen c.show_id.new.source) c.in-Ok-count_contents.field-0 c.show_id.result
    c.id_of.ensures c.in-Ok.ensures c.in-Ok-count_contents.ensures c.show_id.ensures
