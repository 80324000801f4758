use Rattle.std.proofs.Common.{◌∙◌}
use Rattle.run_merge.proofs.Leasts.{later_than}
use Rattle.run_merge.proofs.gather.least_of.Goals as goal

pub returns-else-tile_of-tile : goal.returns-else-tile_of-tile
returns-else-tile_of-tile c = later_than c.args.readers.now c.in-Some.number c.args.tile c.in-Some.head c.requires.sound c.requires.from c.in-Some.ensures (λ e. c.if-tile_of-tile.false (c.tile_of.ensures ∙ e))
