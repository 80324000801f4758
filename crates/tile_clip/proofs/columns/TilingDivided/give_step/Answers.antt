use Rattle.tile_clip.specs.Outlines.{column_pieces}
use Rattle.tile_clip.proofs.Giving.{of_each-one}
use Rattle.tile_clip.proofs.Takable.{takable-same}
use Rattle.tile_clip.proofs.columns.TilingDivided.give_step.Goals as goal

pub one_column-requires : goal.one_column-requires
one_column-requires g c =
    let z = c.args.self.z in
    let buffer = c.args.self.buffer in
    takable-same _ _ (of_each-one (column_pieces z buffer c.args.outline.now) c.args.first c.args._count c.requires.step) c.requires.pieces

pub returns : goal.returns
returns g c =
    let z = c.args.self.z in
    let buffer = c.args.self.buffer in
    rw (of_each-one (column_pieces z buffer c.args.outline.now) c.args.first c.args._count c.requires.step) c.one_column.ensures
