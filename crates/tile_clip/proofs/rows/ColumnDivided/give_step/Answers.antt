use Rattle.std.proofs.Common.{inl, inr, true, ◌≡◌}
use Rattle.strip_clip.specs.declared.axis.Axis.TheVariants.{Y}
use Rattle.strip_clip.specs.Cuts.{corner_of}
use Rattle.tile_clip.specs.Outlines.{row_cut, row_piece, strip_of}
use Rattle.tile_clip.specs.Pieces.{tile_at}
use Rattle.tile_clip.specs.Steady.{is_steady}
use Rattle.tile_clip.proofs.Giving.{of_each-one}
use Rattle.tile_clip.proofs.SteadyRows.{rows-alike}
use Rattle.tile_clip.proofs.Takable.{first-is-takable, tile-takable}
use Rattle.tile_clip.proofs.rows.ColumnDivided.give_step.Goals as goal

pub one_row-requires-clause-piece : goal.one_row-requires-clause-piece
one_row-requires-clause-piece g c =
    let x = c.args.self.x in
    let z = c.args.self.tiling.z in
    let buffer = c.args.self.tiling.buffer in
    let outline = c.args.outline.now in
    tile-takable (tile_at z x c.args.first) (row_cut (corner_of (tile_at z x c.args.first)) buffer outline) (first-is-takable (row_piece z buffer x outline) c.args.first c.args.count c.requires.some c.requires.pieces)

pub steady_rows-requires-clause-piece : goal.steady_rows-requires-clause-piece
steady_rows-requires-clause-piece g c =
    let x = c.args.self.x in
    let z = c.args.self.tiling.z in
    let buffer = c.args.self.tiling.buffer in
    let outline = c.args.outline.now in
    tile-takable (tile_at z x c.args.first) (row_cut (corner_of (tile_at z x c.args.first)) buffer outline) (first-is-takable (row_piece z buffer x outline) c.args.first c.args.count c.requires.some c.requires.pieces)

pub returns-then-count-eq1 : goal.returns-then-count-eq1
returns-then-count-eq1 g c = rw (of_each-one (row_piece c.args.self.tiling.z c.args.self.tiling.buffer c.args.self.x c.args.outline.now) c.args.first c.args.count c.if-count-eq1.true) c.one_row.ensures

pub returns : goal.returns
returns g c =
    let x = c.args.self.x in
    let z = c.args.self.tiling.z in
    let buffer = c.args.self.tiling.buffer in
    let outline = c.args.outline.now in
    let is = elim c.requires.step as (λ _. is_steady (strip_of Y buffer c.args.first c.args.count) outline ≡ true) [ inl e ↦ absurd (c.if-count-eq1.false e) | inr s ↦ s ] in
    rw (rows-alike z buffer x c.args.first c.args.count outline c.requires.some is) c.steady_rows.ensures
