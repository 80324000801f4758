use Rattle.std.proofs.Common.{◌^◌, arith, subst, sym}
use Rattle.std.proofs.lemmas.Int.{ints}
use Rattle.strip_clip.specs.Cuts.{column, corner_of}
use Rattle.tile_clip.specs.Bounds.{IsInColumn}
use Rattle.tile_clip.specs.Given.{Gives}
use Rattle.tile_clip.specs.Outlines.{row_piece}
use Rattle.tile_clip.specs.Pieces.{tile_at, of_each}
use Rattle.tile_clip.proofs.Halving.{rows-rest}
use Rattle.tile_clip.proofs.Within.{outline_in-within, still-in-column}
use Rattle.tile_clip.proofs.columns.one_column.Goals as goal

pub all_parts-requires-clause-rest : goal.all_parts-requires-clause-rest
all_parts-requires-clause-rest g c = rows-rest c.args.column.tiling.z c.args.column.tiling.buffer c.args.column.x

pub all_parts-requires-clause-stays : goal.all_parts-requires-clause-stays
all_parts-requires-clause-stays g c = still-in-column c.args.column.tiling.buffer c.args.column.x

pub all_parts-requires-clause-fits : goal.all_parts-requires-clause-fits
all_parts-requires-clause-fits g c =
    let x = c.args.column.x in
    let buffer = c.args.column.tiling.buffer in
    let s = column (corner_of (tile_at c.args.column.tiling.z x 0)) buffer in
    subst (λ o. IsInColumn buffer x o) (sym c.in-Ok.ensures) (outline_in-within s (omega (arith, ints)) c.args.outline.now)

pub returns-in-Ok : goal.returns-in-Ok
returns-in-Ok g c =
    let x = c.args.column.x in
    let z = c.args.column.tiling.z in
    let buffer = c.args.column.tiling.buffer in
    subst (λ o. Gives g.T.PieceTaker.taken g.T.PieceTaker.steps g.T.PieceTaker.stops c.args.take.now c.all_parts.new.take (of_each (row_piece z buffer x o) 0 (2 ^ z)) c.all_parts.result) c.in-Ok.ensures c.all_parts.ensures
