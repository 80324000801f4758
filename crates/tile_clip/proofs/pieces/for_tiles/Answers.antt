use Rattle.std.proofs.Common.{◌^◌, subst, sym}
use Rattle.tile_clip.specs.Given.{Gives}
use Rattle.tile_clip.specs.Pieces.{of_each, AreTakable}
use Rattle.tile_clip.specs.Outlines.{column_pieces}
use Rattle.tile_clip.proofs.Halving.{columns-rest}
use Rattle.tile_clip.proofs.Whole.{pieces-outline, all-takable}
use Rattle.tile_clip.proofs.pieces.for_tiles.Goals as goal

pub all_parts-requires-clause-rest : goal.all_parts-requires-clause-rest
all_parts-requires-clause-rest g c = columns-rest c.args.z c.args.buffer

pub all_parts-requires-clause-stays : goal.all_parts-requires-clause-stays
all_parts-requires-clause-stays g c = λ strip outline fits. tt

pub all_parts-requires-clause-pieces : goal.all_parts-requires-clause-pieces
all_parts-requires-clause-pieces g c =
    let z = c.args.z in
    let buffer = c.args.buffer in
    subst (λ o. AreTakable (of_each (column_pieces z buffer o) 0 (2 ^ z))) (sym c.in-Ok.ensures) (all-takable z buffer c.args.shape.now c.requires.buffer c.requires.few)

pub returns-in-Ok : goal.returns-in-Ok
returns-in-Ok g c =
    let z = c.args.z in
    let buffer = c.args.buffer in
    let shape = c.args.shape.now in
    rw (pieces-outline z buffer shape) (subst (λ o. Gives g.T.PieceTaker.taken g.T.PieceTaker.steps g.T.PieceTaker.stops c.args.take.now c.all_parts.new.take (of_each (column_pieces z buffer o) 0 (2 ^ z)) c.all_parts.result) c.in-Ok.ensures c.all_parts.ensures)
