use Rattle.std.proofs.Common.{ap, ◌∙◌}
use Rattle.strip_clip.specs.Edges.{reach}
use Rattle.tile_clip.proofs.Within.{end-in-tile}
use Rattle.tile_clip.proofs.piece.end_in_row.Goals as goal

pub from_corner-requires : goal.from_corner-requires
from_corner-requires c =
    let e = c.args.edge in
    rw (c.reach.ensures ∙ ap (λ s. reach s e.from e.to c.args.end) c.row.ensures) (end-in-tile c.args.window.corner c.args.window.buffer e c.args.end c.requires.within c.requires.end c.requires.touches)
