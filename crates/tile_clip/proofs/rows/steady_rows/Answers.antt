use Rattle.std.proofs.Common.{sym, ap, subst, ◌∙◌, Ok}
use Rattle.tile_clip.specs.Given.{Gives}
use Rattle.tile_clip.specs.Pieces.{of_each}
use Rattle.tile_clip.specs.Steady.{like_piece}
use Rattle.tile_clip.proofs.Giving.{gives-none}
use Rattle.tile_clip.proofs.SteadyRows.{like-none}
use Rattle.tile_clip.proofs.rows.steady_rows.Goals as goal

pub returns-in-Ok-None : goal.returns-in-Ok-None
returns-in-Ok-None g c =
    let nothing = ap (λ o. of_each (like_piece c.args.column.tiling.z c.args.column.x o) c.args.first c.args.count) (sym c.in-Ok-None.ensures ∙ c.in-Ok-None.field-0-is) ∙ like-none c.args.column.tiling.z c.args.column.x c.args.first c.args.count in
    let take = c.args.take.now in
    subst (λ pieces. Gives g.T.PieceTaker.taken g.T.PieceTaker.steps g.T.PieceTaker.stops take take pieces (Ok tt)) (sym nothing) (gives-none g.T.PieceTaker.taken g.T.PieceTaker.steps g.T.PieceTaker.stops take tt (g.met.T.PieceTaker.steps_none take))
