use Rattle.std.proofs.Common.{w32}
use Rattle.std.proofs.lemmas.Int.{to_z-of_z}
use Rattle.tile_model.specs.Points.{HoldsAt}
use Rattle.tile_model.proofs.PointTiles.{point-reached, fits}
use Rattle.tile_model.proofs.reach.reach_of_point.Goals as goal

pub returns-clause-told : goal.returns-clause-told
returns-clause-told c =
    let p = c.args.p in
    let x : HoldsAt c.args.zoom c.args.buffer p.x c.strips_of.result = rw (to_z-of_z w32 p.x (fits c.args.zoom p.x c.requires.zoom c.requires.grid.x)) at c.strips_of.ensures in
    let y : HoldsAt c.args.zoom c.args.buffer p.y c.strips_of-2.result = rw (to_z-of_z w32 p.y (fits c.args.zoom p.y c.requires.zoom c.requires.grid.y)) at c.strips_of-2.ensures in
    point-reached c.args.zoom c.args.buffer p _ x y
