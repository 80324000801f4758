use Rattle.tile_model.specs.Points.{reach_tiles}
use Rattle.pass_shapes.proofs.PointItems.{emits-at}
use Rattle.pass_shapes.proofs.points.put_zoom.Goals as goal

pub returns : goal.returns
returns g c =
    let seen = g.S.Spill.seen in
    emits-at c.args.profile.now c.args.block c.args.node.now c.args.point c.args.spec.now c.args.zoom c.grid_point-p.result c.buffer_of-width.result (reach_tiles c.args.zoom c.reach_of_point-reach.result) (seen c.args.spill.now) (seen c.put_reach.new.spill) c.args.buffer.now c.put_reach.new.buffer c.put_reach.result
    c.grid_point-p.ensures.exact c.buffer_of-width.ensures.exact c.requires.first c.requires.last c.reach_of_point-reach.ensures.told c.put_reach.ensures
