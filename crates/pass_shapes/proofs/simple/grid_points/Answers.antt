use Rattle.std.proofs.Common.{sym, ◌++◌, ◌∷◌, [], ◌∙◌}
use Rattle.line_simplify.specs.Key.{IsOnGrid}
use Rattle.tile_model.specs.World.{grid_point}
use Rattle.pass_shapes.proofs.Walks.{all_more, map_next, on_grid}
use Rattle.pass_shapes.proofs.simple.grid_points.Goals as goal

pub loop-point-preserved : goal.loop-point-preserved
loop-point-preserved c =
    let at = c.grid_point.ensures.exact in
    let adds = (c.in_ok-push.ensures {u = tt}).items in (
      adds ∙ ((λ i. c.loop-point.invariant.0 i ++ at i ∷ []) ∙ sym (map_next (λ w. grid_point w c.args.zoom) c.args.points.now c.loop-point.point-index _ c.loop-point-test.true)),
      all_more IsOnGrid c.loop-point.placed.items c.push.new.self.items c.grid_point.result adds c.loop-point.invariant.1 (on_grid c.args.zoom c.grid_point.result c.requires c.grid_point.ensures.within),
    )
