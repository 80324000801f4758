use Rattle.std.proofs.Common.{take, flat_map}
use Rattle.profile_rules.specs.declared.spec.Spec.{Spec}
use Rattle.tile_model.specs.Points.{point_feature}
use Rattle.tile_model.specs.Tiles.{feature_items}
use Rattle.pass_shapes.proofs.Emitting.{Sends}
use Rattle.pass_shapes.proofs.points.put_each.Given as goal

abbrev pub invariant-loop-spec : goal.invariant-loop-spec
invariant-loop-spec g l = Sends l.profile (flat_map (λ (x : Spec). feature_items (point_feature l.profile l.block l.node l.point x)) (take l.spec-index l.specs)) (g.S.Spill.seen l.fn.spill, l.fn.buffer) (g.S.Spill.seen l.spill, l.buffer)
