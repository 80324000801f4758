use Rattle.std.proofs.Common.{take, flat_map}
use Rattle.member_sets.specs.declared.kept.KeptRelation.{KeptRelation}
use Rattle.tile_model.specs.Tiles.{emitted_items}
use Rattle.pass_shapes.specs.Kept.{kept_features}
use Rattle.pass_shapes.specs.Stores.{shape_in}
use Rattle.pass_shapes.proofs.Emitting.{Sends}
use Rattle.pass_shapes.proofs.relations.put_relations.Given as goal

abbrev pub invariant-loop-relation : goal.invariant-loop-relation
invariant-loop-relation g l = Sends l.profile (flat_map (λ (x : KeptRelation). emitted_items (kept_features l.profile (shape_in l.shapes) x)) (take l.relation-index l.kept)) (g.S.Spill.seen l.fn.spill, l.fn.buffer) (g.S.Spill.seen l.spill, l.buffer)
