use Rattle.std.proofs.Common.{take}
use Rattle.tile_model.specs.Relations.{relation_shape}
use Rattle.tile_model.specs.Tiles.{emitted_items}
use Rattle.pass_shapes.specs.Kept.{kept_origin}
use Rattle.pass_shapes.specs.Stores.{shape_in}
use Rattle.pass_shapes.proofs.Emitting.{Sends}
use Rattle.pass_shapes.proofs.SpecItems.{of_specs}
use Rattle.pass_shapes.proofs.relations.put_specs.Given as goal

abbrev pub invariant-loop-spec : goal.invariant-loop-spec
invariant-loop-spec g l = Sends l.profile (emitted_items (of_specs l.profile (kept_origin l.relation) (relation_shape (shape_in l.shapes) l.relation.members) (take l.spec-index l.relation.specs))) (g.S.Spill.seen l.fn.spill, l.fn.buffer) (g.S.Spill.seen l.spill, l.buffer)
