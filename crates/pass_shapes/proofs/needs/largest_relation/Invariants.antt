use Rattle.std.proofs.Common.{◌≡◌, take}
use Rattle.tile_model.specs.Needs.{largest}
use Rattle.pass_shapes.specs.Kept.{needs_of}
use Rattle.pass_shapes.specs.Stores.{shape_in}
use Rattle.pass_shapes.proofs.needs.largest_relation.Given as goal

abbrev pub invariant-loop-relation : goal.invariant-loop-relation
invariant-loop-relation l = l.most ≡ largest (needs_of (shape_in l.shapes) (take l.relation-index l.kept))
