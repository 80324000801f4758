use Rattle.std.proofs.Common.{◌≡◌, take, All}
use Rattle.mvt_codec.specs.Again.{FitsAttribute}
use Rattle.pass_shapes.proofs.attributes.copy_of.Given as goal

abbrev pub invariant-loop-attribute : goal.invariant-loop-attribute
invariant-loop-attribute l = (l.copy.items ≡ take l.attribute-index l.attributes) × All FitsAttribute l.copy.items
