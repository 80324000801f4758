use Rattle.std.proofs.Common.{◌≡◌, take}
use Rattle.tile_model.specs.Relations.{first_each}
use Rattle.pass_shapes.proofs.member_ways.first_each.Given as goal

abbrev pub invariant-loop-id : goal.invariant-loop-id
invariant-loop-id l = l.set.keys ≡ first_each (take l.id-index l.ids)
