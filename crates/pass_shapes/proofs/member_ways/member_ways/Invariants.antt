use Rattle.std.proofs.Common.{◌≡◌, take, filter_map}
use Rattle.pass_shapes.specs.Stores.{shape_in}
use Rattle.pass_shapes.proofs.member_ways.member_ways.Given as goal

abbrev pub invariant-loop-id : goal.invariant-loop-id
invariant-loop-id l = l.ways.items ≡ filter_map (shape_in l.shapes) (take l.id-index l.id-items)
