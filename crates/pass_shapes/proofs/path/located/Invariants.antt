use Rattle.pass_shapes.specs.Stores.{locate_in}
use Rattle.pass_shapes.proofs.Walks.{WithRest}
use Rattle.pass_shapes.proofs.path.located.Given as goal

abbrev pub invariant-loop-id : goal.invariant-loop-id
invariant-loop-id l = WithRest (locate_in l.locations) l.refs l.id-index l.points.items
