use Rattle.std.proofs.Common.{◌≡◌, ◌+◌, ◌*◌, ◌++◌, pos, take, map}
use Rattle.gen_world.proofs.way.Way.put_refs.Given as goal

abbrev pub invariant-loop-corner : goal.invariant-loop-corner
invariant-loop-corner l = l.refs.items ≡ l.initial.refs.items ++ map (λ corner. pos (10 * l.self.cluster + corner)) (take l.corner-index l.corner-items)
