use Rattle.std.proofs.Common.{◌≡◌, ◌++◌, drop}
use Rattle.tb_types.specs.Points.{distinct, distinct_after}
use Rattle.tb_types.proofs.ring.without_repeats.Given as goal

-- the points that are kept so far, and those that are left, are the whole
abbrev pub invariant-loop-q : goal.invariant-loop-q
invariant-loop-q g l = l.points.items ++ distinct_after g.P.Point.x_of g.P.Point.y_of l.p (drop l.q-index l.rest) ≡ distinct g.P.Point.x_of g.P.Point.y_of l.path
