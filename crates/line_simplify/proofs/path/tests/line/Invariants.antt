use Rattle.std.proofs.Common.{All}
use Rattle.line_simplify.specs.Key.{IsOnGrid}
use Rattle.line_simplify.proofs.path.tests.line.Given as goal

abbrev pub invariant-loop-x : goal.invariant-loop-x
invariant-loop-x l = All IsOnGrid l.points.items
