use Rattle.line_simplify.proofs.path.tests.+mark.Given as goal

abbrev pub decreases-mark : goal.decreases-mark
decreases-mark l = l.depth
