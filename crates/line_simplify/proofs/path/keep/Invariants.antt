use Rattle.std.proofs.Common.{◌≡◌, ◌-◌, ◌*◌, ◌++◌, length, reverse}
use Rattle.line_simplify.specs.Rule.{simplified}
use Rattle.line_simplify.proofs.Stack.{pending, Rises}
use Rattle.line_simplify.proofs.path.keep.Given as goal

-- what is kept so far and what is still to be kept are the whole, and the ends on the stack rise from its top
abbrev pub invariant-loop-to : goal.invariant-loop-to
invariant-loop-to l = record {
  told : l.kept.items ++ pending l.tolerance l.path l.from (reverse l.ends.items) ≡ simplified l.tolerance l.path;
  rises : Rises l.from (reverse l.ends.items) (length l.path - 1);
}

abbrev pub decreases-loop-to : goal.decreases-loop-to
decreases-loop-to l = 2 * (length l.path - l.from) - length l.ends.items
