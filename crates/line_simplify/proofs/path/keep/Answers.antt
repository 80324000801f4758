use Rattle.std.proofs.Common.{◌-◌, ◌<◌, ◌∷◌, length, reverse, arith, rules}
use Rattle.line_simplify.proofs.Stack.{Rises, rises_within, stack_is, start_told, start_rises, split_rises, split_told, split_smaller, whole_rises, whole_told, whole_smaller}
use Rattle.line_simplify.proofs.path.keep.Goals as goal
use Rattle.line_simplify.proofs.path.keep.Goals.{In-Some}

-- the part that is treated in this turn
rises : (c : In-Some) → Rises c.loop-to.from (c.in-Some.to ∷ reverse c.pop.new.self.items) (length c.args.path.now - 1)
rises c = rw (stack_is c.loop-to.ends.items c.pop.new.self.items c.in-Some.to c.in-Some.ensures.items) at c.loop-to.invariant.rises

order : (c : In-Some) → c.loop-to.from < c.in-Some.to
order c = (rises c).0

within : (c : In-Some) → c.in-Some.to < length c.args.path.now
within c = omega (arith, rises_within c.in-Some.to (reverse c.pop.new.self.items) (length c.args.path.now - 1) (rises c).1, c.requires.line)

pub split-requires-clause-order : goal.split-requires-clause-order
split-requires-clause-order c = order (goal.at.split-requires-clause-order c).In-Some

pub split-requires-clause-within : goal.split-requires-clause-within
split-requires-clause-within c = within (goal.at.split-requires-clause-within c).In-Some

pub bounds-path-to : goal.bounds-path-to
bounds-path-to c = within (goal.at.bounds-path-to c).In-Some

pub offset_bounds-path-to : goal.offset_bounds-path-to
offset_bounds-path-to c = let inside = within (goal.at.offset_bounds-path-to c).In-Some in search rules

pub loop-to-init : goal.loop-to-init
loop-to-init c = record {
  told = start_told c.args.tolerance c.args.path.now c.push.new.self.items c.new-kept.result.items c.push-2.new.self.items c.new-ends.result.items c.requires.line c.new-kept.ensures.items c.in_ok-push.ensures.items c.new-ends.ensures.items c.in_ok-push-2.ensures.items;
  rises = start_rises c.args.tolerance c.args.path.now c.push.new.self.items c.new-kept.result.items c.push-2.new.self.items c.new-ends.result.items c.requires.line c.new-kept.ensures.items c.in_ok-push.ensures.items c.new-ends.ensures.items c.in_ok-push-2.ensures.items;
}

pub loop-to-smaller-in-Continue-branch-4 : goal.loop-to-smaller-in-Continue-branch-4
loop-to-smaller-in-Continue-branch-4 c = split_smaller c.args.tolerance c.args.path.now c.loop-to.kept.items c.loop-to.from c.in-Some-split.at c.in-Some.to c.loop-to.ends.items c.pop.new.self.items c.push-in-Some-split.new.self.items c.push-in-Some-split-2.new.self.items c.in-Some.ensures.items c.in_ok-push-in-Some-split.ensures.items c.in_ok-push-in-Some-split-2.ensures.items c.in-Some-split.ensures (length c.args.path.now - 1) (length c.args.path.now) (omega (arith, c.requires.line)) c.loop-to.invariant.rises

pub loop-to-preserved-in-Continue-branch-4 : goal.loop-to-preserved-in-Continue-branch-4
loop-to-preserved-in-Continue-branch-4 c = record {
  told = split_told c.args.tolerance c.args.path.now c.loop-to.kept.items c.loop-to.from c.in-Some-split.at c.in-Some.to c.loop-to.ends.items c.pop.new.self.items c.push-in-Some-split.new.self.items c.push-in-Some-split-2.new.self.items c.in-Some.ensures.items c.in_ok-push-in-Some-split.ensures.items c.in_ok-push-in-Some-split-2.ensures.items c.in-Some-split.ensures (order (goal.at.loop-to-preserved-in-Continue-branch-4 c).In-Some) (within (goal.at.loop-to-preserved-in-Continue-branch-4 c).In-Some) c.loop-to.invariant.told;
  rises = split_rises c.args.tolerance c.args.path.now c.loop-to.kept.items c.loop-to.from c.in-Some-split.at c.in-Some.to c.loop-to.ends.items c.pop.new.self.items c.push-in-Some-split.new.self.items c.push-in-Some-split-2.new.self.items c.in-Some.ensures.items c.in_ok-push-in-Some-split.ensures.items c.in_ok-push-in-Some-split-2.ensures.items c.in-Some-split.ensures (length c.args.path.now - 1) c.loop-to.invariant.rises;
}

pub loop-to-smaller : goal.loop-to-smaller
loop-to-smaller c = whole_smaller c.args.tolerance c.args.path.now c.loop-to.kept.items c.push-in-None.new.self.items c.loop-to.from c.in-Some.to c.loop-to.ends.items c.pop.new.self.items c.in-Some.ensures.items c.in_ok-push-in-None.ensures.items (length c.args.path.now - 1) (length c.args.path.now) (omega (arith, c.requires.line)) c.loop-to.invariant.rises

pub loop-to-preserved : goal.loop-to-preserved
loop-to-preserved c = record {
  told = whole_told c.args.tolerance c.args.path.now c.loop-to.kept.items c.push-in-None.new.self.items c.loop-to.from c.in-Some.to c.loop-to.ends.items c.pop.new.self.items c.in-Some.ensures.items c.in_ok-push-in-None.ensures.items c.in-None.ensures c.loop-to.invariant.told;
  rises = whole_rises c.args.tolerance c.args.path.now c.loop-to.kept.items c.push-in-None.new.self.items c.loop-to.from c.in-Some.to c.loop-to.ends.items c.pop.new.self.items c.in-Some.ensures.items c.in_ok-push-in-None.ensures.items (length c.args.path.now - 1) c.loop-to.invariant.rises;
}
