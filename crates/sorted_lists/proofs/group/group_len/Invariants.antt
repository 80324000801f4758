use Rattle.std.proofs.Common.{◌≡◌, All, take}
use Rattle.sorted_lists.proofs.group.group_len.Given as goal

abbrev pub invariant-loop-len : goal.invariant-loop-len
invariant-loop-len g l = All (λ x. g.T.Classed.class_of x ≡ l.class) (take l.len l.items)
