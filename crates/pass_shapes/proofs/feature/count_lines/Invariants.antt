use Rattle.std.proofs.Common.{◌≡◌, ◌+◌, ◌-◌, ◌^◌, min, length, take}
use Rattle.tb_types.specs.Bags.{total}
use Rattle.pass_shapes.proofs.feature.count_lines.Given as goal

abbrev pub invariant-loop-line : goal.invariant-loop-line
invariant-loop-line l = l.count ≡ min (l.before + total length (take l.line-index l.lines)) (2 ^ 64 - 1)
