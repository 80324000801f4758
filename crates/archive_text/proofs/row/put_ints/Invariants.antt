use Rattle.std.proofs.Common.{◌≡◌, ◌++◌, flat_map, take, codes}
use Rattle.std.specs.Prelude.{decimal}
use Rattle.archive_text.proofs.row.put_ints.Given as goal

abbrev pub invariant-loop-n : goal.invariant-loop-n
invariant-loop-n l = l.out ≡ l.initial.out ++ flat_map (λ m. codes "," ++ decimal m) (take l.n-index l.later)
