use Rattle.std.proofs.Common.{◌≡◌, ◌-◌, ◌^◌, min, take, length, flat_map}
use Rattle.tb_wire.specs.Varint.{encoding}
use Rattle.feature_runs.proofs.lengths.ints_len.Given as goal

abbrev pub invariant-loop-n : goal.invariant-loop-n
invariant-loop-n l = l.len ≡ min (length (flat_map encoding (take l.n-index l.ints))) (2 ^ 64 - 1)
