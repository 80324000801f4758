use Rattle.std.proofs.Common.{◌≡◌, ◌++◌, take, length, flat_map}
use Rattle.tb_wire.specs.Varint.{encoding}
use Rattle.feature_runs.proofs.item_writer.put_ints.Given as goal

abbrev pub invariant-loop-n : goal.invariant-loop-n
invariant-loop-n l = l.out.items ≡ l.fn.out.items ++ (encoding (length l.ints) ++ flat_map encoding (take l.n-index l.ints))
