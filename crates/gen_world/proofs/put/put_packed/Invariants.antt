use Rattle.std.proofs.Common.{◌≡◌, take, flat_map}
use Rattle.tb_wire.specs.Varint.{encoding}
use Rattle.gen_world.proofs.put.put_packed.Given as goal

abbrev pub invariant-loop-n : goal.invariant-loop-n
invariant-loop-n l = l.packed.items ≡ flat_map encoding (take l.n-index l.numbers)
