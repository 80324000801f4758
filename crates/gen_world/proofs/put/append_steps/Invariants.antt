use Rattle.std.proofs.Common.{◌≡◌, ◌++◌, drop, flat_map, pos}
use Rattle.tb_wire.specs.Varint.{encoding}
use Rattle.gen_world.specs.Blocks.{steps_from}
use Rattle.gen_world.proofs.put.append_steps.Given as goal

abbrev pub invariant-loop-n : goal.invariant-loop-n
invariant-loop-n l =
    l.out.items ++ flat_map encoding (steps_from l.last (drop l.n-index l.numbers)) ≡ l.initial.out.items ++ flat_map encoding (steps_from (pos 0) l.numbers)
