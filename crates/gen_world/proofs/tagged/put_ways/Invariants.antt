use Rattle.std.proofs.Common.{◌≡◌, ◌++◌, take, flat_map}
use Rattle.tb_wire.specs.Message.{len_text}
use Rattle.gen_world.specs.Blocks.{way_text}
use Rattle.gen_world.proofs.tagged.put_ways.Given as goal

abbrev pub invariant-loop-way : goal.invariant-loop-way
invariant-loop-way l = l.out.items ≡ l.initial.out.items ++ flat_map (λ w. len_text 3 (way_text l.strings w)) (take l.way-index l.ways)
