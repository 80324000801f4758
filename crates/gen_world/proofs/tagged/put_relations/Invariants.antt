use Rattle.std.proofs.Common.{◌≡◌, ◌++◌, take, flat_map}
use Rattle.tb_wire.specs.Message.{len_text}
use Rattle.gen_world.specs.Blocks.{relation_text}
use Rattle.gen_world.proofs.tagged.put_relations.Given as goal

abbrev pub invariant-loop-relation : goal.invariant-loop-relation
invariant-loop-relation l = l.out.items ≡ l.initial.out.items ++ flat_map (λ r. len_text 4 (relation_text l.strings r)) (take l.relation-index l.relations)
