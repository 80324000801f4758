use Rattle.std.proofs.Common.{◌≡◌, take, map, flat_map}
use Rattle.gen_world.specs.Words.{pair_of}
use Rattle.gen_world.specs.Elements.{relation_tags}
use Rattle.gen_world.proofs.block.tags_of_relations.Given as goal

abbrev pub invariant-loop-relation : goal.invariant-loop-relation
invariant-loop-relation l = map pair_of l.tags.items ≡ flat_map relation_tags (take l.relation-index l.relations)
