use Rattle.std.proofs.Common.{◌≡◌, take, map, flat_map}
use Rattle.gen_world.specs.Words.{pair_of}
use Rattle.gen_world.specs.Elements.{node_tags}
use Rattle.gen_world.proofs.block.tags_of_nodes.Given as goal

abbrev pub invariant-loop-node : goal.invariant-loop-node
invariant-loop-node l = map pair_of l.tags.items ≡ flat_map node_tags (take l.node-index l.nodes)
