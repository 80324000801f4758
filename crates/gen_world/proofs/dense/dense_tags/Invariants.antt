use Rattle.std.proofs.Common.{◌≡◌, ◌++◌, [], ◌∷◌, take, flat_map}
use Rattle.gen_world.specs.Elements.{node_tags}
use Rattle.gen_world.specs.Tables.{places_in}
use Rattle.gen_world.proofs.dense.dense_tags.Given as goal

abbrev pub invariant-loop-node : goal.invariant-loop-node
invariant-loop-node l = l.places.items ≡ flat_map (λ n. places_in l.strings (node_tags n) ++ 0 ∷ []) (take l.node-index l.nodes)
