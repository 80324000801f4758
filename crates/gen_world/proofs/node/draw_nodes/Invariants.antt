use Rattle.std.proofs.Common.{◌≡◌, ◌≢◌, ◌-◌, ◌*◌, ◌%◌, map}
use Rattle.std.specs.List.{range_with_len}
use Rattle.gen_world.specs.Elements.{node_of}
use Rattle.gen_world.specs.Places.{corner_of, IsNear}
use Rattle.gen_world.proofs.node.draw_nodes.Given as goal

abbrev pub invariant-loop-index : goal.invariant-loop-index
invariant-loop-index l = record {
  seed : l.numbers.seed ≡ l.initial.numbers.seed;
  taken : l.numbers.taken ≡ 3 * l.index;
  near : IsNear l.corner;
  corner : l.index % 10 ≢ 0 → l.corner ≡ corner_of l.initial.numbers.seed l.index;
  nodes : l.nodes.items ≡ map (node_of l.initial.numbers.seed) (range_with_len l.first (l.index - l.first));
}
