use Rattle.std.proofs.Common.{◌≡◌, ◌+◌, ◌-◌, ◌*◌, ◌<◌, map, All}
use Rattle.std.specs.List.{range_with_len}
use Rattle.gen_world.specs.Elements.{way_of, way_draws}
use Rattle.gen_world.proofs.way.draw_ways.Given as goal

abbrev pub invariant-loop-id : goal.invariant-loop-id
invariant-loop-id l = record {
  seed : l.numbers.seed ≡ l.initial.numbers.seed;
  taken : l.numbers.taken ≡ 3 * l.fn.counts.nodes + way_draws (l.id - 1);
  near : All (λ w. w.cluster < 1000000) l.ways.items;
  ways : l.ways.items ≡ map (way_of l.initial.numbers.seed l.fn.counts) (range_with_len (l.first + 1) (l.id - 1 - l.first));
}
