use Rattle.std.proofs.Common.{◌≡◌, ◌+◌, ◌-◌, ◌*◌, ◌<◌, map, All}
use Rattle.std.specs.List.{range_with_len}
use Rattle.gen_world.specs.Elements.{relation_of, way_draws}
use Rattle.gen_world.proofs.relation.draw_relations.Given as goal

abbrev pub invariant-loop-id : goal.invariant-loop-id
invariant-loop-id l = record {
  seed : l.numbers.seed ≡ l.initial.numbers.seed;
  taken : l.numbers.taken ≡ 3 * l.counts.nodes + way_draws l.counts.ways + (l.id - 1);
  near : All (λ r. r.area < 1000000) l.relations.items;
  relations : l.relations.items ≡ map (relation_of l.initial.numbers.seed l.counts) (range_with_len (l.first + 1) (l.id - 1 - l.first));
}
