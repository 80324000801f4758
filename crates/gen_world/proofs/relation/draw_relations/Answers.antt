use Rattle.std.proofs.Common.{◌≡◌, ◌<◌, ◌+◌, ◌*◌, ◌/◌, ap, ◌∙◌, arith}
use Rattle.gen_world.specs.declared.relation.Relation.{Relation}
use Rattle.gen_world.specs.Numbers.{draw}
use Rattle.gen_world.specs.Elements.{relation_of, way_draws}
use Rattle.gen_world.proofs.Drawn.{one_more_id, relation_is, all_more}
use Rattle.gen_world.proofs.relation.draw_relations.Goals as goal

pub loop-id-preserved : goal.loop-id-preserved
loop-id-preserved c =
    let seed = c.args.numbers.now.seed in
    let counts = c.args.counts in
    let id = c.loop-id.id in
    let before = c.loop-id.invariant in
    let area = c.draw-area in
    let made = c.relation_at in
    let pushed = (c.in_ok-push.ensures {u = tt}).items in
    let place : c.loop-id.numbers.taken + 1 ≡ 3 * counts.nodes + way_draws counts.ways + id = omega arith in
    let drawn : made.result.area ≡ draw seed (c.loop-id.numbers.taken + 1) ((counts.ways + 1) / 4) =
    made.ensures.area ∙ area.ensures.drawn ∙ ap (λ s. draw s (c.loop-id.numbers.taken + 1) ((counts.ways + 1) / 4)) before.seed in
    record {
      seed = area.ensures.seed ∙ before.seed;
      taken = omega arith;
      near = all_more (λ (r : Relation). r.area < 1000000) c.loop-id.relations.items c.push.new.self.items made.result before.near (omega arith) pushed;
      relations = one_more_id (relation_of seed counts) c.args.first id c.loop-id.relations.items c.push.new.self.items made.result c.loop-id.auto.id before.relations
          (relation_is seed id (c.loop-id.numbers.taken + 1) counts made.result made.ensures.id place drawn) pushed;
    }
