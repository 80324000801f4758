use Rattle.std.proofs.Common.{◌≡◌, ◌<◌, ◌+◌, ◌-◌, ◌*◌, ◌/◌, ◌%◌, ◌==◌, if◌then◌else◌, All, map, ap, sym, subst, ◌∙◌, refl, arith}
use Rattle.std.specs.List.{range_with_len}
use Rattle.std.proofs.lemmas.List.Elements.{All-nil}
use Rattle.gen_world.specs.declared.way.Way.{Way}
use Rattle.gen_world.specs.Numbers.{draw}
use Rattle.gen_world.specs.Elements.{way_of, way_draws}
use Rattle.gen_world.proofs.Draws.{draws_few, ways_next}
use Rattle.gen_world.proofs.Drawn.{one_more_id, way_is, all_more}
use Rattle.gen_world.proofs.way.draw_ways.Goals as goal

pub loop-id-init : goal.loop-id-init
loop-id-init c =
    let none = (c.in_ok-ways.ensures {u = tt}).items in
    let first : c.args.first ≡ c.args.first + 1 - 1 = omega arith in
    let zero : 0 ≡ c.args.first + 1 - 1 - c.args.first = omega arith in
    record {
      seed = refl;
      taken = c.requires.taken ∙ ap (λ n. 3 * c.args.counts.nodes + way_draws n) first;
      near = subst (All (λ (w : Way). w.cluster < 1000000)) (sym none) (All-nil (λ (w : Way). w.cluster < 1000000));
      ways = none ∙ ap (λ n. map (way_of c.args.numbers.now.seed c.args.counts) (range_with_len (c.args.first + 1) n)) zero;
    }

pub draw_cluster-cluster-requires-clause-room : goal.draw_cluster-cluster-requires-clause-room
draw_cluster-cluster-requires-clause-room c = let few = draws_few (c.loop-id.id - 1) in omega arith

pub loop-id-preserved : goal.loop-id-preserved
loop-id-preserved c =
    let seed = c.args.numbers.now.seed in
    let counts = c.args.counts in
    let id = c.loop-id.id in
    let before = c.loop-id.invariant in
    let cluster = c.draw_cluster-cluster in
    let made = c.way_at in
    let pushed = (c.in_ok-push.ensures {u = tt}).items in
    let taken : cluster.new.numbers.taken ≡ 3 * counts.nodes + way_draws id =
    cluster.ensures.taken ∙ ap (λ n. if id % 4 == 3 then n else n + 1) before.taken ∙ ways_next id (3 * counts.nodes) (omega arith) in
    let same = cluster.ensures.seed ∙ before.seed in
    let back : id ≡ id + 1 - 1 = omega arith in
    let drawn : made.result.cluster ≡ draw seed cluster.new.numbers.taken (counts.nodes / 10) =
    made.ensures.cluster ∙ cluster.ensures.drawn ∙ ap (λ s. draw s cluster.new.numbers.taken (counts.nodes / 10)) same in
    record {
      seed = same;
      taken = taken ∙ ap (λ n. 3 * counts.nodes + way_draws n) back;
      near = all_more (λ (w : Way). w.cluster < 1000000) c.loop-id.ways.items c.push.new.self.items made.result before.near (omega arith) pushed;
      ways = one_more_id (way_of seed counts) c.args.first id c.loop-id.ways.items c.push.new.self.items made.result c.loop-id.auto.id before.ways
          (way_is seed id cluster.new.numbers.taken counts made.result made.ensures.id taken drawn) pushed;
    }
