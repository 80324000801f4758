use Rattle.std.proofs.Common.{◌≡◌, ◌+◌, ◌*◌, ap, sym, subst, ◌∙◌, arith}
use Rattle.gen_world.specs.Numbers.{draw}
use Rattle.gen_world.specs.Elements.{node_of, amenity_of}
use Rattle.gen_world.specs.Places.{IsNear, place_of}
use Rattle.gen_world.proofs.Draws.{corner_kept, near_kept}
use Rattle.gen_world.proofs.Drawn.{one_more, node_is}
use Rattle.gen_world.proofs.node.draw_nodes.Goals as goal

pub loop-index-preserved : goal.loop-index-preserved
loop-index-preserved c =
    let seed = c.args.numbers.now.seed in
    let i = c.loop-index.index in
    let before = c.loop-index.invariant in
    let spot = c.draw_spot-spot in
    let kind = c.draw-kind in
    let node = c.node_at in
    let there : spot.result ≡ place_of seed i = spot.ensures.spot ∙ ap (λ s. place_of s i) before.seed in
    let drawn : kind.result ≡ draw seed (spot.new.numbers.taken + 1) 4 = kind.ensures.drawn ∙ ap (λ s. draw s (spot.new.numbers.taken + 1) 4) (spot.ensures.seed ∙ before.seed) in
    let place : spot.new.numbers.taken + 1 ≡ 3 * i + 3 = omega arith in
    record {
      seed = kind.ensures.seed ∙ spot.ensures.seed ∙ before.seed;
      taken = omega arith;
      near = subst IsNear (sym c.corner_behind-corner.ensures) (near_kept i spot.result c.loop-index.corner spot.ensures.within before.near);
      corner = λ inside. c.corner_behind-corner.ensures ∙ corner_kept seed i spot.result c.loop-index.corner there before.corner inside;
      nodes = one_more (node_of seed) c.args.first i c.loop-index.nodes.items c.push.new.self.items node.result c.loop-index.auto.index before.nodes
          (node_is seed i (spot.new.numbers.taken + 1) spot.result node.result there place node.ensures.id node.ensures.lat node.ensures.lon (node.ensures.amenity ∙ ap amenity_of drawn))
          (c.in_ok-push.ensures {u = tt}).items;
    }
