use Rattle.std.proofs.Common.{◌≡◌, ◌+◌, ◌*◌, ap, refl, ◌∙◌, w32, arith}
use Rattle.std.proofs.lemmas.Int.{to_z-of_z}
use Rattle.gen_world.specs.declared.node.Spot.{Spot}
use Rattle.gen_world.proofs.Draws.{spot_is, first_is, near_is, near_fits, small_fits, sum_fits, stored_sum}
use Rattle.gen_world.proofs.node.draw_spot.Goals as goal

pub returns-then-index-eq0-clause-spot : goal.returns-then-index-eq0-clause-spot
returns-then-index-eq0-clause-spot c =
    let seed = c.args.numbers.now.seed in
    let i = c.args.index in
    let lat = c.around-lat in
    let lon = c.around-lon in
    let first : c.args.numbers.now.taken + 1 ≡ 3 * i + 1 = omega arith in
    let second : lat.new.self.taken + 1 ≡ 3 * i + 2 = omega arith in
    spot_is seed i _
    (to_z-of_z w32 lat.result (near_fits lat.result lat.ensures.low lat.ensures.high) ∙ first_is seed seed i (c.args.numbers.now.taken + 1) 1 lat.result c.if-index-eq0.true refl first lat.ensures.drawn)
    (to_z-of_z w32 lon.result (near_fits lon.result lon.ensures.low lon.ensures.high) ∙ first_is seed lat.new.self.seed i (lat.new.self.taken + 1) 2 lon.result c.if-index-eq0.true lat.ensures.seed second lon.ensures.drawn)

pub returns-clause-spot : goal.returns-clause-spot
returns-clause-spot c =
    let seed = c.args.numbers.now.seed in
    let i = c.args.index in
    let lat = c.around in
    let lon = c.around-2 in
    let near = c.requires.within in
    let corner = c.requires.corner c.if-index-eq0.false in
    let first : c.args.numbers.now.taken + 1 ≡ 3 * i + 1 = omega arith in
    let second : lat.new.self.taken + 1 ≡ 3 * i + 2 = omega arith in
    spot_is seed i _
    (near_is seed seed i (c.args.numbers.now.taken + 1) 1 _ c.args.corner.lat lat.result c.if-index-eq0.false refl first lat.ensures.drawn (ap (λ (s : Spot). s.lat) corner)
    (stored_sum c.args.corner.lat lat.result (near_fits c.args.corner.lat near.south near.north) (small_fits lat.result lat.ensures.low lat.ensures.high) (sum_fits c.args.corner.lat lat.result near.south near.north lat.ensures.low lat.ensures.high)))
    (near_is seed lat.new.self.seed i (lat.new.self.taken + 1) 2 _ c.args.corner.lon lon.result c.if-index-eq0.false lat.ensures.seed second lon.ensures.drawn (ap (λ (s : Spot). s.lon) corner)
    (stored_sum c.args.corner.lon lon.result (near_fits c.args.corner.lon near.west near.east) (small_fits lon.result lon.ensures.low lon.ensures.high) (sum_fits c.args.corner.lon lon.result near.west near.east lon.ensures.low lon.ensures.high)))
