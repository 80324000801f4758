use Rattle.std.proofs.Common.{◌≡◌, ◌+◌, ◌-◌, ◌*◌, ap, arith}
use Rattle.hilbert_ids.proofs.Numbers.{four_mono}
use Rattle.hilbert_ids.proofs.Curves.{place_below}
use Rattle.hilbert_ids.proofs.id.place_of.Goals as goal

pub overflow_add-found : goal.overflow_add-found
overflow_add-found c =
    let whole = place_below c.args.zoom c.args.x c.args.y c.requires.column c.requires.row in
    let most = four_mono c.args.zoom 26 c.requires.zoom in
    let ranked = ap (λ n. c.enter-rank.result.0 * n) c.area.ensures.exact in
    let level : c.loop-level.level - 1 + 1 ≡ c.loop-level.level = omega arith in
    let inside = rw level at c.enter-rank.ensures.place in
    omega (arith, whole, most, ranked, inside)

pub returns-clause-below : goal.returns-clause-below
returns-clause-below c =
    omega (arith, place_below c.args.zoom c.args.x c.args.y c.requires.column c.requires.row)
