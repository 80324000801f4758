use Rattle.std.proofs.Common.{◌≡◌, ◌+◌, ◌-◌, ◌++◌, Ok, Err, Some, ap, subst, ◌∙◌, arith}
use Rattle.tile_clip.specs.Given.{Gives}
use Rattle.tile_clip.specs.Pieces.{with_tile, of_each}
use Rattle.tile_clip.specs.Steady.{like_piece}
use Rattle.tile_clip.proofs.Giving.{gives-none, gives-more, gives-ended, of_each-next, of_each-split}
use Rattle.tile_clip.proofs.rows.like_rows.Goals as goal

pub loop-y-init : goal.loop-y-init
loop-y-init g c =
    let none : c.args.first - c.args.first ≡ 0 = omega arith in
    rw none (gives-none g.T.PieceTaker.taken g.T.PieceTaker.steps g.T.PieceTaker.stops c.args.take.now tt (g.met.T.PieceTaker.steps_none c.args.take.now))

pub loop-y-preserved : goal.loop-y-preserved
loop-y-preserved g c =
    let f = like_piece c.args.column.tiling.z c.args.column.x (Some c.args.piece.now) in
    let first = c.args.first in
    let y = c.loop-y.y in
    let next : y + 1 - first ≡ (y - first) + 1 = omega (arith, c.loop-y.auto.y) in
    let here : first + (y - first) ≡ y = omega (arith, c.loop-y.auto.y) in
    let given = subst (λ t. Gives g.T.PieceTaker.taken g.T.PieceTaker.steps g.T.PieceTaker.stops c.loop-y.take c.give_copy.new.take (with_tile t (Some c.args.piece.now)) (Ok tt)) c.tile.ensures c.in-Ok.ensures in
    rw next (rw (of_each-next f first (y - first)) (rw here (gives-more g.T.PieceTaker.taken g.T.PieceTaker.steps g.T.PieceTaker.stops g.met.T.PieceTaker.steps_on g.met.T.PieceTaker.stops_after c.args.take.now c.loop-y.take c.give_copy.new.take tt (of_each f first (y - first)) (f y) (Ok tt) c.loop-y.invariant given)))

pub returns : goal.returns
returns g c =
    let f = like_piece c.args.column.tiling.z c.args.column.x (Some c.args.piece.now) in
    let first = c.args.first in
    let all : c.loop-y.y - first ≡ c.args.count = omega (arith, c.loop-y.auto.y, c.loop-y.auto.y-end, c.loop-y-test.false) in
    subst (λ n. Gives g.T.PieceTaker.taken g.T.PieceTaker.steps g.T.PieceTaker.stops c.args.take.now c.loop-y.take (of_each f first n) (Ok tt)) all c.loop-y.invariant

pub returns-in-Err : goal.returns-in-Err
returns-in-Err g c =
    let f = like_piece c.args.column.tiling.z c.args.column.x (Some c.args.piece.now) in
    let first = c.args.first in
    let count = c.args.count in
    let y = c.loop-y.y in
    let before = y - first in
    let rest = count - before - 1 in
    let here : first + before ≡ y = omega (arith, c.loop-y.auto.y) in
    let all : count ≡ (before + 1) + rest = omega (arith, c.loop-y.auto.y, c.loop-y-test.true) in
    let given = subst (λ t. Gives g.T.PieceTaker.taken g.T.PieceTaker.steps g.T.PieceTaker.stops c.loop-y.take c.give_copy.new.take (with_tile t (Some c.args.piece.now)) (Err c.in-Err.e)) c.tile.ensures c.in-Err.ensures in
    rw (ap (of_each f first) all ∙ of_each-split f first (before + 1) rest ∙ ap (λ xs. xs ++ of_each f (first + (before + 1)) rest) (of_each-next f first before ∙ ap (λ i. of_each f first before ++ f i) here)) (gives-ended g.T.PieceTaker.taken g.T.PieceTaker.steps g.T.PieceTaker.stops c.args.take.now c.give_copy.new.take (of_each f first before ++ f y) (of_each f (first + (before + 1)) rest) c.in-Err.e (gives-more g.T.PieceTaker.taken g.T.PieceTaker.steps g.T.PieceTaker.stops g.met.T.PieceTaker.steps_on g.met.T.PieceTaker.stops_after c.args.take.now c.loop-y.take c.give_copy.new.take tt (of_each f first before) (f y) (Err c.in-Err.e) c.loop-y.invariant given))
