use Rattle.std.proofs.Common.{◌+◌, ◌-◌, ◌/◌, sym, ap, subst, ◌∙◌, arith}
use Rattle.tile_clip.specs.Outlines.{strip_of}
use Rattle.tile_clip.specs.Pieces.{of_each}
use Rattle.tile_clip.proofs.Giving.{gives-none, gives-starved, gives-ended, gives-more}
use Rattle.tile_clip.proofs.Halving.{nothing, halved, first-takable, second-takable, more-than-one}
use Rattle.tile_clip.proofs.divided.+some_parts.Goals as goal

pub returns-then-count-eq0 : goal.returns-then-count-eq0
returns-then-count-eq0 g t c = rw c.if-count-eq0.true (gives-none g.T.PieceTaker.taken g.T.PieceTaker.steps g.T.PieceTaker.stops c.args.take.now tt (g.met.T.PieceTaker.steps_none c.args.take.now))

pub returns-then-is_nothing : goal.returns-then-is_nothing
returns-then-is_nothing g t c =
    let d = g.D.Divided in
    let buffer = (d.tiling c.args.divided).buffer in
    rw (nothing buffer d.axis (d.pieces c.args.divided) c.requires.rest c.args.outline c.args.first c.args.count (sym c.is_nothing.ensures ∙ c.if-is_nothing.true)) (gives-none g.T.PieceTaker.taken g.T.PieceTaker.steps g.T.PieceTaker.stops c.args.take.now tt (g.met.T.PieceTaker.steps_none c.args.take.now))

pub split-requires : goal.split-requires
split-requires g t c = rw c.tiling.ensures c.requires.parts

pub returns-in-Err-some_parts : goal.returns-in-Err-some_parts
returns-in-Err-some_parts g t c =
    let d = g.D.Divided in
    let piece = d.pieces c.args.divided in
    let halves = c.in-Ok.halves in
    let half = c.args.count / 2 in
    let along = rw c.axis.ensures at c.in-Ok.ensures in
    let are = rw c.tiling.ensures at along in
    rw (halved (d.tiling c.args.divided).buffer d.axis piece c.requires.rest c.args.outline halves c.args.first c.args.count are) (gives-ended g.T.PieceTaker.taken g.T.PieceTaker.steps g.T.PieceTaker.stops c.args.take.now c.some_parts.new.take (of_each (piece halves.first) c.args.first half) (of_each (piece halves.second) (c.args.first + half) (c.args.count - half)) c.in-Err-some_parts.e c.in-Err-some_parts.ensures)

pub returns-in-Ok-some_parts : goal.returns-in-Ok-some_parts
returns-in-Ok-some_parts g t c =
    let d = g.D.Divided in
    let piece = d.pieces c.args.divided in
    let halves = c.in-Ok.halves in
    let half = c.args.count / 2 in
    let along = rw c.axis.ensures at c.in-Ok.ensures in
    let are = rw c.tiling.ensures at along in
    rw (halved (d.tiling c.args.divided).buffer d.axis piece c.requires.rest c.args.outline halves c.args.first c.args.count are) (gives-more g.T.PieceTaker.taken g.T.PieceTaker.steps g.T.PieceTaker.stops g.met.T.PieceTaker.steps_on g.met.T.PieceTaker.stops_after c.args.take.now c.some_parts.new.take c.some_parts-in-Ok-some_parts.new.take tt (of_each (piece halves.first) c.args.first half) (of_each (piece halves.second) (c.args.first + half) (c.args.count - half)) c.some_parts-in-Ok-some_parts.result c.in-Ok-some_parts.ensures c.some_parts-in-Ok-some_parts.ensures)

pub some_parts-requires : goal.some_parts-requires
some_parts-requires g t c κs within =
    let d = g.D.Divided in
    let piece = d.pieces c.args.divided in
    let buffer = (d.tiling c.args.divided).buffer in
    let along = rw c.axis.ensures at c.in-Ok.ensures in
    let are = rw c.tiling.ensures at along in
    let more = more-than-one c.args.count (c.is_step.ensures.one) c.if-is_step.false (omega (arith, c.if-count-eq0.false)) in
    let fit = first-takable buffer d.axis piece c.requires.rest c.args.outline c.in-Ok.halves c.args.first c.args.count are c.requires.pieces in
    let lies = subst (λ o. d.fits c.args.divided o) (sym (ap (λ h. h.first) are)) (c.requires.stays (strip_of d.axis buffer c.args.first (c.args.count / 2)) c.args.outline c.requires.fits) in
    (omega (arith, more), (within.0, (within.1.0, (within.1.1, (omega (arith, c.requires.parts), (c.requires.rest, (c.requires.stays, (lies, fit))))))))

pub some_parts-requires-in-Ok-some_parts : goal.some_parts-requires-in-Ok-some_parts
some_parts-requires-in-Ok-some_parts g t c κs within =
    let d = g.D.Divided in
    let piece = d.pieces c.args.divided in
    let buffer = (d.tiling c.args.divided).buffer in
    let along = rw c.axis.ensures at c.in-Ok.ensures in
    let are = rw c.tiling.ensures at along in
    let more = more-than-one c.args.count (c.is_step.ensures.one) c.if-is_step.false (omega (arith, c.if-count-eq0.false)) in
    let fit = second-takable buffer d.axis piece c.requires.rest c.args.outline c.in-Ok.halves c.args.first c.args.count are c.requires.pieces in
    let lies = subst (λ o. d.fits c.args.divided o) (sym (ap (λ h. h.second) are)) (c.requires.stays (strip_of d.axis buffer (c.args.first + c.args.count / 2) (c.args.count - c.args.count / 2)) c.args.outline c.requires.fits) in
    (omega (arith, more), (within.0, (within.1.0, (within.1.1, (omega (arith, c.requires.parts), (c.requires.rest, (c.requires.stays, (lies, fit))))))))

pub returns-in-Err : goal.returns-in-Err
returns-in-Err g t c = gives-starved g.T.PieceTaker.taken g.T.PieceTaker.steps g.T.PieceTaker.stops c.args.take.now (of_each (g.D.Divided.pieces c.args.divided c.args.outline) c.args.first c.args.count) (g.met.T.PieceTaker.steps_none c.args.take.now)
