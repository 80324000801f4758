use Rattle.std.proofs.Common.{◌≡◌, length, rules, arith}
use Rattle.std.proofs.lemmas.Result.{err_from_is_err_and}
use Rattle.build_cli.proofs.Generating.{generating-next, generating-room, generating-stops, generating-fails}
use Rattle.build_cli.proofs.generate.write_extract.Goals as goal

pub returns-in_err-frame : goal.returns-in_err-frame
returns-in_err-frame g c =
    let p = err_from_is_err_and c.from_residual-in_err-frame.result c.from_residual-in_err-frame.ensures.1 in
    rw (p.1, p.2) (generating-stops _ _ _ _ _ c.loop-frame.invariant)

pub returns-in_err-append : goal.returns-in_err-append
returns-in_err-append g c =
    let p = err_from_is_err_and c.from_residual-in_err-append.result c.from_residual-in_err-append.ensures.1 in
    let refused = c.in_err-append.ensures {u = tt} in
    let first = rw c.in-Some.is at (c.in_ok-frame.ensures {u = tt}).some in
    let prefix = rw c.deref.ensures.value at refused.prefix in
    rw (p.1, p.2) (generating-fails _ _ _ _ _ _ _ _ c.loop-frame.invariant first prefix refused.err refused.never_falls)

pub loop-frame-preserved : goal.loop-frame-preserved
loop-frame-preserved g c =
    let answered = c.in_ok-append.ensures {u = tt} in
    let first = rw c.in-Some.is at (c.in_ok-frame.ensures {u = tt}).some in
    let grew = rw c.deref.ensures.value at answered.appended in
    let len : c.len.result ≡ length c.in-Some.frame.items = search rules in
    generating-next _ _ _ _ _ _ _ _ _ c.loop-frame.invariant first len grew answered.ok

pub overflow_add-blocks : goal.overflow_add-blocks
overflow_add-blocks g c =
    let first = rw c.in-Some.is at (c.in_ok-frame.ensures {u = tt}).some in
    let world = c.in_ok-world.ensures {u = tt} in
    let few = rw world.frames at world.few in
    omega (arith, few, (generating-room _ _ _ _ _ _ _ c.loop-frame.invariant first).0)

pub overflow_add-bytes : goal.overflow_add-bytes
overflow_add-bytes g c =
    let first = rw c.in-Some.is at (c.in_ok-frame.ensures {u = tt}).some in
    let world = c.in_ok-world.ensures {u = tt} in
    let short = rw world.frames at world.short in
    let len : c.len.result ≡ length c.in-Some.frame.items = search rules in
    omega (arith, len, short, (generating-room _ _ _ _ _ _ _ c.loop-frame.invariant first).1)
