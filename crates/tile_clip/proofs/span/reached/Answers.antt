use Rattle.std.proofs.Common.{ℕ, ◌+◌, ◌-◌, ◌*◌, ◌^◌, ◌<◌, ◌≤◌, pos, ◌+ℤ◌, ◌-ℤ◌, ◌<ℤ◌, FitsSigned, w32, sym, subst, arith, rules}
use Rattle.std.proofs.lemmas.Int.{to_z-of_z}
use Rattle.tile_clip.proofs.Narrowing.{unreached}
use Rattle.tile_clip.proofs.span.reached.Goals as goal

pub returns-clause-others : goal.returns-clause-others
returns-clause-others c =
    let buffer = c.args.tiling.buffer in
    let side = 2 ^ c.args.tiling.z in
    let span = c.span_of-span.result in
    let first = c.least-first.result in
    let end = c.end_after-end.result in
    let low : FitsSigned w32 c.span_of-span.result.lo = search rules in
    let high : FitsSigned w32 c.span_of-span.result.hi = search rules in
    let before = λ (at : ℕ) (h : at < first). subst (λ lo. (pos (4096 * at) +ℤ pos (4096 + buffer)) <ℤ lo) (to_z-of_z w32 span.lo low) (c.first_from.ensures at (omega (arith, h, c.least-first.ensures.a))) in
    let after = λ (at : ℕ) (h : first + (end - first) ≤ at) (k : at < side). subst (λ hi. hi <ℤ (pos (4096 * at) -ℤ pos buffer)) (to_z-of_z w32 span.hi high) (c.end_after-end.ensures.after at (omega (arith, h, c.least-first.ensures.b)) (subst (λ n. at < n) (sym c.side.ensures) k)) in
    unreached c.args.axis buffer c.args.outline.now span.lo span.hi c.span_of-span.ensures first (end - first) side before after
