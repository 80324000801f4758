use Rattle.std.proofs.Common.{◌≡◌, ◌-◌, length, slice_get, sym, ap, ◌∙◌, arith}
use Rattle.line_simplify.specs.Key.{IsOnGrid}
use Rattle.line_simplify.specs.Rule.{simplified}
use Rattle.line_simplify.proofs.Ends.{short, first, last, line, fewer, simplified_all}
use Rattle.line_simplify.proofs.path.simplify.Goals as goal
use Rattle.line_simplify.proofs.path.simplify.Goals.{After-from_vec-2}

kept_is : (c : After-from_vec-2) → c.from_vec-2.result ≡ simplified c.args.tolerance c.args.path.now
kept_is c = c.from_vec-2.ensures ∙ c.in_ok-keep.ensures

pub returns-then-path-lt2-clause-exact : goal.returns-then-path-lt2-clause-exact
returns-then-path-lt2-clause-exact c =
    let nothing = c.new-all.ensures.items in
    c.from_vec.ensures ∙ rw nothing at c.in_ok-extend_from_slice.ensures.items ∙ sym (short c.args.tolerance c.args.path.now (omega (arith, c.if-path-lt2.true)))

pub returns-clause-short : goal.returns-clause-short
returns-clause-short c = λ h. kept_is c ∙ short c.args.tolerance c.args.path.now h

pub returns-clause-first : goal.returns-clause-first
returns-clause-first c = ap (λ xs. slice_get xs 0) (kept_is c) ∙ first c.args.tolerance c.args.path.now

pub returns-clause-last : goal.returns-clause-last
returns-clause-last c = ap (λ xs. slice_get xs (length xs - 1)) (kept_is c) ∙ last c.args.tolerance c.args.path.now

pub returns-clause-line : goal.returns-clause-line
returns-clause-line c = λ h. omega (arith, ap length (kept_is c), line c.args.tolerance c.args.path.now h)

pub returns-clause-fewer : goal.returns-clause-fewer
returns-clause-fewer c = omega (arith, ap length (kept_is c), fewer c.args.tolerance c.args.path.now)

pub returns-clause-points : goal.returns-clause-points
returns-clause-points c = rw (kept_is c) (simplified_all IsOnGrid c.args.tolerance c.args.path.now c.requires.points)
