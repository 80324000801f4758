use Rattle.std.proofs.Common.{◌≡◌, ◌<◌, ◌≤◌, ◌^◌, Ok, Err, true, rules, refl, sym, ◌∙◌, arith}
use Rattle.std.specs.Str.{bytes_eq}
use Rattle.std.specs.Fmt.{decimal}
use Rattle.std.proofs.lemmas.Slice.Eq.{bytes_eq-Decides}
use Rattle.build_cli.proofs.Numerals.{number-printed, number-none, number-other}
use Rattle.build_cli.proofs.number.number_of.Goals as goal
use Rattle.build_cli.proofs.number.number_of.Goals.{else-eq-via-then-eq+else-n-most, else-eq-via-else-eq}

pub returns-in-Err-clause-number : goal.returns-in-Err-clause-number
returns-in-Err-clause-number c =
    let fits : c.args.most < 2 ^ 64 = omega (arith, c.ranges.most.fits) in
    sym (number-none c.args.word.now c.args.most (Err c.in-Err.field-0) fits c.in-Err.ensures.value.0 (λ n same within printed. cc))

pub returns-then-n-most-clause-number : goal.returns-then-n-most-clause-number
returns-then-n-most-clause-number c =
    let fits : c.args.most < 2 ^ 64 = omega (arith, c.ranges.most.fits) in
    let small : c.in-Ok.n ≤ c.args.most = search rules in
    let below : c.in-Ok.n < 2 ^ 64 = omega (arith, small, fits) in
    let equal : bytes_eq c.format.result.now c.args.word.now ≡ true = search rules in
    let text : c.format.result.now ≡ decimal c.in-Ok.n = c.format.ensures.text in
    sym (number-printed c.args.word.now c.args.most c.in-Ok.n below small (sym text ∙ (bytes_eq-Decides c.format.result.now c.args.word.now).0 equal))

pub returns-else-eq-clause-number : goal.returns-else-eq-clause-number
returns-else-eq-clause-number c =
    let fits : c.args.most < 2 ^ 64 = omega (arith, c.ranges.most.fits) in
    let text : c.format.result.now ≡ decimal c.in-Ok.n = c.format.ensures.text in
    sym (number-other {E = Unit {0}} c.args.word.now c.args.most c.in-Ok.n (Ok c.in-Ok.n) refl fits c.in-Ok.ensures.value.0
    (λ within printed.
    let equal : bytes_eq c.format.result.now c.args.word.now ≡ true = (bytes_eq-Decides c.format.result.now c.args.word.now).1 (text ∙ printed) in
    elim c.else-eq.branch [ else-eq-via-then-eq+else-n-most w ↦ omega (arith, w.if-n-most.false, within) | else-eq-via-else-eq w ↦ search (rules, equal, w.if-eq) ]))
