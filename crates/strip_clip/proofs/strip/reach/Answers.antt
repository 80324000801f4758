use Rattle.std.proofs.Common.{FitsSigned, w32, rules}
use Rattle.strip_clip.proofs.Sides.{not_both_below, not_both_above, read_low, read_high}
use Rattle.strip_clip.specs.Axes.{along}
use Rattle.strip_clip.proofs.strip.reach.Goals as goal

pub crossing-requires-clause-high : goal.crossing-requires-clause-high
crossing-requires-clause-high c =
    let s = c.args.strip in
    let fits : FitsSigned w32 s.lo = search rules in
    read_low s.lo (along s.axis c.args.p) (along s.axis c.args.q) fits (not_both_below s c.args.p c.args.q c.requires.meets)

pub crossing-requires-then-is_above-clause-low : goal.crossing-requires-then-is_above-clause-low
crossing-requires-then-is_above-clause-low c =
    let s = c.args.strip in
    let fits : FitsSigned w32 s.hi = search rules in
    read_high s.hi (along s.axis c.args.p) (along s.axis c.args.q) fits (not_both_above s c.args.p c.args.q c.requires.meets)
