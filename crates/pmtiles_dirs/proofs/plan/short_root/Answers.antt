use Rattle.std.proofs.Common.{arith, length, ◌<◌}
use Rattle.std.proofs.lemmas.Bool.{lt-leb}
use Rattle.pmtiles_dirs.specs.Directory.{dir_text}
use Rattle.pmtiles_dirs.proofs.Lengths.{dir-least}
use Rattle.pmtiles_dirs.proofs.plan.short_root.Goals as goal

pub returns-then-entries-clause-none : goal.returns-then-entries-clause-none
returns-then-entries-clause-none c =
    let long : 16257 < length (dir_text c.args.entries.now) = omega (arith, c.if-entries.true, dir-least c.args.entries.now) in
    lt-leb _ _ long
