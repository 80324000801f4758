use Rattle.std.proofs.Common.{Result, Err, sym, ap, subst, ◌∙◌}
use Rattle.std.proofs.lemmas.Result.{err_from_is_err_and}
use Rattle.pbf_blobs.specs.declared.block.Index.{Index}
use Rattle.pbf_blobs.specs.declared.stop.ScanStop.{ScanStop}
use Rattle.pbf_blobs.specs.Answers.{ScanAnswers}
use Rattle.pbf_blobs.proofs.Scanning.{scan-nothing, scan-failed, scan-too_long, scan-sized, size-told}
use Rattle.pbf_blobs.proofs.walk.scan.Goals as goal

pub returns-in_err-room : goal.returns-in_err-room
returns-in_err-room g c =
    let old = g.R.Source.seen c.args.source.now in
    let p = err_from_is_err_and c.from_residual.result c.from_residual.ensures.1 in
    subst (λ (r : Result Index ScanStop). ScanAnswers old old r) (sym (p.1 ∙ ap Err p.2)) (scan-nothing old)

pub returns-in-Err : goal.returns-in-Err
returns-in-Err g c = scan-failed (g.R.Source.seen c.args.source.now) (g.R.Source.seen c.size.new.self) c.in-Err.field-0 c.in-Err.ensures

pub returns-then-size-gt-LONGEST_FILE : goal.returns-then-size-gt-LONGEST_FILE
returns-then-size-gt-LONGEST_FILE g c =
    let old = g.R.Source.seen c.args.source.now in
    let new = g.R.Source.seen c.size.new.self in
    subst (λ (r : ScanStop). ScanAnswers old new (Err r)) (sym c.damage_at.ensures) (scan-too_long old new c.in-Ok.size c.in-Ok.ensures c.if-size-gt-LONGEST_FILE.true)

pub scan_within-requires-clause-told : goal.scan_within-requires-clause-told
scan_within-requires-clause-told g c = size-told (g.R.Source.seen c.args.source.now) (g.R.Source.seen c.size.new.self) c.in-Ok.size c.in-Ok.ensures

pub returns : goal.returns
returns g c =
    scan-sized (g.R.Source.seen c.args.source.now) (g.R.Source.seen c.size.new.self) (g.R.Source.seen c.scan_within.new.source) c.in-Ok.size c.scan_within.result c.in-Ok.ensures c.scan_within.ensures
