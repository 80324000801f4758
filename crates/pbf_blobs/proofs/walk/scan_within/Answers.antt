use Rattle.std.proofs.Common.{◌≡◌, ℕ, ◌+◌, Bool, ◌||◌, Option, IfSome, Result, Err, List, length, refl, sym, ap, subst, ◌∙◌}
use Rattle.std.proofs.lemmas.Result.{err_from_is_err_and}
use Rattle.pbf_blobs.specs.declared.block.Index.{Index}
use Rattle.pbf_blobs.specs.declared.stop.ScanStop.{ScanStop}
use Rattle.pbf_blobs.specs.Answers.{ScanAnswers}
use Rattle.pbf_blobs.proofs.Scanning.{scanning-start, scanning-more, scanning-same, scanning-memory, scanning-stop, scanning-end, scanning-no_header}
use Rattle.pbf_blobs.proofs.walk.scan_within.Goals as goal

pub loop-at-init : goal.loop-at-init
loop-at-init g c =
    let s = g.R.Source.seen c.args.source.now in
    scanning-same c.args.size s s _ c.new-blocks.result 0 0 0 _ _ (scanning-start c.args.size s) c.new-blocks.ensures refl refl

pub block_at-requires-clause-told : goal.block_at-requires-clause-told
block_at-requires-clause-told g c = subst (λ (o : Option (List ℕ)). IfSome o (λ bs. length bs ≡ c.args.size)) (sym c.loop-at.invariant.bytes) c.requires.told

pub returns-in-Err : goal.returns-in-Err
returns-in-Err g c =
    let old = g.R.Source.seen c.args.source.now in
    let mid = g.R.Source.seen c.loop-at.source in
    let new = g.R.Source.seen c.block_at.new.source in
    subst (λ (r : ScanStop). ScanAnswers old new (Err r)) (sym c.stop_of.ensures)
    (scanning-stop c.args.size old mid new c.loop-at.blocks c.loop-at.no c.loop-at.at c.loop-at.headed c.in-Err.stop c.requires.small c.requires.told c.loop-at.invariant c.loop-at-test.true c.in-Err.ensures.answers)

pub returns-in_err-push : goal.returns-in_err-push
returns-in_err-push g c =
    let old = g.R.Source.seen c.args.source.now in
    let mid = g.R.Source.seen c.loop-at.source in
    let new = g.R.Source.seen c.block_at.new.source in
    let p = err_from_is_err_and c.from_residual.result c.from_residual.ensures.1 in
    subst (λ (r : Result Index ScanStop). ScanAnswers old new r) (sym (p.1 ∙ ap Err p.2))
    (scanning-memory c.args.size old new _ _ _ _ c.requires.small c.requires.told
    (scanning-more c.args.size old mid new c.loop-at.blocks c.loop-at.no c.loop-at.at c.loop-at.headed c.in-Ok.block c.loop-at.invariant c.loop-at-test.true c.requires.told c.in-Ok.ensures.answers c.in-Ok.ensures.fits c.in-Ok.ensures.few))

pub loop-at-preserved : goal.loop-at-preserved
loop-at-preserved g c =
    let old = g.R.Source.seen c.args.source.now in
    let mid = g.R.Source.seen c.loop-at.source in
    let new = g.R.Source.seen c.block_at.new.source in
    scanning-same c.args.size old new _ c.push.new.self _ _ _ _ _
    (scanning-more c.args.size old mid new c.loop-at.blocks c.loop-at.no c.loop-at.at c.loop-at.headed c.in-Ok.block c.loop-at.invariant c.loop-at-test.true c.requires.told c.in-Ok.ensures.answers c.in-Ok.ensures.fits c.in-Ok.ensures.few)
    c.in_ok-push.ensures.ok (ap (λ (n : ℕ). c.in-Ok.block.at + n) c.from.ensures) (ap (λ (b : Bool). c.loop-at.headed || b) c.is_header-headed.ensures)

pub returns-then-not-headed : goal.returns-then-not-headed
returns-then-not-headed g c =
    let old = g.R.Source.seen c.args.source.now in
    let new = g.R.Source.seen c.loop-at.source in
    subst (λ (r : ScanStop). ScanAnswers old new (Err r)) (sym c.damage_at.ensures)
    (scanning-no_header c.args.size old new c.loop-at.blocks c.loop-at.no c.loop-at.at c.loop-at.headed c.requires.small c.requires.told c.loop-at.invariant c.loop-at-test.false c.if-not-headed.true)

pub returns : goal.returns
returns g c =
    let old = g.R.Source.seen c.args.source.now in
    let new = g.R.Source.seen c.loop-at.source in
    scanning-end c.args.size old new c.loop-at.blocks c.loop-at.no c.loop-at.at c.loop-at.headed c.requires.small c.requires.told c.loop-at.invariant c.loop-at-test.false c.if-not-headed.false
