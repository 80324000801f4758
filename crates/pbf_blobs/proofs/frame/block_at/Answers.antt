use Rattle.std.proofs.Common.{Ok, Err, refl, sym, ap, ◌∙◌, arith}
use Rattle.tb_types.specs.declared.damage.Why.TheVariants as why
use Rattle.pbf_blobs.specs.declared.stop.FrameStop.TheVariants.{Bad}
use Rattle.tb_types.specs.Results.{◌>>=◌}
use Rattle.pbf_blobs.specs.Frames.{frame_at, in_order, block_at}
use Rattle.pbf_blobs.specs.Answers.{IsInHead}
use Rattle.pbf_blobs.proofs.Reading.{reads_nothing, reads_after, reads_stop}
use Rattle.pbf_blobs.proofs.FrameSteps.{block-too_many, block-of_frame, in_order-bad, in_order-ok}
use Rattle.pbf_blobs.proofs.frame.block_at.Goals as goal

pub returns-then-no-ge-MOST_FRAMES-clause-answers : goal.returns-then-no-ge-MOST_FRAMES-clause-answers
returns-then-no-ge-MOST_FRAMES-clause-answers g c =
    let at = c.args.at in
    let n = c.args.no in
    let headed = c.args.headed in
    reads_nothing (g.R.Source.seen c.args.source.now) why.FileLong (λ bytes. block_at bytes n at headed) (λ bytes load. IsInHead bytes at load) (λ bytes is. block-too_many bytes n at headed (omega arith))

pub returns-in-Err-clause-answers : goal.returns-in-Err-clause-answers
returns-in-Err-clause-answers g c =
    let at = c.args.at in
    let n = c.args.no in
    let headed = c.args.headed in
    let a = g.R.Source.seen c.args.source.now in
    let b = g.R.Source.seen c.frame_at.new.source in
    reads_stop a b c.in-Err.stop (λ bytes. frame_at bytes n at) (λ bytes load. IsInHead bytes at load) (λ bytes. block_at bytes n at headed) (λ bytes load. IsInHead bytes at load) c.in-Err.ensures.answers
    (λ bytes reason is h. block-of_frame bytes n at headed (omega arith) ∙ ap (λ r. r >>= in_order headed) h) (λ bytes l h. h)

pub returns-then-not-headed-clause-answers : goal.returns-then-not-headed-clause-answers
returns-then-not-headed-clause-answers g c =
    let at = c.args.at in
    let n = c.args.no in
    let headed = c.args.headed in
    let block = c.in-Ok.block in
    let a = g.R.Source.seen c.args.source.now in
    let b = g.R.Source.seen c.frame_at.new.source in
    reads_after a b block (λ bytes. frame_at bytes n at) (λ bytes load. IsInHead bytes at load) (Err (Bad why.NoHeader)) (λ bytes. block_at bytes n at headed) (λ bytes load. IsInHead bytes at load)
    c.in-Ok.ensures.answers (λ f. refl)
    (λ bytes is read. block-of_frame bytes n at headed (omega arith) ∙ (ap (λ r. r >>= in_order headed) read ∙ in_order-bad headed block (sym c.is_elements-elements.ensures ∙ c.if-elements.true) c.if-not-headed.true)) (λ bytes l read h. h)

pub returns-clause-answers : goal.returns-clause-answers
returns-clause-answers g c =
    let at = c.args.at in
    let n = c.args.no in
    let headed = c.args.headed in
    let block = c.in-Ok.block in
    let a = g.R.Source.seen c.args.source.now in
    let b = g.R.Source.seen c.frame_at.new.source in
    reads_after a b block (λ bytes. frame_at bytes n at) (λ bytes load. IsInHead bytes at load) (Ok block) (λ bytes. block_at bytes n at headed) (λ bytes load. IsInHead bytes at load)
    c.in-Ok.ensures.answers (λ f. refl)
    (λ bytes is read. block-of_frame bytes n at headed (omega arith) ∙ (ap (λ r. r >>= in_order headed) read ∙ in_order-ok headed block c.is_elements-elements.result c.is_elements-elements.ensures c.else-elements.either)) (λ bytes l read h. h)
