use Rattle.std.proofs.Common.{◌≡◌, Ok, Err, length, refl, sym, ap, ◌∙◌, arith}
use Rattle.std.specs.Int.{w32, from_be_bytes}
use Rattle.tb_types.specs.declared.damage.Why.TheVariants as why
use Rattle.pbf_blobs.specs.declared.stop.FrameStop.TheVariants.{Bad}
use Rattle.pbf_blobs.specs.Frames.{header_len_at, short_header}
use Rattle.pbf_blobs.proofs.Reading.{reads_nothing, reads_load, at_told}
use Rattle.pbf_blobs.proofs.FrameSteps.{header_len-cut, header_len-told, short_header-long, short_header-ok}
use Rattle.pbf_blobs.proofs.frame.header_len.Goals as goal

pub returns-then-size-at-clause-answers : goal.returns-then-size-at-clause-answers
returns-then-size-at-clause-answers g c =
    let at = c.args.at in
    let old = g.R.Source.seen c.args.source.now in
    reads_nothing old why.Cut (λ bytes. header_len_at bytes at) (λ _ load. load ≡ (at, 4))
    (λ bytes is. let told : length bytes ≡ c.args.size = at_told old.bytes bytes (λ bs. length bs ≡ c.args.size) is c.requires.told in header_len-cut bytes at (omega arith))

pub returns-then-len-gt-LONGEST_HEADER-clause-answers : goal.returns-then-len-gt-LONGEST_HEADER-clause-answers
returns-then-len-gt-LONGEST_HEADER-clause-answers g c =
    let at = c.args.at in
    let old = g.R.Source.seen c.args.source.now in
    let new = g.R.Source.seen c.load.new.self in
    let out = c.load.new.out in
    let value : c.from_be_bytes-len.result ≡ from_be_bytes w32 out = c.from_be_bytes-len.ensures in
    reads_load old new at out c.in-Ok.field-0 (Err (Bad why.HeaderLong)) (λ bytes. header_len_at bytes at) (λ _ load. load ≡ (at, 4)) c.in-Ok.ensures (λ f. refl)
    (λ bytes is read.
    let told : length bytes ≡ c.args.size = at_told old.bytes bytes (λ bs. length bs ≡ c.args.size) is c.requires.told in
    header_len-told bytes out at (omega arith) c.load.auto.out read ∙ (ap short_header (sym value) ∙ short_header-long c.from_be_bytes-len.result (omega arith)))
    (λ bytes. ap (λ n. (at, n)) c.load.auto.out)

pub returns-clause-answers : goal.returns-clause-answers
returns-clause-answers g c =
    let at = c.args.at in
    let old = g.R.Source.seen c.args.source.now in
    let new = g.R.Source.seen c.load.new.self in
    let out = c.load.new.out in
    let value : c.from_be_bytes-len.result ≡ from_be_bytes w32 out = c.from_be_bytes-len.ensures in
    reads_load old new at out c.in-Ok.field-0 (Ok c.from_be_bytes-len.result) (λ bytes. header_len_at bytes at) (λ _ load. load ≡ (at, 4)) c.in-Ok.ensures (λ f. refl)
    (λ bytes is read.
    let told : length bytes ≡ c.args.size = at_told old.bytes bytes (λ bs. length bs ≡ c.args.size) is c.requires.told in
    header_len-told bytes out at (omega arith) c.load.auto.out read ∙ (ap short_header (sym value) ∙ short_header-ok c.from_be_bytes-len.result (omega arith)))
    (λ bytes. ap (λ n. (at, n)) c.load.auto.out)
