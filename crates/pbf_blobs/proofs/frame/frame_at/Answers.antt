use Rattle.std.proofs.Common.{◌≡◌, ℕ, ◌+◌, Ok, Err, List, length, slice_range, refl, sym, ◌∙◌, arith}
use Rattle.tb_types.specs.declared.damage.Why.TheVariants as why
use Rattle.pbf_blobs.specs.declared.block.BlockAt.{BlockAt}
use Rattle.pbf_blobs.specs.declared.stop.FrameStop.TheVariants.{Bad}
use Rattle.pbf_blobs.specs.Header.{header_of}
use Rattle.pbf_blobs.specs.Frames.{header_len_at, with_len, frame_at}
use Rattle.pbf_blobs.specs.Answers.{IsInHead}
use Rattle.pbf_blobs.proofs.Reading.{reads_after, reads_stop, reads_both, at_told}
use Rattle.pbf_blobs.proofs.FrameSteps.{frame-no_len, frame-with_len, with_len-cut, with_len-no_header, with_len-with_header, with_header-cut, with_header-ok, len_in_head, header_in_head}
use Rattle.pbf_blobs.proofs.frame.frame_at.Goals as goal

pub returns-in-Err-clause-answers : goal.returns-in-Err-clause-answers
returns-in-Err-clause-answers g c =
    let at = c.args.at in
    let n = c.args.no in
    let a = g.R.Source.seen c.args.source.now in
    let b = g.R.Source.seen c.header_len.new.source in
    reads_stop a b c.in-Err.stop (λ bytes. header_len_at bytes at) (λ _ load. load ≡ (at, 4)) (λ bytes. frame_at bytes n at) (λ bytes load. IsInHead bytes at load) c.in-Err.ensures.answers
    (λ bytes reason is h. frame-no_len bytes n at reason h) (λ bytes l is. len_in_head bytes at l is)

pub returns-then-size-body-clause-answers : goal.returns-then-size-body-clause-answers
returns-then-size-body-clause-answers g c =
    let at = c.args.at in
    let n = c.args.no in
    let len = c.in-Ok.len in
    let a = g.R.Source.seen c.args.source.now in
    let b = g.R.Source.seen c.header_len.new.source in
    reads_after a b len (λ bytes. header_len_at bytes at) (λ _ load. load ≡ (at, 4)) (Err (Bad why.Cut)) (λ bytes. frame_at bytes n at) (λ bytes load. IsInHead bytes at load) c.in-Ok.ensures.answers
    (λ f. refl)
    (λ bytes is read.
    let told : length bytes ≡ c.args.size = at_told a.bytes bytes (λ bs. length bs ≡ c.args.size) is c.requires.told in
    frame-with_len bytes n at len read ∙ with_len-cut bytes n at len (omega arith))
    (λ bytes l read is. len_in_head bytes at l is)

pub returns-in-Err-header_at-clause-answers : goal.returns-in-Err-header_at-clause-answers
returns-in-Err-header_at-clause-answers g c =
    let at = c.args.at in
    let n = c.args.no in
    let len = c.in-Ok.len in
    let a = g.R.Source.seen c.args.source.now in
    let b = g.R.Source.seen c.header_len.new.source in
    let d = g.R.Source.seen c.header_at.new.source in
    let P = λ (bytes : List ℕ) (load : ℕ × ℕ). IsInHead bytes at load in
    reads_both a b d len (λ bytes. header_len_at bytes at) (λ _ load. load ≡ (at, 4)) (Err c.in-Err-header_at.stop) (λ bytes. with_len bytes n at len) (λ _ load. load ≡ (at + 4, len)) (λ bytes. frame_at bytes n at) P c.in-Ok.ensures.answers
    (reads_stop b d c.in-Err-header_at.stop (λ bytes. header_of (slice_range bytes (at + 4) (at + 4 + len))) (λ _ load. load ≡ (at + 4, len)) (λ bytes. with_len bytes n at len) (λ _ load. load ≡ (at + 4, len)) c.in-Err-header_at.ensures.answers
    (λ bytes reason is h.
    let told : length bytes ≡ c.args.size = at_told a.bytes bytes (λ bs. length bs ≡ c.args.size) (sym c.in-Ok.ensures.answers.bytes ∙ is) c.requires.told in
    with_len-no_header bytes n at len reason (omega arith) h)
    (λ bytes l is. is))
    (λ bytes is read. sym (frame-with_len bytes n at len read)) (λ bytes l read is. len_in_head bytes at l is) (λ bytes l told read is. header_in_head bytes at len l read is)

pub returns-then-size-body-2-clause-answers : goal.returns-then-size-body-2-clause-answers
returns-then-size-body-2-clause-answers g c =
    let at = c.args.at in
    let n = c.args.no in
    let len = c.in-Ok.len in
    let header = c.in-Ok-header_at.header in
    let a = g.R.Source.seen c.args.source.now in
    let b = g.R.Source.seen c.header_len.new.source in
    let d = g.R.Source.seen c.header_at.new.source in
    let P = λ (bytes : List ℕ) (load : ℕ × ℕ). IsInHead bytes at load in
    reads_both a b d len (λ bytes. header_len_at bytes at) (λ _ load. load ≡ (at, 4)) (Err (Bad why.Cut)) (λ bytes. with_len bytes n at len) (λ _ load. load ≡ (at + 4, len)) (λ bytes. frame_at bytes n at) P c.in-Ok.ensures.answers
    (reads_after b d header (λ bytes. header_of (slice_range bytes (at + 4) (at + 4 + len))) (λ _ load. load ≡ (at + 4, len)) (Err (Bad why.Cut)) (λ bytes. with_len bytes n at len) (λ _ load. load ≡ (at + 4, len)) c.in-Ok-header_at.ensures.answers
    (λ f. refl)
    (λ bytes is read.
    let told : length bytes ≡ c.args.size = at_told a.bytes bytes (λ bs. length bs ≡ c.args.size) (sym c.in-Ok.ensures.answers.bytes ∙ is) c.requires.told in
    with_len-with_header bytes n at len header (omega arith) read ∙ with_header-cut bytes n at len header (omega arith))
    (λ bytes l read is. is))
    (λ bytes is read. sym (frame-with_len bytes n at len read)) (λ bytes l read is. len_in_head bytes at l is) (λ bytes l told read is. header_in_head bytes at len l read is)

pub returns-clause-answers : goal.returns-clause-answers
returns-clause-answers g c =
    let at = c.args.at in
    let n = c.args.no in
    let len = c.in-Ok.len in
    let header = c.in-Ok-header_at.header in
    let a = g.R.Source.seen c.args.source.now in
    let b = g.R.Source.seen c.header_len.new.source in
    let d = g.R.Source.seen c.header_at.new.source in
    let P = λ (bytes : List ℕ) (load : ℕ × ℕ). IsInHead bytes at load in
    let block : BlockAt = record { no = n; at = at + 4 + c.from.result; len = header.len; kind = header.kind } in
    reads_both a b d len (λ bytes. header_len_at bytes at) (λ _ load. load ≡ (at, 4)) (Ok block) (λ bytes. with_len bytes n at len) (λ _ load. load ≡ (at + 4, len)) (λ bytes. frame_at bytes n at) P c.in-Ok.ensures.answers
    (reads_after b d header (λ bytes. header_of (slice_range bytes (at + 4) (at + 4 + len))) (λ _ load. load ≡ (at + 4, len)) (Ok block) (λ bytes. with_len bytes n at len) (λ _ load. load ≡ (at + 4, len)) c.in-Ok-header_at.ensures.answers
    (λ f. refl)
    (λ bytes is read.
    let told : length bytes ≡ c.args.size = at_told a.bytes bytes (λ bs. length bs ≡ c.args.size) (sym c.in-Ok.ensures.answers.bytes ∙ is) c.requires.told in
    with_len-with_header bytes n at len header (omega arith) read ∙ with_header-ok bytes n at len c.from.result header c.from.ensures (omega arith))
    (λ bytes l read is. is))
    (λ bytes is read. sym (frame-with_len bytes n at len read)) (λ bytes l read is. len_in_head bytes at l is) (λ bytes l told read is. header_in_head bytes at len l read is)
