use Rattle.std.proofs.Common.{◌≡◌, List, ℕ, Ok, Err, ap, sym, subst}
use Rattle.std.specs.Prelude.{⊤}
use Rattle.pmtiles_file.specs.Writing.{WriterSeen}
use Rattle.pmtiles_file.specs.Finished.{FinishAnswers, PutAnswers}
use Rattle.pmtiles_file.proofs.Finishing.{finished-all, finished-parts, finished-contents}
use Rattle.pmtiles_file.proofs.writer.Writer.finish.Goals as goal

pub returns-in-Err-append_parts : goal.returns-in-Err-append_parts
returns-in-Err-append_parts g c =
    let i = c.self.inside in
    let w : WriterSeen = record { meta = i.meta; contents = i.contents; entries = i.listed.entries; tiles = i.listed.tiles } in
    let spool = g.S.Spill.seen c.args.spool.now in
    let sink = g.K.Sink.seen c.args.sink.now in
    let mid = g.K.Sink.seen c.append_parts.new.sink in
    subst (λ (x : WriterSeen). FinishAnswers x spool spool sink mid (Err c.in-Err-append_parts.e)) c.self.view_is
    (finished-parts w spool sink mid c.in-Err-append_parts.e (subst (λ (xs : List ℕ). PutAnswers {A = ⊤} sink mid xs (Err c.in-Err-append_parts.e)) c.in-Ok.ensures.text c.in-Err-append_parts.ensures))

pub returns-in-Err-copy_to : goal.returns-in-Err-copy_to
returns-in-Err-copy_to g c =
    let i = c.self.inside in
    let w : WriterSeen = record { meta = i.meta; contents = i.contents; entries = i.listed.entries; tiles = i.listed.tiles } in
    let spool = g.S.Spill.seen c.args.spool.now in
    let spool_after = g.S.Spill.seen c.copy_to.new.spool in
    let sink = g.K.Sink.seen c.args.sink.now in
    let mid = g.K.Sink.seen c.append_parts.new.sink in
    let sink_after = g.K.Sink.seen c.copy_to.new.sink in
    subst (λ (x : WriterSeen). FinishAnswers x spool spool_after sink sink_after (Err c.in-Err-copy_to.e)) c.self.view_is
    (finished-contents w spool spool_after sink mid sink_after c.in-Ok-append_parts.field-0 c.in-Err-copy_to.e
    (subst (λ (xs : List ℕ). PutAnswers {A = ⊤} sink mid xs (Ok c.in-Ok-append_parts.field-0)) c.in-Ok.ensures.text c.in-Ok-append_parts.ensures) c.in-Err-copy_to.ensures)

pub returns : goal.returns
returns g c =
    let i = c.self.inside in
    let w : WriterSeen = record { meta = i.meta; contents = i.contents; entries = i.listed.entries; tiles = i.listed.tiles } in
    let spool = g.S.Spill.seen c.args.spool.now in
    let spool_after = g.S.Spill.seen c.copy_to.new.spool in
    let sink = g.K.Sink.seen c.args.sink.now in
    let mid = g.K.Sink.seen c.append_parts.new.sink in
    let sink_after = g.K.Sink.seen c.copy_to.new.sink in
    subst (λ (x : WriterSeen). FinishAnswers x spool spool_after sink sink_after (Ok c.in-Ok.parts.totals)) c.self.view_is
    (finished-all w spool spool_after sink mid sink_after c.in-Ok.parts.totals c.in-Ok-append_parts.field-0 c.in-Ok-copy_to.field-0 c.in-Ok.ensures.totals c.in-Ok.ensures.fits
    (subst (λ (xs : List ℕ). PutAnswers {A = ⊤} sink mid xs (Ok c.in-Ok-append_parts.field-0)) c.in-Ok.ensures.text c.in-Ok-append_parts.ensures) c.in-Ok-copy_to.ensures)
