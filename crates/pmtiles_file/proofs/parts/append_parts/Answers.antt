use Rattle.std.proofs.Common.{◌++◌, Ok, Err}
use Rattle.std.specs.Prelude.{string_bytes}
use Rattle.pmtiles_file.proofs.Copying.{put-then, put-refused}
use Rattle.pmtiles_file.proofs.parts.append_parts.Goals as goal

pub returns-in-Err-append : goal.returns-in-Err-append
returns-in-Err-append g c =
    let p = c.args.parts.now in
    let metadata = string_bytes p.metadata in
    put-then (g.K.Sink.seen c.args.sink.now) (g.K.Sink.seen c.append.new.sink) (g.K.Sink.seen c.append-2.new.sink) p.header (p.root ++ (metadata ++ p.leaves)) c.in-Ok.field-0 (Err c.in-Err-append.e) c.in-Ok.ensures
    (put-refused (g.K.Sink.seen c.append.new.sink) (g.K.Sink.seen c.append-2.new.sink) p.root (metadata ++ p.leaves) c.in-Err-append.e (rw c.as_slice.ensures at c.in-Err-append.ensures))

pub returns-in-Err-append-2 : goal.returns-in-Err-append-2
returns-in-Err-append-2 g c =
    let p = c.args.parts.now in
    let metadata = string_bytes p.metadata in
    put-then (g.K.Sink.seen c.args.sink.now) (g.K.Sink.seen c.append.new.sink) (g.K.Sink.seen c.append-3.new.sink) p.header (p.root ++ (metadata ++ p.leaves)) c.in-Ok.field-0 (Err c.in-Err-append-2.e) c.in-Ok.ensures
    (put-then (g.K.Sink.seen c.append.new.sink) (g.K.Sink.seen c.append-2.new.sink) (g.K.Sink.seen c.append-3.new.sink) p.root (metadata ++ p.leaves) c.in-Ok-append.field-0 (Err c.in-Err-append-2.e) (rw c.as_slice.ensures at c.in-Ok-append.ensures)
    (put-refused (g.K.Sink.seen c.append-2.new.sink) (g.K.Sink.seen c.append-3.new.sink) metadata p.leaves c.in-Err-append-2.e (rw c.as_bytes.ensures.value at c.in-Err-append-2.ensures)))

pub returns : goal.returns
returns g c =
    let p = c.args.parts.now in
    let metadata = string_bytes p.metadata in
    put-then (g.K.Sink.seen c.args.sink.now) (g.K.Sink.seen c.append.new.sink) (g.K.Sink.seen c.append-4.new.sink) p.header (p.root ++ (metadata ++ p.leaves)) c.in-Ok.field-0 c.append-4.result c.in-Ok.ensures
    (put-then (g.K.Sink.seen c.append.new.sink) (g.K.Sink.seen c.append-2.new.sink) (g.K.Sink.seen c.append-4.new.sink) p.root (metadata ++ p.leaves) c.in-Ok-append.field-0 c.append-4.result (rw c.as_slice.ensures at c.in-Ok-append.ensures)
    (put-then (g.K.Sink.seen c.append-2.new.sink) (g.K.Sink.seen c.append-3.new.sink) (g.K.Sink.seen c.append-4.new.sink) metadata p.leaves c.in-Ok-append-2.field-0 c.append-4.result (rw c.as_bytes.ensures.value at c.in-Ok-append-2.ensures) (rw c.as_slice-2.ensures at c.append-4.ensures)))
