use Rattle.std.proofs.Common.{◌≡◌, ◌+◌, ◌≤◌, ◌++◌, ℕ, List, length, take, drop, arith, ap, ◌∙◌, append_assoc}
use Rattle.std.proofs.lemmas.List.{take-append-drop}
use Rattle.tb_outside.specs.Spill.{Runs}
use Rattle.pmtiles_file.specs.Spool.{content_in}
use Rattle.pmtiles_file.proofs.Copying.{written-room, room-refused, written-part, part-refused}
use Rattle.pmtiles_file.proofs.copy.copy.Goals as goal

pub returns-in-Err-clause-answers : goal.returns-in-Err-clause-answers
returns-in-Err-clause-answers g c =
    let start : List ℕ = take c.args.start c.args.buffer.now in
    room-refused (g.S.Spill.seen c.args.spool.now) (g.S.Spill.seen c.loop-at.spool) (g.K.Sink.seen c.args.sink.now) (g.K.Sink.seen c.loop-at.sink) (g.K.Sink.seen c.make_room.new.sink)
    (λ (r : Runs). start ++ take c.loop-at.at (content_in r.ended c.args.content)) (λ (r : Runs). start ++ content_in r.ended c.args.content) (λ (r : Runs). drop c.loop-at.at (content_in r.ended c.args.content)) _ _
    (take c.loop-at.filled c.loop-at.buffer) c.in-Err.e
    (λ r. append_assoc start (take c.loop-at.at (content_in r.ended c.args.content)) (drop c.loop-at.at (content_in r.ended c.args.content)) ∙ ap (λ xs. start ++ xs) (take-append-drop c.loop-at.at (content_in r.ended c.args.content)))
    (omega (arith, c.loop-at.invariant.written.spool_faults)) (omega (arith, c.loop-at.invariant.written.sink_faults)) c.loop-at.invariant.written c.in-Err.ensures.answers

pub returns-in-Err-read_behind-clause-answers : goal.returns-in-Err-read_behind-clause-answers
returns-in-Err-read_behind-clause-answers g c =
    let start : List ℕ = take c.args.start c.args.buffer.now in
    let w = written-room (g.S.Spill.seen c.args.spool.now) (g.S.Spill.seen c.loop-at.spool) (g.K.Sink.seen c.args.sink.now) (g.K.Sink.seen c.loop-at.sink) (g.K.Sink.seen c.make_room.new.sink)
    (λ (r : Runs). start ++ take c.loop-at.at (content_in r.ended c.args.content)) (λ (n : ℕ). take n c.loop-at.buffer) (take c.loop-at.filled c.loop-at.buffer) c.in-Ok.n c.loop-at.invariant.written c.in-Ok.ensures.answers in
    part-refused (g.S.Spill.seen c.args.spool.now) (g.S.Spill.seen c.loop-at.spool) (g.S.Spill.seen c.read_behind.new.spool) (g.K.Sink.seen c.args.sink.now) (g.K.Sink.seen c.make_room.new.sink) c.args.content start (take c.in-Ok.n c.loop-at.buffer) _
    c.loop-at.at c.min-n.result _ c.in-Err-read_behind.e (omega (arith, w.spool_faults)) (omega (arith, w.sink_faults)) w c.in-Err-read_behind.ensures.part

pub loop-at-preserved : goal.loop-at-preserved
loop-at-preserved g c =
    let start : List ℕ = take c.args.start c.args.buffer.now in
    let w = written-room (g.S.Spill.seen c.args.spool.now) (g.S.Spill.seen c.loop-at.spool) (g.K.Sink.seen c.args.sink.now) (g.K.Sink.seen c.loop-at.sink) (g.K.Sink.seen c.make_room.new.sink)
    (λ (r : Runs). start ++ take c.loop-at.at (content_in r.ended c.args.content)) (λ (n : ℕ). take n c.loop-at.buffer) (take c.loop-at.filled c.loop-at.buffer) c.in-Ok.n c.loop-at.invariant.written c.in-Ok.ensures.answers in
    record {
      written = written-part (g.S.Spill.seen c.args.spool.now) (g.S.Spill.seen c.loop-at.spool) (g.S.Spill.seen c.read_behind.new.spool) (g.K.Sink.seen c.args.sink.now) (g.K.Sink.seen c.make_room.new.sink) c.args.content start (take c.in-Ok.n c.loop-at.buffer)
          (take (c.in-Ok.n + c.min-n.result) c.read_behind.new.buffer) c.loop-at.at c.min-n.result c.in-Ok-read_behind.field-0 w c.in-Ok-read_behind.ensures.part;
      at_within = omega (arith, c.min-n.ensures, c.loop-at-test.true);
      fill = omega (arith, c.min-n.ensures, c.in-Ok.ensures.room, c.in-Ok-read_behind.ensures.room);
      kept = c.in-Ok-read_behind.ensures.room ∙ c.loop-at.invariant.kept;
    }
