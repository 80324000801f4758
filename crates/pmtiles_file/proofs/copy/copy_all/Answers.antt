use Rattle.std.proofs.Common.{◌≡◌, ◌+◌, ◌≤◌, take, length, arith, ◌∙◌}
use Rattle.pmtiles_file.specs.declared.stored.Stored.{Stored}
use Rattle.pmtiles_file.proofs.Copying.{written-next, next-refused, copied-all}
use Rattle.pmtiles_file.proofs.copy.copy_all.Goals as goal

abbrev any_stored : Stored
any_stored = record { run = 0; len = 0; offset = 0 }

pub returns-in-Err : goal.returns-in-Err
returns-in-Err g c =
    next-refused (g.S.Spill.seen c.args.spool.now) (g.S.Spill.seen c.loop-content.spool) (g.S.Spill.seen c.copy.new.spool) (g.K.Sink.seen c.args.sink.now) (g.K.Sink.seen c.loop-content.sink) (g.K.Sink.seen c.copy.new.sink)
    c.args.stored.now c.loop-content.content-index any_stored (take c.loop-content.filled c.loop-content.buffer) _ _ c.in-Err.e (omega arith) c.loop-content.invariant.written c.in-Err.ensures.answers

pub loop-content-preserved : goal.loop-content-preserved
loop-content-preserved g c = record {
  written = written-next (g.S.Spill.seen c.args.spool.now) (g.S.Spill.seen c.loop-content.spool) (g.S.Spill.seen c.copy.new.spool) (g.K.Sink.seen c.args.sink.now) (g.K.Sink.seen c.loop-content.sink) (g.K.Sink.seen c.copy.new.sink)
      c.args.stored.now c.loop-content.content-index any_stored (take c.loop-content.filled c.loop-content.buffer) _ c.in-Ok.n (omega arith) c.loop-content.invariant.written c.in-Ok.ensures.answers;
  fill = omega (arith, c.in-Ok.ensures.filled, c.in-Ok.ensures.room);
  kept = c.in-Ok.ensures.room ∙ c.loop-content.invariant.kept;
}

pub returns-in-Ok-append : goal.returns-in-Ok-append
returns-in-Ok-append g c =
    copied-all (g.S.Spill.seen c.args.spool.now) (g.S.Spill.seen c.loop-content.spool) (g.K.Sink.seen c.args.sink.now) (g.K.Sink.seen c.loop-content.sink) (g.K.Sink.seen c.append.new.sink)
    c.args.stored.now c.loop-content.content-index (take c.loop-content.filled c.loop-content.buffer) c.in-Ok-append.field-0 tt (omega arith) c.loop-content.invariant.written c.in-Ok-append.ensures
