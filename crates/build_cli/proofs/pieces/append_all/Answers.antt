use Rattle.build_cli.proofs.Appending.{appended-start, appended-next, appended-end, appended-fails}
use Rattle.build_cli.proofs.pieces.append_all.Goals as goal

pub loop-piece-init : goal.loop-piece-init
loop-piece-init g c = appended-start c.args.pieces.now (g.K.Sink.seen c.args.sink.now)

pub returns : goal.returns
returns g c = appended-end c.args.pieces.now (g.K.Sink.seen c.args.sink.now) (g.K.Sink.seen c.loop-piece.sink) c.loop-piece.piece-index c.loop-piece-test.false c.loop-piece.invariant

pub loop-piece-preserved : goal.loop-piece-preserved
loop-piece-preserved g c =
    let answered = c.in-Ok.ensures {u = tt} in
    appended-next c.args.pieces.now (g.K.Sink.seen c.args.sink.now) (g.K.Sink.seen c.loop-piece.sink) (g.K.Sink.seen c.append.new.self) c.loop-piece.piece-index _ c.loop-piece-test.true c.loop-piece.invariant answered.appended answered.ok

pub returns-in-Err : goal.returns-in-Err
returns-in-Err g c =
    let refused = c.in-Err.ensures {u = tt} in
    appended-fails c.args.pieces.now (g.K.Sink.seen c.args.sink.now) (g.K.Sink.seen c.loop-piece.sink) (g.K.Sink.seen c.append.new.self) c.loop-piece.piece-index _ c.in-Err.e c.loop-piece-test.true c.loop-piece.invariant refused.prefix refused.err refused.never_falls
