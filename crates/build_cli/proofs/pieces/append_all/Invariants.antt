use Rattle.build_cli.proofs.Appending.{Appended}
use Rattle.build_cli.proofs.pieces.append_all.Given as goal

abbrev pub invariant-loop-piece : goal.invariant-loop-piece
invariant-loop-piece g l = Appended l.pieces (g.K.Sink.seen l.fn.sink) (g.K.Sink.seen l.sink) l.piece-index
