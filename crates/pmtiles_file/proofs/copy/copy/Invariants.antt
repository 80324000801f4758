use Rattle.std.proofs.Common.{◌≡◌, ◌-◌, ◌≤◌, ◌++◌, take, length}
use Rattle.pmtiles_file.specs.Spool.{content_in}
use Rattle.pmtiles_file.proofs.Copying.{Written}
use Rattle.pmtiles_file.proofs.copy.copy.Given as goal

abbrev pub invariant-loop-at : goal.invariant-loop-at
invariant-loop-at g l = record {
  written : Written (g.S.Spill.seen l.fn.spool) (g.S.Spill.seen l.spool) (g.K.Sink.seen l.fn.sink) (g.K.Sink.seen l.sink) (take l.filled l.buffer) (λ r. take l.start l.fn.buffer ++ take l.at (content_in r.ended l.content));
  at_within : l.at ≤ l.content.len;
  fill : l.filled ≤ length l.buffer;
  kept : length l.buffer ≡ length l.fn.buffer;
}

abbrev pub decreases-loop-at : goal.decreases-loop-at
decreases-loop-at g l = l.content.len - l.at
