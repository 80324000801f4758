use Rattle.std.proofs.Common.{◌≡◌, ◌≤◌, take, length}
use Rattle.pmtiles_file.specs.Finished.{all_contents}
use Rattle.pmtiles_file.proofs.Copying.{Written}
use Rattle.pmtiles_file.proofs.copy.copy_all.Given as goal

abbrev pub invariant-loop-content : goal.invariant-loop-content
invariant-loop-content g l = record {
  written : Written (g.S.Spill.seen l.fn.spool) (g.S.Spill.seen l.spool) (g.K.Sink.seen l.fn.sink) (g.K.Sink.seen l.sink) (take l.filled l.buffer) (all_contents (take l.content-index l.stored));
  fill : l.filled ≤ length l.buffer;
  kept : length l.buffer ≡ length l.fn.buffer;
}
