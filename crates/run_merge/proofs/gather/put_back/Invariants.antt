use Rattle.std.proofs.Common.{◌≡◌, length, take}
use Rattle.run_merge.specs.Cursors.{cursors_of}
use Rattle.run_merge.proofs.Ends.{windows_of}
use Rattle.run_merge.proofs.gather.put_back.Given as goal

abbrev pub invariant-loop-number : goal.invariant-loop-number
invariant-loop-number l = record {
  len : length l.readers ≡ length l.places;
  cursors : take l.number (cursors_of l.readers) ≡ take l.number l.places;
  windows : windows_of l.readers ≡ windows_of l.fn.readers;
}
