use Rattle.std.proofs.Common.{◌≡◌, take}
use Rattle.run_merge.specs.Cursors.{cursors_of}
use Rattle.run_merge.proofs.gather.places_of.Given as goal

abbrev pub invariant-loop-reader : goal.invariant-loop-reader
invariant-loop-reader l = l.places.items ≡ cursors_of (take l.reader-index l.readers)
