use Rattle.std.proofs.Common.{◌-◌}
use Rattle.pbf_blobs.proofs.Scanning.{Scanning}
use Rattle.pbf_blobs.proofs.walk.scan_within.Given as goal

abbrev pub invariant-loop-at : goal.invariant-loop-at
invariant-loop-at g l = Scanning l.size (g.R.Source.seen l.fn.source) (g.R.Source.seen l.source) l.blocks l.no l.at l.headed

abbrev pub decreases-loop-at : goal.decreases-loop-at
decreases-loop-at g l = l.size - l.at
