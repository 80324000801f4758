use Rattle.std.proofs.Common.{◌≡◌, length}
use Rattle.mvt_geom.specs.Options.{◌>>=◌}
use Rattle.mvt_geom.specs.Commands.{paths_of}
use Rattle.mvt_geom.specs.Geometry.{all_points, lines_of}
use Rattle.mvt_geom.specs.Walks.{with_prefix}
use Rattle.mvt_geom.proofs.read.lines_of.Given as goal

-- the lines so far, and those of the integers that are left, are all
abbrev pub invariant-loop-rest : goal.invariant-loop-rest
invariant-loop-rest l = with_prefix l.lines (paths_of l.closed l.rest >>= all_points l.cursor) ≡ lines_of l.closed l.ints

abbrev pub decreases-loop-rest : goal.decreases-loop-rest
decreases-loop-rest l = length l.rest
