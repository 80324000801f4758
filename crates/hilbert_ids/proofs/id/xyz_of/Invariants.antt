use Rattle.std.proofs.Common.{◌≤◌}
use Rattle.hilbert_ids.specs.Ids.{first_id_of}
use Rattle.hilbert_ids.proofs.id.xyz_of.Given as goal

-- no lower zoom has the id
abbrev pub invariant-loop-zoom : goal.invariant-loop-zoom
invariant-loop-zoom l = first_id_of l.zoom ≤ l.fn.id.0
