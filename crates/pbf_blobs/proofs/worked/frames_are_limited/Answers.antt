use Rattle.pbf_blobs.proofs.WorkedCases.{frames_are_limited}
use Rattle.pbf_blobs.proofs.worked.frames_are_limited.Goals as goal

pub returns : goal.returns
returns c = frames_are_limited
