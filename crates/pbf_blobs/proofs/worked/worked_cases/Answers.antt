use Rattle.pbf_blobs.proofs.WorkedCases.{worked_cases}
use Rattle.pbf_blobs.proofs.worked.worked_cases.Goals as goal

pub returns : goal.returns
returns c = worked_cases
