use Rattle.osm_elements.proofs.WorkedCases.{worked_cases}
use Rattle.osm_elements.proofs.worked.worked_cases.Goals as goal

pub returns : goal.returns
returns c = worked_cases
