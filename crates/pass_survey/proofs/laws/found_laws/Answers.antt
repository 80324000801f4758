use Rattle.pass_survey.proofs.Told.{found}
use Rattle.pass_survey.proofs.laws.found_laws.Goals as goal

pub returns : goal.returns
returns c = found
