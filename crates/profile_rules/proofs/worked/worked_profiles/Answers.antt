use Rattle.profile_rules.proofs.WorkedProfiles.{worked}
use Rattle.profile_rules.proofs.worked.worked_profiles.Goals as goal

pub returns : goal.returns
returns c = worked
