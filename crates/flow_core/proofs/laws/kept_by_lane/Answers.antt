-- The law lane by lane.
use Rattle.flow_core.proofs.SettledLemmas.{kept_in_lane}
use Rattle.flow_core.proofs.laws.kept_by_lane.Goals as goal

pub returns : goal.returns
returns c = kept_in_lane
