-- The law over settled lists.
use Rattle.flow_core.proofs.SettledLemmas.{done_once}
use Rattle.flow_core.proofs.laws.settled_means_done.Goals as goal

pub returns : goal.returns
returns c = done_once
