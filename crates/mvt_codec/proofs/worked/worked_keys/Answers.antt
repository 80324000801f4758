use Rattle.mvt_codec.proofs.WorkedOrders.{worked_keys}
use Rattle.mvt_codec.proofs.worked.worked_keys.Goals as goal

pub returns : goal.returns
returns c = worked_keys
