use Rattle.mvt_codec.proofs.KeyOrder.{key_laws}
use Rattle.mvt_codec.proofs.order.keys_are_ordered.Goals as goal

pub returns : goal.returns
returns c = key_laws
