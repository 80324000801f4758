use Rattle.mvt_codec.proofs.KeyOrder.{by_kinds}
use Rattle.mvt_codec.proofs.order.compare_keys.Goals as goal

pub returns : goal.returns
returns c = by_kinds c.args.a.now c.args.b.now c.cmp.result c.cmp.ensures
