use Rattle.mvt_codec.proofs.GroupAgain.{texts-more}
use Rattle.mvt_codec.proofs.group.add_layer.Goals as goal

pub returns-clause-texts : goal.returns-clause-texts
returns-clause-texts c = λ texts. texts-more c.args.layers.now.items c.push.new.self.items c.in_ok-layer.layer (c.in_ok-push.ensures {u = tt}).items (c.in_ok-layer.ensures {u = tt}).utf8 texts
