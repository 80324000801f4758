use Rattle.mvt_codec.proofs.Seen.{used, is_new}
use Rattle.mvt_codec.proofs.keys.Keys.add.Goals as goal

pub returns-clause-items : goal.returns-clause-items
returns-clause-items c =
    let put = c.in_ok-is_new.ensures {u = tt} in
    (used (λ k. k.now) c.self.inside.items.keys c.insert_full.new.self.keys c.args.key c.args.self.now c.in_ok-is_new.field-0-0 c.self.view_is put.keys put.index).0

pub returns-clause-new : goal.returns-clause-new
returns-clause-new c =
    is_new (λ k. k.now) c.self.inside.items.keys c.args.key c.args.self.now c.in_ok-is_new.is_new c.self.view_is (c.in_ok-is_new.ensures {u = tt}).added
