use Rattle.std.proofs.Common.{◌∷◌, [], subst}
use Rattle.mvt_codec.specs.declared.item.RunItem.{RunItem}
use Rattle.pass_shapes.specs.Emitting.{Emits}
use Rattle.pass_shapes.proofs.Emitting.{emits-memory}
use Rattle.pass_shapes.proofs.points.put_item.Goals as goal

pub returns-in-Ok : goal.returns-in-Ok
returns-in-Ok g c =
    let seen = g.S.Spill.seen in
    subst (λ (item : RunItem). Emits c.args.profile.now (item ∷ []) (seen c.args.spill.now) (seen c.emit_item.new.spill) c.args.buffer.now c.emit_item.new.buffer c.emit_item.result) (c.in-Ok.ensures {u = tt}).exact c.emit_item.ensures

pub returns-in-Err : goal.returns-in-Err
returns-in-Err g c = emits-memory c.args.profile.now _ (g.S.Spill.seen c.args.spill.now) c.args.buffer.now c.args.buffer.now
