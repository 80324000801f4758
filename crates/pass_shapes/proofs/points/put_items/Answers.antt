use Rattle.std.proofs.Common.{rules, ◌≡◌, None, length, sym, ◌∙◌}
use Rattle.tb_types.specs.declared.element.Kind.TheVariants as kinds
use Rattle.profile_rules.specs.Features.{specs_of}
use Rattle.tile_model.specs.Points.{point_of}
use Rattle.pass_shapes.proofs.Emitting.{emits-memory}
use Rattle.pass_shapes.proofs.SpecItems.{none-in, no-points, not-placed}
use Rattle.pass_shapes.proofs.points.put_items.Goals as goal

pub returns-in-Err : goal.returns-in-Err
returns-in-Err g c = emits-memory c.args.profile.now _ (g.S.Spill.seen c.args.spill.now) c.args.buffer.now c.args.buffer.now

pub returns-then-is_empty : goal.returns-then-is_empty
returns-then-is_empty g c =
    let exact : c.in-Ok.specs ≡ specs_of c.args.profile.now c.args.node.now.tags kinds.Node = search rules in
    let empty : length c.in-Ok.specs ≡ 0 = search rules in
    no-points c.args.profile.now c.args.block c.args.node.now (g.S.Spill.seen c.args.spill.now, c.args.buffer.now) (sym exact ∙ none-in c.in-Ok.specs empty)

pub returns-in-None : goal.returns-in-None
returns-in-None g c =
    let none : point_of c.args.node.now ≡ None = search rules in
    not-placed c.args.profile.now c.args.block c.args.node.now (g.S.Spill.seen c.args.spill.now, c.args.buffer.now) none
