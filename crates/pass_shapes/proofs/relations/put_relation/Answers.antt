use Rattle.std.proofs.Common.{rules, ◌≡◌, length, sym, ◌∙◌}
use Rattle.tile_model.specs.Relations.{polygons_of, relation_shape}
use Rattle.pass_shapes.specs.Kept.{kept_origin}
use Rattle.pass_shapes.specs.Stores.{shape_in}
use Rattle.pass_shapes.proofs.Emitting.{emits-memory}
use Rattle.pass_shapes.proofs.SpecItems.{no-shapes, no-polygons, none-in}
use Rattle.pass_shapes.proofs.relations.put_relation.Goals as goal

pub returns-then-is_empty : goal.returns-then-is_empty
returns-then-is_empty g c =
    let shape_at = shape_in c.args.shapes.now in
    let members = c.args.relation.now.members in
    let exact : c.in-Ok.polygons ≡ polygons_of shape_at members = search rules in
    let empty : length c.in-Ok.polygons ≡ 0 = search rules in
    no-shapes c.args.profile.now (kept_origin c.args.relation.now) (relation_shape shape_at members) (g.S.Spill.seen c.args.spill.now, c.args.buffer.now) c.args.relation.now.specs (no-polygons shape_at members (sym exact ∙ none-in c.in-Ok.polygons empty))

pub returns-in-Err : goal.returns-in-Err
returns-in-Err g c = emits-memory c.args.profile.now _ (g.S.Spill.seen c.args.spill.now) c.args.buffer.now c.args.buffer.now
