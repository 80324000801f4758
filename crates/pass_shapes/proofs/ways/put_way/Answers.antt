use Rattle.std.proofs.Common.{rules, ◌≡◌, None, length, sym, ◌∙◌}
use Rattle.tb_types.specs.declared.element.Kind.TheVariants as kinds
use Rattle.profile_rules.specs.Features.{specs_of}
use Rattle.tile_model.specs.Ways.{path_of, way_origin, way_shape}
use Rattle.pass_shapes.specs.Stores.{locate_in}
use Rattle.pass_shapes.proofs.Emitting.{emits-memory}
use Rattle.pass_shapes.proofs.SpecItems.{no-specs, no-shapes, none-shaped, none-in}
use Rattle.pass_shapes.proofs.ways.put_way.Goals as goal

pub returns-then-is_empty : goal.returns-then-is_empty
returns-then-is_empty g c =
    let exact : c.in-Ok.specs ≡ specs_of c.args.profile.now c.args.way.now.tags kinds.Way = search rules in
    let empty : length c.in-Ok.specs ≡ 0 = search rules in
    no-specs c.args.profile.now (way_origin c.args.block c.args.way.now) (way_shape (locate_in c.args.locations.now) c.args.way.now.refs) (g.S.Spill.seen c.args.spill.now, c.args.buffer.now) (specs_of c.args.profile.now c.args.way.now.tags kinds.Way) (sym exact ∙ none-in c.in-Ok.specs empty)

pub returns-in-Ok-None : goal.returns-in-Ok-None
returns-in-Ok-None g c =
    let locate = locate_in c.args.locations.now in
    let refs = c.args.way.now.refs in
    let none : path_of locate refs ≡ None = search rules in
    no-shapes c.args.profile.now (way_origin c.args.block c.args.way.now) (way_shape locate refs) (g.S.Spill.seen c.args.spill.now, c.args.buffer.now) (specs_of c.args.profile.now c.args.way.now.tags kinds.Way) (none-shaped locate refs none)

pub returns-in-Err : goal.returns-in-Err
returns-in-Err g c = emits-memory c.args.profile.now _ (g.S.Spill.seen c.args.spill.now) c.args.buffer.now c.args.buffer.now

pub returns-in-Err-path_of : goal.returns-in-Err-path_of
returns-in-Err-path_of g c = emits-memory c.args.profile.now _ (g.S.Spill.seen c.args.spill.now) c.args.buffer.now c.args.buffer.now
