use Rattle.std.proofs.Common.{◌≡◌, length, arith, sym, subst, List, ◌∙◌}
use Rattle.profile_rules.specs.declared.spec.Spec.{Spec}
use Rattle.tile_model.specs.Ways.{way_origin, way_shape}
use Rattle.pass_shapes.specs.Stores.{locate_in}
use Rattle.pass_shapes.proofs.Emitting.{refused}
use Rattle.pass_shapes.proofs.SpecItems.{SpecsSent, specs-start, specs-next, specs-all, next-sound, none-in}
use Rattle.pass_shapes.proofs.ways.put_specs.Goals as goal

pub loop-spec-init : goal.loop-spec-init
loop-spec-init g c =
    let seen = g.S.Spill.seen in
    let locate = locate_in c.args.locations.now in
    subst (λ (rest : List Spec). SpecsSent c.args.profile.now (way_origin c.args.block c.args.way.now) (way_shape locate c.args.way.now.refs) c.args.specs rest (seen c.args.spill.now, c.args.buffer.now) (seen c.args.spill.now, c.args.buffer.now)) (sym (c.into_iter-spec-iterator.ensures.into_iter_gives.0 ∙ c.into_vec-spec-items.ensures))
    (specs-start c.args.profile.now (way_origin c.args.block c.args.way.now) (way_shape locate c.args.way.now.refs) c.args.specs (seen c.args.spill.now, c.args.buffer.now))

pub put_spec-requires-clause-spec : goal.put_spec-requires-clause-spec
put_spec-requires-clause-spec g c =
    let seen = g.S.Spill.seen in
    let locate = locate_in c.args.locations.now in
    next-sound c.args.profile.now (way_origin c.args.block c.args.way.now) (way_shape locate c.args.way.now.refs) c.args.specs c.next.new.self.rest.items c.in-Some.spec (seen c.args.spill.now, c.args.buffer.now) (seen c.loop-spec.spill, c.loop-spec.buffer) c.requires.specs
    (subst (λ (rest : List Spec). SpecsSent c.args.profile.now (way_origin c.args.block c.args.way.now) (way_shape locate c.args.way.now.refs) c.args.specs rest (seen c.args.spill.now, c.args.buffer.now) (seen c.loop-spec.spill, c.loop-spec.buffer)) (c.in-Some.ensures {u = tt}).steps.0 c.loop-spec.invariant)

pub loop-spec-preserved : goal.loop-spec-preserved
loop-spec-preserved g c =
    let seen = g.S.Spill.seen in
    let locate = locate_in c.args.locations.now in
    specs-next c.args.profile.now (way_origin c.args.block c.args.way.now) (way_shape locate c.args.way.now.refs) c.args.specs c.next.new.self.rest.items c.in-Some.spec (seen c.args.spill.now, c.args.buffer.now) (seen c.loop-spec.spill, c.loop-spec.buffer) (seen c.put_spec.new.spill, c.put_spec.new.buffer)
    (subst (λ (rest : List Spec). SpecsSent c.args.profile.now (way_origin c.args.block c.args.way.now) (way_shape locate c.args.way.now.refs) c.args.specs rest (seen c.args.spill.now, c.args.buffer.now) (seen c.loop-spec.spill, c.loop-spec.buffer)) (c.in-Some.ensures {u = tt}).steps.0 c.loop-spec.invariant)
    (c.in-Ok.ensures {u = tt})

pub returns : goal.returns
returns g c =
    let seen = g.S.Spill.seen in
    let locate = locate_in c.args.locations.now in
    let left = c.loop-spec.spec-iterator.rest in
    let count : length left.items ≡ 0 = omega (arith, (c.in-None.ensures {u = tt}).steps.0, left.ok) in
    specs-all c.args.profile.now (way_origin c.args.block c.args.way.now) (way_shape locate c.args.way.now.refs) c.args.specs (seen c.args.spill.now, c.args.buffer.now) (seen c.loop-spec.spill, c.loop-spec.buffer)
    (subst (λ (rest : List Spec). SpecsSent c.args.profile.now (way_origin c.args.block c.args.way.now) (way_shape locate c.args.way.now.refs) c.args.specs rest (seen c.args.spill.now, c.args.buffer.now) (seen c.loop-spec.spill, c.loop-spec.buffer)) (none-in left.items count) c.loop-spec.invariant)

pub returns-in-Err : goal.returns-in-Err
returns-in-Err g c =
    let seen = g.S.Spill.seen in
    refused c.args.profile.now _ _ _ c.in-Err.e (seen c.args.spill.now, c.args.buffer.now) (seen c.loop-spec.spill, c.loop-spec.buffer) (seen c.put_spec.new.spill, c.put_spec.new.buffer) c.loop-spec.invariant.items (c.in-Err.ensures {u = tt})
