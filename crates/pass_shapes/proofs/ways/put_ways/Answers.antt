use Rattle.std.proofs.Common.{refl, sym, ap, ◌∙◌, flat_map}
use Rattle.std.proofs.lemmas.List.{take_all}
use Rattle.osm_elements.specs.declared.element.WayEl.{WayEl}
use Rattle.tile_model.specs.Ways.{way_features}
use Rattle.tile_model.specs.Tiles.{emitted_items, feature_items}
use Rattle.pass_shapes.specs.Stores.{locate_in}
use Rattle.pass_shapes.proofs.Emitting.{sends-none, sends-item, sends-as, refused, flat-flat}
use Rattle.pass_shapes.proofs.ways.put_ways.Goals as goal

pub loop-way-init : goal.loop-way-init
loop-way-init g c = sends-none c.args.profile.now (g.S.Spill.seen c.args.spill.now, c.args.buffer.now)

pub returns-in-Err : goal.returns-in-Err
returns-in-Err g c =
    let seen = g.S.Spill.seen in
    refused c.args.profile.now _ _ _ c.in-Err.e (seen c.args.spill.now, c.args.buffer.now) (seen c.loop-way.spill, c.loop-way.buffer) (seen c.put_way.new.spill, c.put_way.new.buffer) c.loop-way.invariant (c.in-Err.ensures {u = tt})

pub loop-way-preserved : goal.loop-way-preserved
loop-way-preserved g c =
    let seen = g.S.Spill.seen in
    sends-item c.args.profile.now (λ (x : WayEl). emitted_items (way_features c.args.profile.now (locate_in c.args.locations.now) c.args.block x)) c.args.ways.now c.args.ways.now c.loop-way.way-index c.way-item.result (seen c.args.spill.now, c.args.buffer.now) (seen c.loop-way.spill, c.loop-way.buffer) (seen c.put_way.new.spill, c.put_way.new.buffer)
    refl c.loop-way-test.true c.way-item.is c.loop-way.invariant (c.in-Ok.ensures {u = tt})

pub returns : goal.returns
returns g c =
    let seen = g.S.Spill.seen in
    let f = way_features c.args.profile.now (locate_in c.args.locations.now) c.args.block in
    sends-as c.args.profile.now _ _ (seen c.args.spill.now, c.args.buffer.now) (seen c.loop-way.spill, c.loop-way.buffer)
    (ap (flat_map (λ (x : WayEl). emitted_items (f x))) (take_all c.loop-way.way-index c.args.ways.now c.loop-way-test.false) ∙ sym (flat-flat feature_items f c.args.ways.now)) c.loop-way.invariant
