use Rattle.std.proofs.Common.{List, flat_map, refl, subst}
use Rattle.osm_elements.specs.declared.element.WayEl.{WayEl}
use Rattle.tile_model.specs.Ways.{way_features}
use Rattle.tile_model.specs.Tiles.{emitted_items}
use Rattle.pass_shapes.specs.Stores.{locate_in}
use Rattle.build_one.specs.Passes.{Adds}
use Rattle.build_one.proofs.Passes.{shaped-emit}
use Rattle.build_one.proofs.ways.WayWorkWork.emit.Goals as goal

pub returns-in-Ok : goal.returns-in-Ok
returns-in-Ok g c = λ start puts emits h.
    let old = c.args.self.now in
    let seen = g.S.Spill.seen in
    shaped-emit seen start old _ puts emits (c.args.block, c.args.body) h (record { buffer = refl; spill = refl; entries = refl; profile = refl; needed = refl; locations = refl }) refl
    (subst (λ (ways : List WayEl). Adds old.profile.now (emitted_items (flat_map (way_features old.profile.now (locate_in old.locations.now) c.args.block.no) ways)) (seen old.spill.now) (seen c.put_ways.new.spill) old.buffer.now c.put_ways.new.buffer) c.as_slice-ways.ensures (c.in-Ok.ensures {u = tt}))
