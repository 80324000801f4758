use Rattle.std.proofs.Common.{◌≡◌, ◌++◌, List, flat_map, refl, subst}
use Rattle.osm_elements.specs.declared.element.WayEl.{WayEl}
use Rattle.member_sets.specs.Ids.{entries_of}
use Rattle.tile_model.specs.Extract.{needed_refs}
use Rattle.pass_shapes.specs.Stores.{is_needed}
use Rattle.build_one.proofs.Passes.{listed-next}
use Rattle.build_one.proofs.members.MemberWorkWork.put.Goals as goal

pub returns-in-Ok : goal.returns-in-Ok
returns-in-Ok c = λ start puts emits h.
    let old = c.args.self.now in
    listed-next start old _ puts emits (c.args._block, c.args.body.now) h refl refl
    (subst (λ (ways : List WayEl). c.put_needed.new.ids.items ≡ old.ids.items ++ entries_of (flat_map (needed_refs old.profile.now (is_needed old.ways.now)) ways)) c.as_slice-ways.ensures (c.in-Ok.ensures {u = tt}))
