-- The nodes that ways need don't depend on the order in which blocks are put.
use Rattle.std.proofs.Common.{◌≡◌, ℕ, List, [], ◌++◌, flat_map, refl, sym, ap, subst, ◌∙◌}
use Rattle.std.specs.List.Sorted.{IsPermutation}
use Rattle.sorted_lists.proofs.Proved as lists
use Rattle.tb_outside.specs.Source.{SourceSeen}
use Rattle.tb_types.specs.declared.element.OsmId.{OsmId}
use Rattle.pbf_blobs.specs.declared.block.BlockAt.{BlockAt}
use Rattle.osm_elements.specs.declared.element.Block.{Block}
use Rattle.pass_order.specs.declared.order.Order.{Order}
use Rattle.shard_store.specs.Join.{Entry, IsJoinOf}
use Rattle.member_sets.specs.Ids.{entry_of, entries_of}
use Rattle.member_sets.specs.declared.unit.Unit as units
use Rattle.tile_model.specs.Extract.{all_refs, needed_refs}
use Rattle.pass_shapes.specs.Stores.{is_needed}
use Rattle.block_pass.specs.Passes.{Passed}
use Rattle.build_one.specs.declared.members.MemberWork.{MemberWork}
use Rattle.build_one.specs.declared.stop.PassStop.{PassStop}
use Rattle.build_one.specs.declared.stop.PassStop.TheVariants as stops
use Rattle.build_one.specs.Passes.{AreNeeded}
use Rattle.build_one.specs.Works.{members_meaning, as_read}
use Rattle.build_one.proofs.Loading.{IsQuiet}
use Rattle.build_one.proofs.Moved.{walk-moved, joined-moved}

pub quiet-members : (stop : PassStop) (a b : MemberWork) → stop ≡ stops.Memory → IsQuiet stop
quiet-members stop a b is = subst IsQuiet (sym is) tt

pub needed-made : (order : Order) (blocks : List BlockAt) (r r' : SourceSeen) (old new : MemberWork) (p : Passed members_meaning order blocks r r' old new) → old.ids.items ≡ [] → (needed : List (Entry units.Unit)) → IsJoinOf (λ (x y : units.Unit). x) new.ids.items needed
    → AreNeeded old.profile.now old.ways.now needed (as_read p.read)
needed-made order blocks r r' old new p none needed h =
    let both : units.Unit → units.Unit → units.Unit = λ x y. x in
    let f : ℕ × Block → List OsmId = λ b. flat_map (needed_refs old.profile.now (is_needed old.ways.now)) b.1.ways in
    let moved : IsPermutation (entries_of (all_refs old.profile.now (is_needed old.ways.now) (as_read p.read))) (entries_of (all_refs old.profile.now (is_needed old.ways.now) (as_read p.puts))) =
    (lists.bags OsmId OsmId (Entry units.Unit)).mapped entry_of _ _ (walk-moved f p.read p.puts p.all_put) in
    let ids : new.ids.items ≡ entries_of (all_refs old.profile.now (is_needed old.ways.now) (as_read p.puts)) = p.did.ids ∙ ap (λ xs. xs ++ entries_of (all_refs old.profile.now (is_needed old.ways.now) (as_read p.puts))) none in
    (both, joined-moved both (λ x y. refl) (λ x y z. refl) _ _ needed moved (subst (λ es. IsJoinOf both es needed) ids h))
