use Rattle.std.proofs.Common.{Option, Ok, Err, List, ℕ, refl, sym, subst, ◌∙◌}
use Rattle.std.specs.Prelude.{⊤, flat_map}
use Rattle.tb_types.specs.Counts.{Counted}
use Rattle.pbf_blobs.specs.declared.block.BlockAt.{BlockAt}
use Rattle.shard_store.specs.Join.{Entry}
use Rattle.member_sets.specs.declared.kept.KeptRelation.{KeptRelation}
use Rattle.member_sets.specs.declared.unit.Unit as units
use Rattle.node_store.specs.declared.shaped.Shaped.{Shaped}
use Rattle.feature_runs.specs.Writing.{Frames}
use Rattle.tile_model.specs.Tiles.{emitted_items}
use Rattle.tile_model.specs.declared.stop.Stop.{Stop}
use Rattle.pass_shapes.specs.Kept.{kept_features, needs_of}
use Rattle.pass_shapes.specs.Stores.{shape_in}
use Rattle.pass_shapes.specs.EmitLaws.{frames-on}
use Rattle.build_one.specs.Made.{GatherAnswers}
use Rattle.build_one.specs.declared.stop.RelationStop.{RelationStop}
use Rattle.build_one.specs.Passes.{AreMembers, AreNeeded, ArePlaced, AreDrawn, Reads, RelationAnswers, RelationTold}
use Rattle.build_one.specs.Survey.{source_failed}
use Rattle.build_one.proofs.Ordered.{gathered-loads}
use Rattle.build_one.proofs.Gathering.{damaged-ways}
use Rattle.build_one.proofs.Gathered.{gather-refused, damaged-by, same-frames, all-told, over-told, relations-refused, gathered-all}
use Rattle.build_one.proofs.extract.gather.Goals as goal

pub returns-in-Err-members-clause-answers : goal.returns-in-Err-members-clause-answers
returns-in-Err-members-clause-answers g c =
    let parts = c.args.profile.now in
    let found = c.args.found.now in
    let r0 = g.R.Source.seen c.args.reader.now in
    let s0 = g.S.Spill.seen c.args.spill.now in
    let one = c.in-Err-members.ensures {u = tt} in
    let r1 = g.R.Source.seen c.members.new.reader in
    subst (λ (stop : Stop). GatherAnswers parts c.args.part c.args.limit found r0 r1 s0 s0 (Err stop)) (sym c.stop_of_pass.ensures)
    (gather-refused parts c.args.part c.args.limit found r0 r1 s0 s0 one.bytes (List (Entry units.Unit)) 1 c.in-Err-members.e one.counts (same-frames (List (Entry units.Unit)) parts s0 c.in-Err-members.e one.alone)
    (λ damage at. damaged-ways parts found r0.bytes (damaged-by (λ needed read. AreNeeded parts c.in-Ok.ways needed read) c.deref-2.result.now found.ways.items r0.bytes r0.bytes c.in-Err-members.e c.deref-2.ensures.value refl one.read damage at)))

pub returns-in-Err-ways-clause-answers : goal.returns-in-Err-ways-clause-answers
returns-in-Err-ways-clause-answers g c =
    let parts = c.args.profile.now in
    let found = c.args.found.now in
    let r0 = g.R.Source.seen c.args.reader.now in
    let s0 = g.S.Spill.seen c.args.spill.now in
    let one = c.in-Ok-members.ensures {u = tt} in
    let two = c.in-Ok-nodes.ensures {u = tt} in
    let r1 = g.R.Source.seen c.members.new.reader in
    let r2 = g.R.Source.seen c.nodes.new.reader in
    let r3 = g.R.Source.seen c.ways.new.reader in
    let s1 = g.S.Spill.seen c.nodes.new.spill in
    let s2 = g.S.Spill.seen c.ways.new.spill in
    let three = c.in-Err-ways.ensures {u = tt} in
    subst (λ (stop : Stop). GatherAnswers parts c.args.part c.args.limit found r0 r3 s0 s2 (Err stop)) (sym c.stop_of_pass-in-Err-ways.ensures)
    (gather-refused parts c.args.part c.args.limit found r0 r3 s0 s2 (three.bytes ∙ (two.bytes ∙ one.bytes)) (List (Entry Shaped)) 3 c.in-Err-ways.e
    (subst (λ n. Counted (source_failed {A = List (Entry Shaped)} (Err c.in-Err-ways.e)) n r3.faults) (two.counts ∙ one.counts) three.counts) (frames-on s0 s1 s2 tt _ two.spill three.spill)
    (λ damage at. damaged-ways parts found r0.bytes (damaged-by (λ shapes read. AreDrawn parts c.in-Ok.ways c.in-Ok-nodes.locations s1 s2 c.nodes.new.buffer c.ways.new.buffer shapes read) c.deref-4.result.now found.ways.items r0.bytes r2.bytes c.in-Err-ways.e c.deref-4.ensures.value (two.bytes ∙ one.bytes) three.read damage at)))

pub returns-in-Ok-relations-clause-answers : goal.returns-in-Ok-relations-clause-answers
returns-in-Ok-relations-clause-answers g c =
    let parts = c.args.profile.now in
    let found = c.args.found.now in
    let r0 = g.R.Source.seen c.args.reader.now in
    let s0 = g.S.Spill.seen c.args.spill.now in
    let one = c.in-Ok-members.ensures {u = tt} in
    let two = c.in-Ok-nodes.ensures {u = tt} in
    let r1 = g.R.Source.seen c.members.new.reader in
    let r2 = g.R.Source.seen c.nodes.new.reader in
    let r3 = g.R.Source.seen c.ways.new.reader in
    let s1 = g.S.Spill.seen c.nodes.new.spill in
    let s2 = g.S.Spill.seen c.ways.new.spill in
    let three = c.in-Ok-ways.ensures {u = tt} in
    let s3 = g.S.Spill.seen c.relations.new.spill in
    let ways = c.in-Ok.ways in
    let needed = c.in-Ok-members.needed in
    let store = c.in-Ok-nodes.locations in
    let shapes = c.in-Ok-ways.shapes in
    let b0 = c.in-Ok-new.buffer in
    let b1 = c.nodes.new.buffer in
    let b2 = c.ways.new.buffer in
    let f : Frames {A = ⊤} s0 s2 (Ok tt) = frames-on s0 s1 s2 tt (Ok tt) two.spill three.spill in
    let bytes = three.bytes ∙ (two.bytes ∙ one.bytes) in
    let faults = three.counts ∙ (two.counts ∙ one.counts) in
    let new = c.in-Ok-new.ensures {u = tt} in
    let m = subst (λ (kept : List KeptRelation). AreMembers kept ways) c.deref.ensures.value (c.in-Ok.ensures {u = tt}) in
    let ones = subst (λ (blocks : List BlockAt). Reads (λ needed read. AreNeeded parts ways needed read) blocks r0.bytes (Ok needed)) c.deref-2.ensures.value one.read in
    let twos = subst (λ (blocks : List BlockAt). Reads (λ locations read. ArePlaced parts needed s0 s1 b0 b1 locations read) blocks r0.bytes (Ok store)) c.deref-3.ensures.value
    (subst (λ (o : Option (List ℕ)). Reads (λ locations read. ArePlaced parts needed s0 s1 b0 b1 locations read) c.deref-3.result.now o (Ok store)) one.bytes two.read) in
    let threes = subst (λ (blocks : List BlockAt). Reads (λ shapes read. AreDrawn parts ways store s1 s2 b1 b2 shapes read) blocks r0.bytes (Ok shapes)) c.deref-4.ensures.value
    (subst (λ (o : Option (List ℕ)). Reads (λ shapes read. AreDrawn parts ways store s1 s2 b1 b2 shapes read) c.deref-4.result.now o (Ok shapes)) (two.bytes ∙ one.bytes) three.read) in
    let rel = subst (λ (kept : List KeptRelation). RelationAnswers parts c.args.part (needs_of (shape_in shapes) kept) (emitted_items (flat_map (kept_features parts (shape_in shapes)) kept)) s2 s3 b2 (Ok c.in-Ok-relations.runs)) c.deref-5.ensures.value
    (c.in-Ok-relations.ensures {u = tt}) in
    gathered-all parts c.args.part c.args.limit found r0 r3 s0 s2 s3 bytes faults f c.in-Ok-relations.runs rel.frames
    (all-told parts c.args.part c.args.limit found r0.bytes ways needed store shapes s0 s1 s2 s3 b0 b1 b2 new.new new.told new.since m ones twos threes c.in-Ok-relations.runs rel.told.0 rel.told.1)

pub returns-clause-answers : goal.returns-clause-answers
returns-clause-answers g c =
    let parts = c.args.profile.now in
    let found = c.args.found.now in
    let r0 = g.R.Source.seen c.args.reader.now in
    let s0 = g.S.Spill.seen c.args.spill.now in
    let one = c.in-Ok-members.ensures {u = tt} in
    let two = c.in-Ok-nodes.ensures {u = tt} in
    let r1 = g.R.Source.seen c.members.new.reader in
    let r2 = g.R.Source.seen c.nodes.new.reader in
    let r3 = g.R.Source.seen c.ways.new.reader in
    let s1 = g.S.Spill.seen c.nodes.new.spill in
    let s2 = g.S.Spill.seen c.ways.new.spill in
    let three = c.in-Ok-ways.ensures {u = tt} in
    let s3 = g.S.Spill.seen c.relations.new.spill in
    let ways = c.in-Ok.ways in
    let needed = c.in-Ok-members.needed in
    let store = c.in-Ok-nodes.locations in
    let shapes = c.in-Ok-ways.shapes in
    let b0 = c.in-Ok-new.buffer in
    let b1 = c.nodes.new.buffer in
    let b2 = c.ways.new.buffer in
    let f : Frames {A = ⊤} s0 s2 (Ok tt) = frames-on s0 s1 s2 tt (Ok tt) two.spill three.spill in
    let bytes = three.bytes ∙ (two.bytes ∙ one.bytes) in
    let faults = three.counts ∙ (two.counts ∙ one.counts) in
    let new = c.in-Ok-new.ensures {u = tt} in
    let m = subst (λ (kept : List KeptRelation). AreMembers kept ways) c.deref.ensures.value (c.in-Ok.ensures {u = tt}) in
    let ones = subst (λ (blocks : List BlockAt). Reads (λ needed read. AreNeeded parts ways needed read) blocks r0.bytes (Ok needed)) c.deref-2.ensures.value one.read in
    let twos = subst (λ (blocks : List BlockAt). Reads (λ locations read. ArePlaced parts needed s0 s1 b0 b1 locations read) blocks r0.bytes (Ok store)) c.deref-3.ensures.value
    (subst (λ (o : Option (List ℕ)). Reads (λ locations read. ArePlaced parts needed s0 s1 b0 b1 locations read) c.deref-3.result.now o (Ok store)) one.bytes two.read) in
    let threes = subst (λ (blocks : List BlockAt). Reads (λ shapes read. AreDrawn parts ways store s1 s2 b1 b2 shapes read) blocks r0.bytes (Ok shapes)) c.deref-4.ensures.value
    (subst (λ (o : Option (List ℕ)). Reads (λ shapes read. AreDrawn parts ways store s1 s2 b1 b2 shapes read) c.deref-4.result.now o (Ok shapes)) (two.bytes ∙ one.bytes) three.read) in
    let e = c.in-Err-relations.e in
    let rel = subst (λ (kept : List KeptRelation). RelationAnswers parts c.args.part (needs_of (shape_in shapes) kept) (emitted_items (flat_map (kept_features parts (shape_in shapes)) kept)) s2 s3 b2 (Err e)) c.deref-5.ensures.value
    (c.in-Err-relations.ensures {u = tt}) in
    subst (λ (stop : Stop). GatherAnswers parts c.args.part c.args.limit found r0 r3 s0 s3 (Err stop)) (sym c.stop_of_relations.ensures)
    (relations-refused parts c.args.part c.args.limit found r0 r3 s0 s2 s3 bytes faults f e rel.frames (λ need at.
    let over = subst (λ (x : RelationStop). RelationTold parts c.args.part (needs_of (shape_in shapes) found.kept.items) (emitted_items (flat_map (kept_features parts (shape_in shapes)) found.kept.items)) s2 s3 b2 (Err x)) at rel.told in
    over-told parts c.args.part c.args.limit found r0.bytes ways needed store shapes s0 s1 s2 s3 b0 b1 b2 new.new new.told new.since m ones twos threes need over.0 over.1))

pub returns-in-Ok-relations-clause-loads : goal.returns-in-Ok-relations-clause-loads
returns-in-Ok-relations-clause-loads g c =
    let found = c.args.found.now in
    let r0 = g.R.Source.seen c.args.reader.now in
    let r1 = g.R.Source.seen c.members.new.reader in
    let r2 = g.R.Source.seen c.nodes.new.reader in
    let r3 = g.R.Source.seen c.ways.new.reader in
    let one = c.in-Ok-members.ensures {u = tt} in
    let two = c.in-Ok-nodes.ensures {u = tt} in
    let three = c.in-Ok-ways.ensures {u = tt} in
    gathered-loads c.args.order.now c.members.new.order c.nodes.new.order found r0 r1 r2 r3 c.deref-2.result.now c.deref-3.result.now c.deref-4.result.now c.deref-2.ensures.value c.deref-3.ensures.value c.deref-4.ensures.value one.order two.order one.loads two.loads three.loads
