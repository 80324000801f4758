-- What passes make doesn't depend on the order in which blocks are put and emitted.
use Rattle.std.proofs.Common.{◌≡◌, ℕ, Result, Ok, Err, List, [], ◌++◌, All, flat_map, inl, inr, refl, sym, ap, subst, ◌∙◌}
use Rattle.std.specs.Prelude.{⊤}
use Rattle.std.specs.List.Sorted.{IsPermutation}
use Rattle.std.proofs.lemmas.List.Sorted.{IsPermutation-trans}
use Rattle.sorted_lists.proofs.Proved as lists
use Rattle.tb_outside.specs.Spill.{SpillSeen}
use Rattle.tb_outside.specs.declared.spill.SpillErr.{SpillErr}
use Rattle.tb_outside.specs.declared.spill.SpillErr.TheVariants as spill_errors
use Rattle.tb_outside.specs.Source.{SourceSeen}
use Rattle.pbf_blobs.specs.declared.block.BlockAt.{BlockAt}
use Rattle.osm_elements.specs.declared.element.Block.{Block}
use Rattle.profile_rules.specs.declared.parts.Parts.{Parts}
use Rattle.pass_order.specs.declared.order.Order.{Order}
use Rattle.shard_store.specs.Join.{Entry, IsJoinOf}
use Rattle.shard_store.proofs.Joins.{join_all-permuted}
use Rattle.mvt_codec.specs.declared.item.RunItem.{RunItem}
use Rattle.feature_runs.specs.Entry.{Buffered}
use Rattle.feature_runs.specs.Writing.{Frames}
use Rattle.tile_model.specs.Features.{Feature}
use Rattle.tile_model.specs.Tiles.{feature_items, emitted_items}
use Rattle.pass_shapes.specs.EmitLaws.{frames-memory, frames-on}
use Rattle.block_pass.specs.declared.error.PassErr.{PassErr}
use Rattle.block_pass.specs.declared.error.PassErr.TheVariants as errors
use Rattle.block_pass.specs.Passes.{PassTold, Passed}
use Rattle.build_one.specs.declared.node_work.NodeWork.{NodeWork}
use Rattle.build_one.specs.declared.way_work.WayWork.{WayWork}
use Rattle.build_one.specs.declared.stop.PassStop.{PassStop}
use Rattle.build_one.specs.declared.stop.PassStop.TheVariants as stops
use Rattle.pass_survey.specs.Found.{IsOfElements}
use Rattle.node_store.specs.declared.located.Located as located
use Rattle.node_store.specs.declared.shaped.Shaped as shaped
use Rattle.member_sets.specs.declared.unit.Unit as units
use Rattle.node_store.specs.NodeLaws.{located_commutes, located_associates}
use Rattle.node_store.specs.WayLaws.{shaped_commutes, shaped_associates}
use Rattle.node_store.specs.Order.{located_join, shaped_join}
use Rattle.build_one.specs.Passes.{Adds, ArePlaced, AreDrawn, Reads}
use Rattle.build_one.specs.Survey.{as_spilled, pass_stop_of}
use Rattle.build_one.specs.Works.{AreMade, Features, FeaturesStop, SameNodes, SameWays, LocatedStop, ShapedStop, as_read, nodes_made, nodes_meaning, nodes_put, pass_stop_in, ways_made, ways_meaning, ways_put, ReadsElements}
use Rattle.build_one.proofs.Loading.{IsQuiet, reads-all, stopped-reads}

pub walk-moved : {X : Type 0} (f : ℕ × Block → List X) (xs ys : List (BlockAt × Block)) → IsPermutation xs ys → IsPermutation (flat_map f (as_read xs)) (flat_map f (as_read ys))
walk-moved {X} f xs ys p = (lists.bags (ℕ × Block) (ℕ × Block) X).each f (as_read xs) (as_read ys) ((lists.bags (BlockAt × Block) (BlockAt × Block) (ℕ × Block)).mapped (λ (x : BlockAt × Block). (x.0.no, x.1)) xs ys p)

adds-moved : (parts : Parts) (made : ℕ × Block → List Feature) (xs ys : List (BlockAt × Block)) (s t : SpillSeen) (b c : Buffered) → IsPermutation xs ys → Adds parts (emitted_items (flat_map made (as_read ys))) s t b c → Adds parts (emitted_items (flat_map made (as_read xs))) s t b c
adds-moved parts made xs ys s t b c p h =
    record {
      ok = record {
        items = h.ok.items;
        same = IsPermutation-trans _ _ _ ((lists.bags Feature Feature RunItem).each feature_items (flat_map made (as_read xs)) (flat_map made (as_read ys)) (walk-moved made xs ys p)) h.ok.same;
        sound = h.ok.sound;
        whole = h.ok.whole;
        limit = h.ok.limit;
        keeps = h.ok.keeps;
        since = h.ok.since;
      };
      frames = h.frames;
    }

-- what all blocks give, whatever the order
pub all-made : {V : Type 0} (parts : Parts) (put : ℕ × Block → List (Entry V)) (made : ℕ × Block → List Feature) (read puts emits : List (BlockAt × Block)) (before after : List (Entry V)) (s t : SpillSeen) (b c : Buffered)
    → IsPermutation read puts → IsPermutation read emits → Features parts put made puts emits before after s t b c → AreMade parts put made (as_read read) before after s t b c
all-made parts put made read puts emits before after s t b c p e h =
    record { more = flat_map put (as_read puts); entries = h.entries; same = walk-moved put read puts p; items = adds-moved parts made read emits s t b c e h.items }

-- a map of entries is one of the same in another order
pub joined-moved : {V : Type 0} (both : V → V → V) → ((x y : V) → both x y ≡ both y x) → ((x y z : V) → both (both x y) z ≡ both x (both y z)) → (xs ys m : List (Entry V)) → IsPermutation xs ys → IsJoinOf both ys m → IsJoinOf both xs m
joined-moved both comm assoc xs ys m p h = record { once = h.once; values = λ id. h.values id ∙ join_all-permuted both assoc comm xs ys p id }

-- a pass whose worker stopped leaves the spill so
stop-frames : (A : Type 0) (stop : PassStop) (s t : SpillSeen) → FeaturesStop stop s t → Frames s t (as_spilled {A = A} (Err stop))
stop-frames A stop s t h = subst (λ e. Frames s t (as_spilled {A = A} (Err e))) (sym h.is) (by h.fault h.frames)
  where
    by : (e : SpillErr) → Frames {A = ⊤} s t (Err e) → Frames s t (as_spilled {A = A} (Err (pass_stop_of e)))
    by spill_errors.Failed f = f
    by spill_errors.Memory f = f

did-frames : (A : Type 0) (stop : PassStop) (s t : SpillSeen) → (stop ≡ stops.Spill → ⊥) → Frames {A = ⊤} s t (Ok tt) → Frames s t (as_spilled {A = A} (Err stop))
did-frames A (stops.Damage damage) s t none h = frames-on s t t tt (Err spill_errors.Memory) h (frames-memory t)
did-frames A stops.Source s t none h = frames-on s t t tt (Err spill_errors.Memory) h (frames-memory t)
did-frames A stops.Spill s t none h = absurd (none refl)
did-frames A stops.Memory s t none h = frames-on s t t tt (Err spill_errors.Memory) h (frames-memory t)

no-spill : (b : BlockAt) (bytes : List ℕ) (stop : PassStop) → ReadsElements b bytes (Err stop) → stop ≡ stops.Spill → ⊥
no-spill b bytes stop h is = subst (λ e. ReadsElements b bytes (Err e)) is h

quiet-stop : (stop : PassStop) (s t : SpillSeen) → FeaturesStop stop s t → IsQuiet stop
quiet-stop stop s t h = subst IsQuiet (sym h.is) (by h.fault)
  where
    by : (e : SpillErr) → IsQuiet (pass_stop_of e)
    by spill_errors.Failed = tt
    by spill_errors.Memory = tt

module _ {S : Type 0} (seen : S → SpillSeen) (order : Order) (blocks : List BlockAt) (r r' : SourceSeen) where
  pub quiet-nodes : (stop : PassStop) (a b : NodeWork S) → LocatedStop seen stop a b → IsQuiet stop
  quiet-nodes stop a b h = quiet-stop stop (seen a.spill.now) (seen b.spill.now) h.stops

  pub quiet-ways : (stop : PassStop) (a b : WayWork S) → ShapedStop seen stop a b → IsQuiet stop
  quiet-ways stop a b h = quiet-stop stop (seen a.spill.now) (seen b.spill.now) h.stops

  pub nodes-frames : (A : Type 0) (old new : NodeWork S) (e : PassErr PassStop) → PassTold (nodes_meaning seen) order blocks r r' old new (Err e) → Frames (seen old.spill.now) (seen new.spill.now) (as_spilled {A = A} (Err (pass_stop_in e)))
  nodes-frames A old new errors.Source h = did-frames A stops.Source (seen old.spill.now) (seen new.spill.now) (λ is. absurd cc) h.2.2.did.items.frames
  nodes-frames A old new (errors.Work stop) (same, inl it) = did-frames A stop (seen old.spill.now) (seen new.spill.now) (no-spill it.0.0 it.0.2.bytes stop it.0.2.refuses) it.1.2.did.items.frames
  nodes-frames A old new (errors.Work stop) (same, inr it) = stop-frames A stop (seen old.spill.now) (seen new.spill.now) it.stops
  nodes-frames A old new errors.Memory h = did-frames A stops.Memory (seen old.spill.now) (seen new.spill.now) (λ is. absurd cc) h.1.2.did.items.frames

  pub nodes-same : (old new : NodeWork S) (result : Result ⊤ (PassErr PassStop)) → PassTold (nodes_meaning seen) order blocks r r' old new result → SameNodes seen old new
  nodes-same old new (Ok _) p = p.did.same
  nodes-same old new (Err errors.Source) h = h.2.2.same
  nodes-same old new (Err (errors.Work stop)) (same, inl it) = it.1.2.same
  nodes-same old new (Err (errors.Work stop)) (same, inr it) = it.same
  nodes-same old new (Err errors.Memory) h = h.1.2.same

  pub ways-frames : (A : Type 0) (old new : WayWork S) (e : PassErr PassStop) → PassTold (ways_meaning seen) order blocks r r' old new (Err e) → Frames (seen old.spill.now) (seen new.spill.now) (as_spilled {A = A} (Err (pass_stop_in e)))
  ways-frames A old new errors.Source h = did-frames A stops.Source (seen old.spill.now) (seen new.spill.now) (λ is. absurd cc) h.2.2.did.items.frames
  ways-frames A old new (errors.Work stop) (same, inl it) = did-frames A stop (seen old.spill.now) (seen new.spill.now) (no-spill it.0.0 it.0.2.bytes stop it.0.2.refuses) it.1.2.did.items.frames
  ways-frames A old new (errors.Work stop) (same, inr it) = stop-frames A stop (seen old.spill.now) (seen new.spill.now) it.stops
  ways-frames A old new errors.Memory h = did-frames A stops.Memory (seen old.spill.now) (seen new.spill.now) (λ is. absurd cc) h.1.2.did.items.frames

  pub ways-same : (old new : WayWork S) (result : Result ⊤ (PassErr PassStop)) → PassTold (ways_meaning seen) order blocks r r' old new result → SameWays seen old new
  ways-same old new (Ok _) p = p.did.same
  ways-same old new (Err errors.Source) h = h.2.2.same
  ways-same old new (Err (errors.Work stop)) (same, inl it) = it.1.2.same
  ways-same old new (Err (errors.Work stop)) (same, inr it) = it.same
  ways-same old new (Err errors.Memory) h = h.1.2.same

module _ {S : Type 0} (seen : S → SpillSeen) (order : Order) (blocks : List BlockAt) (kinds : All IsOfElements blocks) (r r' : SourceSeen) where
  -- all blocks were put and emitted
  pub nodes-read : (old new : NodeWork S) → Passed (nodes_meaning seen) order blocks r r' old new → (s : S) (b : Buffered) (es : List (Entry located.Located)) → s ≡ new.spill.now → b ≡ new.buffer.now → es ≡ new.entries.now.items
      → Reads (λ (x : ⊤) read. AreMade old.profile.now (nodes_put old.needed.now) (nodes_made old.profile.now) read old.entries.now.items es (seen old.spill.now) (seen s) old.buffer.now b) blocks r.bytes (Ok tt)
  nodes-read old new p s b es spill buffer entries =
      reads-all (nodes_meaning seen) (λ b bytes read h. h) (λ (x : ⊤) read. AreMade old.profile.now (nodes_put old.needed.now) (nodes_made old.profile.now) read old.entries.now.items es (seen old.spill.now) (seen s) old.buffer.now b) tt order blocks r r' old new p kinds
      (subst (λ (z : S). AreMade old.profile.now (nodes_put old.needed.now) (nodes_made old.profile.now) (as_read p.read) old.entries.now.items es (seen old.spill.now) (seen z) old.buffer.now b) (sym spill)
      (subst (λ (z : Buffered). AreMade old.profile.now (nodes_put old.needed.now) (nodes_made old.profile.now) (as_read p.read) old.entries.now.items es (seen old.spill.now) (seen new.spill.now) old.buffer.now z) (sym buffer)
      (subst (λ (z : List (Entry located.Located)). AreMade old.profile.now (nodes_put old.needed.now) (nodes_made old.profile.now) (as_read p.read) old.entries.now.items z (seen old.spill.now) (seen new.spill.now) old.buffer.now new.buffer.now) (sym entries)
      (all-made old.profile.now (nodes_put old.needed.now) (nodes_made old.profile.now) p.read p.puts p.emits old.entries.now.items new.entries.now.items (seen old.spill.now) (seen new.spill.now) old.buffer.now new.buffer.now p.all_put p.all_emitted p.did.did))))

  pub ways-read : (old new : WayWork S) → Passed (ways_meaning seen) order blocks r r' old new → (s : S) (b : Buffered) (es : List (Entry shaped.Shaped)) → s ≡ new.spill.now → b ≡ new.buffer.now → es ≡ new.entries.now.items
      → Reads (λ (x : ⊤) read. AreMade old.profile.now (ways_put old.needed.now old.locations.now) (ways_made old.profile.now old.locations.now) read old.entries.now.items es (seen old.spill.now) (seen s) old.buffer.now b) blocks r.bytes (Ok tt)
  ways-read old new p s b es spill buffer entries =
      let put = ways_put old.needed.now old.locations.now in
      let made = ways_made old.profile.now old.locations.now in
      reads-all (ways_meaning seen) (λ b bytes read h. h) (λ (x : ⊤) read. AreMade old.profile.now put made read old.entries.now.items es (seen old.spill.now) (seen s) old.buffer.now b) tt order blocks r r' old new p kinds
      (subst (λ (z : S). AreMade old.profile.now put made (as_read p.read) old.entries.now.items es (seen old.spill.now) (seen z) old.buffer.now b) (sym spill)
      (subst (λ (z : Buffered). AreMade old.profile.now put made (as_read p.read) old.entries.now.items es (seen old.spill.now) (seen new.spill.now) old.buffer.now z) (sym buffer)
      (subst (λ (z : List (Entry shaped.Shaped)). AreMade old.profile.now put made (as_read p.read) old.entries.now.items z (seen old.spill.now) (seen new.spill.now) old.buffer.now new.buffer.now) (sym entries)
      (all-made old.profile.now put made p.read p.puts p.emits old.entries.now.items new.entries.now.items (seen old.spill.now) (seen new.spill.now) old.buffer.now new.buffer.now p.all_put p.all_emitted p.did.did))))

  pub nodes-refused : (old new : NodeWork S) (e : PassErr PassStop) (stop : PassStop) → stop ≡ pass_stop_in e → PassTold (nodes_meaning seen) order blocks r r' old new (Err e) → (s : S) (b : Buffered) (es : List (Entry located.Located))
      → Reads (λ (x : ⊤) read. AreMade old.profile.now (nodes_put old.needed.now) (nodes_made old.profile.now) read old.entries.now.items es (seen old.spill.now) (seen s) old.buffer.now b) blocks r.bytes (Err stop)
  nodes-refused old new e stop is h s b es =
      stopped-reads (nodes_meaning seen) (λ b bytes stop h. h) (quiet-nodes seen order blocks r r') order blocks kinds r r' old new
      (λ (x : ⊤) read. AreMade old.profile.now (nodes_put old.needed.now) (nodes_made old.profile.now) read old.entries.now.items es (seen old.spill.now) (seen s) old.buffer.now b) e stop is h

  pub ways-refused : (old new : WayWork S) (e : PassErr PassStop) (stop : PassStop) → stop ≡ pass_stop_in e → PassTold (ways_meaning seen) order blocks r r' old new (Err e) → (s : S) (b : Buffered) (es : List (Entry shaped.Shaped))
      → Reads (λ (x : ⊤) read. AreMade old.profile.now (ways_put old.needed.now old.locations.now) (ways_made old.profile.now old.locations.now) read old.entries.now.items es (seen old.spill.now) (seen s) old.buffer.now b) blocks r.bytes (Err stop)
  ways-refused old new e stop is h s b es =
      stopped-reads (ways_meaning seen) (λ b bytes stop h. h) (quiet-ways seen order blocks r r') order blocks kinds r r' old new
      (λ (x : ⊤) read. AreMade old.profile.now (ways_put old.needed.now old.locations.now) (ways_made old.profile.now old.locations.now) read old.entries.now.items es (seen old.spill.now) (seen s) old.buffer.now b) e stop is h

-- the stores of what was made
pub placed : (parts : Parts) (needed : List (Entry units.Unit)) (read : List (ℕ × Block)) (before after : List (Entry located.Located)) (s t : SpillSeen) (b c : Buffered) (locations : List (Entry located.Located)) → before ≡ []
    → AreMade parts (nodes_put needed) (nodes_made parts) read before after s t b c → IsJoinOf located_join after locations → ArePlaced parts needed s t b c locations read
placed parts needed read before after s t b c locations none h j = record {
  store = joined-moved located_join located_commutes located_associates _ h.more locations h.same (subst (λ es. IsJoinOf located_join es locations) (h.entries ∙ ap (λ es. es ++ h.more) none) j);
  items = h.items;
}

pub drawn : (parts : Parts) (ways : List (Entry units.Unit)) (store : List (Entry located.Located)) (read : List (ℕ × Block)) (before after : List (Entry shaped.Shaped)) (s t : SpillSeen) (b c : Buffered) (shapes : List (Entry shaped.Shaped)) → before ≡ []
    → AreMade parts (ways_put ways store) (ways_made parts store) read before after s t b c → IsJoinOf shaped_join after shapes → AreDrawn parts ways store s t b c shapes read
drawn parts ways store read before after s t b c shapes none h j = record {
  store_is = joined-moved shaped_join shaped_commutes shaped_associates _ h.more shapes h.same (subst (λ es. IsJoinOf shaped_join es shapes) (h.entries ∙ ap (λ es. es ++ h.more) none) j);
  items = h.items;
}
