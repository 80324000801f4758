-- One block more is put, or its items are emitted.
use Rattle.std.specs.Prelude.{⊤}
use Rattle.tb_types.specs.declared.memory.Memory.{Memory}
use Rattle.block_pass.specs.Meaning.{PutAnswers}
use Rattle.std.proofs.Common.{◌≡◌, ℕ, Result, Ok, Err, OnOk, List, [], ◌∷◌, ◌++◌, flat_map, map, sym, ap, subst, ◌∙◌}
use Rattle.std.proofs.lemmas.List.{append-nil, append_assoc, map-append}
use Rattle.std.proofs.lemmas.Grind.{flat_map-append}
use Rattle.tb_outside.specs.Spill.{SpillSeen}
use Rattle.pbf_blobs.specs.declared.block.BlockAt.{BlockAt}
use Rattle.osm_elements.specs.declared.element.Block.{Block}
use Rattle.profile_rules.specs.declared.parts.Parts.{Parts}
use Rattle.shard_store.specs.Join.{Entry}
use Rattle.member_sets.specs.Ids.{entry_of, entries_of}
use Rattle.member_sets.specs.declared.unit.Unit as units
use Rattle.feature_runs.specs.Entry.{Buffered}
use Rattle.tile_model.specs.Extract.{all_refs, needed_refs}
use Rattle.tile_model.specs.Features.{Feature}
use Rattle.tile_model.specs.Tiles.{feature_items, emitted_items}
use Rattle.pass_shapes.specs.Stores.{is_needed}
use Rattle.pass_shapes.specs.EmitLaws.{emits-on, emits-as}
use Rattle.build_one.specs.Passes.{Adds}
use Rattle.node_store.specs.declared.located.Located as located
use Rattle.pass_survey.specs.Taken.{Taken, taken_with}
use Rattle.pass_survey.specs.Found.{FoundOf, IsReady}
use Rattle.build_one.specs.declared.survey.Loaded.{Loaded}
use Rattle.build_one.specs.declared.survey.SurveyWork.{SurveyWork}
use Rattle.build_one.specs.declared.members.MemberWork.{MemberWork}
use Rattle.build_one.specs.declared.node_work.NodeWork.{NodeWork}
use Rattle.build_one.specs.declared.way_work.WayWork.{WayWork}
use Rattle.build_one.specs.Works.{Features, Surveyed, Listed, Located, Shaped, SameNodes, SameWays, as_read, survey_meaning, taken_of, nodes_put, nodes_made, ways_put, ways_made}

read-last : (xs : List (BlockAt × Block)) (x : BlockAt × Block) → as_read (xs ++ x ∷ []) ≡ as_read xs ++ (x.0.no, x.1) ∷ []
read-last xs x = map-append (λ (y : BlockAt × Block). (y.0.no, y.1)) xs (x ∷ [])

-- a walk over blocks, with one behind them
walk-last : {X : Type 0} (f : ℕ × Block → List X) (xs : List (BlockAt × Block)) (x : BlockAt × Block) → flat_map f (as_read (xs ++ x ∷ [])) ≡ flat_map f (as_read xs) ++ f (x.0.no, x.1)
walk-last f xs x = ap (flat_map f) (read-last xs x) ∙ (flat_map-append f (as_read xs) ((x.0.no, x.1) ∷ []) ∙ ap (λ ys. flat_map f (as_read xs) ++ ys) (append-nil (f (x.0.no, x.1))))

-- the refs of a block more
pub refs-next : (parts : Parts) (ways start old new : List (Entry units.Unit)) (xs : List (BlockAt × Block)) (x : BlockAt × Block) → old ≡ start ++ entries_of (all_refs parts (is_needed ways) (as_read xs))
    → new ≡ old ++ entries_of (flat_map (needed_refs parts (is_needed ways)) x.1.ways) → new ≡ start ++ entries_of (all_refs parts (is_needed ways) (as_read (xs ++ x ∷ [])))
refs-next parts ways start old new xs x h adds =
    let f : ℕ × Block → List _ = λ b. flat_map (needed_refs parts (is_needed ways)) b.1.ways in
    let before = entries_of (all_refs parts (is_needed ways) (as_read xs)) in
    adds ∙ (ap (λ es. es ++ entries_of (f (x.0.no, x.1))) h ∙ (append_assoc start before (entries_of (f (x.0.no, x.1)))
    ∙ ap (λ es. start ++ es) (sym (map-append entry_of (all_refs parts (is_needed ways) (as_read xs)) (f (x.0.no, x.1))) ∙ ap entries_of (sym (walk-last f xs x)))))

module _ {V : Type 0} (parts : Parts) (put : ℕ × Block → List (Entry V)) (made : ℕ × Block → List Feature) (puts emits : List (BlockAt × Block)) (before old : List (Entry V)) (s t : SpillSeen) (b c : Buffered) (h : Features parts put made puts emits before old s t b c) (x : BlockAt × Block) where
  pub features-put : (new : List (Entry V)) → new ≡ old ++ put (x.0.no, x.1) → Features parts put made (puts ++ x ∷ []) emits before new s t b c
  features-put new adds = record {
    entries = adds ∙ (ap (λ es. es ++ put (x.0.no, x.1)) h.entries ∙ (append_assoc before (flat_map put (as_read puts)) (put (x.0.no, x.1)) ∙ ap (λ es. before ++ es) (sym (walk-last put puts x))));
    items = h.items;
  }

  pub features-emit : (u : SpillSeen) (d : Buffered) → Adds parts (emitted_items (made (x.0.no, x.1))) t u c d → Features parts put made puts (emits ++ x ∷ []) before old s u b d
  features-emit u d more = record {
    entries = h.entries;
    items =
        emits-as parts (emitted_items (flat_map made (as_read emits)) ++ emitted_items (made (x.0.no, x.1))) (emitted_items (flat_map made (as_read (emits ++ x ∷ [])))) s u b d (Ok tt)
        (sym (ap emitted_items (walk-last made emits x) ∙ flat_map-append feature_items (flat_map made (as_read emits)) (made (x.0.no, x.1))))
        (emits-on parts (emitted_items (flat_map made (as_read emits))) (emitted_items (made (x.0.no, x.1))) s t u b c d tt (Ok tt) h.items more);
  }

-- ---- what the passes do, with one block more

pub listed-next : (start old new : MemberWork) (puts emits : List (BlockAt × Block)) (x : BlockAt × Block) → Listed puts emits start old → new.profile.now ≡ old.profile.now → new.ways.now ≡ old.ways.now
    → new.ids.items ≡ old.ids.items ++ entries_of (flat_map (needed_refs old.profile.now (is_needed old.ways.now)) x.1.ways) → Listed (puts ++ x ∷ []) emits start new
listed-next start old new puts emits x h profile ways adds = record {
  profile = profile ∙ h.profile;
  ways = ways ∙ h.ways;
  ids = refs-next start.profile.now start.ways.now start.ids.items old.ids.items new.ids.items puts x h.ids
      (subst (λ (ws : List (Entry units.Unit)). new.ids.items ≡ old.ids.items ++ entries_of (flat_map (needed_refs start.profile.now (is_needed ws)) x.1.ways)) h.ways
      (subst (λ (ps : Parts). new.ids.items ≡ old.ids.items ++ entries_of (flat_map (needed_refs ps (is_needed old.ways.now)) x.1.ways)) h.profile adds));
}

module _ {S : Type 0} (seen : S → SpillSeen) where
  pub located-emit : (start old new : NodeWork S) (puts emits : List (BlockAt × Block)) (x : BlockAt × Block) → Located seen puts emits start old → SameNodes seen old new → new.entries.now.items ≡ old.entries.now.items
      → Adds old.profile.now (emitted_items (nodes_made old.profile.now (x.0.no, x.1))) (seen old.spill.now) (seen new.spill.now) old.buffer.now new.buffer.now → Located seen puts (emits ++ x ∷ []) start new
  located-emit start old new puts emits x h same entries adds = record {
    same = record { buffer = same.buffer ∙ h.same.buffer; spill = same.spill ∙ h.same.spill; entries = same.entries ∙ h.same.entries; profile = same.profile ∙ h.same.profile; needed = same.needed ∙ h.same.needed };
    did =
        let more = subst (λ (ps : Parts). Adds ps (emitted_items (nodes_made ps (x.0.no, x.1))) (seen old.spill.now) (seen new.spill.now) old.buffer.now new.buffer.now) h.same.profile adds in
        let next = features-emit start.profile.now (nodes_put start.needed.now) (nodes_made start.profile.now) puts emits start.entries.now.items old.entries.now.items (seen start.spill.now) (seen old.spill.now) start.buffer.now old.buffer.now h.did x (seen new.spill.now) new.buffer.now more in
        record { entries = entries ∙ next.entries; items = next.items };
  }

  pub shaped-emit : (start old new : WayWork S) (puts emits : List (BlockAt × Block)) (x : BlockAt × Block) → Shaped seen puts emits start old → SameWays seen old new → new.entries.now.items ≡ old.entries.now.items
      → Adds old.profile.now (emitted_items (ways_made old.profile.now old.locations.now (x.0.no, x.1))) (seen old.spill.now) (seen new.spill.now) old.buffer.now new.buffer.now → Shaped seen puts (emits ++ x ∷ []) start new
  shaped-emit start old new puts emits x h same entries adds = record {
    same = record { buffer = same.buffer ∙ h.same.buffer; spill = same.spill ∙ h.same.spill; entries = same.entries ∙ h.same.entries; profile = same.profile ∙ h.same.profile; needed = same.needed ∙ h.same.needed; locations = same.locations ∙ h.same.locations };
    did =
        let more = subst (λ (ps : Parts). Adds ps (emitted_items (ways_made ps start.locations.now (x.0.no, x.1))) (seen old.spill.now) (seen new.spill.now) old.buffer.now new.buffer.now) h.same.profile
        (subst (λ (ls : List (Entry located.Located)). Adds old.profile.now (emitted_items (ways_made old.profile.now ls (x.0.no, x.1))) (seen old.spill.now) (seen new.spill.now) old.buffer.now new.buffer.now) h.same.locations adds) in
        let next = features-emit start.profile.now (ways_put start.needed.now start.locations.now) (ways_made start.profile.now start.locations.now) puts emits start.entries.now.items old.entries.now.items (seen start.spill.now) (seen old.spill.now) start.buffer.now old.buffer.now h.did x (seen new.spill.now) new.buffer.now more in
        record { entries = entries ∙ next.entries; items = next.items };
  }

-- the survey takes up a block more
pub taken-next : (start old new : SurveyWork) (puts emits : List (BlockAt × Loaded)) (x : BlockAt × Loaded) → Surveyed puts emits start old → new.profile.now ≡ old.profile.now
    → ((taken : List Taken) → FoundOf old.profile.now old.found taken → FoundOf old.profile.now new.found (taken ++ taken_of x ∷ [])) → (IsReady old.profile.now old.found → IsReady old.profile.now new.found) → Surveyed (puts ++ x ∷ []) emits start new
taken-next start old new puts emits x h profile takes ready = record {
  profile = profile ∙ h.profile;
  found = λ taken is.
      let before = h.found taken is in
      let after = subst (λ (ps : Parts). FoundOf ps old.found (taken ++ map taken_of puts) → FoundOf ps new.found ((taken ++ map taken_of puts) ++ taken_of x ∷ [])) h.profile (takes (taken ++ map taken_of puts)) before in
      subst (λ (ts : List Taken). FoundOf start.profile.now new.found ts) (append_assoc taken (map taken_of puts) (taken_of x ∷ []) ∙ ap (λ ts. taken ++ ts) (sym (map-append taken_of puts (x ∷ [])))) after;
  ready = λ is. subst (λ (ps : Parts). IsReady ps old.found → IsReady ps new.found) h.profile ready (h.ready is);
}

-- a call that takes up a block, by its answer
pub taken-put : (old new : SurveyWork) (x : BlockAt × Loaded) (bytes : List ℕ) (result : Result ⊤ Memory) → bytes ≡ x.1.bytes → new.profile.now ≡ old.profile.now
    → ((taken : List Taken) → FoundOf old.profile.now old.found taken → OnOk result (FoundOf old.profile.now new.found (taken ++ taken_with x.0 bytes ∷ []))) → (IsReady old.profile.now old.found → OnOk result (IsReady old.profile.now new.found))
    → PutAnswers survey_meaning x old new result
taken-put old new x bytes (Ok _) is profile takes ready = λ start puts emits h.
    taken-next start old new puts emits x h profile (λ taken f. subst (λ bs. FoundOf old.profile.now new.found (taken ++ taken_with x.0 bs ∷ [])) is (takes taken f)) ready
taken-put old new x bytes (Err e) is profile takes ready = tt
