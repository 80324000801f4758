-- What passes do goes on from block to block: nothing at first, and a stop behind what was done is one from the beginning on.
use Rattle.std.proofs.Common.{ℕ, Err, List, [], refl, sym, subst, ◌∙◌}
use Rattle.std.proofs.lemmas.List.{append-nil}
use Rattle.tb_outside.specs.Spill.{SpillSeen}
use Rattle.osm_elements.specs.declared.element.Block.{Block}
use Rattle.profile_rules.specs.declared.parts.Parts.{Parts}
use Rattle.shard_store.specs.Join.{Entry}
use Rattle.feature_runs.specs.Entry.{Buffered}
use Rattle.tile_model.specs.Features.{Feature}
use Rattle.block_pass.specs.Meaning.{Begins, StopsAfter}
use Rattle.pass_survey.specs.Taken.{Taken}
use Rattle.pass_survey.specs.Found.{FoundOf}
use Rattle.pass_shapes.specs.EmitLaws.{emits-none, frames-on}
use Rattle.build_one.specs.declared.stop.PassStop.{PassStop}
use Rattle.build_one.specs.Works.{survey_meaning, members_meaning, nodes_meaning, ways_meaning, Features, FeaturesStop}

pub survey-begin : Begins survey_meaning
survey-begin w = record { profile = refl; found = λ taken h. subst (λ (ts : List Taken). FoundOf w.profile.now w.found ts) (sym (append-nil taken)) h; ready = λ h. h }

pub survey-stop : StopsAfter survey_meaning
survey-stop a b c puts emits fault did stop = tt

pub members-begin : Begins members_meaning
members-begin w = record { profile = refl; ways = refl; ids = sym (append-nil w.ids.items) }

pub members-stop : StopsAfter members_meaning
members-stop a b c puts emits stop did is = is

features-begin : {V : Type 0} (parts : Parts) (put : ℕ × Block → List (Entry V)) (made : ℕ × Block → List Feature) (entries : List (Entry V)) (s : SpillSeen) (b : Buffered) → Features parts put made [] [] entries entries s s b b
features-begin parts put made entries s b = record { entries = sym (append-nil entries); items = emits-none parts s b }

features-stop : {V : Type 0} (parts : Parts) (put : ℕ × Block → List (Entry V)) (made : ℕ × Block → List Feature) (puts emits : List _) (before after : List (Entry V)) (s t u : SpillSeen) (b c : Buffered) (stop : PassStop)
    → Features parts put made puts emits before after s t b c → FeaturesStop stop t u → FeaturesStop stop s u
features-stop parts put made puts emits before after s t u b c stop did h = record { fault = h.fault; is = h.is; frames = frames-on s t u tt (Err h.fault) did.items.frames h.frames }

module _ {S : Type 0} (seen : S → SpillSeen) where
  pub nodes-begin : Begins (nodes_meaning seen)
  nodes-begin w = record { same = record { buffer = refl; spill = refl; entries = refl; profile = refl; needed = refl }; did = features-begin w.profile.now _ _ w.entries.now.items (seen w.spill.now) w.buffer.now }

  pub nodes-stop : StopsAfter (nodes_meaning seen)
  nodes-stop a b c puts emits stop did h = record {
    same = record { buffer = h.same.buffer ∙ did.same.buffer; spill = h.same.spill ∙ did.same.spill; entries = h.same.entries ∙ did.same.entries; profile = h.same.profile ∙ did.same.profile; needed = h.same.needed ∙ did.same.needed };
    stops = features-stop a.profile.now _ _ puts emits a.entries.now.items b.entries.now.items (seen a.spill.now) (seen b.spill.now) (seen c.spill.now) a.buffer.now b.buffer.now stop did.did h.stops;
  }

  pub ways-begin : Begins (ways_meaning seen)
  ways-begin w = record { same = record { buffer = refl; spill = refl; entries = refl; profile = refl; needed = refl; locations = refl }; did = features-begin w.profile.now _ _ w.entries.now.items (seen w.spill.now) w.buffer.now }

  pub ways-stop : StopsAfter (ways_meaning seen)
  ways-stop a b c puts emits stop did h = record {
    same = record { buffer = h.same.buffer ∙ did.same.buffer; spill = h.same.spill ∙ did.same.spill; entries = h.same.entries ∙ did.same.entries; profile = h.same.profile ∙ did.same.profile; needed = h.same.needed ∙ did.same.needed; locations = h.same.locations ∙ did.same.locations };
    stops = features-stop a.profile.now _ _ puts emits a.entries.now.items b.entries.now.items (seen a.spill.now) (seen b.spill.now) (seen c.spill.now) a.buffer.now b.buffer.now stop did.did h.stops;
  }
