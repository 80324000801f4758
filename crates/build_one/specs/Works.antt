-- What the passes do with the blocks that they load.
use Rattle.std.specs.Prelude.{◌≡◌, ℕ, ⊤, Result, Ok, Err, List, ◌++◌, map, flat_map}
use Rattle.std.specs.List.Sorted.{IsPermutation}
use Rattle.tb_types.specs.declared.damage.Why.{Why}
use Rattle.tb_outside.specs.Spill.{SpillSeen}
use Rattle.tb_outside.specs.declared.spill.SpillErr.{SpillErr}
use Rattle.pbf_blobs.specs.declared.block.BlockAt.{BlockAt}
use Rattle.osm_elements.specs.declared.element.Block.{Block}
use Rattle.profile_rules.specs.declared.parts.Parts.{Parts}
use Rattle.shard_store.specs.Join.{Entry}
use Rattle.member_sets.specs.Ids.{entries_of}
use Rattle.member_sets.specs.declared.unit.Unit as units
use Rattle.node_store.specs.declared.located.Located as located
use Rattle.node_store.specs.declared.shaped.Shaped as shaped
use Rattle.feature_runs.specs.Entry.{Buffered}
use Rattle.feature_runs.specs.Writing.{Frames}
use Rattle.tile_model.specs.Contents.{block_in}
use Rattle.tile_model.specs.Extract.{all_refs}
use Rattle.tile_model.specs.Features.{Feature}
use Rattle.tile_model.specs.Points.{block_points}
use Rattle.tile_model.specs.Tiles.{emitted_items}
use Rattle.tile_model.specs.Ways.{block_ways}
use Rattle.block_pass.specs.declared.error.PassErr.{PassErr}
use Rattle.block_pass.specs.declared.error.PassErr.TheVariants as errors
use Rattle.block_pass.specs.Meaning.{Meaning}
use Rattle.pass_survey.specs.Taken.{Taken, taken_with}
use Rattle.pass_survey.specs.Found.{FoundOf, IsReady}
use Rattle.pass_shapes.specs.Stores.{locate_in, is_needed, located_in, shaped_in}
use Rattle.build_one.specs.declared.stop.PassStop.{PassStop}
use Rattle.build_one.specs.declared.stop.PassStop.TheVariants as passes
use Rattle.tb_types.specs.declared.memory.Memory.{Memory}
use Rattle.build_one.specs.declared.survey.Loaded.{Loaded}
use Rattle.build_one.specs.declared.survey.SurveyWork.{SurveyWork}
use Rattle.build_one.specs.declared.members.MemberWork.{MemberWork}
use Rattle.build_one.specs.declared.node_work.NodeWork.{NodeWork}
use Rattle.build_one.specs.declared.way_work.WayWork.{WayWork}
use Rattle.build_one.specs.Passes.{Adds}
use Rattle.build_one.specs.Survey.{pass_stop_of}

-- what the body of a block of elements is read as
abbrev pub ReadsElements : BlockAt → List ℕ → Result Block PassStop → Type 0
ReadsElements block body (Ok read) = block_in body ≡ Ok read
ReadsElements block body (Err (passes.Damage damage)) = (why : Why) × (damage ≡ record { block = block.no; why = why }) × (block_in body ≡ Err why)
ReadsElements block body (Err passes.Source) = ⊥
ReadsElements block body (Err passes.Spill) = ⊥
ReadsElements block body (Err passes.Memory) = Unit {0}

abbrev pub pass_stop_in : PassErr PassStop → PassStop
pass_stop_in errors.Source = passes.Source
pass_stop_in (errors.Work stop) = stop
pass_stop_in errors.Memory = passes.Memory

-- blocks by their numbers
abbrev pub as_read : List (BlockAt × Block) → List (ℕ × Block)
as_read blocks = map (λ (x : BlockAt × Block). (x.0.no, x.1)) blocks

-- what the pass over nodes puts of a block, and the features that it makes items of; and the pass over ways
abbrev pub nodes_put : List (Entry units.Unit) → ℕ × Block → List (Entry located.Located)
nodes_put needed b = located_in needed b.0 b.1.nodes

abbrev pub nodes_made : Parts → ℕ × Block → List Feature
nodes_made parts b = block_points parts b

abbrev pub ways_put : List (Entry units.Unit) → List (Entry located.Located) → ℕ × Block → List (Entry shaped.Shaped)
ways_put needed store b = shaped_in needed (locate_in store) b.0 b.1.ways

abbrev pub ways_made : Parts → List (Entry located.Located) → ℕ × Block → List Feature
ways_made parts store b = block_ways parts (locate_in store) b

-- ---- the survey

-- a block with the bytes that it was given
abbrev pub taken_of : BlockAt × Loaded → Taken
taken_of x = taken_with x.0 x.1.bytes

-- What was found of some blocks is found of those and these.
pub record Surveyed (puts emits : List (BlockAt × Loaded)) (old new : SurveyWork) : Type 0 where
  pub profile : new.profile.now ≡ old.profile.now
  pub found : (taken : List Taken) → FoundOf old.profile.now old.found taken → FoundOf old.profile.now new.found (taken ++ map taken_of puts)
  pub ready : IsReady old.profile.now old.found → IsReady old.profile.now new.found

abbrev pub survey_meaning : Meaning SurveyWork Loaded Memory
survey_meaning = record { gives = λ block bytes read. read.bytes ≡ bytes; refuses = λ block bytes fault. ⊥; did = Surveyed; stops = λ fault old new. Unit {0} }

-- ---- the passes over blocks of elements

-- the nodes that ways need were put
pub record Listed (puts emits : List (BlockAt × Block)) (old new : MemberWork) : Type 0 where
  pub profile : new.profile.now ≡ old.profile.now
  pub ways : new.ways.now ≡ old.ways.now
  pub ids : new.ids.items ≡ old.ids.items ++ entries_of (all_refs old.profile.now (is_needed old.ways.now) (as_read puts))

abbrev pub members_meaning : Meaning MemberWork Block PassStop
members_meaning = record { gives = λ block bytes read. ReadsElements block bytes (Ok read); refuses = λ block bytes stop. ReadsElements block bytes (Err stop); did = Listed; stops = λ stop old new. stop ≡ passes.Memory }

-- What was put of some blocks stands behind other entries, and the items of others were emitted.
pub record Features {V : Type 0} (parts : Parts) (put : ℕ × Block → List (Entry V)) (made : ℕ × Block → List Feature) (puts emits : List (BlockAt × Block)) (before after : List (Entry V)) (s t : SpillSeen) (b c : Buffered) : Type 0 where
  pub entries : after ≡ before ++ flat_map put (as_read puts)
  pub items : Adds parts (emitted_items (flat_map made (as_read emits))) s t b c

-- What was put of these blocks stands behind other entries, in any order, and their items were emitted.
pub record AreMade {V : Type 0} (parts : Parts) (put : ℕ × Block → List (Entry V)) (made : ℕ × Block → List Feature) (blocks : List (ℕ × Block)) (before after : List (Entry V)) (s t : SpillSeen) (b c : Buffered) : Type 0 where
  pub more : List (Entry V)
  pub entries : after ≡ before ++ more
  pub same : IsPermutation (flat_map put blocks) more
  pub items : Adds parts (emitted_items (flat_map made blocks)) s t b c

-- putting or emitting failed
pub record FeaturesStop (stop : PassStop) (s t : SpillSeen) : Type 0 where
  pub fault : SpillErr
  pub is : stop ≡ pass_stop_of fault
  pub frames : Frames {A = ⊤} s t (Err fault)

module _ {S : Type 0} (seen : S → SpillSeen) where
  -- the same buffer and spill, profile and stores
  pub record SameNodes (old new : NodeWork S) : Type 0 where
    pub buffer : new.buffer.ghost_name ≡ old.buffer.ghost_name
    pub spill : new.spill.ghost_name ≡ old.spill.ghost_name
    pub entries : new.entries.ghost_name ≡ old.entries.ghost_name
    pub profile : new.profile.now ≡ old.profile.now
    pub needed : new.needed.now ≡ old.needed.now

  pub record Located (puts emits : List (BlockAt × Block)) (old new : NodeWork S) : Type 0 where
    pub same : SameNodes old new
    pub did :
        Features old.profile.now (nodes_put old.needed.now) (nodes_made old.profile.now) puts emits old.entries.now.items new.entries.now.items (seen old.spill.now) (seen new.spill.now) old.buffer.now
        new.buffer.now

  pub record LocatedStop (stop : PassStop) (old new : NodeWork S) : Type 0 where
    pub same : SameNodes old new
    pub stops : FeaturesStop stop (seen old.spill.now) (seen new.spill.now)

  abbrev pub nodes_meaning : Meaning (NodeWork S) Block PassStop
  nodes_meaning = record { gives = λ block bytes read. ReadsElements block bytes (Ok read); refuses = λ block bytes stop. ReadsElements block bytes (Err stop); did = Located; stops = LocatedStop }

  pub record SameWays (old new : WayWork S) : Type 0 where
    pub buffer : new.buffer.ghost_name ≡ old.buffer.ghost_name
    pub spill : new.spill.ghost_name ≡ old.spill.ghost_name
    pub entries : new.entries.ghost_name ≡ old.entries.ghost_name
    pub profile : new.profile.now ≡ old.profile.now
    pub needed : new.needed.now ≡ old.needed.now
    pub locations : new.locations.now ≡ old.locations.now

  pub record Shaped (puts emits : List (BlockAt × Block)) (old new : WayWork S) : Type 0 where
    pub same : SameWays old new
    pub did :
        Features old.profile.now (ways_put old.needed.now old.locations.now) (ways_made old.profile.now old.locations.now) puts emits old.entries.now.items new.entries.now.items (seen old.spill.now)
        (seen new.spill.now) old.buffer.now new.buffer.now

  pub record ShapedStop (stop : PassStop) (old new : WayWork S) : Type 0 where
    pub same : SameWays old new
    pub stops : FeaturesStop stop (seen old.spill.now) (seen new.spill.now)

  abbrev pub ways_meaning : Meaning (WayWork S) Block PassStop
  ways_meaning = record { gives = λ block bytes read. ReadsElements block bytes (Ok read); refuses = λ block bytes stop. ReadsElements block bytes (Err stop); did = Shaped; stops = ShapedStop }
