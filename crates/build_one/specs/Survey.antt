-- What a survey of an extract answers, and what it leaves of its reader.
use Rattle.std.specs.Prelude.{◌≡◌, ℕ, ◌≤◌, Bool, true, false, Contains, Option, Result, Ok, Err, List, All, length, map, filter, ⊤}
use Rattle.tb_types.specs.declared.damage.Damage.{Damage}
use Rattle.pbf_blobs.specs.Answers.{IsShort}
use Rattle.pbf_blobs.specs.declared.block.BlockAt.{BlockAt}
use Rattle.pbf_blobs.specs.declared.stop.ScanStop.{ScanStop}
use Rattle.pbf_blobs.specs.declared.stop.ScanStop.TheVariants as stops
use Rattle.profile_rules.specs.declared.parts.Parts.{Parts}
use Rattle.sorted_lists.specs.Sorting.{KeysDiffer}
use Rattle.tile_model.specs.Contents.{Content}
use Rattle.tile_model.specs.Extract.{all_nodes, all_ways, features_of}
use Rattle.tile_model.specs.Features.{name_of}
use Rattle.tile_model.specs.Loads.{whole, has_nodes, has_ways, that_hold}
use Rattle.pass_order.specs.declared.order.Order.{Order}
use Rattle.pass_order.specs.Orders.{MayPass}
use Rattle.block_pass.specs.Loading.{FitsIn}
use Rattle.block_pass.specs.Orders.{needs_of}
use Rattle.pass_survey.specs.Told.{HasSurveyed}
use Rattle.tile_model.specs.Map.{blocks_in}
use Rattle.tile_model.specs.Needs.{is_read}
use Rattle.pass_survey.specs.declared.found.Found.{Found}
use Rattle.tb_outside.specs.declared.spill.SpillErr.{SpillErr}
use Rattle.tb_outside.specs.declared.spill.SpillErr.TheVariants as spill_errors
use Rattle.build_one.specs.declared.stop.PassStop.{PassStop}
use Rattle.build_one.specs.declared.stop.PassStop.TheVariants as passes

-- no two features have one name, and no two nodes or ways one place
pub record IsApart (parts : Parts) (contents : List Content) : Type 0 where
  pub names : KeysDiffer name_of (features_of parts (blocks_in contents))
  pub places : KeysDiffer (λ n. n.0) (all_nodes (blocks_in contents))
  pub ways : KeysDiffer (λ w. w.0) (all_ways (blocks_in contents))

abbrev pub AreApart : Parts → Result (List Content) Damage → Type 0
AreApart parts (Ok contents) = IsApart parts contents
AreApart parts (Err damage) = Unit {0}

-- what stands there is what blocks hold that aren't damaged
abbrev pub HasFound : Parts → List ℕ → Found → Result (List Content) Damage → Type 0
HasFound parts extract f (Ok contents) = HasSurveyed parts extract f contents
HasFound parts extract f (Err damage) = ⊥

-- the lists have just the blocks with nodes, and those with ways, in the order of the blocks
pub record AreListed (extract : List ℕ) (blocks : List BlockAt) (f : Found) : Type 0 where
  pub nodes : f.nodes.items ≡ that_hold has_nodes extract blocks
  pub ways : f.ways.items ≡ that_hold has_ways extract blocks

-- the blocks that were found lie within the extract
pub record LieWithin (size : ℕ) (f : Found) : Type 0 where
  pub nodes : All (IsShort size) f.nodes.items
  pub ways : All (IsShort size) f.ways.items

-- it is what the blocks hold, or the damage
abbrev pub Surveys : Parts → List ℕ → List BlockAt → Result Found ScanStop → Result (List Content) Damage → Type 0
Surveys parts extract blocks (Ok found) contents = HasFound parts extract found contents × AreApart parts contents × LieWithin (length extract) found × AreListed extract blocks found
Surveys parts extract blocks (Err (stops.Damage damage)) contents = contents ≡ Err damage
Surveys parts extract blocks (Err stops.Failed) contents = Unit {0}
Surveys parts extract blocks (Err stops.Memory) contents = Unit {0}

-- those of some blocks that are read, and the loads of these, each whole
abbrev pub read_of : List BlockAt → List BlockAt
read_of blocks = filter (λ (b : BlockAt). is_read b.kind) blocks

abbrev pub loads_of : List BlockAt → List (ℕ × ℕ)
loads_of blocks = map whole (read_of blocks)

-- what was found are some of these blocks, whatever the reader tells
pub record IsOf (blocks : List BlockAt) (f : Found) : Type 0 where
  pub nodes : All (Contains blocks) f.nodes.items
  pub ways : All (Contains blocks) f.ways.items
  pub few_nodes : length f.nodes.items ≤ length blocks
  pub few_ways : length f.ways.items ≤ length blocks

-- the reader failed
abbrev pub survey_failed : {A : Type 0} → Result A ScanStop → Bool
survey_failed (Ok x) = false
survey_failed (Err (stops.Damage damage)) = false
survey_failed (Err stops.Failed) = true
survey_failed (Err stops.Memory) = false

-- what was found lies within an extract that is told
pub record FitFound (told : Option (List ℕ)) (f : Found) : Type 0 where
  pub nodes : All (FitsIn told) f.nodes.items
  pub ways : All (FitsIn told) f.ways.items

-- the passes behind the survey may be done in this order
pub record MayGoOn (order : Order) (f : Found) : Type 0 where
  pub nodes : MayPass order (needs_of f.nodes.items)
  pub ways : MayPass order (needs_of f.ways.items)

-- the reader failed in a pass
abbrev pub source_failed : {A : Type 0} → Result A PassStop → Bool
source_failed (Ok x) = false
source_failed (Err (passes.Damage damage)) = false
source_failed (Err passes.Source) = true
source_failed (Err passes.Spill) = false
source_failed (Err passes.Memory) = false

-- the answer of a pass as its spill's
abbrev pub as_spilled : {A : Type 0} → Result A PassStop → Result ⊤ SpillErr
as_spilled (Ok x) = Ok tt
as_spilled (Err (passes.Damage damage)) = Err spill_errors.Memory
as_spilled (Err passes.Source) = Err spill_errors.Memory
as_spilled (Err passes.Spill) = Err spill_errors.Failed
as_spilled (Err passes.Memory) = Err spill_errors.Memory

-- no block that is loaded touches the spill
abbrev pub NoSpill : {A : Type 0} → Result A PassStop → Type 0
NoSpill (Ok x) = Unit {0}
NoSpill (Err (passes.Damage damage)) = Unit {0}
NoSpill (Err passes.Source) = Unit {0}
NoSpill (Err passes.Spill) = ⊥
NoSpill (Err passes.Memory) = Unit {0}

-- an error of the spill as a stop
abbrev pub pass_stop_of : SpillErr → PassStop
pass_stop_of spill_errors.Failed = passes.Spill
pass_stop_of spill_errors.Memory = passes.Memory
