-- What the passes behind the survey, and writing the map of the runs that they made, answer.
use Rattle.std.specs.Prelude.{◌≡◌, ℕ, ◌≤◌, Option, None, IfSome, Result, Ok, Err, List, [], ◌∷◌, ◌++◌, map}
use Rattle.tb_types.specs.Counts.{Rose}
use Rattle.tb_types.specs.declared.location.Bounds.{Bounds}
use Rattle.tb_types.specs.declared.trouble.Stage.TheVariants as stages
use Rattle.tb_types.specs.declared.trouble.Whom.{Whom}
use Rattle.tb_types.specs.declared.trouble.Whom.TheVariants as whom
use Rattle.tb_outside.specs.Source.{SourceSeen}
use Rattle.tb_outside.specs.Spill.{Runs, SpillSeen}
use Rattle.tb_outside.specs.Sink.{SinkSeen}
use Rattle.tb_outside.specs.declared.spill.RunAt.{RunAt}
use Rattle.pbf_blobs.specs.declared.block.BlockAt.{BlockAt}
use Rattle.pass_order.specs.declared.order.Order.{Order}
use Rattle.pass_order.specs.Orders.{next_order}
use Rattle.block_pass.specs.Orders.{load_order, needs_of}
use Rattle.profile_rules.specs.declared.parts.Parts.{Parts}
use Rattle.mvt_codec.specs.declared.item.RunItem.{RunItem}
use Rattle.pmtiles_dirs.specs.declared.totals.Totals.{Totals}
use Rattle.feature_runs.specs.Writing as buffers
use Rattle.pmtiles_file.specs.Spool.{KeepsEnded}
use Rattle.tile_model.specs.declared.stop.Stop.{Stop}
use Rattle.tile_model.specs.declared.stop.Stop.TheVariants as stops
use Rattle.tile_model.specs.Bounds.{first_box}
use Rattle.tile_model.specs.Contents.{Content}
use Rattle.tile_model.specs.Due.{Due, due_of_groups}
use Rattle.tile_model.specs.Loads.{whole}
use Rattle.tile_model.specs.Map.{groups_of, layer_names, meta_of}
use Rattle.tile_model.specs.Objects.{if_told}
use Rattle.pass_survey.specs.declared.found.Found.{Found}
use Rattle.build_one.specs.Answers.{IsDue, IfTold, Writes, ReadsBack, Decodes}
use Rattle.build_one.specs.Passes.{IsGathered, IsOver, OfSurveyed, Ran}

-- ---- the passes behind the survey

-- What they load, each body whole and in the order of the pass: of blocks with ways, of those with nodes, and of those with ways again.
abbrev pub loads_in : Order → List BlockAt → List (ℕ × ℕ)
loads_in order blocks = map whole (load_order order blocks)

-- the orders of the passes behind that over members
abbrev pub nodes_order : Order → Found → Order
nodes_order order found = next_order order (needs_of found.ways.items)

abbrev pub ways_order : Order → Found → Order
ways_order order found = next_order (nodes_order order found) (needs_of found.nodes.items)

abbrev pub loads_behind : Order → Found → List (ℕ × ℕ)
loads_behind order found = loads_in order found.ways.items ++ (loads_in (nodes_order order found) found.nodes.items ++ loads_in (ways_order order found) found.ways.items)

-- which counts rose; no other stop comes
abbrev pub GatherCounts : {A : Type 0} → Result A Stop → ℕ → ℕ → SpillSeen → SpillSeen → Type 0
GatherCounts (Ok x) m n s s' = (n ≡ m) × (s'.faults ≡ s.faults)
GatherCounts (Err (stops.Budget stages.Block need)) m n s s' = ⊥
GatherCounts (Err (stops.Budget stages.Relation need)) m n s s' = (n ≡ m) × (s'.faults ≡ s.faults)
GatherCounts (Err (stops.Budget stages.Tile need)) m n s s' = ⊥
GatherCounts (Err (stops.Source (whom.Lane k))) m n s s' = (k ≡ 0) × Rose m n
GatherCounts (Err (stops.Source whom.Profile)) m n s s' = ⊥
GatherCounts (Err (stops.Source whom.Spool)) m n s s' = ⊥
GatherCounts (Err (stops.Source whom.Archive)) m n s s' = ⊥
GatherCounts (Err (stops.Source whom.Console)) m n s s' = ⊥
GatherCounts (Err (stops.Spill (whom.Lane k))) m n s s' = (k ≡ 0) × (n ≡ m) × Rose s.faults s'.faults
GatherCounts (Err (stops.Spill whom.Profile)) m n s s' = ⊥
GatherCounts (Err (stops.Spill whom.Spool)) m n s s' = ⊥
GatherCounts (Err (stops.Spill whom.Archive)) m n s s' = ⊥
GatherCounts (Err (stops.Spill whom.Console)) m n s s' = ⊥
GatherCounts (Err (stops.Changed pass block)) m n s s' = (n ≡ m) × (s'.faults ≡ s.faults)
GatherCounts (Err stops.Memory) m n s s' = (n ≡ m) × (s'.faults ≡ s.faults)
GatherCounts (Err (stops.Profile spot why)) m n s s' = ⊥
GatherCounts (Err (stops.Damage damage)) m n s s' = ⊥
GatherCounts (Err (stops.Outside w run at)) m n s s' = ⊥
GatherCounts (Err stops.Sink) m n s s' = ⊥

-- The items of all features of the extract stand in the runs; or a kept relation needs too much; or a pass found damage, which it
-- doesn't where the extract is told.
abbrev pub Gathers : Parts → ℕ → ℕ → Option (List ℕ) → Found → SpillSeen → SpillSeen → Result (List RunAt) Stop → Type 0
Gathers parts part limit told found s s' (Ok runs) = (ran : Ran parts limit s s' runs) × OfSurveyed parts told found (λ contents. IsGathered parts part contents ran.items)
Gathers parts part limit told found s s' (Err (stops.Budget stage need)) = OfSurveyed parts told found (λ contents. IsOver parts part contents need)
Gathers parts part limit told found s s' (Err (stops.Changed pass block)) = OfSurveyed parts told found (λ contents. ⊥)
Gathers parts part limit told found s s' (Err (stops.Profile spot why)) = Unit {0}
Gathers parts part limit told found s s' (Err (stops.Damage damage)) = Unit {0}
Gathers parts part limit told found s s' (Err (stops.Source w)) = Unit {0}
Gathers parts part limit told found s s' (Err (stops.Spill w)) = Unit {0}
Gathers parts part limit told found s s' (Err (stops.Outside w run at)) = Unit {0}
Gathers parts part limit told found s s' (Err stops.Sink) = Unit {0}
Gathers parts part limit told found s s' (Err stops.Memory) = Unit {0}

pub record GatherAnswers (parts : Parts) (part limit : ℕ) (found : Found) (r r' : SourceSeen) (s s' : SpillSeen) (result : Result (List RunAt) Stop) : Type 0 where
  pub told : Gathers parts part limit r.bytes found s s' result
  pub counts : GatherCounts result r.faults r'.faults s s'
  pub bytes : r'.bytes ≡ r.bytes
  pub reader_never_falls : r.faults ≤ r'.faults
  pub spill_never_falls : s.faults ≤ s'.faults
  pub kept : buffers.KeepsEnded s.runs s'.runs

-- ---- writing the map

-- It is due by contents whose groups these are, where the spill and the spool tell their runs; or nothing is known of what is due.
pub record IsDueBy (parts : Parts) (part : ℕ) (told : Option Runs) (groups : List (ℕ × List RunItem)) (box : Option Bounds) (due : Due) : Type 0 where
  pub contents : List Content
  pub is : due ≡ due_of_groups part (meta_of parts (first_box contents)) (layer_names parts) (groups_of parts contents)
  pub same : IfTold told (groups ≡ groups_of parts contents)
  pub box_is : box ≡ first_box contents

abbrev pub IsKnown : Parts → ℕ → Option Runs → List (ℕ × List RunItem) → Option Bounds → Option Due → Type 0
IsKnown parts part told groups box due = IfSome due (IsDueBy parts part told groups box)

-- the runs of a spill, by its name: the lane's, or the spool's
abbrev pub runs_named : SpillSeen → SpillSeen → Whom → Option Runs → Type 0
runs_named s o (whom.Lane k) runs = (k ≡ 0) × (s.runs ≡ runs)
runs_named s o whom.Spool runs = o.runs ≡ runs
runs_named s o whom.Profile runs = ⊥
runs_named s o whom.Archive runs = ⊥
runs_named s o whom.Console runs = ⊥

-- which counts rose, and that the sink got nothing where nothing was written; no other stop comes
abbrev pub Stay : SpillSeen → SpillSeen → SpillSeen → SpillSeen → Type 0
Stay s s' o o' = (s'.faults ≡ s.faults) × (o'.faults ≡ o.faults)

abbrev pub MapCounts : Result Totals Stop → SpillSeen → SpillSeen → SpillSeen → SpillSeen → SinkSeen → SinkSeen → Type 0
MapCounts (Ok totals) s s' o o' k k' = Stay s s' o o' × (k'.faults ≡ k.faults)
MapCounts (Err (stops.Budget stages.Block need)) s s' o o' k k' = ⊥
MapCounts (Err (stops.Budget stages.Relation need)) s s' o o' k k' = ⊥
MapCounts (Err (stops.Budget stages.Tile need)) s s' o o' k k' = Stay s s' o o' × (k' ≡ k)
MapCounts (Err stops.Memory) s s' o o' k k' = Stay s s' o o' × (k' ≡ k)
MapCounts (Err (stops.Outside w run at)) s s' o o' k k' = Stay s s' o o' × (k' ≡ k) × runs_named s o w None
MapCounts (Err (stops.Spill whom.Spool)) s s' o o' k k' = (s'.faults ≡ s.faults) × Rose o.faults o'.faults × (k'.faults ≡ k.faults)
MapCounts (Err (stops.Spill (whom.Lane n))) s s' o o' k k' = (n ≡ 0) × Rose s.faults s'.faults × (o'.faults ≡ o.faults) × (k' ≡ k)
MapCounts (Err (stops.Spill whom.Profile)) s s' o o' k k' = ⊥
MapCounts (Err (stops.Spill whom.Archive)) s s' o o' k k' = ⊥
MapCounts (Err (stops.Spill whom.Console)) s s' o o' k k' = ⊥
MapCounts (Err stops.Sink) s s' o o' k k' = Stay s s' o o' × Rose k.faults k'.faults
MapCounts (Err (stops.Profile spot why)) s s' o o' k k' = ⊥
MapCounts (Err (stops.Damage damage)) s s' o o' k k' = ⊥
MapCounts (Err (stops.Source w)) s s' o o' k k' = ⊥
MapCounts (Err (stops.Changed pass block)) s s' o o' k k' = ⊥

pub record MapWritten (due : Option Due) (s s' o o' : SpillSeen) (k k' : SinkSeen) (result : Result Totals Stop) : Type 0 where
  pub told : IfSome due (IsDue (if_told (s ∷ []) o.runs) result)
  pub written : Writes result (if_told (s ∷ []) o.runs) due k k'
  pub back : ReadsBack result (if_told (s ∷ []) o.runs) due
  pub decoded : Decodes result (if_told (s ∷ []) o.runs) due
  pub counts : MapCounts result s s' o o' k k'
  pub spill_runs : s'.runs ≡ s.runs
  pub kept : KeepsEnded o.runs o'.runs
  pub spill_never_falls : s.faults ≤ s'.faults
  pub spool_never_falls : o.faults ≤ o'.faults
  pub sink_never_falls : k.faults ≤ k'.faults
