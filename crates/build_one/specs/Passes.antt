-- What a pass over blocks of elements answers.
use Rattle.std.specs.Prelude.{◌≡◌, ℕ, ◌≤◌, ◌<◌, Option, Some, IfSome, Result, Ok, Err, List, [], All, map, flat_map}
use Rattle.std.specs.List.Sorted.{IsPermutation}
use Rattle.tb_types.specs.declared.damage.Damage.{Damage}
use Rattle.pbf_blobs.specs.declared.block.BlockAt.{BlockAt}
use Rattle.osm_elements.specs.declared.element.Block.{Block}
use Rattle.profile_rules.specs.declared.parts.Parts.{Parts}
use Rattle.shard_store.specs.Join.{Entry, IsJoinOf}
use Rattle.member_sets.specs.Ids.{entries_of}
use Rattle.member_sets.specs.declared.kept.KeptRelation.{KeptRelation}
use Rattle.member_sets.specs.declared.unit.Unit as units
use Rattle.node_store.specs.declared.located.Located.{Located}
use Rattle.node_store.specs.Order.{located_join, shaped_join}
use Rattle.mvt_codec.specs.declared.item.RunItem.{RunItem}
use Rattle.mvt_codec.specs.Items.{IsItem}
use Rattle.tb_outside.specs.Spill.{Runs, SpillSeen}
use Rattle.tb_outside.specs.declared.spill.RunAt.{RunAt}
use Rattle.feature_runs.specs.Entry.{Buffered, entry_of}
use Rattle.feature_runs.specs.Added.{AreThere}
use Rattle.feature_runs.specs.Since.{IsSince}
use Rattle.tile_model.specs.Contents.{Content, elements, contents_at}
use Rattle.tile_model.specs.Extract.{features_of, all_refs, shape_of}
use Rattle.tile_model.specs.Items.{AreSound}
use Rattle.tile_model.specs.Map.{blocks_in}
use Rattle.tile_model.specs.Needs.{largest, relation_needs}
use Rattle.tile_model.specs.Points.{points_of}
use Rattle.tile_model.specs.Tiles.{emitted_items}
use Rattle.tile_model.specs.Ways.{ways_of}
use Rattle.pass_survey.specs.Kept.{members_of}
use Rattle.pass_shapes.specs.Emitting.{Emits}
use Rattle.pass_shapes.specs.Stores.{locate_in, is_needed, located_in, shaped_in}
use Rattle.pass_survey.specs.declared.found.Found.{Found}
use Rattle.node_store.specs.declared.shaped.Shaped.{Shaped}
use Rattle.tb_outside.specs.declared.spill.SpillErr.{SpillErr}
use Rattle.tb_outside.specs.declared.spill.SpillErr.TheVariants as spill_errors
use Rattle.feature_runs.specs.Writing.{Frames}
use Rattle.build_one.specs.declared.stop.RelationStop.{RelationStop}
use Rattle.build_one.specs.declared.stop.RelationStop.TheVariants as relation_stops
use Rattle.build_one.specs.declared.stop.PassStop.{PassStop}
use Rattle.build_one.specs.declared.stop.PassStop.TheVariants as stops
use Rattle.pass_survey.specs.Told.{HasSurveyed}
use Rattle.build_one.specs.Survey.{IsApart}

-- a read block as what the extract holds
abbrev pub as_content : ℕ × Block → Content
as_content b = elements b.0 b.1

-- some block is damaged
abbrev pub IsDamaged : Result (List Content) Damage → Type 0
IsDamaged (Ok contents) = ⊥
IsDamaged (Err damage) = Unit {0}

-- what P says of what was gathered and of the blocks that were read; where the extract is told, they are its blocks
abbrev pub Reads : {A : Type 0} → (A → List (ℕ × Block) → Type 0) → List BlockAt → Option (List ℕ) → Result A PassStop → Type 0
Reads P blocks told (Ok x) = (read : List (ℕ × Block)) × P x read × IfSome told (λ extract. contents_at extract blocks ≡ Ok (map as_content read))
Reads P blocks told (Err (stops.Damage damage)) = IfSome told (λ extract. IsDamaged (contents_at extract blocks))
Reads P blocks told (Err stops.Source) = Unit {0}
Reads P blocks told (Err stops.Spill) = Unit {0}
Reads P blocks told (Err stops.Memory) = Unit {0}

-- a set of the ways that kept relations need
abbrev pub AreMembers : List KeptRelation → List (Entry units.Unit) → Type 0
AreMembers kept ways = (both : units.Unit → units.Unit → units.Unit) × IsJoinOf both (entries_of (members_of kept)) ways

-- a set of the nodes that the ways of blocks need, where these are the ways of relations
abbrev pub AreNeeded : Parts → List (Entry units.Unit) → List (Entry units.Unit) → List (ℕ × Block) → Type 0
AreNeeded parts ways needed blocks = (both : units.Unit → units.Unit → units.Unit) × IsJoinOf both (entries_of (all_refs parts (is_needed ways) blocks)) needed

-- these items were added to a buffer, and the spill didn't fail
abbrev pub Adds : Parts → List RunItem → SpillSeen → SpillSeen → Buffered → Buffered → Type 0
Adds parts wanted old new before after = Emits {A = Unit {0}} parts wanted old new before after (Ok tt)

-- a store of the needed nodes among those of blocks, and the items of all of them
pub record ArePlaced (parts : Parts) (needed : List (Entry units.Unit)) (old new : SpillSeen) (before after : Buffered) (locations : List (Entry Located)) (blocks : List (ℕ × Block)) : Type 0 where
  pub store : IsJoinOf located_join (flat_map (λ b. located_in needed b.0 b.1.nodes) blocks) locations
  pub items : Adds parts (emitted_items (points_of parts blocks)) old new before after

-- a store of the needed ways among those of blocks, and the items of all of them
pub record AreDrawn (parts : Parts) (ways : List (Entry units.Unit)) (store : List (Entry Located)) (old new : SpillSeen) (before after : Buffered) (shapes : List (Entry Shaped)) (blocks : List (ℕ × Block)) : Type 0 where
  pub store_is : IsJoinOf shaped_join (flat_map (λ b. shaped_in ways (locate_in store) b.0 b.1.ways) blocks) shapes
  pub items : Adds parts (emitted_items (ways_of parts (locate_in store) blocks)) old new before after

-- The pass over relations: none needs more than the part, and the items were added, and written; or the largest needs more; or the
-- spill failed, or memory wants.
abbrev pub RelationTold : Parts → ℕ → List ℕ → List RunItem → SpillSeen → SpillSeen → Buffered → Result (List RunAt) RelationStop → Type 0
RelationTold parts part needs wanted old new before (Ok runs) = (largest needs ≤ part) × Adds parts wanted old new before (record { limit = before.limit; runs = runs; entries = [] })
RelationTold parts part needs wanted old new before (Err (relation_stops.TooLarge need)) = (largest needs ≡ need) × (part < need)
RelationTold parts part needs wanted old new before (Err relation_stops.Spill) = Unit {0}
RelationTold parts part needs wanted old new before (Err relation_stops.Memory) = Unit {0}

abbrev pub as_added : {A : Type 0} → Result A RelationStop → Result (Unit {0}) SpillErr
as_added (Ok x) = Ok tt
as_added (Err (relation_stops.TooLarge need)) = Err spill_errors.Memory
as_added (Err relation_stops.Spill) = Err spill_errors.Failed
as_added (Err relation_stops.Memory) = Err spill_errors.Memory

pub record RelationAnswers (parts : Parts) (part : ℕ) (needs : List ℕ) (wanted : List RunItem) (old new : SpillSeen) (before : Buffered) (result : Result (List RunAt) RelationStop) : Type 0 where
  pub told : RelationTold parts part needs wanted old new before result
  pub frames : Frames old new (as_added result)

-- The runs that were written to a spill: these items stand in them, each once, where the spill tells.
pub record Ran (parts : Parts) (limit : ℕ) (old new : SpillSeen) (runs : List RunAt) : Type 0 where
  pub items : List RunItem
  pub sound : AreSound parts items
  pub whole : All IsItem items
  pub listed : (told : Runs) → old.runs ≡ Some told → AreThere (record { limit = limit; runs = runs; entries = [] }) new (map entry_of items)
  pub since : (told : Runs) → old.runs ≡ Some told → IsSince told new (record { limit = limit; runs = runs; entries = [] }) (map entry_of items)

-- the needs of the kept relations of what an extract holds
abbrev pub needs_in : Parts → List Content → List ℕ
needs_in parts contents = relation_needs parts (shape_of (blocks_in contents)) (blocks_in contents)

-- these are the items of all features of what an extract holds, and no kept relation needs more than the part
pub record IsGathered (parts : Parts) (part : ℕ) (contents : List Content) (items : List RunItem) : Type 0 where
  pub fit : largest (needs_in parts contents) ≤ part
  pub same : IsPermutation (emitted_items (features_of parts (blocks_in contents))) items

-- the largest need of a kept relation is above the part
pub record IsOver (parts : Parts) (part : ℕ) (contents : List Content) (need : ℕ) : Type 0 where
  pub is : largest (needs_in parts contents) ≡ need
  pub above : part < need

-- what is said of what a told extract holds, once it was surveyed
abbrev pub OfSurveyed : Parts → Option (List ℕ) → Found → (List Content → Type 0) → Type 0
OfSurveyed parts told found P = IfSome told (λ extract. (contents : List Content) → HasSurveyed parts extract found contents → IsApart parts contents → P contents)
