-- What is due for a build: the archive that its profile and its extract give, or why there is none.
use Rattle.std.specs.Prelude.{ℕ, nat_lt, Option, None, Some, option_map, option_and_then, Result, Ok, Err, List, length, if◌then◌else◌}
use Rattle.tb_types.specs.Needs.{batch_part}
use Rattle.tb_types.specs.declared.damage.Damage.{Damage}
use Rattle.tb_types.specs.declared.trouble.Stage.{Stage}
use Rattle.tb_types.specs.declared.trouble.Stage.TheVariants as stages
use Rattle.pbf_blobs.specs.declared.block.BlockAt.{BlockAt}
use Rattle.pbf_blobs.specs.Frames.{frames_of}
use Rattle.profile_rules.specs.declared.parts.Parts.{Parts}
use Rattle.profile_rules.specs.Faults.{Fault}
use Rattle.profile_rules.specs.OneRule.{one_rule_of}
use Rattle.profile_rules.specs.Profile.{profile_of}
use Rattle.pmtiles_dirs.specs.declared.meta.Meta.{Meta}
use Rattle.pmtiles_dirs.specs.Contents.{Tile, entries_of}
use Rattle.pmtiles_dirs.specs.Contents as archives
use Rattle.pmtiles_dirs.specs.Archive.{archive_text}
use Rattle.pmtiles_dirs.specs.declared.totals.Totals.{Totals}
use Rattle.tile_model.specs.declared.from.ProfileFrom.{ProfileFrom}
use Rattle.tile_model.specs.declared.from.ProfileFrom.TheVariants as profiles
use Rattle.tile_model.specs.declared.stop.Stop.{Stop}
use Rattle.tile_model.specs.declared.stop.Stop.TheVariants as stops
use Rattle.tile_model.specs.Objects.{Objects, extract_in}
use Rattle.tile_model.specs.Trial.{trial_text}
use Rattle.sorted_lists.specs.Grouping.{elements_of}
use Rattle.mvt_codec.specs.declared.item.RunItem.{RunItem}
use Rattle.tile_model.specs.Contents.{Content, contents_at}
use Rattle.tile_model.specs.Bounds.{first_box}
use Rattle.tile_model.specs.Extract.{shape_of}
use Rattle.tile_model.specs.Map.{blocks_in, groups_of, layer_names, meta_of, tiles_from}
use Rattle.tile_model.specs.Needs.{largest, block_needs, relation_needs, first_over}

-- an archive: the names of its layers and the items of each tile, its tiles, what it holds, and its bytes
pub record Built : Type 0 where
  pub names : List (List ℕ)
  pub groups : List (ℕ × List RunItem)
  pub tiles : List Tile
  pub totals : Totals
  pub bytes : List ℕ

-- what is due: an archive, or the stop that the contents decide
abbrev pub Due : Type 0
Due = Result Built Stop

-- all items of an archive, tile after tile
abbrev pub items_of : Built → List RunItem
items_of built = elements_of built.groups

-- what an archive of tiles holds
abbrev pub totals_of : Meta → List Tile → Totals
totals_of meta tiles = record { tiles = length tiles; entries = length (entries_of tiles); contents = length (archives.contents_of tiles); bytes = length (archive_text meta tiles) }

-- the archive of the items of each tile, by the names of all layers
abbrev pub built_of : Meta → List (List ℕ) → List (ℕ × List RunItem) → Built
built_of meta names groups = record {
  names = names;
  groups = groups;
  tiles = tiles_from names groups;
  totals = totals_of meta (tiles_from names groups);
  bytes = archive_text meta (tiles_from names groups);
}

-- a need that is above the part that there is for it, or what is due else
abbrev pub if_within : ℕ → Stage → ℕ → Due → Due
if_within part stage need due = if nat_lt part need then Err (stops.Budget stage need) else due

-- the first tile that needs more than the part, or the archive of all tiles
abbrev pub if_small : Option ℕ → Built → Due
if_small None built = Ok built
if_small (Some need) built = Err (stops.Budget stages.Tile need)

abbrev pub due_of_groups : ℕ → Meta → List (List ℕ) → List (ℕ × List RunItem) → Due
due_of_groups part meta names groups = if_small (first_over part groups) (built_of meta names groups)

-- The largest need of a kept relation, or the tiles of what blocks hold, and the box of the first header.
abbrev pub due_of_blocks : Parts → ℕ → List Content → Due
due_of_blocks parts part contents =
    if_within part stages.Relation (largest (relation_needs parts (shape_of (blocks_in contents)) (blocks_in contents)))
    (due_of_groups part (meta_of parts (first_box contents)) (layer_names parts) (groups_of parts contents))

abbrev pub due_of_contents : Parts → ℕ → Result (List Content) Damage → Due
due_of_contents parts part (Ok contents) = due_of_blocks parts part contents
due_of_contents parts part (Err damage) = Err (stops.Damage damage)

-- The first fault of the frames; then the largest need of a block, whatever it holds; then damage.
abbrev pub due_of_frames : Parts → ℕ → List ℕ → Result (List BlockAt) Damage → Due
due_of_frames parts part extract (Ok blocks) = if_within part stages.Block (largest (block_needs blocks)) (due_of_contents parts part (contents_at extract blocks))
due_of_frames parts part extract (Err damage) = Err (stops.Damage damage)

-- what is due for an extract by a profile, with this part of a budget for blocks, relations and tiles
abbrev pub due_of_extract : Parts → ℕ → List ℕ → Due
due_of_extract parts part extract = due_of_frames parts part extract (frames_of extract)

-- what is due by a profile and an extract, if it is told: a profile that is refused needs none
abbrev pub due_of_profile : ℕ → Result Parts Fault → Option (List ℕ) → Option Due
due_of_profile part (Err fault) extract = Some (Err (stops.Profile fault.0 fault.1))
due_of_profile part (Ok parts) extract = option_map (due_of_extract parts part) extract

-- the profile, where its text is told: that of a key and that of trials need none
abbrev pub parts_from : ProfileFrom → Option (List ℕ) → Option (Result Parts Fault)
parts_from (profiles.OneRule key) text = Some (Ok (one_rule_of key))
parts_from profiles.Read text = option_map profile_of text
parts_from profiles.Trial text = Some (profile_of trial_text)

-- what is due within a budget, as far as profile and extract are told
abbrev pub due_of : ProfileFrom → ℕ → Option (List ℕ) → Option (List ℕ) → Option Due
due_of from budget text extract = option_and_then (λ found. due_of_profile (batch_part budget) found extract) (parts_from from text)

-- the same of the objects of a build
abbrev pub due_in : ProfileFrom → ℕ → Objects → Option Due
due_in from budget objects = due_of from budget objects.profile.bytes (extract_in objects)
