-- What was found of an extract that is told.
use Rattle.std.specs.Prelude.{◌≡◌, ℕ, Option, None, Some, Result, Ok, Err, List, map, filter, flat_map, slice_get, All, Contains}
use Rattle.std.specs.List.Sorted.{IsStrictlyIncreasing}
use Rattle.tb_types.specs.declared.damage.Damage.{Damage}
use Rattle.tb_types.specs.declared.location.Bounds.{Bounds}
use Rattle.pbf_blobs.specs.Answers.{IsNumbered}
use Rattle.pbf_blobs.specs.declared.block.BlockAt.{BlockAt}
use Rattle.profile_rules.specs.declared.parts.Parts.{Parts}
use Rattle.tile_model.specs.Bounds.{boxes_in}
use Rattle.tile_model.specs.Contents.{Content, IsBody, contents_at}
use Rattle.tile_model.specs.Map.{blocks_in}
use Rattle.pass_survey.specs.declared.header.HeaderAt.{HeaderAt}
use Rattle.pass_survey.specs.declared.found.Found.{Found}
use Rattle.pass_survey.specs.Kept.{all_kept}
use Rattle.tile_model.specs.Loads.{has_nodes, has_ways}
use Rattle.pass_survey.specs.Taken.{taken_with, taken_at, number_of}
use Rattle.pass_survey.specs.Found.{InOrder}

abbrev pub box_of : Option HeaderAt → Option (Option Bounds)
box_of None = None
box_of (Some h) = Some h.bounds

-- What stands there of an extract that holds this: the box of the first header, the kept relations, and which blocks have nodes and ways.
pub record HasSurveyed (parts : Parts) (extract : List ℕ) (f : Found) (contents : List Content) : Type 0 where
  pub box : box_of f.header ≡ slice_get (flat_map boxes_in contents) 0
  pub kept : f.kept.items ≡ all_kept parts (blocks_in contents)
  pub nodes : contents_at extract f.nodes.items ≡ Ok (filter has_nodes contents)
  pub ways : contents_at extract f.ways.items ≡ Ok (filter has_ways contents)

-- that, or the damage
abbrev pub Holds : Parts → List ℕ → Found → Result (List Content) Damage → Type 0
Holds parts extract f (Ok contents) = (f.damage ≡ None) × HasSurveyed parts extract f contents
Holds parts extract f (Err damage) = f.damage ≡ Some damage

-- Blocks of an extract, in file order.
pub record FoundLaws : Type 0 where
  -- a body that was loaded, or of a block that isn't read, says what the extract does
  pub loaded : (extract : List ℕ) (b : BlockAt) (body : List ℕ) → IsBody extract b body → taken_with b body ≡ taken_at extract b
  pub numbered : (extract : List ℕ) (blocks : List BlockAt) → IsNumbered blocks → IsStrictlyIncreasing (map number_of (map (taken_at extract) blocks))
  -- what was found of all blocks, once it is in order, is what the extract holds, or its damage
  pub told : (parts : Parts) (extract : List ℕ) (f : Found) (blocks : List BlockAt) → InOrder parts f (map (taken_at extract) blocks) → Holds parts extract f (contents_at extract blocks)
  -- the blocks with nodes and those with ways are among the blocks
  pub among : (parts : Parts) (extract : List ℕ) (f : Found) (blocks : List BlockAt) → InOrder parts f (map (taken_at extract) blocks) → All (Contains blocks) f.nodes.items × All (Contains blocks) f.ways.items
