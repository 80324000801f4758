-- What was found of blocks, in any order, and what stands there once it is arranged.
use Rattle.std.specs.Prelude.{◌≡◌, ℕ, cond, Option, IfSome, true, List, [], ◌∷◌, ◌++◌, slice_get, All}
use Rattle.std.specs.List.Sorted.{IsPermutation}
use Rattle.tb_types.specs.declared.damage.Damage.{Damage}
use Rattle.pbf_blobs.specs.declared.block.BlockAt.{BlockAt}
use Rattle.pbf_blobs.specs.declared.block.BlockKind.TheVariants as kinds
use Rattle.osm_elements.specs.Header.{is_valid}
use Rattle.profile_rules.specs.declared.parts.Parts.{Parts}
use Rattle.pass_survey.specs.declared.header.HeaderAt.{HeaderAt}
use Rattle.pass_survey.specs.declared.found.Found.{Found}
use Rattle.member_sets.specs.declared.kept.KeptRelation.{KeptRelation}
use Rattle.pass_survey.specs.Kept.{IsSoundKept}
use Rattle.pass_survey.specs.Least.{IsLeast, least_of}
use Rattle.tile_model.specs.Loads.{has_nodes, has_ways, holds}
use Rattle.pass_survey.specs.Taken.{Taken, IsHeld, damage_of, header_of, kept_held, damages, headers, kept_by, with_nodes, with_ways}

abbrev pub damage_number : Damage → ℕ
damage_number d = d.block

abbrev pub header_number : HeaderAt → ℕ
header_number h = h.no

-- This was found of these blocks: it is the same in whatever order they stand here. The least damage, the least header, and the
-- kept relations and the blocks with nodes and with ways, each as often, in any order.
pub record FoundOf (parts : Parts) (f : Found) (taken : List Taken) : Type 0 where
  pub held : All IsHeld taken
  pub damage : IsLeast damage_number (damages taken) f.damage
  pub header : IsLeast header_number (headers taken) f.header
  pub kept : IsPermutation (kept_by parts taken) f.kept.items
  pub nodes : IsPermutation (with_nodes taken) f.nodes.items
  pub ways : IsPermutation (with_ways taken) f.ways.items

-- What stands there is what these blocks have, in the order in which they stand here: the first damage and the first header, and all
-- kept relations, blocks with nodes and blocks with ways.
pub record InOrder (parts : Parts) (f : Found) (taken : List Taken) : Type 0 where
  pub damage : f.damage ≡ slice_get (damages taken) 0
  pub header : f.header ≡ slice_get (headers taken) 0
  pub kept : f.kept.items ≡ kept_by parts taken
  pub nodes : f.nodes.items ≡ with_nodes taken
  pub ways : f.ways.items ≡ with_ways taken

-- What one block, or another lane's findings, brings: the lesser damage and header of both, and its lists behind the others.
pub record Brings (old new : Found) (damage : Option Damage) (header : Option HeaderAt) (kept : List KeptRelation) (nodes ways : List BlockAt) : Type 0 where
  pub damage_is : new.damage ≡ least_of damage_number old.damage damage
  pub header_is : new.header ≡ least_of header_number old.header header
  pub kept_is : new.kept.items ≡ old.kept.items ++ kept
  pub nodes_is : new.nodes.items ≡ old.nodes.items ++ nodes
  pub ways_is : new.ways.items ≡ old.ways.items ++ ways

abbrev pub IsOfElements : BlockAt → Type 0
IsOfElements block = block.kind ≡ kinds.Elements

-- the box, if there is one, is valid
abbrev pub IsValidBox : HeaderAt → Type 0
IsValidBox h = IfSome h.bounds (λ b. is_valid b ≡ true)

-- Whatever readers tell: the blocks are such of elements, the specs are such that the rules can make, and the box is valid.
pub record IsReady (parts : Parts) (f : Found) : Type 0 where
  pub nodes : All IsOfElements f.nodes.items
  pub ways : All IsOfElements f.ways.items
  pub kept : All (IsSoundKept parts) f.kept.items
  pub box : IfSome f.header IsValidBox

-- what one block brings
abbrev pub BringsBlock : Parts → Found → Found → Taken → Type 0
BringsBlock parts old new t =
    Brings old new (slice_get (damage_of t.held) 0) (slice_get (header_of t.block.no t.held) 0) (kept_held parts t.held)
    (cond (holds has_nodes t.held) (t.block ∷ []) []) (cond (holds has_ways t.held) (t.block ∷ []) [])
