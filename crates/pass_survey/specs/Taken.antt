-- Blocks that were taken up, each with what its body holds.
use Rattle.std.specs.Prelude.{◌≡◌, ℕ, Bool, true, false, cond, Result, Ok, Err, List, [], ◌∷◌, map, flat_map}
use Rattle.tb_types.specs.declared.damage.Damage.{Damage}
use Rattle.pbf_blobs.specs.declared.block.BlockAt.{BlockAt}
use Rattle.profile_rules.specs.declared.parts.Parts.{Parts}
use Rattle.tile_model.specs.Contents.{Content, header, elements, unread, content_of, in_block, content_at, with_later}
use Rattle.tile_model.specs.Loads.{has_nodes, has_ways, holds}
use Rattle.member_sets.specs.declared.kept.KeptRelation.{KeptRelation}
use Rattle.pass_survey.specs.declared.header.HeaderAt.{HeaderAt}
use Rattle.pass_survey.specs.Kept.{kept_in}

pub record Taken : Type 0 where
  pub block : BlockAt
  pub held : Result Content Damage

-- what a body holds, as that of this block, or its damage
abbrev pub held_in : BlockAt → List ℕ → Result Content Damage
held_in block body = in_block block.no (content_of block.no block.kind body)

abbrev pub taken_with : BlockAt → List ℕ → Taken
taken_with block body = record { block = block; held = held_in block body }

-- a block of an extract
abbrev pub taken_at : List ℕ → BlockAt → Taken
taken_at extract block = record { block = block; held = content_at extract block }

-- some body holds that
abbrev pub IsHeld : Taken → Type 0
IsHeld t = (body : List ℕ) × (t.held ≡ held_in t.block body)

abbrev pub number_of : Taken → ℕ
number_of t = t.block.no

-- the damage
abbrev pub damage_of : Result Content Damage → List Damage
damage_of (Ok content) = []
damage_of (Err damage) = damage ∷ []

-- a header's box, with the number of its block
abbrev pub header_of : ℕ → Result Content Damage → List HeaderAt
header_of number (Ok (header box)) = record { no = number; bounds = box } ∷ []
header_of number (Ok (elements n block)) = []
header_of number (Ok unread) = []
header_of number (Err damage) = []

-- the relations that are kept
abbrev pub kept_held : Parts → Result Content Damage → List KeptRelation
kept_held parts (Ok (header box)) = []
kept_held parts (Ok (elements n block)) = kept_in parts n block.relations
kept_held parts (Ok unread) = []
kept_held parts (Err damage) = []

-- what each of these blocks has of a kind
abbrev pub damages : List Taken → List Damage
damages taken = flat_map (λ (t : Taken). damage_of t.held) taken

abbrev pub headers : List Taken → List HeaderAt
headers taken = flat_map (λ (t : Taken). header_of t.block.no t.held) taken

abbrev pub kept_by : Parts → List Taken → List KeptRelation
kept_by parts taken = flat_map (λ (t : Taken). kept_held parts t.held) taken

abbrev pub with_nodes : List Taken → List BlockAt
with_nodes taken = flat_map (λ (t : Taken). cond (holds has_nodes t.held) (t.block ∷ []) []) taken

abbrev pub with_ways : List Taken → List BlockAt
with_ways taken = flat_map (λ (t : Taken). cond (holds has_ways t.held) (t.block ∷ []) []) taken

-- what all of them hold, or the first damage
abbrev pub contents_in : List Taken → Result (List Content) Damage
contents_in [] = Ok []
contents_in (t ∷ taken) = with_later t.held (contents_in taken)
