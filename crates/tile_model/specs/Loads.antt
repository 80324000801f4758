-- How often a build loads the body of a block of its extract: once to survey it, and once in each later pass over its kind.
use Rattle.std.specs.Prelude.{◌≡◌, ℕ, ◌+◌, ◌&&◌, nat_lt, if◌then◌else◌, Bool, false, option_map, Result, Ok, Err, List, [], ◌∷◌, ◌++◌, filter, flat_map, replicate, All, ⊤}
use Rattle.tb_types.specs.declared.damage.Damage.{Damage}
use Rattle.tb_outside.specs.Source.{SourceSeen}
use Rattle.pbf_blobs.specs.declared.block.BlockAt.{BlockAt}
use Rattle.pbf_blobs.specs.Frames.{frames_of}
use Rattle.osm_elements.specs.Kinds.{has_any}
use Rattle.tile_model.specs.Needs.{is_read}
use Rattle.tile_model.specs.Contents.{Content, header, elements, unread, content_at}

-- a load, by its place and its length, of all of a body
abbrev pub whole : BlockAt → ℕ × ℕ
whole b = (b.at, b.len)

-- a load and a body have a byte in common
abbrev pub touches : BlockAt → ℕ × ℕ → Bool
touches b load = nat_lt load.0 (b.at + b.len) && nat_lt b.at (load.0 + load.1)

-- a block has nodes, or ways
abbrev pub has_nodes : Content → Bool
has_nodes (header box) = false
has_nodes (elements number block) = has_any block.nodes
has_nodes unread = false

abbrev pub has_ways : Content → Bool
has_ways (header box) = false
has_ways (elements number block) = has_any block.ways
has_ways unread = false

-- what an undamaged block holds passes a test
abbrev pub holds : (Content → Bool) → Result Content Damage → Bool
holds test (Ok content) = test content
holds test (Err damage) = false

-- of some blocks those that hold what passes a test
abbrev pub that_hold : (Content → Bool) → List ℕ → List BlockAt → List BlockAt
that_hold test extract blocks = filter (λ b. holds test (content_at extract b)) blocks

-- How often the body of a block is loaded: in the survey, in the pass over nodes, and in the two over ways.
abbrev pub loads_at : List ℕ → BlockAt → ℕ
loads_at extract b =
    (if is_read b.kind then 1 else 0) + (if holds has_nodes (content_at extract b) then 1 else 0) + (if holds has_ways (content_at extract b) then 2 else 0)

-- of these loads, those that touch a block's body are so many, and each is of all of it
abbrev pub IsLoaded : List ℕ → List (ℕ × ℕ) → BlockAt → Type 0
IsLoaded extract loads b = filter (touches b) loads ≡ replicate (loads_at extract b) (whole b)

-- a told log has these loads more
abbrev pub Logs : SourceSeen → SourceSeen → List (ℕ × ℕ) → Type 0
Logs old new more = new.log ≡ option_map (λ loads. loads ++ more) old.log

-- each reader's log has the loads in its place more
abbrev pub AllLog : List SourceSeen → List SourceSeen → List (List (ℕ × ℕ)) → Type 0
AllLog [] after loads = ⊤
AllLog (r ∷ before) [] loads = ⊤
AllLog (r ∷ before) (s ∷ after) [] = Logs r s [] × AllLog before after []
AllLog (r ∷ before) (s ∷ after) (more ∷ loads) = Logs r s more × AllLog before after loads

-- All readers together loaded the body of each block so often as is due, and nothing of the bodies of other frames.
pub record AreLoaded (extract : List ℕ) (before after : List SourceSeen) : Type 0 where
  pub loads : List (List (ℕ × ℕ))
  pub logged : AllLog before after loads
  pub each : (blocks : List BlockAt) → frames_of extract ≡ Ok blocks → All (IsLoaded extract (flat_map (λ more. more) loads)) blocks
