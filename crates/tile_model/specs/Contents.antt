-- What the blocks of an extract hold, or its damage (fileformat.proto and osmformat.proto).
use Rattle.std.specs.Prelude.{◌≡◌, ◌⊎◌, ◌+◌, ℕ, Option, Result, Ok, Err, List, [], ◌∷◌, slice_range}
use Rattle.tb_types.specs.declared.damage.Why.{Why}
use Rattle.tb_types.specs.declared.damage.Damage.{Damage}
use Rattle.tb_types.specs.declared.location.Bounds.{Bounds}
use Rattle.pbf_blobs.specs.declared.block.BlockAt.{BlockAt}
use Rattle.pbf_blobs.specs.declared.block.BlockKind.{BlockKind}
use Rattle.pbf_blobs.specs.declared.block.BlockKind.TheVariants as kinds
use Rattle.pbf_blobs.specs.Blob.{raw_of}
use Rattle.pbf_blobs.specs.Frames.{frames_of}
use Rattle.tb_types.specs.Results.{◌>>=◌}
use Rattle.osm_elements.specs.Header.{header_of}
use Rattle.osm_elements.specs.Block.{block_of}
use Rattle.osm_elements.specs.declared.element.Block.{Block}

-- what a block holds: the box of a header, if it is valid; elements, with the block's number; or what isn't read
pub data Content : Type 0 where
  header : Option Bounds → Content
  elements : ℕ → Block → Content
  unread : Content

-- what the body of a header frame says
abbrev pub header_in : List ℕ → Result (Option Bounds) Why
header_in body = raw_of body >>= header_of

-- what the body of a data frame says
abbrev pub block_in : List ℕ → Result Block Why
block_in body = raw_of body >>= block_of

abbrev pub content_of : ℕ → BlockKind → List ℕ → Result Content Why
content_of number kinds.Header body = header_in body >>= λ box. Ok (header box)
content_of number kinds.Elements body = block_in body >>= λ block. Ok (elements number block)
content_of number kinds.Other body = Ok unread

-- a reason is the damage of this block
abbrev pub in_block : {A : Type 0} → ℕ → Result A Why → Result A Damage
in_block number (Ok x) = Ok x
in_block number (Err why) = Err (record { block = number; why = why })

-- the body of a block
abbrev pub body_at : List ℕ → BlockAt → List ℕ
body_at extract b = slice_range extract b.at (b.at + b.len)

-- what a block of the extract holds, or its damage
abbrev pub content_at : List ℕ → BlockAt → Result Content Damage
content_at extract b = in_block b.no (content_of b.no b.kind (body_at extract b))

-- it is the body of a block that is read
abbrev pub IsBody : List ℕ → BlockAt → List ℕ → Type 0
IsBody extract b body = (b.kind ≡ kinds.Other) ⊎ (body ≡ body_at extract b)

-- what comes before others; the first damage is named
abbrev pub with_later : Result Content Damage → Result (List Content) Damage → Result (List Content) Damage
with_later (Ok c) (Ok later) = Ok (c ∷ later)
with_later (Ok c) (Err damage) = Err damage
with_later (Err damage) later = Err damage

-- what blocks in file order hold, or the damage of the least damaged one
abbrev pub contents_at : List ℕ → List BlockAt → Result (List Content) Damage
contents_at extract [] = Ok []
contents_at extract (b ∷ blocks) = with_later (content_at extract b) (contents_at extract blocks)

abbrev pub if_framed : List ℕ → Result (List BlockAt) Damage → Result (List Content) Damage
if_framed extract (Ok blocks) = contents_at extract blocks
if_framed extract (Err damage) = Err damage

-- what the blocks of an extract hold, or its damage: the first fault of its frames, else that of the least damaged block
unfoldable pub contents_of : List ℕ → Result (List Content) Damage
contents_of extract = if_framed extract (frames_of extract)
