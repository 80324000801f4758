-- An extract is a run of frames: four bytes with the length of a header, the header and a body (fileformat.proto).
use Rattle.std.specs.Prelude.{ℕ, zero, suc, ◌+◌, ◌^◌, ◌&&◌, ◌||◌, not, nat_le, nat_lt, Bool, false, if◌then◌else◌, Option, None, Some, Result, Ok, Err, List, [], ◌∷◌, length, slice_range}
use Rattle.std.specs.Int.{w32, from_be_bytes}
use Rattle.tb_types.specs.declared.damage.Why.{Why}
use Rattle.tb_types.specs.declared.damage.Why.TheVariants as why
use Rattle.tb_types.specs.declared.damage.Damage.{Damage}
use Rattle.pbf_blobs.specs.declared.block.BlockAt.{BlockAt}
use Rattle.tb_types.specs.Results.{◌>>=◌}
use Rattle.pbf_blobs.specs.declared.header.Header.{Header}
use Rattle.pbf_blobs.specs.Header.{header_of}
use Rattle.pbf_blobs.specs.Kinds.{is_header, is_elements}

-- a header has at most 65,535 bytes
abbrev pub short_header : ℕ → Result ℕ Why
short_header len = if nat_lt 65535 len then Err why.HeaderLong else Ok len

-- the length of the header of the frame that begins at a place
unfoldable pub header_len_at : List ℕ → ℕ → Result ℕ Why
header_len_at bytes at = if nat_lt (length bytes) (at + 4) then Err why.Cut else short_header (from_be_bytes w32 (slice_range bytes at (at + 4)))

-- a length, or 0 where there is none
abbrev pub len_or_0 : Result ℕ Why → ℕ
len_or_0 (Ok len) = len
len_or_0 (Err reason) = 0

-- the place where the body of the frame at a place begins, or would begin: behind its length and its header
abbrev pub body_from : List ℕ → ℕ → ℕ
body_from bytes at = at + 4 + len_or_0 (header_len_at bytes at)

-- the block of a frame that begins at a place, by the length of its header and by the header
abbrev pub with_header : List ℕ → ℕ → ℕ → ℕ → Header → Result BlockAt Why
with_header bytes n at len header =
    if nat_lt (length bytes) (at + 4 + len + header.len) then Err why.Cut else Ok (record { no = n; at = at + 4 + len; len = header.len; kind = header.kind })

-- the same by the length of its header, which lies behind that
abbrev pub with_len : List ℕ → ℕ → ℕ → ℕ → Result BlockAt Why
with_len bytes n at len =
    if nat_lt (length bytes) (at + 4 + len) then Err why.Cut else header_of (slice_range bytes (at + 4) (at + 4 + len)) >>= with_header bytes n at len

-- the block of the frame with this number that begins at a place, or the first reason why there is none
unfoldable pub frame_at : List ℕ → ℕ → ℕ → Result BlockAt Why
frame_at bytes n at = header_len_at bytes at >>= with_len bytes n at

-- elements stand behind a header: `headed` where one came before
abbrev pub in_order : Bool → BlockAt → Result BlockAt Why
in_order headed block = if is_elements block.kind && not headed then Err why.NoHeader else Ok block

-- the block of a frame behind others: there are at most 2 ^ 24
unfoldable pub block_at : List ℕ → ℕ → ℕ → Bool → Result BlockAt Why
block_at bytes n at headed = if nat_le (2 ^ 24) n then Err why.FileLong else frame_at bytes n at >>= in_order headed

-- the blocks before the first fault, and that fault
pub record Frames : Type 0 where
  pub blocks : List BlockAt
  pub fault : Option Damage

abbrev pub faulty : ℕ → Why → Frames
faulty n reason = record { blocks = []; fault = Some (record { block = n; why = reason }) }

-- behind the last frame, whose number would be this
abbrev pub end_at : ℕ → Bool → Frames
end_at n headed = if headed then record { blocks = []; fault = None } else faulty n why.NoHeader

-- a block and what follows it
abbrev pub with_rest : ℕ → (BlockAt → Frames) → Result BlockAt Why → Frames
with_rest n read_on (Err reason) = faulty n reason
with_rest n read_on (Ok block) = let rest = read_on block in record { blocks = block ∷ rest.blocks; fault = rest.fault }

-- the frames from a place on, at most so many, frame after frame: behind a frame the next one begins
unfoldable pub frames_from : List ℕ → ℕ → ℕ → ℕ → Bool → Frames
frames_from bytes zero n at headed = record { blocks = []; fault = None }
frames_from bytes (suc most) n at headed =
    if nat_le (length bytes) at then end_at n headed
    else with_rest n (λ block. frames_from bytes most (n + 1) (block.at + block.len) (headed || is_header block.kind)) (block_at bytes n at headed)

-- the frames of all bytes: frame 2 ^ 24 would be a fault
abbrev pub all_frames : List ℕ → Frames
all_frames bytes = frames_from bytes (2 ^ 24 + 1) 0 0 false

-- the same, where an extract has at most 2 ^ 40 bytes
unfoldable pub frames_before : List ℕ → Frames
frames_before bytes = if nat_lt (2 ^ 40) (length bytes) then faulty 0 why.FileLong else all_frames bytes

abbrev pub outcome : List BlockAt → Option Damage → Result (List BlockAt) Damage
outcome blocks None = Ok blocks
outcome blocks (Some damage) = Err damage

-- the blocks of an extract, or the first fault of its frames
abbrev pub frames_of : List ℕ → Result (List BlockAt) Damage
frames_of bytes = let frames = frames_before bytes in outcome frames.blocks frames.fault

-- the end of the last of these blocks, or this place where there is none
abbrev pub end_of : ℕ → List BlockAt → ℕ
end_of at [] = at
end_of at (block ∷ more) = end_of (block.at + block.len) more

-- behind the header of the first frame with a fault, which follows the blocks before it
abbrev pub reach : List ℕ → Frames → ℕ
reach bytes frames = body_from bytes (end_of 0 frames.blocks)
