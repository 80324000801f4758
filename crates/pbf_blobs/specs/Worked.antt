-- Worked cases that the definitions were checked on.
use Rattle.std.specs.Prelude.{◌≡◌, ℕ, ◌+◌, ◌^◌, ◌<◌, ◌≤◌, Bool, None, Some, Result, Ok, Err, List, [], ◌∷◌, ◌++◌, length, codes}
use Rattle.tb_types.specs.declared.damage.Damage.{Damage}
use Rattle.tb_types.specs.declared.damage.Why.{Why}
use Rattle.tb_types.specs.declared.damage.Why.TheVariants as why
use Rattle.pbf_blobs.specs.declared.block.BlockKind.TheVariants.{Header, Elements, Other}
use Rattle.pbf_blobs.specs.declared.block.BlockAt.{BlockAt}
use Rattle.pbf_blobs.specs.Blob.{fitting, raw_of}
use Rattle.pbf_blobs.specs.Frames.{end_of, frames_from, frames_before, frames_of}

-- a header frame: the length of its header, the header, and a body of two bytes
abbrev pub header_frame : List ℕ
header_frame = 0 ∷ 0 ∷ 0 ∷ 13 ∷ 10 ∷ 9 ∷ codes "OSMHeader" ++ 24 ∷ 2 ∷ 10 ∷ 0 ∷ []

-- a data frame, whose body has a raw block of 35 bytes: node 1 at latitude 0 and longitude 0, `amenity=cafe`
abbrev pub data_raw : List ℕ
data_raw =
    10 ∷ 17 ∷ 10 ∷ 0 ∷ 10 ∷ 7 ∷ codes "amenity" ++ 10 ∷ 4 ∷ codes "cafe" ++ 18 ∷ 14 ∷ 10 ∷ 12 ∷ 8 ∷ 2 ∷ 18 ∷ 1 ∷ 1 ∷ 26 ∷ 1 ∷ 2 ∷ 64 ∷ 0 ∷ 72 ∷ 0 ∷ []

abbrev pub data_frame : List ℕ
data_frame = 0 ∷ 0 ∷ 0 ∷ 11 ∷ 10 ∷ 7 ∷ codes "OSMData" ++ 24 ∷ 37 ∷ 10 ∷ 35 ∷ data_raw

abbrev pub header_block : BlockAt
header_block = record { no = 0; at = 17; len = 2; kind = Header }

abbrev pub data_block : BlockAt
data_block = record { no = 1; at = 34; len = 37; kind = Elements }

-- a frame of another type, whose body is no message
abbrev pub other_frame : List ℕ
other_frame = 0 ∷ 0 ∷ 0 ∷ 5 ∷ 10 ∷ 1 ∷ 88 ∷ 24 ∷ 1 ∷ 255 ∷ []

abbrev pub fault : ℕ → Why → Result (List BlockAt) Damage
fault n reason = Err (record { block = n; why = reason })

pub record Worked : Type 0 where
  pub header_alone : frames_of header_frame ≡ Ok (header_block ∷ [])
  pub header_and_data : frames_of (header_frame ++ data_frame) ≡ Ok (header_block ∷ data_block ∷ [])
  pub other_before : frames_of (other_frame ++ header_frame) ≡ Ok (record { no = 0; at = 9; len = 1; kind = Other } ∷ record { no = 1; at = 27; len = 2; kind = Header } ∷ [])
  pub two_bytes_more : frames_of (header_frame ++ data_frame ++ 0 ∷ 0 ∷ []) ≡ fault 2 why.Cut
  pub no_length_more : frames_of (header_frame ++ 0 ∷ 0 ∷ 0 ∷ 0 ∷ []) ≡ fault 1 why.Missing
  pub header_cut : frames_of (header_frame ++ 0 ∷ 0 ∷ 0 ∷ 5 ∷ 10 ∷ []) ≡ fault 1 why.Cut
  pub body_cut : frames_of (header_frame ++ 0 ∷ 0 ∷ 0 ∷ 5 ∷ 10 ∷ 1 ∷ 88 ∷ 24 ∷ 2 ∷ 255 ∷ []) ≡ fault 1 why.Cut
  pub header_long : frames_of (header_frame ++ 0 ∷ 1 ∷ 0 ∷ 0 ∷ []) ≡ fault 1 why.HeaderLong
  pub body_long : frames_of (0 ∷ 0 ∷ 0 ∷ 8 ∷ 10 ∷ 1 ∷ 88 ∷ 24 ∷ 129 ∷ 128 ∷ 132 ∷ 16 ∷ []) ≡ fault 0 why.BlobLong
  pub body_negative : frames_of (0 ∷ 0 ∷ 0 ∷ 9 ∷ 10 ∷ 1 ∷ 88 ∷ 24 ∷ 255 ∷ 255 ∷ 255 ∷ 255 ∷ 15 ∷ []) ≡ fault 0 why.BlobLong
  pub mistyped : frames_of (0 ∷ 0 ∷ 0 ∷ 7 ∷ 10 ∷ 1 ∷ 88 ∷ 16 ∷ 0 ∷ 24 ∷ 0 ∷ []) ≡ fault 0 why.Wire
  pub nothing : frames_of [] ≡ fault 0 why.NoHeader
  pub other_alone : frames_of other_frame ≡ fault 1 why.NoHeader
  pub data_alone : frames_of data_frame ≡ fault 0 why.NoHeader
  pub data_before : frames_of (other_frame ++ data_frame ++ header_frame) ≡ fault 1 why.NoHeader
  pub raw : raw_of (10 ∷ 35 ∷ data_raw) ≡ Ok data_raw
  pub compressed : raw_of (26 ∷ 0 ∷ []) ≡ Err why.Compressed
  pub no_raw : raw_of [] ≡ Err why.NoRaw
  pub raw_again : raw_of (10 ∷ 1 ∷ 97 ∷ 10 ∷ 0 ∷ []) ≡ Ok []
  pub raw_and_compressed : raw_of (10 ∷ 0 ∷ 58 ∷ 0 ∷ []) ≡ Err why.Compressed
  pub wire_before_compressed : raw_of (26 ∷ 0 ∷ 10 ∷ []) ≡ Err why.Wire
  pub raw_size_of_bytes : raw_of (10 ∷ 0 ∷ 18 ∷ 0 ∷ []) ≡ Err why.Wire

-- The limits that are too large for a worked case: an extract of more than 2 ^ 40 bytes, a byte where frame 2 ^ 24 would begin,
-- also where that frame is cut, and a raw block of 32 MiB. Where no fault is named, no byte is left over.
pub record FramesAreLimited : Type 0 where
  pub bytes : (extract : List ℕ) → 2 ^ 40 < length extract → frames_of extract ≡ fault 0 why.FileLong
  pub frames : (extract : List ℕ) (most at : ℕ) (headed : Bool) → at < length extract
      → frames_from extract (most + 1) (2 ^ 24) at headed ≡ record { blocks = []; fault = Some (record { block = 2 ^ 24; why = why.FileLong }) }
  pub raw : (raw : List ℕ) → 33554432 ≤ length raw → fitting (Some raw) ≡ Err why.Over32M
  pub whole : (extract : List ℕ) → (frames_before extract).fault ≡ None → length extract ≤ end_of 0 (frames_before extract).blocks
