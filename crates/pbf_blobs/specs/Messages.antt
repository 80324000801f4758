-- What the code reads of a message in one walk.
use Rattle.std.specs.Prelude.{ℕ, ◌||◌, Bool, false, if◌then◌else◌, Option, None, Result, Ok, Err, List, fold}
use Rattle.std.specs.Option.{option_map, option_or, option_copied}
use Rattle.tb_types.specs.declared.damage.Why.{Why}
use Rattle.tb_types.specs.declared.damage.Why.TheVariants as why
use Rattle.tb_wire.specs.declared.varint.Wire.{Wire}
use Rattle.tb_wire.specs.Field.{Entry}
use Rattle.pbf_blobs.specs.declared.header.Header.{Header}
use Rattle.pbf_blobs.specs.declared.message.Message.{Message}
use Rattle.pbf_blobs.specs.declared.message.Message.TheVariants as messages
use Rattle.pbf_blobs.specs.declared.message.Found.{Found as FoundBorrowed}
use Rattle.pbf_blobs.specs.Fields.{text_in, number_in}
use Rattle.pbf_blobs.specs.Blob as blob
use Rattle.pbf_blobs.specs.Header as header

-- a known field with another wire type than its own
abbrev pub is_mistyped : Message → Entry → Bool
is_mistyped messages.BlobHeader f = header.is_mistyped f
is_mistyped messages.Blob f = blob.is_mistyped f

-- what was found in the fields: the last bytes of field 1, the last number of field 3, and whether a field with a compressed
-- block or a mistyped one stands
pub record Found : Type 0 where
  pub text : Option (List ℕ)
  pub number : Option ℕ
  pub compressed : Bool
  pub mistyped : Bool

abbrev pub nothing : Found
nothing = record { text = None; number = None; compressed = false; mistyped = false }

abbrev pub with_field : Message → Found → Entry → Found
with_field message found f =
    record {
      text = option_or (text_in 1 f) found.text;
      number = option_or (number_in 3 f) found.number;
      compressed = found.compressed || blob.is_compressed f;
      mistyped = found.mistyped || is_mistyped message f;
    }

-- what is found in all fields of a message, one after another
abbrev pub found_in : Message → Found → Result (List Entry) Wire → Result Found Wire
found_in message found (Ok fields) = Ok (fold (with_field message) found fields)
found_in message found (Err e) = Err e

-- the raw block of a blob, and the header of a frame, by what was found
abbrev pub raw_by : Found → Result (List ℕ) Why
raw_by found = if found.mistyped then Err why.Wire else if found.compressed then Err why.Compressed else blob.fitting found.text

abbrev pub header_by : Found → Result Header Why
header_by found = if found.mistyped then Err why.Wire else header.both (option_map header.kind_of found.text) found.number

-- the same without where the bytes lie
abbrev pub seen : FoundBorrowed → Found
seen found = record { text = option_copied found.text; number = found.number; compressed = found.compressed; mistyped = found.mistyped }

abbrev pub seen_found : Result FoundBorrowed Wire → Result Found Wire
seen_found (Ok found) = Ok (seen found)
seen_found (Err e) = Err e
