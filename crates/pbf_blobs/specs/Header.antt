-- The header of a frame, which tells what its body is and how long (fileformat.proto, BlobHeader).
use Rattle.std.specs.Prelude.{ℕ, ◌==◌, ◌%◌, ◌^◌, ◌&&◌, ◌||◌, not, nat_lt, Bool, if◌then◌else◌, Option, None, Some, Result, Ok, Err, List, codes}
use Rattle.std.specs.List.{list_any}
use Rattle.std.specs.Option.{option_map}
use Rattle.std.specs.Str.{bytes_eq}
use Rattle.tb_types.specs.declared.damage.Why.{Why}
use Rattle.tb_types.specs.declared.damage.Why.TheVariants as why
use Rattle.tb_wire.specs.Field.{Entry}
use Rattle.tb_wire.specs.Message.{message}
use Rattle.pbf_blobs.specs.declared.block.BlockKind.{BlockKind}
use Rattle.pbf_blobs.specs.declared.block.BlockKind.TheVariants as kinds
use Rattle.pbf_blobs.specs.declared.header.Header.{Header}
use Rattle.tb_types.specs.Results.{◌>>=◌}
use Rattle.pbf_blobs.specs.Fields.{is_text, is_number, text_in, number_in, last_of, or_wire}

-- the kind of block that a type names, compared as bytes
abbrev pub kind_of : List ℕ → BlockKind
kind_of name = if bytes_eq name (codes "OSMHeader") then kinds.Header else if bytes_eq name (codes "OSMData") then kinds.Elements else kinds.Other

-- a known field with another wire type than its own: type and indexdata are bytes, datasize is a number
abbrev pub is_mistyped : Entry → Bool
is_mistyped f = if (f.number == 1) || (f.number == 2) then not (is_text f) else (f.number == 3) && not (is_number f)

-- a body has at most 33,619,968 bytes; a negative length has low 32 bits above that
abbrev pub short_body : BlockKind → ℕ → Result Header Why
short_body kind len = if nat_lt 33619968 len then Err why.BlobLong else Ok (record { kind = kind; len = len })

-- a header needs both a type and a datasize, of which the low 32 bits count
abbrev pub both : Option BlockKind → Option ℕ → Result Header Why
both None size = Err why.Missing
both (Some kind) None = Err why.Missing
both (Some kind) (Some size) = short_body kind (size % 2 ^ 32)

-- what a header with these fields says, or why it says nothing
abbrev pub header_in : List Entry → Result Header Why
header_in fields = if list_any is_mistyped fields then Err why.Wire else both (option_map kind_of (last_of (text_in 1) fields)) (last_of (number_in 3) fields)

-- what a header says, or why it says nothing
unfoldable pub header_of : List ℕ → Result Header Why
header_of bytes = or_wire (message bytes) >>= header_in
