-- The body of a frame: a blob, whose raw block is read (fileformat.proto, Blob).
use Rattle.std.specs.Prelude.{ℕ, ◌==◌, ◌&&◌, not, nat_le, Bool, if◌then◌else◌, Option, None, Some, Result, Ok, Err, List, length}
use Rattle.std.specs.List.{list_any}
use Rattle.std.specs.Borrow.{Bor}
use Rattle.tb_types.specs.declared.damage.Why.{Why}
use Rattle.tb_types.specs.declared.damage.Why.TheVariants as why
use Rattle.tb_wire.specs.Field.{Entry}
use Rattle.tb_wire.specs.Message.{message}
use Rattle.tb_types.specs.Results.{◌>>=◌}
use Rattle.pbf_blobs.specs.Fields.{is_text, is_number, text_in, last_of, or_wire}

-- a field with a compressed block: zlib, lzma, bzip2, lz4 or zstd
abbrev pub is_compressed : Entry → Bool
is_compressed f = nat_le 3 f.number && nat_le f.number 7

-- a known field with another wire type than its own: raw and the compressed blocks are bytes, raw_size is a number
abbrev pub is_mistyped : Entry → Bool
is_mistyped f = if f.number == 1 then not (is_text f) else if f.number == 2 then not (is_number f) else is_compressed f && not (is_text f)

-- a raw block has fewer bytes than 32 MiB
abbrev pub fitting : Option (List ℕ) → Result (List ℕ) Why
fitting None = Err why.NoRaw
fitting (Some raw) = if nat_le 33554432 (length raw) then Err why.Over32M else Ok raw

-- the raw block of a blob with these fields, or the first reason that holds anywhere
abbrev pub raw_in : List Entry → Result (List ℕ) Why
raw_in fields =
    if list_any is_mistyped fields then Err why.Wire
    else if list_any is_compressed fields then Err why.Compressed
    else fitting (last_of (text_in 1) fields)

-- the raw block in a body, or why there is none
unfoldable pub raw_of : List ℕ → Result (List ℕ) Why
raw_of body = or_wire (message body) >>= raw_in

-- what the code answers, without where the bytes lie
abbrev pub seen_raw : Result (Bor (List ℕ)) Why → Result (List ℕ) Why
seen_raw (Ok raw) = Ok raw.now
seen_raw (Err e) = Err e
