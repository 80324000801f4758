-- What is found in the fields one after another decides as all fields together do.
use Rattle.std.proofs.Common.{◌≡◌, ◌||◌, Bool, true, false, Ok, Err, Result, List, [], ◌∷◌, fold, refl, ap, ◌∙◌}
use Rattle.std.specs.List.{list_any}
use Rattle.std.specs.Option.{option_or}
use Rattle.tb_types.specs.declared.damage.Why.TheVariants as why
use Rattle.tb_wire.specs.declared.varint.Wire.{Wire}
use Rattle.tb_wire.specs.Field.{Entry}
use Rattle.tb_types.specs.declared.damage.Why.{Why}
use Rattle.tb_types.specs.Results.{◌>>=◌}
use Rattle.pbf_blobs.specs.declared.message.Message.{Message}
use Rattle.pbf_blobs.specs.declared.message.Message.TheVariants as messages
use Rattle.pbf_blobs.specs.Fields.{text_in, number_in, or_wire}
use Rattle.pbf_blobs.specs.Messages.{Found, nothing, with_field, found_in, is_mistyped, raw_by, header_by}
use Rattle.pbf_blobs.specs.Blob as blob
use Rattle.pbf_blobs.specs.Header as header

or_false : (a : Bool) → a || false ≡ a
or_false true = refl
or_false false = refl

or_assoc : (a b c : Bool) → (a || b) || c ≡ a || (b || c)
or_assoc true b c = refl
or_assoc false b c = refl

found-all : (of : Message) (s : Found) (fields : List Entry) → fold (with_field of) s fields ≡ record {
  text = fold (λ found f. option_or (text_in 1 f) found) s.text fields;
  number = fold (λ found f. option_or (number_in 3 f) found) s.number fields;
  compressed = s.compressed || list_any blob.is_compressed fields;
  mistyped = s.mistyped || list_any (is_mistyped of) fields;
}
found-all of s [] = rw (or_false s.compressed, or_false s.mistyped) refl
found-all of s (f ∷ fields) =
    let rest = found-all of (with_field of s f) fields in
    rw (rest, or_assoc s.compressed (blob.is_compressed f) (list_any blob.is_compressed fields), or_assoc s.mistyped (is_mistyped of f) (list_any (is_mistyped of) fields)) refl

-- the raw block, by what was found
pub blob_told : (found : Found) (r : Result (List Entry) Wire) → Ok found ≡ found_in messages.Blob nothing r → raw_by found ≡ or_wire r >>= blob.raw_in
blob_told found (Ok fields) told = let same : found ≡ fold (with_field messages.Blob) nothing fields = cc in ap raw_by (same ∙ found-all messages.Blob nothing fields)
blob_told found (Err e) told = cc

-- the header, by what was found
pub header_told : (found : Found) (r : Result (List Entry) Wire) → Ok found ≡ found_in messages.BlobHeader nothing r → header_by found ≡ or_wire r >>= header.header_in
header_told found (Ok fields) told = let same : found ≡ fold (with_field messages.BlobHeader) nothing fields = cc in ap header_by (same ∙ found-all messages.BlobHeader nothing fields)
header_told found (Err e) told = cc

-- bytes that are no message
pub none_told : {A : Type 0} (of : Message) (read : List Entry → Result A Why) (e : Wire) (r : Result (List Entry) Wire) → Err e ≡ found_in of nothing r → or_wire r >>= read ≡ Err why.Wire
none_told of read e (Ok fields) told = cc
none_told of read e (Err f) told = refl
