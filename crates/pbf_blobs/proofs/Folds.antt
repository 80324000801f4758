-- The fields of a message are read one by one: what is found from a place on begins with the field there.
use Rattle.std.proofs.Common.{◌≡◌, ℕ, ◌≤◌, None, Some, Result, Ok, Err, List, ◌∷◌, length, refl, sym, ap, ◌∙◌}
use Rattle.tb_wire.specs.declared.varint.Wire.{Wire}
use Rattle.tb_wire.specs.declared.field.Field.{Field}
use Rattle.tb_wire.specs.Field.{Entry, entry_of, field_at}
use Rattle.tb_wire.specs.Items.{◌>>=◌, with_rest}
use Rattle.tb_wire.specs.Message.{message_at}
use Rattle.tb_wire.proofs.Messages.{message_at-step}
use Rattle.pbf_blobs.specs.declared.message.Message.{Message}
use Rattle.pbf_blobs.specs.Messages.{Found, with_field, found_in}

found-cons : (of : Message) (s : Found) (f : Entry) (left : Result (List Entry) Wire) → found_in of s (left >>= λ rest. Ok (f ∷ rest)) ≡ found_in of (with_field of s f) left
found-cons of s f (Ok rest) = refl
found-cons of s f (Err e) = refl

-- a field that was read
pub found-field : (of : Message) (s : Found) (bytes : List ℕ) (at : ℕ) (f : Field) → at ≤ length bytes → Ok (Some (entry_of f, f.next)) ≡ field_at bytes at
    → found_in of s (message_at bytes at) ≡ found_in of (with_field of s (entry_of f)) (message_at bytes f.next)
found-field of s bytes at f h read =
    let step : message_at bytes at ≡ message_at bytes f.next >>= λ rest. Ok (entry_of f ∷ rest) =
    message_at-step bytes at h ∙ ap (λ r. r >>= with_rest (message_at bytes)) (sym read) in
    ap (found_in of s) step ∙ found-cons of s (entry_of f) (message_at bytes f.next)

-- no field where one should stand
pub found-none : (of : Message) (s : Found) (bytes : List ℕ) (at : ℕ) (e : Wire) → at ≤ length bytes → Err e ≡ field_at bytes at → found_in of s (message_at bytes at) ≡ Err e
found-none of s bytes at e h read = ap (found_in of s) (message_at-step bytes at h ∙ ap (λ r. r >>= with_rest (message_at bytes)) (sym read))

-- the end
pub found-end : (of : Message) (s : Found) (bytes : List ℕ) (at : ℕ) → at ≤ length bytes → Ok None ≡ field_at bytes at → found_in of s (message_at bytes at) ≡ Ok s
found-end of s bytes at h read = ap (found_in of s) (message_at-step bytes at h ∙ ap (λ r. r >>= with_rest (message_at bytes)) (sym read))
