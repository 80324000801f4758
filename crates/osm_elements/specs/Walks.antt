-- What a message has of one number, read from a place on.
use Rattle.std.specs.Prelude.{◌≡◌, ℕ, Option, None, Some, Result, Ok, Err, List, [], ◌∷◌, ◌++◌}
use Rattle.std.specs.Borrow.{Bor}
use Rattle.tb_types.specs.declared.damage.Why.{Why}
use Rattle.tb_wire.specs.Field.{Entry}
use Rattle.tb_wire.specs.Message.{message_at}
use Rattle.osm_elements.specs.declared.fault.BlockErr.{BlockErr}
use Rattle.osm_elements.specs.declared.granularity.Granularity.{Granularity}
use Rattle.tb_types.specs.Results.{◌>>=◌}
use Rattle.osm_elements.specs.Reasons.{IsStop}
use Rattle.osm_elements.specs.Fields.{or_wire, fields_of, bodies}
use Rattle.osm_elements.specs.Dense.{dense_of}
use Rattle.osm_elements.specs.Block.{Found, every}

-- the bytes of each field of a number, from a place of the message on
unfoldable pub bodies_at : ℕ → List ℕ → ℕ → Result (List (List ℕ)) Why
bodies_at n bytes at = or_wire (message_at bytes at) >>= bodies n

-- such bytes, and then those of the later fields
abbrev pub with_body : List ℕ → Result (List (List ℕ)) Why → Result (List (List ℕ)) Why
with_body body later = later >>= λ bodies. Ok (body ∷ bodies)

-- the next of them and the place behind it, or that none is left
abbrev pub IsNext : ℕ → List ℕ → ℕ → Result (Option (Bor (List ℕ) × ℕ)) BlockErr → Type 0
IsNext n bytes at (Ok None) = bodies_at n bytes at ≡ Ok []
IsNext n bytes at (Ok (Some found)) = bodies_at n bytes at ≡ with_body found.0.now (bodies_at n bytes found.1)
IsNext n bytes at (Err e) = IsStop e (bodies_at n bytes at)

-- what the messages of a number say, from a place on
abbrev pub each_from : (List ℕ → Found) → ℕ → List ℕ → ℕ → Found
each_from read n bytes at = bodies_at n bytes at >>= every read

-- the fields of all messages, one after another
abbrev pub fields_in : List (List ℕ) → Result (List Entry) Why
fields_in [] = Ok []
fields_in (body ∷ bodies) = fields_of body >>= λ these. fields_in bodies >>= λ later. Ok (these ++ later)

-- the fields of all messages of a number
abbrev pub merged_fields_in : ℕ → List ℕ → Result (List Entry) Why
merged_fields_in n bytes = bodies_at n bytes 0 >>= fields_in

-- the dense nodes of a group
abbrev pub dense_in : List (List ℕ) → Granularity → List ℕ → Found
dense_in strings granularity group = merged_fields_in 2 group >>= dense_of strings granularity
