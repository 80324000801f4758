-- A message that is walked field by field, and what is noted of each of them.
use Rattle.std.specs.Prelude.{◌≡◌, ℕ, Option, None, Some, Result, Ok, Err, List}
use Rattle.tb_wire.specs.declared.field.Field.{Field}
use Rattle.tb_wire.specs.Field.{entry_of, field_at}
use Rattle.osm_elements.specs.declared.fault.BlockErr.{BlockErr}
use Rattle.osm_elements.specs.declared.fault.BlockErr.TheVariants as faults
use Rattle.tb_types.specs.declared.damage.Why.{Why}
use Rattle.tb_types.specs.declared.damage.Why.TheVariants as reasons
use Rattle.tb_wire.specs.declared.varint.Wire.{Wire}

-- the field at a place, or the end, or no message
abbrev pub IsField : List ℕ → ℕ → Result (Option Field) BlockErr → Type 0
IsField bytes at (Ok None) = Ok None ≡ field_at bytes at
IsField bytes at (Ok (Some f)) = Ok (Some (entry_of f, f.next)) ≡ field_at bytes at
IsField bytes at (Err e) = (e ≡ faults.Bad reasons.Wire) × (w : Wire) × (Err w ≡ field_at bytes at)
