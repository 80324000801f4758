-- The entries of a map of fields as a list of fields.
use Rattle.std.specs.Prelude.{ℕ, List, map}
use denote.Ref.{Bor}
use Rattle.tb_types.specs.declared.attribute.FieldKind.{FieldKind}
use Rattle.pmtiles_dirs.specs.Meta.{Field}

abbrev pub seen_fields : List (Bor (List ℕ) × FieldKind) → List Field
seen_fields entries = map (λ e. (e.0.now, e.1)) entries
