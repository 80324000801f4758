use Rattle.std.proofs.Common.{◌≡◌, drop}
use Rattle.pmtiles_dirs.specs.Meta.{merged, merged_into}
use Rattle.pmtiles_dirs.specs.SeenFields.{seen_fields}
use Rattle.pmtiles_dirs.proofs.field.merged.Given as goal

abbrev pub invariant-loop-field : goal.invariant-loop-field
invariant-loop-field l = merged_into (seen_fields l.found.entries) (drop l.field-index l.fields) ≡ merged l.fields
