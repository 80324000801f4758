use Rattle.std.proofs.Common.{◌≡◌, map, drop}
use Rattle.tb_wire.specs.Field.{entry_of}
use Rattle.osm_elements.specs.Fields.{all_of, some_fields, with_found}
use Rattle.osm_elements.proofs.message.merged_fields.Given as goal

abbrev pub invariant-loop-field : goal.invariant-loop-field
invariant-loop-field l =
    with_found (map entry_of l.merged_fields.items) (all_of some_fields l.number (map entry_of (drop l.field-index l.fields))) ≡ all_of some_fields l.number (map entry_of l.fields)
