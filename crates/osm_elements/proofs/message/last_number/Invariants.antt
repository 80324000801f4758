use Rattle.std.proofs.Common.{◌≡◌, map, drop}
use Rattle.tb_wire.specs.Field.{entry_of}
use Rattle.osm_elements.specs.Fields.{all_of, one_number, last_read, last_number}
use Rattle.osm_elements.proofs.message.last_number.Given as goal

abbrev pub invariant-loop-field : goal.invariant-loop-field
invariant-loop-field l =
    last_read l.last (all_of one_number l.number (map entry_of (drop l.field-index l.fields))) ≡ last_number l.number (map entry_of l.fields)
