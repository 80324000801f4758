use Rattle.std.proofs.Common.{◌≡◌, map, drop}
use Rattle.tb_wire.specs.Field.{entry_of}
use Rattle.osm_elements.specs.Fields.{all_of, one_body, with_found}
use Rattle.osm_elements.proofs.message.bodies.Given as goal

abbrev pub invariant-loop-field : goal.invariant-loop-field
invariant-loop-field l =
    with_found (map (λ b. b.now) l.bodies.items) (all_of one_body l.number (map entry_of (drop l.field-index l.fields))) ≡ all_of one_body l.number (map entry_of l.fields)
