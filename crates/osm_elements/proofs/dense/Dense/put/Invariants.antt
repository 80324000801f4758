use Rattle.std.proofs.Common.{◌≡◌, ◌-◌, ◌≤◌, length}
use Rattle.tb_types.specs.Results.{◌>>=◌}
use Rattle.osm_elements.specs.Fields.{fields_of, some_numbers, numbers, with_found}
use Rattle.osm_elements.specs.DenseLists.{Four, behind, Hold}
use Rattle.osm_elements.proofs.Slots.{noted}
use Rattle.osm_elements.proofs.dense.Dense.put.Given as goal

abbrev pub invariant-loop-field : goal.invariant-loop-field
invariant-loop-field l = record {
  within : l.at ≤ length l.message;
  told : (more : Four) × (noted with_found some_numbers 1 l.message more.0 l.at ≡ fields_of l.message >>= numbers 1) × (noted with_found some_numbers 8 l.message more.1 l.at ≡ fields_of l.message >>= numbers 8)
      × (noted with_found some_numbers 9 l.message more.2 l.at ≡ fields_of l.message >>= numbers 9) × (noted with_found some_numbers 10 l.message more.3 l.at ≡ fields_of l.message >>= numbers 10)
      × ((before : Four) → Hold before l.fn.self → Hold (behind before more) l.self);
}

abbrev pub decreases-loop-field : goal.decreases-loop-field
decreases-loop-field l = length l.message - l.at
