use Rattle.std.proofs.Common.{◌≡◌, ℕ, ℤ, List, ◌-◌, ◌≤◌, length}
use Rattle.tb_types.specs.Results.{◌>>=◌}
use Rattle.osm_elements.specs.Fields.{fields_of, one_number, some_numbers, last_read, last_number, numbers, with_found}
use Rattle.osm_elements.specs.Sums.{IsSummed}
use Rattle.osm_elements.proofs.Slots.{noted}
use Rattle.osm_elements.proofs.relation.read_relation.Given as goal

abbrev pub invariant-loop-field : goal.invariant-loop-field
invariant-loop-field l = record {
  within : l.at ≤ length l.body;
  id : noted last_read one_number 1 l.body l.id l.at ≡ fields_of l.body >>= last_number 1;
  keys : noted with_found some_numbers 2 l.body l.numbers.keys.items l.at ≡ fields_of l.body >>= numbers 2;
  values : noted with_found some_numbers 3 l.body l.numbers.values.items l.at ≡ fields_of l.body >>= numbers 3;
  ids : (differences : List ℕ) × (noted with_found some_numbers 9 l.body differences l.at ≡ fields_of l.body >>= numbers 9) × IsSummed (λ (n : ℤ). n) differences l.ids;
  kinds : noted with_found some_numbers 10 l.body l.numbers.kinds.items l.at ≡ fields_of l.body >>= numbers 10;
}

abbrev pub decreases-loop-field : goal.decreases-loop-field
decreases-loop-field l = length l.body - l.at
