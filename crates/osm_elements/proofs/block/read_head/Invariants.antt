use Rattle.std.proofs.Common.{◌≡◌, ◌-◌, ◌≤◌, length, map}
use Rattle.tb_types.specs.Results.{◌>>=◌}
use Rattle.osm_elements.specs.Fields.{fields_of, one_number, all_of, last_read, last_number, with_found}
use Rattle.osm_elements.specs.Heads.{some_strings}
use Rattle.osm_elements.proofs.Slots.{noted}
use Rattle.osm_elements.specs.Words.{seen_words}
use Rattle.osm_elements.proofs.block.read_head.Given as goal

abbrev pub invariant-loop-strings : goal.invariant-loop-strings
invariant-loop-strings l = record {
  within : l.at ≤ length l.raw;
  strings : noted with_found some_strings 1 l.raw (seen_words l.strings.items) l.at ≡ fields_of l.raw >>= all_of some_strings 1;
  unit : noted last_read one_number 17 l.raw l.unit l.at ≡ fields_of l.raw >>= last_number 17;
  lat : noted last_read one_number 19 l.raw l.lat l.at ≡ fields_of l.raw >>= last_number 19;
  lon : noted last_read one_number 20 l.raw l.lon l.at ≡ fields_of l.raw >>= last_number 20;
}

abbrev pub decreases-loop-strings : goal.decreases-loop-strings
decreases-loop-strings l = length l.raw - l.at
