-- What the walks over messages of elements and blocks read, and what they are refused for.
use Rattle.std.proofs.Common.{◌≡◌, ℕ, Option, Result, Ok, Err, List}
use Rattle.tb_types.specs.declared.damage.Why.TheVariants as reasons
use Rattle.tb_types.specs.Results.{◌>>=◌}
use Rattle.osm_elements.specs.Fields.{fields_of, all_of, last_number, numbers}
use Rattle.osm_elements.specs.Heads.{some_strings, head_numbers}
use Rattle.osm_elements.specs.Numbered.{node_numbers, way_numbers, relation_numbers}
use Rattle.osm_elements.proofs.Slots.{last_number-only, numbers-only, strings-only, four_read, four_first, four_second, four_third, four_last, five_read, five_first, five_second, five_third, five_fourth, five_last}

pub way_read : (body : List ℕ) (id : Option ℕ) (keys : List ℕ) (values : List ℕ) (refs : List ℕ) → fields_of body >>= last_number 1 ≡ Ok id → fields_of body >>= numbers 2 ≡ Ok keys → fields_of body >>= numbers 3 ≡ Ok values → fields_of body >>= numbers 8 ≡ Ok refs → way_numbers body ≡ Ok (id, keys, values, refs)
way_read body = four_read (fields_of body) (last_number 1) (numbers 2) (numbers 3) (numbers 8) (last_number-only 1) (numbers-only 2) (numbers-only 3)

pub way_without_id : (body : List ℕ) → fields_of body >>= last_number 1 ≡ Err reasons.Wire → way_numbers body ≡ Err reasons.Wire
way_without_id body = four_first (fields_of body) (last_number 1) (numbers 2) (numbers 3) (numbers 8) (last_number-only 1) (numbers-only 2) (numbers-only 3)

pub way_without_keys : (body : List ℕ) → fields_of body >>= numbers 2 ≡ Err reasons.Wire → way_numbers body ≡ Err reasons.Wire
way_without_keys body = four_second (fields_of body) (last_number 1) (numbers 2) (numbers 3) (numbers 8) (last_number-only 1) (numbers-only 2) (numbers-only 3)

pub way_without_values : (body : List ℕ) → fields_of body >>= numbers 3 ≡ Err reasons.Wire → way_numbers body ≡ Err reasons.Wire
way_without_values body = four_third (fields_of body) (last_number 1) (numbers 2) (numbers 3) (numbers 8) (last_number-only 1) (numbers-only 2) (numbers-only 3)

pub way_without_refs : (body : List ℕ) → fields_of body >>= numbers 8 ≡ Err reasons.Wire → way_numbers body ≡ Err reasons.Wire
way_without_refs body = four_last (fields_of body) (last_number 1) (numbers 2) (numbers 3) (numbers 8) (last_number-only 1) (numbers-only 2) (numbers-only 3)

pub relation_read : (body : List ℕ) (id : Option ℕ) (keys : List ℕ) (values : List ℕ) (ids : List ℕ) (kinds : List ℕ) → fields_of body >>= last_number 1 ≡ Ok id → fields_of body >>= numbers 2 ≡ Ok keys → fields_of body >>= numbers 3 ≡ Ok values → fields_of body >>= numbers 9 ≡ Ok ids → fields_of body >>= numbers 10 ≡ Ok kinds → relation_numbers body ≡ Ok (id, keys, values, ids, kinds)
relation_read body = five_read (fields_of body) (last_number 1) (numbers 2) (numbers 3) (numbers 9) (numbers 10) (last_number-only 1) (numbers-only 2) (numbers-only 3) (numbers-only 9)

pub relation_without_id : (body : List ℕ) → fields_of body >>= last_number 1 ≡ Err reasons.Wire → relation_numbers body ≡ Err reasons.Wire
relation_without_id body = five_first (fields_of body) (last_number 1) (numbers 2) (numbers 3) (numbers 9) (numbers 10) (last_number-only 1) (numbers-only 2) (numbers-only 3) (numbers-only 9)

pub relation_without_keys : (body : List ℕ) → fields_of body >>= numbers 2 ≡ Err reasons.Wire → relation_numbers body ≡ Err reasons.Wire
relation_without_keys body = five_second (fields_of body) (last_number 1) (numbers 2) (numbers 3) (numbers 9) (numbers 10) (last_number-only 1) (numbers-only 2) (numbers-only 3) (numbers-only 9)

pub relation_without_values : (body : List ℕ) → fields_of body >>= numbers 3 ≡ Err reasons.Wire → relation_numbers body ≡ Err reasons.Wire
relation_without_values body = five_third (fields_of body) (last_number 1) (numbers 2) (numbers 3) (numbers 9) (numbers 10) (last_number-only 1) (numbers-only 2) (numbers-only 3) (numbers-only 9)

pub relation_without_ids : (body : List ℕ) → fields_of body >>= numbers 9 ≡ Err reasons.Wire → relation_numbers body ≡ Err reasons.Wire
relation_without_ids body = five_fourth (fields_of body) (last_number 1) (numbers 2) (numbers 3) (numbers 9) (numbers 10) (last_number-only 1) (numbers-only 2) (numbers-only 3) (numbers-only 9)

pub relation_without_kinds : (body : List ℕ) → fields_of body >>= numbers 10 ≡ Err reasons.Wire → relation_numbers body ≡ Err reasons.Wire
relation_without_kinds body = five_last (fields_of body) (last_number 1) (numbers 2) (numbers 3) (numbers 9) (numbers 10) (last_number-only 1) (numbers-only 2) (numbers-only 3) (numbers-only 9)

pub node_read : (body : List ℕ) (id : Option ℕ) (keys : List ℕ) (values : List ℕ) (lat : Option ℕ) (lon : Option ℕ) → fields_of body >>= last_number 1 ≡ Ok id → fields_of body >>= numbers 2 ≡ Ok keys → fields_of body >>= numbers 3 ≡ Ok values → fields_of body >>= last_number 8 ≡ Ok lat → fields_of body >>= last_number 9 ≡ Ok lon → node_numbers body ≡ Ok (id, keys, values, lat, lon)
node_read body = five_read (fields_of body) (last_number 1) (numbers 2) (numbers 3) (last_number 8) (last_number 9) (last_number-only 1) (numbers-only 2) (numbers-only 3) (last_number-only 8)

pub node_without_id : (body : List ℕ) → fields_of body >>= last_number 1 ≡ Err reasons.Wire → node_numbers body ≡ Err reasons.Wire
node_without_id body = five_first (fields_of body) (last_number 1) (numbers 2) (numbers 3) (last_number 8) (last_number 9) (last_number-only 1) (numbers-only 2) (numbers-only 3) (last_number-only 8)

pub node_without_keys : (body : List ℕ) → fields_of body >>= numbers 2 ≡ Err reasons.Wire → node_numbers body ≡ Err reasons.Wire
node_without_keys body = five_second (fields_of body) (last_number 1) (numbers 2) (numbers 3) (last_number 8) (last_number 9) (last_number-only 1) (numbers-only 2) (numbers-only 3) (last_number-only 8)

pub node_without_values : (body : List ℕ) → fields_of body >>= numbers 3 ≡ Err reasons.Wire → node_numbers body ≡ Err reasons.Wire
node_without_values body = five_third (fields_of body) (last_number 1) (numbers 2) (numbers 3) (last_number 8) (last_number 9) (last_number-only 1) (numbers-only 2) (numbers-only 3) (last_number-only 8)

pub node_without_lat : (body : List ℕ) → fields_of body >>= last_number 8 ≡ Err reasons.Wire → node_numbers body ≡ Err reasons.Wire
node_without_lat body = five_fourth (fields_of body) (last_number 1) (numbers 2) (numbers 3) (last_number 8) (last_number 9) (last_number-only 1) (numbers-only 2) (numbers-only 3) (last_number-only 8)

pub node_without_lon : (body : List ℕ) → fields_of body >>= last_number 9 ≡ Err reasons.Wire → node_numbers body ≡ Err reasons.Wire
node_without_lon body = five_last (fields_of body) (last_number 1) (numbers 2) (numbers 3) (last_number 8) (last_number 9) (last_number-only 1) (numbers-only 2) (numbers-only 3) (last_number-only 8)

pub head_read : (body : List ℕ) (strings : List (List ℕ)) (unit : Option ℕ) (lat : Option ℕ) (lon : Option ℕ) → fields_of body >>= all_of some_strings 1 ≡ Ok strings → fields_of body >>= last_number 17 ≡ Ok unit → fields_of body >>= last_number 19 ≡ Ok lat → fields_of body >>= last_number 20 ≡ Ok lon → head_numbers body ≡ Ok (strings, unit, lat, lon)
head_read body = four_read (fields_of body) (all_of some_strings 1) (last_number 17) (last_number 19) (last_number 20) (strings-only 1) (last_number-only 17) (last_number-only 19)

pub head_without_strings : (body : List ℕ) → fields_of body >>= all_of some_strings 1 ≡ Err reasons.Wire → head_numbers body ≡ Err reasons.Wire
head_without_strings body = four_first (fields_of body) (all_of some_strings 1) (last_number 17) (last_number 19) (last_number 20) (strings-only 1) (last_number-only 17) (last_number-only 19)

pub head_without_unit : (body : List ℕ) → fields_of body >>= last_number 17 ≡ Err reasons.Wire → head_numbers body ≡ Err reasons.Wire
head_without_unit body = four_second (fields_of body) (all_of some_strings 1) (last_number 17) (last_number 19) (last_number 20) (strings-only 1) (last_number-only 17) (last_number-only 19)

pub head_without_lat : (body : List ℕ) → fields_of body >>= last_number 19 ≡ Err reasons.Wire → head_numbers body ≡ Err reasons.Wire
head_without_lat body = four_third (fields_of body) (all_of some_strings 1) (last_number 17) (last_number 19) (last_number 20) (strings-only 1) (last_number-only 17) (last_number-only 19)

pub head_without_lon : (body : List ℕ) → fields_of body >>= last_number 20 ≡ Err reasons.Wire → head_numbers body ≡ Err reasons.Wire
head_without_lon body = four_last (fields_of body) (all_of some_strings 1) (last_number 17) (last_number 19) (last_number 20) (strings-only 1) (last_number-only 17) (last_number-only 19)
