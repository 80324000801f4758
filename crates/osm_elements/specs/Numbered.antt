-- The numbers that a message of an element has, before they are looked into.
use Rattle.std.specs.Prelude.{ℕ, ℤ, Option, Result, Ok, List, length, map}
use Rattle.tb_types.specs.declared.damage.Why.{Why}
use Rattle.tb_types.specs.declared.element.OsmId.{OsmId}
use Rattle.tb_types.specs.Results.{◌>>=◌}
use Rattle.osm_elements.specs.Fields.{fields_of, last_number, numbers}
use Rattle.osm_elements.specs.Granularity.{sums}
use Rattle.osm_elements.specs.Elements.{osm_id}

-- a node: its id, the indexes of keys and values, its latitude and its longitude
abbrev pub node_numbers : List ℕ → Result (Option ℕ × List ℕ × List ℕ × Option ℕ × Option ℕ) Why
node_numbers body =
    fields_of body >>= λ fields. last_number 1 fields >>= λ id. numbers 2 fields >>= λ keys. numbers 3 fields >>= λ values.
    last_number 8 fields >>= λ lat. last_number 9 fields >>= λ lon. Ok (id, keys, values, lat, lon)

-- a way: its id, the indexes, and the differences of refs
abbrev pub way_numbers : List ℕ → Result (Option ℕ × List ℕ × List ℕ × List ℕ) Why
way_numbers body =
    fields_of body >>= λ fields. last_number 1 fields >>= λ id. numbers 2 fields >>= λ keys. numbers 3 fields >>= λ values.
    numbers 8 fields >>= λ refs. Ok (id, keys, values, refs)

-- a relation: its id, the indexes, the differences of its members' ids, and their kinds
abbrev pub relation_numbers : List ℕ → Result (Option ℕ × List ℕ × List ℕ × List ℕ × List ℕ) Why
relation_numbers body =
    fields_of body >>= λ fields. last_number 1 fields >>= λ id. numbers 2 fields >>= λ keys. numbers 3 fields >>= λ values.
    numbers 9 fields >>= λ ids. numbers 10 fields >>= λ kinds. Ok (id, keys, values, ids, kinds)

-- the ids whose differences these are
abbrev pub ids_of : List ℕ → Result (List OsmId) Why
ids_of differences = sums differences >>= λ ns. Ok (map osm_id ns)

-- a way with its ids in place of their differences, or why they are none
abbrev pub way_sums : Option ℕ × List ℕ × List ℕ × List ℕ → Result (Option ℕ × List ℕ × List ℕ × Result (List OsmId) Why) Why
way_sums n = Ok (n.0, n.1, n.2, ids_of n.3)

abbrev pub way_summed : List ℕ → Result (Option ℕ × List ℕ × List ℕ × Result (List OsmId) Why) Why
way_summed body = way_numbers body >>= way_sums

-- a relation with how many ids its members have and these, or why they are none
abbrev pub relation_sums : Option ℕ × List ℕ × List ℕ × List ℕ × List ℕ → Result (Option ℕ × List ℕ × List ℕ × ℕ × Result (List ℤ) Why × List ℕ) Why
relation_sums n = Ok (n.0, n.1, n.2, length n.3, sums n.3, n.4)

abbrev pub relation_summed : List ℕ → Result (Option ℕ × List ℕ × List ℕ × ℕ × Result (List ℤ) Why × List ℕ) Why
relation_summed body = relation_numbers body >>= relation_sums
