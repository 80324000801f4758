-- Worked blocks that the definitions were check_of on.
use Rattle.std.specs.Prelude.{◌≡◌, ℕ, pos, Some, Result, Ok, Err, List, [], ◌∷◌, ◌++◌, codes, length}
use Rattle.tb_types.specs.declared.damage.Why.TheVariants as reasons
use Rattle.tb_types.specs.declared.damage.Why.{Why}
use Rattle.tb_types.specs.declared.element.OsmId.{OsmId}
use Rattle.tb_wire.specs.Field.{Entry}
use Rattle.osm_elements.specs.declared.granularity.Granularity.{Granularity}
use Rattle.osm_elements.specs.declared.element.Member.{Member}
use Rattle.osm_elements.specs.Fields.{numbers}
use Rattle.osm_elements.specs.Tags.{Tag, tags_of}
use Rattle.osm_elements.specs.Dense.{dense_tags, dense_lists, dense_of}
use Rattle.osm_elements.specs.Elements.{Element, node, relation, osm_id, relation_in}
use Rattle.osm_elements.specs.Block.{Found, elements_of}

-- node 1 at latitude 0 and longitude 0, `amenity=cafe`
abbrev pub cafe_block : List ℕ
cafe_block =
    10 ∷ 17 ∷ 10 ∷ 0 ∷ 10 ∷ 7 ∷ codes "amenity" ++ 10 ∷ 4 ∷ codes "cafe" ++ 18 ∷ 14 ∷ 10 ∷ 12 ∷ 8 ∷ 2 ∷ 18 ∷ 1 ∷ 1 ∷ 26 ∷ 1 ∷ 2 ∷ 64 ∷ 0 ∷ 72 ∷ 0 ∷ []

abbrev pub cafe : Found
cafe = Ok (node (osm_id (pos 1)) (Some (record { lat = pos 0; lon = pos 0 })) ((codes "amenity", codes "cafe") ∷ []) ∷ [])

-- an index past the table in one group, and in the next a node without a latitude
abbrev pub two_faults : List ℕ
two_faults =
    10 ∷ 2 ∷ 10 ∷ 0 ∷ 18 ∷ 14 ∷ 10 ∷ 12 ∷ 8 ∷ 2 ∷ 18 ∷ 1 ∷ 1 ∷ 26 ∷ 1 ∷ 0 ∷ 64 ∷ 0 ∷ 72 ∷ 0 ∷ 18 ∷ 6 ∷ 10 ∷ 4 ∷ 8 ∷ 2 ∷ 72 ∷ 0 ∷ []

-- two messages of dense nodes in one group: ids 10 and 1 more, each once
abbrev pub dense_twice : List ℕ
dense_twice =
    18 ∷ 22 ∷ 18 ∷ 9 ∷ 10 ∷ 1 ∷ 20 ∷ 66 ∷ 1 ∷ 2 ∷ 74 ∷ 1 ∷ 4 ∷ 18 ∷ 9 ∷ 10 ∷ 1 ∷ 2 ∷ 66 ∷ 1 ∷ 1 ∷ 74 ∷ 1 ∷ 0 ∷ []

abbrev pub dense_nodes : Found
dense_nodes =
    Ok (node (osm_id (pos 10)) (Some (record { lat = pos 100; lon = pos 200 })) [] ∷ node (osm_id (pos 11)) (Some (record { lat = pos 0; lon = pos 200 })) [] ∷ [])

abbrev pub missing : Found
missing = Err reasons.Missing

pub record WorkedBlocks : Type 0 where
  pub one_cafe : elements_of cafe_block ≡ cafe
  pub missing_before_index : elements_of two_faults ≡ missing
  pub dense_goes_on : elements_of dense_twice ≡ dense_nodes

-- a table of strings: nothing, "k" and "v"
abbrev pub table : List (List ℕ)
table = [] ∷ codes "k" ∷ codes "v" ∷ []

-- what the list of keys and values says of the tags of dense nodes with these ids
abbrev pub tags_for : List ℕ → List ℕ → Result (List (List Tag)) Why
tags_for ids pairs = dense_tags table ids pairs

abbrev pub refused : {A : Type 0} → Why → Result A Why
refused why = Err why

abbrev pub read : {A : Type 0} → A → Result A Why
read x = Ok x

abbrev pub one_tag : List Tag
one_tag = (codes "k", codes "v") ∷ []

-- a list of keys and values is a run for each node, or empty
pub record WorkedRuns : Type 0 where
  pub none_at_all : tags_for (2 ∷ 2 ∷ []) [] ≡ read ([] ∷ [] ∷ [])
  pub no_nodes : tags_for [] [] ≡ read []
  pub one_run : tags_for (2 ∷ []) (1 ∷ 2 ∷ 0 ∷ []) ≡ read (one_tag ∷ [])
  pub two_runs : tags_for (2 ∷ 2 ∷ []) (0 ∷ 1 ∷ 2 ∷ 0 ∷ []) ≡ read ([] ∷ one_tag ∷ [])
  pub value_0 : tags_for (2 ∷ []) (1 ∷ 0 ∷ 0 ∷ []) ≡ read (((codes "k", []) ∷ []) ∷ [])
  pub value_0_and_a_run : tags_for (2 ∷ 2 ∷ []) (1 ∷ 0 ∷ 0 ∷ 0 ∷ []) ≡ read (((codes "k", []) ∷ []) ∷ [] ∷ [])
  pub pair_behind_the_last : tags_for (2 ∷ []) (1 ∷ 2 ∷ 0 ∷ 1 ∷ 2 ∷ []) ≡ refused reasons.Uneven
  pub key_behind_the_last : tags_for (2 ∷ []) (0 ∷ 1 ∷ []) ≡ refused reasons.Uneven
  pub run_behind_the_last : tags_for (2 ∷ []) (0 ∷ 0 ∷ []) ≡ refused reasons.Uneven
  pub pair_of_no_node : tags_for [] (1 ∷ 2 ∷ []) ≡ refused reasons.Uneven
  pub run_of_no_node : tags_for [] (0 ∷ []) ≡ refused reasons.Uneven
  pub run_too_few : tags_for (2 ∷ 2 ∷ []) (1 ∷ 2 ∷ 0 ∷ []) ≡ refused reasons.Uneven
  pub pair_without_end : tags_for (2 ∷ []) (1 ∷ 2 ∷ []) ≡ refused reasons.Uneven
  pub key_without_value : tags_for (2 ∷ []) (1 ∷ []) ≡ refused reasons.Uneven
  pub cut_in_the_second : tags_for (2 ∷ 2 ∷ []) (0 ∷ 1 ∷ 2 ∷ []) ≡ refused reasons.Uneven
  pub uneven_before_index : tags_for (2 ∷ []) (9 ∷ 9 ∷ 0 ∷ 1 ∷ 2 ∷ []) ≡ refused reasons.Uneven
  pub index : tags_for (2 ∷ []) (1 ∷ 3 ∷ 0 ∷ []) ≡ refused reasons.Index
  pub negative_key : tags_for (2 ∷ []) (18446744073709551615 ∷ 1 ∷ 0 ∷ []) ≡ refused reasons.Index
  pub negative_value : tags_for (2 ∷ []) (1 ∷ 4294967295 ∷ 0 ∷ []) ≡ refused reasons.Index
  pub low_bits : tags_for (2 ∷ []) (4294967297 ∷ 2 ∷ 4294967296 ∷ []) ≡ read (one_tag ∷ [])

-- lists that belong together have one length
pub record WorkedLists : Type 0 where
  pub few_latitudes : dense_lists table (2 ∷ 2 ∷ []) (0 ∷ []) (0 ∷ 0 ∷ []) [] ≡ refused reasons.Uneven
  pub few_longitudes : dense_lists table (2 ∷ 2 ∷ []) (0 ∷ 0 ∷ []) (0 ∷ []) [] ≡ refused reasons.Uneven
  pub many_latitudes : dense_lists table (2 ∷ []) (0 ∷ 0 ∷ []) (0 ∷ []) [] ≡ refused reasons.Uneven
  pub no_ids : dense_lists table [] (0 ∷ []) (0 ∷ []) [] ≡ refused reasons.Uneven
  pub key_alone : tags_of table (1 ∷ 1 ∷ []) (2 ∷ []) ≡ refused reasons.Uneven
  pub value_alone : tags_of table (1 ∷ []) (2 ∷ 2 ∷ []) ≡ refused reasons.Uneven
  pub values_of_no_keys : tags_of table [] (2 ∷ []) ≡ refused reasons.Uneven

pub record Worked : Type 0 where
  pub blocks : WorkedBlocks
  pub runs : WorkedRuns
  pub lists : WorkedLists

-- What is read has something for each number that stands: no shorter list cuts a longer one.
pub record NothingDropped : Type 0 where
  pub nodes : (strings : List (List ℕ)) (granularity : Granularity) (fields : List Entry) (ids lats lons : List ℕ) (nodes : List Element)
      → numbers 1 fields ≡ Ok ids → numbers 8 fields ≡ Ok lats → numbers 9 fields ≡ Ok lons → dense_of strings granularity fields ≡ Ok nodes
      → (length nodes ≡ length ids) × (length nodes ≡ length lats) × (length nodes ≡ length lons)
  pub members : (strings : List (List ℕ)) (fields : List Entry) (ids kinds : List ℕ) (id : OsmId) (tags : List Tag) (members : List Member)
      → numbers 9 fields ≡ Ok ids → numbers 10 fields ≡ Ok kinds → relation_in strings fields ≡ Ok (relation id tags members)
      → (length members ≡ length ids) × (length members ≡ length kinds)
