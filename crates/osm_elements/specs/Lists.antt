-- The lists of dense nodes as the code has them, with the pairs of the tags in place of the tags.
use Rattle.std.specs.Prelude.{ℕ, ℤ, ◌==◌, ◌&&◌, if◌then◌else◌, Result, Ok, Err, List, [], ◌∷◌, length, pos, get_or}
use Rattle.tb_types.specs.declared.damage.Why.{Why}
use Rattle.tb_types.specs.declared.damage.Why.TheVariants as reasons
use Rattle.tb_wire.specs.Field.{Entry}
use Rattle.tb_types.specs.Results.{◌>>=◌}
use Rattle.osm_elements.specs.Fields.{numbers}
use Rattle.osm_elements.specs.Tags.{Tag}
use Rattle.osm_elements.specs.Granularity.{sums, place}
use Rattle.osm_elements.specs.Dense.{first_run, dense_tags}
use Rattle.osm_elements.specs.Elements.{Element, node, osm_id}
use Rattle.osm_elements.specs.Runs.{check_of}
use Rattle.osm_elements.specs.declared.granularity.Granularity.{Granularity}
use Rattle.osm_elements.specs.declared.dense.Dense.{Dense}

-- ids, latitudes, longitudes, and the pairs of the tags
abbrev pub DenseLists : Type 0
DenseLists = List ℤ × List ℤ × List ℤ × List ℕ

abbrev pub lists_of : List (List ℕ) → List ℕ → List ℕ → List ℕ → List ℕ → Result DenseLists Why
lists_of strings ids lats lons pairs =
    if (length ids == length lats) && (length ids == length lons) then
    (check_of (dense_tags strings ids pairs) >>= λ _. sums ids >>= λ ids. sums lats >>= λ lats. sums lons >>= λ lons. Ok (ids, lats, lons, pairs))
    else Err reasons.Uneven

-- the lists of a message with these fields, if its tags and its sums can be read
abbrev pub lists_in : List (List ℕ) → List Entry → Result DenseLists Why
lists_in strings fields =
    numbers 1 fields >>= λ ids. numbers 8 fields >>= λ lats. numbers 9 fields >>= λ lons. numbers 10 fields >>= λ pairs. lists_of strings ids lats lons pairs

-- nodes without tags, as far as all lists go
abbrev pub bare_nodes : Granularity → List ℤ → List ℤ → List ℤ → List Element
bare_nodes granularity (id ∷ ids) (lat ∷ lats) (lon ∷ lons) = node (osm_id id) (place granularity lat lon) [] ∷ bare_nodes granularity ids lats lons
bare_nodes granularity _ _ _ = []

-- a node with the tags of the first run, and then those behind it
abbrev pub with_node : (List Tag → Element) → (List ℕ → Result (List Element) Why) → List Tag × List ℕ → Result (List Element) Why
with_node first others run = others run.1 >>= λ later. Ok (first run.0 ∷ later)

-- nodes with the tags of these runs, as far as all lists go
abbrev pub tagged_nodes : List (List ℕ) → Granularity → List ℤ → List ℤ → List ℤ → List ℕ → Result (List Element) Why
tagged_nodes strings granularity (id ∷ ids) (lat ∷ lats) (lon ∷ lons) pairs =
    first_run strings [] pairs >>= with_node (node (osm_id id) (place granularity lat lon)) (tagged_nodes strings granularity ids lats lons)
tagged_nodes strings granularity _ _ _ pairs = Ok []

abbrev pub nodes_of : List (List ℕ) → Granularity → DenseLists → Result (List Element) Why
nodes_of strings granularity l = if length l.3 == 0 then Ok (bare_nodes granularity l.0 l.1 l.2) else tagged_nodes strings granularity l.0 l.1 l.2 l.3

abbrev pub seen_lists : Dense → DenseLists
seen_lists d = (d.ids.items.items, d.lats.items.items, d.lons.items.items, d.pairs.items)

-- the node of a place in the lists
abbrev pub place_node : Granularity → Dense → ℕ → List Tag → Element
place_node granularity d i tags = node (osm_id (get_or d.ids.items.items i (pos 0))) (place granularity (get_or d.lats.items.items i (pos 0)) (get_or d.lons.items.items i (pos 0))) tags
