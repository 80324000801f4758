-- What a DenseNodes message says: lists of ids, of latitudes and of longitudes by differences, and the tags of all nodes
-- in one list.
use Rattle.std.specs.Prelude.{ℕ, zero, suc, ℤ, ◌==◌, ◌&&◌, if◌then◌else◌, Result, Ok, Err, List, [], ◌∷◌, length, map}
use Rattle.tb_types.specs.declared.damage.Why.{Why}
use Rattle.tb_types.specs.declared.damage.Why.TheVariants as reasons
use Rattle.tb_wire.specs.Field.{Entry}
use Rattle.tb_types.specs.Results.{◌>>=◌}
use Rattle.osm_elements.specs.Fields.{numbers}
use Rattle.osm_elements.specs.Signed.{low_32}
use Rattle.osm_elements.specs.Tags.{Tag, with_signed_pair}
use Rattle.osm_elements.specs.Granularity.{sums, place}
use Rattle.osm_elements.specs.Elements.{Element, node, osm_id}
use Rattle.osm_elements.specs.declared.granularity.Granularity.{Granularity}

-- what stands behind the first run of pairs, which a key 0 ends
abbrev pub behind_run : List ℕ → Result (List ℕ) Why
behind_run [] = Err reasons.Uneven
behind_run (k ∷ []) = if low_32 k == 0 then Ok [] else Err reasons.Uneven
behind_run (k ∷ v ∷ more) = if low_32 k == 0 then Ok (v ∷ more) else behind_run more

-- so many runs of pairs, and nothing behind the last
abbrev pub are_runs : ℕ → List ℕ → Result (Unit {0}) Why
are_runs zero [] = Ok tt
are_runs zero (k ∷ more) = Err reasons.Uneven
are_runs (suc n) pairs = behind_run pairs >>= are_runs n

-- the tags of the first run, which has these tags already, and what stands behind it
abbrev pub first_run : List (List ℕ) → List Tag → List ℕ → Result (List Tag × List ℕ) Why
first_run strings tags [] = Err reasons.Uneven
first_run strings tags (k ∷ []) = if low_32 k == 0 then Ok (tags, []) else Err reasons.Uneven
first_run strings tags (k ∷ v ∷ more) =
    if low_32 k == 0 then Ok (tags, v ∷ more) else with_signed_pair strings tags k v >>= λ joined. first_run strings joined more

-- the tags of so many runs, and nothing behind the last
abbrev pub tag_lists : List (List ℕ) → ℕ → List ℕ → Result (List (List Tag)) Why
tag_lists strings zero [] = Ok []
tag_lists strings zero (k ∷ more) = Err reasons.Uneven
tag_lists strings (suc n) pairs = first_run strings [] pairs >>= λ run. tag_lists strings n run.1 >>= λ later. Ok (run.0 ∷ later)

abbrev pub no_tags_for : List ℕ → List (List Tag)
no_tags_for ids = map (λ _. []) ids

-- The tags of the nodes of these ids. An empty list means that no node has any; else it is a run for each.
abbrev pub dense_tags : List (List ℕ) → List ℕ → List ℕ → Result (List (List Tag)) Why
dense_tags strings ids pairs =
    if length pairs == 0 then Ok (no_tags_for ids) else are_runs (length ids) pairs >>= λ _. tag_lists strings (length ids) pairs

-- the nodes of lists of one length, place by place
abbrev pub nodes_along : Granularity → List ℤ → List ℤ → List ℤ → List (List Tag) → List Element
nodes_along granularity (id ∷ ids) (lat ∷ lats) (lon ∷ lons) (t ∷ tags) = node (osm_id id) (place granularity lat lon) t ∷ nodes_along granularity ids lats lons tags
nodes_along granularity _ _ _ _ = []

abbrev pub dense_lists : List (List ℕ) → List ℕ → List ℕ → List ℕ → List ℕ → Result (List ℤ × List ℤ × List ℤ × List (List Tag)) Why
dense_lists strings ids lats lons pairs =
    if (length ids == length lats) && (length ids == length lons) then
    (dense_tags strings ids pairs >>= λ tags. sums ids >>= λ ids. sums lats >>= λ lats. sums lons >>= λ lons. Ok (ids, lats, lons, tags))
    else Err reasons.Uneven

-- the lists of a message with these fields
abbrev pub lists_in : List (List ℕ) → List Entry → Result (List ℤ × List ℤ × List ℤ × List (List Tag)) Why
lists_in strings fields =
    numbers 1 fields >>= λ ids. numbers 8 fields >>= λ lats. numbers 9 fields >>= λ lons. numbers 10 fields >>= λ pairs. dense_lists strings ids lats lons pairs

-- the nodes of a message with these fields
unfoldable pub dense_of : List (List ℕ) → Granularity → List Entry → Result (List Element) Why
dense_of strings granularity fields = lists_in strings fields >>= λ lists. Ok (nodes_along granularity lists.0 lists.1 lists.2 lists.3)
