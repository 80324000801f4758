-- Elements are read of the numbers of their messages.
use Rattle.std.proofs.Common.{◌≡◌, ℕ, ℤ, ◌==◌, Bool, true, false, if◌then◌else◌, Option, Result, Ok, Err, List, length, map, refl, ap, ◌∙◌}
use Rattle.std.proofs.lemmas.Bool.{eq-eqb}
use Rattle.std.specs.Prelude.{nat_eq}
use Rattle.tb_types.specs.declared.damage.Why.{Why}
use Rattle.tb_types.specs.declared.damage.Why.TheVariants as reasons
use Rattle.tb_types.specs.Results.{◌>>=◌}
use Rattle.tb_types.specs.Zigzag.{unzigzag_of}
use Rattle.tb_types.specs.declared.element.OsmId.{OsmId}
use Rattle.tb_types.specs.declared.location.LatLon.{LatLon}
use Rattle.tb_wire.specs.Field.{Entry}
use Rattle.osm_elements.specs.Reasons.{require}
use Rattle.osm_elements.specs.Fields.{fields_of, last_number, numbers}
use Rattle.osm_elements.specs.Signed.{signed_64}
use Rattle.osm_elements.specs.Tags.{Tag, tags_of}
use Rattle.osm_elements.specs.Granularity.{sums, place}
use Rattle.osm_elements.specs.Elements.{Element, Common, node, way, relation, osm_id, members_of, node_of, node_in, way_of, way_in, relation_of, relation_in}
use Rattle.osm_elements.specs.Numbered.{node_numbers, way_sums, way_summed, relation_sums, relation_summed}
use Rattle.osm_elements.specs.declared.granularity.Granularity.{Granularity}

abbrev common_at : Option ℕ → List ℕ → List ℕ → Common
common_at id keys values = record { id = id; keys = keys; values = values }

-- a node of its numbers
abbrev pub node_from : List (List ℕ) → Granularity → Option ℕ × List ℕ × List ℕ × Option ℕ × Option ℕ → Result Element Why
node_from strings granularity n =
    require n.0 >>= λ id. require n.3 >>= λ lat. require n.4 >>= λ lon. tags_of strings n.1 n.2 >>= λ tags.
    Ok (node (osm_id (unzigzag_of id)) (place granularity (unzigzag_of lat) (unzigzag_of lon)) tags)

pub node_of_read : (strings : List (List ℕ)) (granularity : Granularity) (body : List ℕ) → node_of strings granularity body ≡ node_numbers body >>= node_from strings granularity
unfolding node_of
node_of_read strings granularity body = go (fields_of body)
  where
    parts : (a : Result (Option ℕ) Why) (b c : Result (List ℕ) Why) (d e : Result (Option ℕ) Why)
        → (a >>= λ id. b >>= λ keys. c >>= λ values. Ok (common_at id keys values)) >>= (λ common. d >>= λ lat. e >>= λ lon.
        require common.id >>= λ id. require lat >>= λ lat. require lon >>= λ lon.
        tags_of strings common.keys common.values >>= λ tags. Ok (node (osm_id (unzigzag_of id)) (place granularity (unzigzag_of lat) (unzigzag_of lon)) tags))
        ≡ (a >>= λ id. b >>= λ keys. c >>= λ values. d >>= λ lat. e >>= λ lon. Ok (id, keys, values, lat, lon)) >>= node_from strings granularity
    parts (Err why) b c d e = refl
    parts (Ok id) (Err why) c d e = refl
    parts (Ok id) (Ok keys) (Err why) d e = refl
    parts (Ok id) (Ok keys) (Ok values) (Err why) e = refl
    parts (Ok id) (Ok keys) (Ok values) (Ok lat) (Err why) = refl
    parts (Ok id) (Ok keys) (Ok values) (Ok lat) (Ok lon) = refl

    go : (r : Result (List Entry) Why) → r >>= node_in strings granularity
        ≡ (r >>= λ fields. last_number 1 fields >>= λ id. numbers 2 fields >>= λ keys. numbers 3 fields >>= λ values. last_number 8 fields >>= λ lat. last_number 9 fields >>= λ lon. Ok (id, keys, values, lat, lon)) >>= node_from strings granularity
    go (Err why) = refl
    go (Ok fields) = parts (last_number 1 fields) (numbers 2 fields) (numbers 3 fields) (last_number 8 fields) (last_number 9 fields)

-- a way of its numbers
abbrev pub way_from : List (List ℕ) → Option ℕ × List ℕ × List ℕ × Result (List OsmId) Why → Result Element Why
way_from strings n = require n.0 >>= λ id. tags_of strings n.1 n.2 >>= λ tags. n.3 >>= λ refs. Ok (way (osm_id (signed_64 id)) tags refs)

pub way_of_read : (strings : List (List ℕ)) (body : List ℕ) → way_of strings body ≡ way_summed body >>= way_from strings
unfolding way_of
way_of_read strings body = go (fields_of body)
  where
    last : (p : Result ℕ Why) (q : Result (List Tag) Why) (s : Result (List ℤ) Why)
        → p >>= (λ id. q >>= λ tags. s >>= λ refs. Ok (way (osm_id (signed_64 id)) tags (map osm_id refs)))
        ≡ p >>= λ id. q >>= λ tags. s >>= (λ ns. Ok (map osm_id ns)) >>= λ refs. Ok (way (osm_id (signed_64 id)) tags refs)
    last (Err why) q s = refl
    last (Ok id) (Err why) s = refl
    last (Ok id) (Ok tags) (Err why) = refl
    last (Ok id) (Ok tags) (Ok ns) = refl

    parts : (a : Result (Option ℕ) Why) (b c d : Result (List ℕ) Why)
        → (a >>= λ id. b >>= λ keys. c >>= λ values. Ok (common_at id keys values)) >>= (λ common. d >>= λ refs. require common.id >>= λ id.
        tags_of strings common.keys common.values >>= λ tags. sums refs >>= λ refs. Ok (way (osm_id (signed_64 id)) tags (map osm_id refs)))
        ≡ (a >>= λ id. b >>= λ keys. c >>= λ values. d >>= λ refs. Ok (id, keys, values, refs)) >>= way_sums >>= way_from strings
    parts (Err why) b c d = refl
    parts (Ok id) (Err why) c d = refl
    parts (Ok id) (Ok keys) (Err why) d = refl
    parts (Ok id) (Ok keys) (Ok values) (Err why) = refl
    parts (Ok id) (Ok keys) (Ok values) (Ok refs) = last (require id) (tags_of strings keys values) (sums refs)

    go : (r : Result (List Entry) Why) → r >>= way_in strings
        ≡ (r >>= λ fields. last_number 1 fields >>= λ id. numbers 2 fields >>= λ keys. numbers 3 fields >>= λ values. numbers 8 fields >>= λ refs. Ok (id, keys, values, refs)) >>= way_sums >>= way_from strings
    go (Err why) = refl
    go (Ok fields) = parts (last_number 1 fields) (numbers 2 fields) (numbers 3 fields) (numbers 8 fields)

-- a relation of its numbers
abbrev pub relation_from : List (List ℕ) → Option ℕ × List ℕ × List ℕ × ℕ × Result (List ℤ) Why × List ℕ → Result Element Why
relation_from strings n =
    require n.0 >>= λ id.
    if n.3 == length n.5 then
    (tags_of strings n.1 n.2 >>= λ tags. n.4 >>= λ ids. members_of ids n.5 >>= λ members. Ok (relation (osm_id (signed_64 id)) tags members))
    else Err reasons.Uneven

pub relation_of_read : (strings : List (List ℕ)) (body : List ℕ) → relation_of strings body ≡ relation_summed body >>= relation_from strings
unfolding relation_of
relation_of_read strings body = go (fields_of body)
  where
    parts : (a : Result (Option ℕ) Why) (b c d e : Result (List ℕ) Why)
        → (a >>= λ id. b >>= λ keys. c >>= λ values. Ok (common_at id keys values)) >>= (λ common. d >>= λ ids. e >>= λ kinds. require common.id >>= λ id.
        if length ids == length kinds then
        (tags_of strings common.keys common.values >>= λ tags. sums ids >>= λ ids. members_of ids kinds >>= λ members. Ok (relation (osm_id (signed_64 id)) tags members))
        else Err reasons.Uneven)
        ≡ (a >>= λ id. b >>= λ keys. c >>= λ values. d >>= λ ids. e >>= λ kinds. Ok (id, keys, values, ids, kinds)) >>= relation_sums >>= relation_from strings
    parts (Err why) b c d e = refl
    parts (Ok id) (Err why) c d e = refl
    parts (Ok id) (Ok keys) (Err why) d e = refl
    parts (Ok id) (Ok keys) (Ok values) (Err why) e = refl
    parts (Ok id) (Ok keys) (Ok values) (Ok ids) (Err why) = refl
    parts (Ok id) (Ok keys) (Ok values) (Ok ids) (Ok kinds) = refl

    go : (r : Result (List Entry) Why) → r >>= relation_in strings
        ≡ (r >>= λ fields. last_number 1 fields >>= λ id. numbers 2 fields >>= λ keys. numbers 3 fields >>= λ values. numbers 9 fields >>= λ ids. numbers 10 fields >>= λ kinds. Ok (id, keys, values, ids, kinds)) >>= relation_sums >>= relation_from strings
    go (Err why) = refl
    go (Ok fields) = parts (last_number 1 fields) (numbers 2 fields) (numbers 3 fields) (numbers 9 fields) (numbers 10 fields)

-- a node where all that it needs stands
pub node_given : (strings : List (List ℕ)) (granularity : Granularity) (body : List ℕ) (n : Option ℕ × List ℕ × List ℕ × Option ℕ × Option ℕ) (id lat lon : ℕ) (tags : List Tag) (its_id : OsmId) (at : Option LatLon)
    → node_numbers body ≡ Ok n → require n.0 ≡ Ok id → require n.3 ≡ Ok lat → require n.4 ≡ Ok lon → tags_of strings n.1 n.2 ≡ Ok tags → its_id ≡ osm_id (unzigzag_of id) → at ≡ place granularity (unzigzag_of lat) (unzigzag_of lon)
    → node_of strings granularity body ≡ Ok (node its_id at tags)
node_given strings granularity body n id lat lon tags its_id at read p q r s same there =
    node_of_read strings granularity body ∙ (ap (λ m. m >>= node_from strings granularity) read
    ∙ rw (p, q, r, s, same, there) refl)

-- a relation whose tags can't be read
pub relation_refused : (strings : List (List ℕ)) (body : List ℕ) (n : Option ℕ × List ℕ × List ℕ × ℕ × Result (List ℤ) Why × List ℕ) (id : ℕ) (why : Why) → relation_summed body ≡ Ok n → require n.0 ≡ Ok id → n.3 ≡ length n.5
    → tags_of strings n.1 n.2 ≡ Err why → relation_of strings body ≡ Err why
relation_refused strings body n id why read p same stop =
    let even : nat_eq n.3 (length n.5) ≡ true = eq-eqb n.3 (length n.5) same in
    relation_of_read strings body ∙ (ap (λ m. m >>= relation_from strings) read ∙ rw (p, even, stop) refl)
