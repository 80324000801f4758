-- What the messages of single elements say.
use Rattle.std.specs.Prelude.{ℕ, ℤ, ◌==◌, if◌then◌else◌, Option, Result, Ok, Err, List, [], ◌∷◌, length, map}
use Rattle.tb_types.specs.declared.damage.Why.{Why}
use Rattle.tb_types.specs.declared.damage.Why.TheVariants as reasons
use Rattle.tb_types.specs.declared.element.Kind.{Kind}
use Rattle.tb_types.specs.declared.element.Kind.TheVariants as kinds
use Rattle.tb_types.specs.declared.element.OsmId.{OsmId}
use Rattle.tb_types.specs.declared.location.LatLon.{LatLon}
use Rattle.tb_types.specs.Zigzag.{unzigzag_of}
use Rattle.tb_wire.specs.Field.{Entry}
use Rattle.tb_types.specs.Results.{◌>>=◌}
use Rattle.osm_elements.specs.Reasons.{require}
use Rattle.osm_elements.specs.Fields.{fields_of, last_number, numbers}
use Rattle.osm_elements.specs.Signed.{signed_64, low_32}
use Rattle.osm_elements.specs.Tags.{Tag, tags_of}
use Rattle.osm_elements.specs.Granularity.{sums, place}
use Rattle.osm_elements.specs.declared.granularity.Granularity.{Granularity}
use Rattle.osm_elements.specs.declared.element.Member.{Member}
use Rattle.osm_elements.specs.TagRefs.{seen_tags}
use Rattle.osm_elements.specs.declared.element.AnyElement.{AnyElement}
use Rattle.osm_elements.specs.declared.element.AnyElement.TheVariants as any

-- an element: a node has a location or none, a way has refs, a relation has members
pub data Element : Type 0 where
  node : OsmId → Option LatLon → List Tag → Element
  way : OsmId → List Tag → List OsmId → Element
  relation : OsmId → List Tag → List Member → Element

abbrev pub osm_id : ℤ → OsmId
osm_id n = record { 0 = n }

-- what the fields of each element say: its id, and the indexes of the keys and of the values of its tags
pub record Common : Type 0 where
  pub id : Option ℕ
  pub keys : List ℕ
  pub values : List ℕ

abbrev pub common_in : List Entry → Result Common Why
common_in fields = last_number 1 fields >>= λ id. numbers 2 fields >>= λ keys. numbers 3 fields >>= λ values. Ok (record { id = id; keys = keys; values = values })

abbrev pub node_in : List (List ℕ) → Granularity → List Entry → Result Element Why
node_in strings granularity fields =
    common_in fields >>= λ common. last_number 8 fields >>= λ lat. last_number 9 fields >>= λ lon.
    require common.id >>= λ id. require lat >>= λ lat. require lon >>= λ lon.
    tags_of strings common.keys common.values >>= λ tags. Ok (node (osm_id (unzigzag_of id)) (place granularity (unzigzag_of lat) (unzigzag_of lon)) tags)

-- a Node
unfoldable pub node_of : List (List ℕ) → Granularity → List ℕ → Result Element Why
node_of strings granularity body = fields_of body >>= node_in strings granularity

abbrev pub way_in : List (List ℕ) → List Entry → Result Element Why
way_in strings fields =
    common_in fields >>= λ common. numbers 8 fields >>= λ refs.
    require common.id >>= λ id.
    tags_of strings common.keys common.values >>= λ tags. sums refs >>= λ refs. Ok (way (osm_id (signed_64 id)) tags (map osm_id refs))

-- a Way
unfoldable pub way_of : List (List ℕ) → List ℕ → Result Element Why
way_of strings body = fields_of body >>= way_in strings

-- the kind of a member
abbrev pub kind_of : ℕ → Result Kind Why
kind_of n =
    if low_32 n == 0 then Ok kinds.Node
    else if low_32 n == 1 then Ok kinds.Way
    else if low_32 n == 2 then Ok kinds.Relation
    else Err reasons.Range

abbrev pub member_of : ℤ → ℕ → Result Member Why
member_of id k = kind_of k >>= λ kind. Ok (record { kind = kind; id = osm_id id })

-- members, as far as both lists go
abbrev pub members_of : List ℤ → List ℕ → Result (List Member) Why
members_of (id ∷ ids) (k ∷ kinds) = member_of id k >>= λ member. members_of ids kinds >>= λ later. Ok (member ∷ later)
members_of [] _ = Ok []
members_of (id ∷ ids) [] = Ok []

abbrev pub relation_in : List (List ℕ) → List Entry → Result Element Why
relation_in strings fields =
    common_in fields >>= λ common. numbers 9 fields >>= λ ids. numbers 10 fields >>= λ kinds.
    require common.id >>= λ id.
    if length ids == length kinds then
    (tags_of strings common.keys common.values >>= λ tags. sums ids >>= λ ids. members_of ids kinds >>= λ members. Ok (relation (osm_id (signed_64 id)) tags members))
    else Err reasons.Uneven

-- a Relation
unfoldable pub relation_of : List (List ℕ) → List ℕ → Result Element Why
relation_of strings body = fields_of body >>= relation_in strings

-- the element of a message of a kind
abbrev pub element_of : List (List ℕ) → Granularity → Kind → List ℕ → Result Element Why
element_of strings granularity kinds.Node body = node_of strings granularity body
element_of strings granularity kinds.Way body = way_of strings body
element_of strings granularity kinds.Relation body = relation_of strings body

-- the number of the field of a group with the elements of a kind
abbrev pub group_field : Kind → ℕ
group_field kinds.Node = 1
group_field kinds.Way = 3
group_field kinds.Relation = 4

-- what the code reads
abbrev pub seen_element : AnyElement → Element
seen_element (any.Node id at tags) = node id at (seen_tags tags.now)
seen_element (any.Way id tags refs) = way id (seen_tags tags.now) refs.now
seen_element (any.Relation id tags members) = relation id (seen_tags tags.now) members.now
