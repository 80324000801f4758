-- What a raw block says: its elements in order, or the first reason that holds anywhere in it.
use Rattle.std.specs.Prelude.{ℕ, suc, pos, int_lt, if◌then◌else◌, Result, Ok, Err, List, [], ◌∷◌, ◌++◌}
use Rattle.tb_types.specs.declared.damage.Why.{Why}
use Rattle.tb_types.specs.declared.damage.Why.TheVariants as reasons
use Rattle.tb_types.specs.declared.element.Kind.{Kind}
use Rattle.tb_types.specs.declared.element.Kind.TheVariants as kinds
use Rattle.tb_wire.specs.Field.{Entry}
use Rattle.tb_types.specs.Results.{◌>>=◌}
use Rattle.osm_elements.specs.Reasons.{first}
use Rattle.osm_elements.specs.Fields.{fields_of, bodies, merged_fields}
use Rattle.osm_elements.specs.Tags.{strings_of}
use Rattle.osm_elements.specs.Granularity.{granularity_of}
use Rattle.osm_elements.specs.Elements.{Element, node, way, relation, element_of}
use Rattle.osm_elements.specs.Dense.{dense_of}
use Rattle.osm_elements.specs.declared.granularity.Granularity.{Granularity}
use Rattle.osm_elements.specs.declared.element.NodeEl.{NodeEl}
use Rattle.osm_elements.specs.declared.element.WayEl.{WayEl}
use Rattle.osm_elements.specs.declared.element.RelEl.{RelEl}
use Rattle.osm_elements.specs.declared.element.Block.{Block}

-- elements, or why there are none
abbrev pub Found : Type 0
Found = Result (List Element) Why

-- The elements of both in order. Where one of them is refused, both are, for the first reason.
abbrev pub joined : Found → Found → Found
joined (Ok xs) (Ok ys) = Ok (xs ++ ys)
joined (Ok xs) (Err why) = Err why
joined (Err why) (Ok ys) = Err why
joined (Err one) (Err other) = Err (first one other)

-- one element
abbrev pub one : Result Element Why → Found
one (Ok x) = Ok (x ∷ [])
one (Err why) = Err why

-- what all of these messages say
abbrev pub every : (List ℕ → Found) → List (List ℕ) → Found
every read [] = Ok []
every read (body ∷ bodies) = joined (read body) (every read bodies)

-- the elements of a kind of these messages
abbrev pub each_in : List (List ℕ) → Granularity → Kind → List (List ℕ) → Found
each_in strings granularity kind bodies = every (λ body. one (element_of strings granularity kind body)) bodies

-- the parts of a group: nodes, one message of dense nodes, ways and relations
pub record Parts : Type 0 where
  pub nodes : List (List ℕ)
  pub dense : List Entry
  pub ways : List (List ℕ)
  pub relations : List (List ℕ)

abbrev pub parts_of : List ℕ → Result Parts Why
parts_of body =
    fields_of body >>= λ fields. bodies 1 fields >>= λ nodes. merged_fields 2 fields >>= λ dense. bodies 3 fields >>= λ ways. bodies 4 fields >>= λ relations.
    Ok (record { nodes = nodes; dense = dense; ways = ways; relations = relations })

-- the elements of these parts, in this order
abbrev pub elements_in : List (List ℕ) → Granularity → Parts → Found
elements_in strings granularity parts =
    joined (each_in strings granularity kinds.Node parts.nodes) (joined (dense_of strings granularity parts.dense)
    (joined (each_in strings granularity kinds.Way parts.ways) (each_in strings granularity kinds.Relation parts.relations)))

-- a PrimitiveGroup
unfoldable pub group_of : List (List ℕ) → Granularity → List ℕ → Found
group_of strings granularity body = parts_of body >>= elements_in strings granularity

abbrev pub groups_in : List (List ℕ) → Granularity → List (List ℕ) → Found
groups_in strings granularity bodies = every (group_of strings granularity) bodies

-- a unit is at least 1
abbrev pub unit_check : Granularity → Found
unit_check granularity = if int_lt granularity.unit (pos 1) then Err reasons.Range else Ok []

-- The elements of a PrimitiveBlock.
unfoldable pub elements_of : List ℕ → Found
elements_of raw =
    fields_of raw >>= λ fields. strings_of fields >>= λ strings. granularity_of fields >>= λ granularity. bodies 2 fields >>= λ groups.
    joined (groups_in strings granularity groups) (unit_check granularity)

-- an element of one kind, with its number
abbrev pub as_node : ℕ → Element → List NodeEl
as_node index (node id at tags) = record { index = index; id = id; at = at; tags = record { pairs = tags } } ∷ []
as_node index (way id tags refs) = []
as_node index (relation id tags members) = []

abbrev pub as_way : ℕ → Element → List WayEl
as_way index (way id tags refs) = record { index = index; id = id; tags = record { pairs = tags }; refs = refs } ∷ []
as_way index (node id at tags) = []
as_way index (relation id tags members) = []

abbrev pub as_relation : ℕ → Element → List RelEl
as_relation index (relation id tags members) = record { index = index; id = id; tags = record { pairs = tags }; members = members } ∷ []
as_relation index (node id at tags) = []
as_relation index (way id tags refs) = []

-- the elements of one kind, each with its number among all of them, which are counted from `index` on
abbrev pub numbered : {A : Type 0} → (ℕ → Element → List A) → ℕ → List Element → List A
numbered kind index [] = []
numbered kind index (x ∷ later) = kind index x ++ numbered kind (suc index) later

-- the block of these elements
abbrev pub block_in : List Element → Block
block_in elements = record { nodes = numbered as_node 0 elements; ways = numbered as_way 0 elements; relations = numbered as_relation 0 elements }

abbrev pub block_if : Found → Result Block Why
block_if (Ok elements) = Ok (block_in elements)
block_if (Err why) = Err why

-- A PrimitiveBlock.
unfoldable pub block_of : List ℕ → Result Block Why
block_of raw = block_if (elements_of raw)
