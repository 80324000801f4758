-- Which kinds of element a block has.
use Rattle.std.specs.Prelude.{Bool, List, length, nat_lt}
use Rattle.osm_elements.specs.declared.element.Block.{Block}
use Rattle.osm_elements.specs.declared.element.Kinds.{Kinds}

abbrev pub has_any : {A : Type 0} → List A → Bool
has_any xs = nat_lt 0 (length xs)

abbrev pub kinds_of : Block → Kinds
kinds_of b = record { nodes = has_any b.nodes; ways = has_any b.ways; relations = has_any b.relations }
