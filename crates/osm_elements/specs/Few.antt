-- A block has no more of anything than bytes.
use Rattle.std.specs.Prelude.{ℕ, ◌≤◌, length}
use Rattle.std.specs.List.{All}
use Rattle.osm_elements.specs.Elements.{Element, node, way, relation}
use Rattle.osm_elements.specs.declared.element.Block.{Block}

-- a way has at most so many refs, and a relation at most so many members
abbrev pub IsShort : ℕ → Element → Type 0
IsShort n (node id at tags) = Unit {0}
IsShort n (way id tags refs) = length refs ≤ n
IsShort n (relation id tags members) = length members ≤ n

-- the same of all elements of a block
pub record IsFew (n : ℕ) (block : Block) : Type 0 where
  pub refs : All (λ w. length w.refs ≤ n) block.ways
  pub members : All (λ r. length r.members ≤ n) block.relations
