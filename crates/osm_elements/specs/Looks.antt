-- What a first look over a group tells: which messages it doesn't have.
use Rattle.std.specs.Prelude.{◌≡◌, ℕ, Result, Ok, Err, List, []}
use Rattle.tb_types.specs.declared.damage.Why.TheVariants as reasons
use Rattle.osm_elements.specs.declared.fault.BlockErr.{BlockErr}
use Rattle.osm_elements.specs.declared.fault.BlockErr.TheVariants as faults
use Rattle.osm_elements.specs.declared.group.Looked.{Looked}
use Rattle.osm_elements.specs.Fields.{fields_of}
use Rattle.osm_elements.specs.Walks.{bodies_at}

-- where nothing is counted, nothing is there
pub record Tells (group : List ℕ) (seen : Looked) : Type 0 where
  pub nodes : seen.nodes ≡ 0 → bodies_at 1 group 0 ≡ Ok []
  pub dense : seen.dense ≡ 0 → bodies_at 2 group 0 ≡ Ok []
  pub ways : seen.ways ≡ 0 → bodies_at 3 group 0 ≡ Ok []
  pub relations : seen.relations ≡ 0 → bodies_at 4 group 0 ≡ Ok []

abbrev pub LooksAt : List ℕ → Result Looked BlockErr → Type 0
LooksAt group (Ok seen) = Tells group seen
LooksAt group (Err e) = (e ≡ faults.Bad reasons.Wire) × (fields_of group ≡ Err reasons.Wire)
