use Rattle.std.proofs.Common.{refl}
use Rattle.tb_types.specs.Points.{turn}
use Rattle.ring_assembly.specs.Rings.{clean_ring}
use Rattle.ring_assembly.specs.Chains.{grown, ring_of, rings_of, assembled}
use Rattle.ring_assembly.proofs.worked.worked_rings.Goals as goal

pub returns : goal.returns
unfolding clean_ring grown ring_of rings_of assembled turn
returns c = record { shared = refl; crossing = refl; there_and_back = refl; closed_way_in_chain = refl }
