use Rattle.tb_wire.proofs.Again.{varints_are_read_again}
use Rattle.tb_wire.proofs.put.varints_are_read_again.Goals as goal

pub returns : goal.returns
returns c = varints_are_read_again
