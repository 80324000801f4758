use Rattle.tb_wire.proofs.Again.{fields_are_read_again}
use Rattle.tb_wire.proofs.put.fields_are_read_again.Goals as goal

pub returns : goal.returns
returns c = fields_are_read_again
