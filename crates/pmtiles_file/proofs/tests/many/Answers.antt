use Rattle.std.proofs.Common.{Some}
use Rattle.pmtiles_file.proofs.tests.many.Goals as goal

pub add_many-requires-clause-stand : goal.add_many-requires-clause-stand
add_many-requires-clause-stand c = c.in-Ok-new_writer.ensures.stand (Some c.in-Ok.spool.runs)
