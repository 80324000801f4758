use Rattle.std.proofs.Common.{Some}
use Rattle.pmtiles_file.proofs.tests.written.Goals as goal

pub add_all-requires-clause-stand : goal.add_all-requires-clause-stand
add_all-requires-clause-stand c = c.in-Ok-new_writer.ensures.stand (Some c.in-Ok.spool.runs)
