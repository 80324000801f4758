use Rattle.build_one.proofs.WorkedRows.{worked_rows}
use Rattle.build_one.proofs.worked.worked_rows.Goals as goal

pub returns : goal.returns
returns c = worked_rows
