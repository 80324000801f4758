use Rattle.pmtiles_dirs.proofs.WorkedArchives.{worked_archives}
use Rattle.pmtiles_dirs.proofs.worked.worked_archives.Goals as goal

pub returns : goal.returns
returns c = worked_archives
