use Rattle.pmtiles_dirs.proofs.ReadBack.{archives_are_read_back}
use Rattle.pmtiles_dirs.proofs.laws.archives_are_read_back.Goals as goal

pub returns : goal.returns
returns c = archives_are_read_back
