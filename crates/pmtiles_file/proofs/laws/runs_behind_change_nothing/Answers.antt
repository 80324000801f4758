use Rattle.pmtiles_dirs.specs.Contents.{contents_of}
use Rattle.pmtiles_file.proofs.Holding.{holds-behind}
use Rattle.pmtiles_file.proofs.laws.runs_behind_change_nothing.Goals as goal

pub returns : goal.returns
returns c = λ w ended more tiles h. record { holds = holds-behind w.contents ended more (contents_of tiles) h.holds; entries_are = h.entries_are; count = h.count; are = h.are }
