-- What is due for an archive: its first fault, or else a text.
use Rattle.std.specs.Prelude.{ℕ, Option, None, Some, Result, Ok, Err, List}
use Rattle.pmtiles_dirs.specs.declared.fault.ArcFault.{ArcFault}
use Rattle.pmtiles_dirs.specs.Fault.{archive_fault}
use Rattle.archive_text.specs.Rows.{is_tile}

-- the first fault of an archive: that of its header or directories, or else the first entry whose content is no tile
abbrev pub first_fault : List ℕ → Option ArcFault
first_fault archive = archive_fault is_tile archive

-- a fault, or else what there is without one
abbrev pub unless_fault : {A : Type 0} → Option ArcFault → A → Result A ArcFault
unless_fault None x = Ok x
unless_fault (Some fault) x = Err fault

abbrev pub due_of : (List ℕ → List ℕ) → List ℕ → Result (List ℕ) ArcFault
due_of text archive = unless_fault (first_fault archive) (text archive)
