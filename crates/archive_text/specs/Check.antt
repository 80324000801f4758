-- The text of `check`: what an archive holds.
use Rattle.std.specs.Prelude.{ℕ, Result, Ok, Err, List, [], ◌++◌, length, sum_by, codes, decimal}
use Rattle.pmtiles_dirs.specs.declared.fault.ArcFault.{ArcFault}
use Rattle.pmtiles_dirs.specs.Fault.{Opened, opened}
use Rattle.pmtiles_dirs.specs.Back.{tiles_of}
use Rattle.archive_text.specs.declared.totals.Totals.{Totals}
use Rattle.archive_text.specs.Spans.{spans_of}
use Rattle.archive_text.specs.Rows.{features_in}

-- what an archive that is open holds: its tiles, each id for itself, the entries that name them, the contents, which differ in
-- place or length, and the features of all tiles
abbrev pub totals_in : List ℕ → Opened → Totals
totals_in archive o = record {
  tiles = length (tiles_of archive o);
  entries = length o.entries;
  contents = length (spans_of o.entries);
  features = sum_by features_in (tiles_of archive o);
}

-- a number behind its label
abbrev pub part_text : List ℕ → ℕ → List ℕ
part_text label n = label ++ decimal n

unfoldable pub totals_text : Totals → List ℕ
totals_text totals =
    part_text (codes "archive: tiles ") totals.tiles ++ part_text (codes ", entries ") totals.entries ++ part_text (codes ", contents ") totals.contents ++ part_text (codes ", features ") totals.features ++ codes "\n"

abbrev pub text_of : List ℕ → Result Opened ArcFault → List ℕ
text_of archive (Ok o) = totals_text (totals_in archive o)
text_of archive (Err e) = []

-- the text of `check` for an archive without a fault
unfoldable pub check_text : List ℕ → List ℕ
check_text archive = text_of archive (opened archive)
