-- What the calls answer.
use Rattle.std.specs.Prelude.{◌≡◌, ℕ, Option, None, Some, Result, Ok, Err, OnOk, List}
use Rattle.tb_outside.specs.Source.{SourceSeen}
use Rattle.pmtiles_dirs.specs.declared.entry.DirEntry.{DirEntry}
use Rattle.pmtiles_dirs.specs.declared.fault.ArcFault.{ArcFault}
use Rattle.pmtiles_dirs.specs.Fault.{Opened, tile_fault}
use Rattle.pmtiles_dirs.specs.Back.{tiles_of, tile_at}
use Rattle.pmtiles_read.specs.declared.error.ReadErr.{ReadErr}
use Rattle.pmtiles_read.specs.Answers.{Gives, Reads}
use Rattle.archive_text.specs.declared.span.Span.{Span}
use Rattle.archive_text.specs.declared.totals.Totals.{Totals}
use Rattle.archive_text.specs.Rows.{is_tile}
use Rattle.archive_text.specs.Spans.{span_of, with_span}
use Rattle.archive_text.specs.Counted.{AreCounted, spans_in, rows_due}
use Rattle.archive_text.specs.Check.{totals_in}
use Rattle.archive_text.specs.Show.{found_text}
use Rattle.archive_text.specs.Due.{unless_fault, due_of}

-- What a look into an archive answers. Where the source tells its bytes, the text of them, or exactly their first fault. `Failed`
-- comes only where the count of faults rose, which else stays and never falls, and the bytes stay.
pub record LookAnswers (text : List ℕ → List ℕ) (old new : SourceSeen) (result : Result (List ℕ) ReadErr) : Type 0 where
  pub told : (archive : List ℕ) → old.bytes ≡ Some archive → Gives (λ t. t) result (due_of text archive)
  pub reads : Reads old new result

-- the totals of an archive that is open, or the first entry whose content is no tile
abbrev pub totals_due : List ℕ → Opened → Result Totals ArcFault
totals_due archive o = unless_fault (tile_fault is_tile archive o o.entries) (totals_in archive o)

-- what counting the contents of an open archive answers
pub record CountAnswers (o : Opened) (old new : SourceSeen) (result : Result Totals ReadErr) : Type 0 where
  pub told : (archive : List ℕ) → old.bytes ≡ Some archive → Gives (λ t. t) result (totals_due archive o)
  pub reads : Reads old new result

-- what asking for the features of an entry's tiles answers: its content is among those that were read
pub record EntryAnswers (o : Opened) (e : DirEntry) (old new : SourceSeen) (before after : List (Span × ℕ)) (result : Result ℕ ReadErr) : Type 0 where
  pub told : (archive : List ℕ) → old.bytes ≡ Some archive → AreCounted archive o before → Gives (λ n. n) result (rows_due archive o e) × OnOk result (AreCounted archive o after)
  pub spans : OnOk result (spans_in after ≡ with_span (spans_in before) (span_of e))
  pub reads : Reads old new result

-- what asking for the text of an id answers, where each content of the archive is a tile
pub record ShownAnswers (o : Opened) (id : ℕ) (old new : SourceSeen) (result : Result (List ℕ) ReadErr) : Type 0 where
  pub told : (archive : List ℕ) → old.bytes ≡ Some archive → tile_fault is_tile archive o o.entries ≡ None → Gives (λ t. t) result (Ok (found_text (tile_at (tiles_of archive o) id)))
  pub reads : Reads old new result
