-- The features of one entry's tiles: its content was read, or is read now.
use Rattle.std.proofs.Common.{◌≡◌, ℕ, Option, None, Some, Result, Ok, List, [], ◌∷◌, ◌++◌, ap, sym, subst, ◌∙◌}
use Rattle.tb_outside.specs.Source.{SourceSeen}
use Rattle.pmtiles_dirs.specs.declared.entry.DirEntry.{DirEntry}
use Rattle.pmtiles_dirs.specs.declared.fault.ArcFault.{ArcFault}
use Rattle.pmtiles_dirs.specs.Fault.{Opened, content_at}
use Rattle.pmtiles_read.specs.Answers.{ContentAnswers}
use Rattle.archive_text.specs.declared.span.Span.{Span}
use Rattle.archive_text.specs.Rows.{rows_of}
use Rattle.archive_text.specs.Spans.{span_of, with_span}
use Rattle.archive_text.specs.Counted.{features_at, spans_in, tile_at_id, rows_due}
use Rattle.archive_text.specs.Answers.{EntryAnswers}
use Rattle.archive_text.proofs.InTurn.{reads-same, reads-still}
use Rattle.archive_text.proofs.Known.{features-known, counted-add, spans-found, spans-add}
use Rattle.archive_text.proofs.TileFaults.{due-some}

module _ (o : Opened) (e : DirEntry) where
  pub entry-found : (s : SourceSeen) (counted : List (Span × ℕ)) (span : Span) (n : ℕ) → span ≡ span_of e → features_at span counted ≡ Some n → EntryAnswers o e s s counted counted (Ok n)
  entry-found s counted span n is found =
      let here : features_at (span_of e) counted ≡ Some n = subst (λ (x : Span). features_at x counted ≡ Some n) is found in
      record {
        told = λ archive t known. (ap (tile_at_id e.id) (features-known archive o (span_of e) counted n known here), known);
        spans = spans-found (span_of e) counted n here;
        reads = reads-same s (Ok n) tt;
      }

  pub entry-read : (old new : SourceSeen) (before after : List (Span × ℕ)) (span : Span) (n : ℕ) (content : List ℕ) → span ≡ span_of e → features_at span before ≡ None → ContentAnswers o e old new content (Ok tt)
      → tile_at_id e.id (rows_of content) ≡ Ok n → after ≡ before ++ (span, n) ∷ [] → EntryAnswers o e old new before after (Ok n)
  entry-read old new before after span n content is none loaded read added =
      let absent : features_at (span_of e) before ≡ None = subst (λ (x : Span). features_at x before ≡ None) is none in
      let grown : after ≡ before ++ (span_of e, n) ∷ [] = subst (λ (x : Span). after ≡ before ++ (x, n) ∷ []) is added in
      subst (λ (counted : List (Span × ℕ)). EntryAnswers o e old new before counted (Ok n)) (sym grown) (record {
        told = λ archive t known.
            let due : rows_due archive o e ≡ Ok n = subst (λ (bytes : List ℕ). tile_at_id e.id (rows_of bytes) ≡ Ok n) (loaded.told archive t) read in
            (due, counted-add archive o before (span_of e) n known (due-some archive o e n due));
        spans = spans-add (span_of e) before n absent;
        reads = reads-still old new tt (Ok n) loaded.reads tt;
      })
