-- The walk over the entries of an open archive.
use Rattle.std.proofs.Common.{◌≡◌, ℕ, zero, suc, ◌+◌, ◌*◌, ◌^◌, ◌<◌, ◌≤◌, Option, None, Some, Result, Ok, Err, List, [], ◌∷◌, ◌++◌, length, map, take, drop, get_or, refl, sym, ap, subst, ◌∙◌, add-one, arith}
use Rattle.std.specs.Prelude.{OnOk, sum_by, unwrap_or, flat_map}
use Rattle.std.specs.List.{fold}
use Rattle.std.proofs.Math.Seq.{split_at, take-suc}
use Rattle.std.proofs.lemmas.List.{map-append, length-map, take_all}
use Rattle.std.proofs.lemmas.List.Sums.{fold-append, sum_by-append, sum_by-cons}
use Rattle.tb_outside.specs.Source.{SourceSeen}
use Rattle.pmtiles_dirs.specs.declared.entry.DirEntry.{DirEntry}
use Rattle.pmtiles_dirs.specs.declared.fault.ArcFault.{ArcFault}
use Rattle.pmtiles_dirs.specs.Fault.{Opened, tile_fault}
use Rattle.pmtiles_dirs.specs.Back.{tiles_in, tiles_of}
use Rattle.pmtiles_read.specs.declared.error.ReadErr.{ReadErr}
use Rattle.pmtiles_read.specs.declared.error.ReadErr.TheVariants as errors
use Rattle.pmtiles_read.specs.Tiles.{AreTiles}
use Rattle.pmtiles_read.specs.Answers.{Gives, Reads}
use Rattle.archive_text.specs.declared.span.Span.{Span}
use Rattle.archive_text.specs.declared.totals.Totals.{Totals}
use Rattle.archive_text.specs.Rows.{is_tile, rows_of, features_in}
use Rattle.archive_text.specs.Spans.{span_of, with_span, spans_of}
use Rattle.archive_text.specs.Counted.{AreCounted, spans_in, rows_due}
use Rattle.archive_text.specs.Check.{totals_in}
use Rattle.archive_text.specs.Due.{unless_fault}
use Rattle.archive_text.specs.Answers.{CountAnswers, EntryAnswers, totals_due}
use Rattle.archive_text.proofs.InTurn.{reads-then, reads-same, reads-still, reads-err, gives-err}
use Rattle.archive_text.proofs.TileFaults.{due-some, faults-more, faults-here}
use Rattle.archive_text.proofs.Sums.{entry_features, tiles-counted, features-counted}

-- what is known of the entries so far, where the bytes are told
pub record Told (archive : List ℕ) (o : Opened) (done : List DirEntry) (counted : List (Span × ℕ)) (features : ℕ) : Type 0 where
  pub known : AreCounted archive o counted
  pub fine : tile_fault is_tile archive o done ≡ None
  pub sum : features ≡ sum_by (entry_features archive o) done

-- the entries so far were read
pub record Walked (o : Opened) (old now : SourceSeen) (done : List DirEntry) (counted : List (Span × ℕ)) (tiles features : ℕ) : Type 0 where
  pub told : (archive : List ℕ) → old.bytes ≡ Some archive → Told archive o done counted features
  pub spans : spans_in counted ≡ spans_of done
  pub named : tiles ≡ sum_by (λ (e : DirEntry). e.run) done
  pub reads : Reads old now (Ok (tt {0}))

pub walked-start : (o : Opened) (s : SourceSeen) (counted : List (Span × ℕ)) → counted ≡ [] → Walked o s s [] counted 0 0
walked-start o s counted none =
    subst (λ (c : List (Span × ℕ)). Walked o s s [] c 0 0) (sym none) (record {
      told = λ archive t. record { known = tt; fine = refl; sum = refl };
      spans = refl;
      named = refl;
      reads = reads-same s (Ok (tt {0})) tt;
    })

module _ (o : Opened) (old now new : SourceSeen) (done : List DirEntry) (e : DirEntry) (before after : List (Span × ℕ)) (tiles features : ℕ) where
  -- one entry more
  pub walked-step : (n : ℕ) → Walked o old now done before tiles features → EntryAnswers o e now new before after (Ok n) → Walked o old new (done ++ e ∷ []) after (tiles + e.run) (features + e.run * n)
  walked-step n w step = record {
    told = λ archive t.
        let so_far = w.told archive t in
        let here = step.told archive (w.reads.bytes ∙ t) so_far.known in
        record {
          known = here.1;
          fine = faults-more archive o done e n so_far.fine here.0;
          sum = ap (λ (m : ℕ). m + e.run * n) so_far.sum ∙ (ap (λ (m : ℕ). sum_by (entry_features archive o) done + e.run * m) (sym (ap (λ (r : Option ℕ). unwrap_or r 0) (due-some archive o e n here.0)))
              ∙ (ap (λ (m : ℕ). sum_by (entry_features archive o) done + m) (one (entry_features archive o)) ∙ sym (sum_by-append (entry_features archive o) done (e ∷ []))));
        };
    spans = step.spans ∙ (ap (λ (spans : List Span). with_span spans (span_of e)) w.spans ∙ sym (ap (fold with_span []) (map-append span_of done (e ∷ [])) ∙ fold-append with_span [] (map span_of done) (span_of e ∷ [])));
    named = ap (λ (m : ℕ). m + e.run) w.named ∙ (ap (λ (m : ℕ). sum_by (λ (x : DirEntry). x.run) done + m) (one (λ (x : DirEntry). x.run)) ∙ sym (sum_by-append (λ (x : DirEntry). x.run) done (e ∷ [])));
    reads = reads-then old now new (tt {0}) (Ok (tt {0})) w.reads (record { bytes = step.reads.bytes; counts = step.reads.counts; never_falls = step.reads.never_falls });
  }
    where
      one : (f : DirEntry → ℕ) → f e ≡ sum_by f (e ∷ [])
      one f = sym (sum_by-cons f e [] ∙ omega arith)

  -- an entry that ends the walk
  pub walked-err : (later : List DirEntry) (err : ReadErr) → o.entries ≡ done ++ e ∷ later → Walked o old now done before tiles features → EntryAnswers o e now new before after (Err err) → CountAnswers o old new (Err err)
  walked-err later err split w step = record {
    told = λ archive t.
        let so_far = w.told archive t in
        let here = step.told archive (w.reads.bytes ∙ t) so_far.known in
        gives-err (λ n. n) (λ t. t) err (rows_due archive o e) (totals_due archive o)
        (λ fault due. ap (λ (f : Option ArcFault). unless_fault f (totals_in archive o)) (ap (tile_fault is_tile archive o) split ∙ faults-here archive o done e later fault so_far.fine due)) here.0;
    reads = reads-then old now new (tt {0}) (Err err) w.reads (reads-err now new err step.reads);
  }

-- all entries were read
pub walked-end : (o : Opened) (old now : SourceSeen) (counted : List (Span × ℕ)) (tiles features : ℕ) → Walked o old now o.entries counted tiles features
    → CountAnswers o old now (Ok (record { tiles = tiles; entries = length o.entries; contents = length counted; features = features }))
walked-end o old now counted tiles features w = record {
  told = λ archive t.
      let all = w.told archive t in
      ap (λ (f : Option ArcFault). unless_fault f (totals_in archive o)) all.fine
      ∙ ap Ok (same archive (w.named ∙ sym (tiles-counted archive o o.entries)) (all.sum ∙ sym (features-counted archive o o.entries)));
  reads = record { bytes = w.reads.bytes; counts = w.reads.counts; never_falls = w.reads.never_falls };
}
  where
    contents : length counted ≡ length (spans_of o.entries)
    contents = sym (length-map counted (λ (c : Span × ℕ). c.0)) ∙ ap length w.spans

    same : (archive : List ℕ) → tiles ≡ length (tiles_of archive o) → features ≡ sum_by features_in (tiles_of archive o) → totals_in archive o ≡ record { tiles = tiles; entries = length o.entries; contents = length counted; features = features }
    same archive t f = rw (t, f, contents) refl

-- the entries up to a place of a list, and one more
take-more : (entries : List DirEntry) (i : ℕ) (d : DirEntry) → i < length entries → take (i + 1) entries ≡ take i entries ++ get_or entries i d ∷ []
take-more entries i d h = rw add-one (take-suc entries i d h)

-- the run of an entry is a number of 32 bits
pub run-fits : (tiles_at next : ℕ) (entries : List DirEntry) (i : ℕ) (d : DirEntry) → AreTiles tiles_at next entries → i < length entries → (get_or entries i d).run < 2 ^ 32
run-fits tiles_at next [] i d are h = absurd (omega (arith, h))
run-fits tiles_at next (e ∷ entries) zero d are h = are.0.run
run-fits tiles_at next (e ∷ entries) (suc i) d are h = run-fits tiles_at (e.id + e.run) entries i d are.4 (omega (arith, h))

module _ (o : Opened) (old now new : SourceSeen) (entries : List DirEntry) (i : ℕ) (d : DirEntry) (before after : List (Span × ℕ)) (tiles features : ℕ) where
  -- the entry at a place of the entries
  pub walked-next : (n run sum : ℕ) → i < length entries → Walked o old now (take i entries) before tiles features → EntryAnswers o (get_or entries i d) now new before after (Ok n) → run ≡ (get_or entries i d).run → sum ≡ features + (get_or entries i d).run * n
      → Walked o old new (take (i + 1) entries) after (tiles + run) sum
  walked-next n run sum h w step same is =
      subst (λ (m : ℕ). Walked o old new (take (i + 1) entries) after (tiles + m) sum) (sym same)
      (subst (λ (done : List DirEntry). Walked o old new done after (tiles + (get_or entries i d).run) sum) (sym (take-more entries i d h))
      (subst (λ (m : ℕ). Walked o old new (take i entries ++ get_or entries i d ∷ []) after (tiles + (get_or entries i d).run) m) (sym is) (walked-step o old now new (take i entries) (get_or entries i d) before after tiles features n w step)))

  pub walked-fails : (err : ReadErr) → entries ≡ o.entries → i < length entries → Walked o old now (take i entries) before tiles features → EntryAnswers o (get_or entries i d) now new before after (Err err) → CountAnswers o old new (Err err)
  walked-fails err is h w step = walked-err o old now new (take i entries) (get_or entries i d) before after tiles features (drop (suc i) entries) err (sym is ∙ split_at entries i d h) w step

pub walked-all : (o : Opened) (old now : SourceSeen) (entries : List DirEntry) (i : ℕ) (counted : List (Span × ℕ)) (tiles features named contents : ℕ) → entries ≡ o.entries → length entries ≤ i → named ≡ length entries → contents ≡ length counted
    → Walked o old now (take i entries) counted tiles features → CountAnswers o old now (Ok (record { tiles = tiles; entries = named; contents = contents; features = features }))
walked-all o old now entries i counted tiles features named contents is h n c w =
    rw (n, c, is) (walked-end o old now counted tiles features (subst (λ (done : List DirEntry). Walked o old now done counted tiles features) (take_all i entries h ∙ is) w))
