-- An archive is finished: what was appended is its text.
use Rattle.std.proofs.Common.{◌≡◌, ℕ, ◌+◌, ◌^◌, ◌<◌, ◌≤◌, Option, None, Some, IfSome, IfOk, Result, Ok, Err, List, [], ◌∷◌, ◌++◌, length, map, refl, ap, sym, subst, ◌∙◌, arith, append_assoc}
use Rattle.std.specs.Prelude.{⊤}
use Rattle.std.specs.List.{concat}
use Rattle.std.proofs.lemmas.List.{length-append, length-map, append-nil}
use Rattle.tb_types.specs.Counts.{Rose}
use Rattle.tb_outside.specs.Sink.{SinkSeen, with_more, GrowsByPrefix}
use Rattle.tb_outside.specs.Spill.{SpillSeen, Runs}
use Rattle.pmtiles_dirs.specs.declared.sizes.Sizes.{Sizes}
use Rattle.pmtiles_dirs.specs.Header.{header_text}
use Rattle.pmtiles_dirs.specs.Meta.{metadata_text}
use Rattle.pmtiles_dirs.specs.Leaves.{plan_of}
use Rattle.pmtiles_dirs.specs.Contents.{Tile, contents_of, entries_of}
use Rattle.pmtiles_dirs.specs.Archive.{map_header, sizes_of, length_of, text_of_parts, archive_text}
use Rattle.pmtiles_dirs.specs.Back.{read_back}
use Rattle.pmtiles_dirs.proofs.Sections.{header-length}
use Rattle.pmtiles_dirs.proofs.ReadBack.{archives_are_read_back}
use Rattle.pmtiles_file.specs.declared.finish_err.FinishErr.{FinishErr}
use Rattle.pmtiles_file.specs.declared.finish_err.FinishErr.TheVariants as finish_errors
use Rattle.pmtiles_dirs.specs.declared.totals.Totals.{Totals}
use Rattle.pmtiles_file.specs.Spool.{content_in}
use Rattle.pmtiles_file.specs.Writing.{WriterSeen, Wrote}
use Rattle.pmtiles_file.specs.Finished.{Writes, FinishCounts, totals_of, FinishAnswers, IsNotMemory, StepAnswers, all_contents, sizes_in, parts_text, totals_in, PutAnswers}
use Rattle.pmtiles_file.proofs.Copying.{with_more-more, with_more-nil, prefix-behind, prefix-of-more}

sizes-are : (w : WriterSeen) (runs : Runs) (tiles : List Tile) → Wrote w runs.ended tiles → sizes_in w ≡ sizes_of w.meta tiles
sizes-are w runs tiles wrote =
    let stored : length w.contents.stored ≡ length (contents_of tiles) = sym (length-map w.contents.stored (content_in runs.ended)) ∙ ap length wrote.holds.are in
    rw (wrote.entries_are, wrote.holds.all, wrote.count, stored) refl

contents-are : (w : WriterSeen) (runs : Runs) (tiles : List Tile) → Wrote w runs.ended tiles → all_contents w.contents.stored runs ≡ concat (contents_of tiles)
contents-are w runs tiles wrote = ap concat wrote.holds.are

joined : (head root metadata leaves contents : List ℕ) → (head ++ (root ++ (metadata ++ leaves))) ++ contents ≡ head ++ (root ++ (metadata ++ (leaves ++ contents)))
joined head root metadata leaves contents =
    append_assoc head (root ++ (metadata ++ leaves)) contents ∙ ap (λ xs. head ++ xs) (append_assoc root (metadata ++ leaves) contents ∙ ap (λ xs. root ++ xs) (append_assoc metadata leaves contents))

text-by : (w : WriterSeen) (runs : Runs) (tiles : List Tile) (sizes : Sizes) (contents : List ℕ) → w.entries ≡ entries_of tiles → sizes_in w ≡ sizes → all_contents w.contents.stored runs ≡ contents
    → parts_text w ++ all_contents w.contents.stored runs ≡ text_of_parts (map_header w.meta sizes) (plan_of (entries_of tiles)) (metadata_text w.meta.name w.meta.layers) contents
unfolding parts_text text_of_parts
text-by w runs tiles sizes contents entries same are =
    ap (λ cs. parts_text w ++ cs) are
    ∙ (joined (header_text (map_header w.meta (sizes_in w))) (plan_of w.entries).root (metadata_text w.meta.name w.meta.layers) (plan_of w.entries).leaves contents
    ∙ (ap (λ s. header_text (map_header w.meta s) ++ ((plan_of w.entries).root ++ (metadata_text w.meta.name w.meta.layers ++ ((plan_of w.entries).leaves ++ contents)))) same
    ∙ ap (λ es. header_text (map_header w.meta sizes) ++ ((plan_of es).root ++ (metadata_text w.meta.name w.meta.layers ++ ((plan_of es).leaves ++ contents)))) entries))

text-is : (w : WriterSeen) (runs : Runs) (tiles : List Tile) → Wrote w runs.ended tiles → parts_text w ++ all_contents w.contents.stored runs ≡ archive_text w.meta tiles
unfolding archive_text
text-is w runs tiles wrote = text-by w runs tiles (sizes_of w.meta tiles) (concat (contents_of tiles)) wrote.entries_are (sizes-are w runs tiles wrote) (contents-are w runs tiles wrote)

parts-length : (w : WriterSeen) → length (parts_text w) + w.contents.end ≡ length_of (sizes_in w)
unfolding parts_text
parts-length w =
    let head : List ℕ = header_text (map_header w.meta (sizes_in w)) in
    let root : List ℕ = (plan_of w.entries).root in
    let metadata : List ℕ = metadata_text w.meta.name w.meta.layers in
    let leaves : List ℕ = (plan_of w.entries).leaves in
    omega (arith, header-length (map_header w.meta (sizes_in w)), length-append head (root ++ (metadata ++ leaves)), length-append root (metadata ++ leaves), length-append metadata leaves)

text-length : (w : WriterSeen) (runs : Runs) (tiles : List Tile) → Wrote w runs.ended tiles → length_of (sizes_in w) ≡ length (archive_text w.meta tiles)
text-length w runs tiles wrote =
    let whole : length (parts_text w ++ all_contents w.contents.stored runs) ≡ length (archive_text w.meta tiles) = ap length (text-is w runs tiles wrote) in
    let contents : length (all_contents w.contents.stored runs) ≡ w.contents.end = ap length (contents-are w runs tiles wrote) ∙ sym wrote.holds.all in
    omega (arith, parts-length w, whole, contents, length-append (parts_text w) (all_contents w.contents.stored runs))

totals-are : (w : WriterSeen) (runs : Runs) (tiles : List Tile) → Wrote w runs.ended tiles → totals_in w ≡ totals_of w tiles
totals-are w runs tiles wrote =
    let stored : length w.contents.stored ≡ length (contents_of tiles) = sym (length-map w.contents.stored (content_in runs.ended)) ∙ ap length wrote.holds.are in
    totals-by w.tiles (length tiles) (length w.entries) (length (entries_of tiles)) (length w.contents.stored) (length (contents_of tiles)) (length_of (sizes_in w)) (length (archive_text w.meta tiles))
    wrote.count (ap length wrote.entries_are) stored (text-length w runs tiles wrote)
  where
    totals-by : (a b c d e f g h : ℕ) → a ≡ b → c ≡ d → e ≡ f → g ≡ h → ◌≡◌ {A = Totals} (record { tiles = a; entries = c; contents = e; bytes = g }) (record { tiles = b; entries = d; contents = f; bytes = h })
    totals-by a b c d e f g h i j k l = rw (i, j, k, l) refl

-- all was appended
pub finished-all : (w : WriterSeen) (spool spool_after : SpillSeen) (sink mid sink_after : SinkSeen) (t : Totals) (u v : ⊤) → t ≡ totals_in w → t.bytes < 2 ^ 64 → PutAnswers sink mid (parts_text w) (Ok u)
    → StepAnswers (λ _. []) (all_contents w.contents.stored) spool spool_after mid sink_after (Ok v) → FinishAnswers w spool spool_after sink sink_after (Ok t)
finished-all w spool spool_after sink mid sink_after t u v totals fits p s = record {
  told = λ runs tiles is wrote.
      let one = s.told runs is in
      let all : one.0 ≡ all_contents w.contents.stored runs = sym (append-nil one.0) ∙ one.2 in
      one.1 ∙ (ap (λ o. with_more o one.0) p.put ∙ (with_more-more sink.bytes (parts_text w) one.0 ∙ ap (with_more sink.bytes) (ap (λ xs. parts_text w ++ xs) all ∙ text-is w runs tiles wrote)));
  totals = λ runs tiles is wrote. totals ∙ totals-are w runs tiles wrote;
  back = λ runs tiles is wrote few.
      archives_are_read_back w.meta tiles wrote.are few (omega (arith, fits, ap (λ (x : Totals). x.bytes) (totals ∙ totals-are w runs tiles wrote)));
  runs = s.runs;
  counts = (s.counts.0, s.counts.1 ∙ p.counts);
  spool_never_falls = s.spool_never_falls;
  sink_never_falls = omega (arith, p.never_falls, s.sink_never_falls);
}

-- memory was wanting before the first byte
pub finished-none : (w : WriterSeen) (spool : SpillSeen) (sink : SinkSeen) → FinishAnswers w spool spool sink sink (Err finish_errors.Memory)
finished-none w spool sink = record {
  told = λ runs tiles is wrote. refl;
  totals = λ runs tiles is wrote. tt;
  back = λ runs tiles is wrote few. tt;
  runs = refl;
  counts = (refl, refl);
  spool_never_falls = omega arith;
  sink_never_falls = omega arith;
}

-- the sink failed in what stands before the contents
pub finished-parts : (w : WriterSeen) (spool : SpillSeen) (sink sink_after : SinkSeen) (e : FinishErr) → PutAnswers {A = ⊤} sink sink_after (parts_text w) (Err e) → FinishAnswers w spool spool sink sink_after (Err e)
finished-parts w spool sink sink_after e p = subst (λ (x : FinishErr). FinishAnswers w spool spool sink sink_after (Err x)) (sym p.counts.0) (record {
  told = λ runs tiles is wrote.
      subst (GrowsByPrefix sink.bytes sink_after.bytes) (text-is w runs tiles wrote) (prefix-of-more sink.bytes sink_after.bytes (parts_text w) (all_contents w.contents.stored runs) p.put);
  totals = λ runs tiles is wrote. tt;
  back = λ runs tiles is wrote few. tt;
  runs = refl;
  counts = (refl, p.counts.1);
  spool_never_falls = omega arith;
  sink_never_falls = p.never_falls;
})

writes-as : (e : FinishErr) (old new : Option (List ℕ)) (text : List ℕ) → IsNotMemory {A = ⊤} (Err e) → GrowsByPrefix old new text → Writes {A = Totals} (Err e) old new text
writes-as finish_errors.Memory old new text no_memory h = absurd no_memory
writes-as finish_errors.Spill old new text no_memory h = h
writes-as finish_errors.Sink old new text no_memory h = h

counts-as : (e : FinishErr) (spool spool_after : SpillSeen) (sink mid sink_after : SinkSeen) → IsNotMemory {A = ⊤} (Err e) → mid.faults ≡ sink.faults → FinishCounts {A = ⊤} (Err e) spool spool_after mid sink_after → FinishCounts {A = Totals} (Err e) spool spool_after sink sink_after
counts-as finish_errors.Memory spool spool_after sink mid sink_after no_memory same c = absurd no_memory
counts-as finish_errors.Spill spool spool_after sink mid sink_after no_memory same c = (c.0, c.1 ∙ same)
counts-as finish_errors.Sink spool spool_after sink mid sink_after no_memory same c = (c.0, subst (λ n. Rose n sink_after.faults) same c.1)

-- the spool or the sink failed in the contents
pub finished-contents : (w : WriterSeen) (spool spool_after : SpillSeen) (sink mid sink_after : SinkSeen) (u : ⊤) (e : FinishErr) → PutAnswers sink mid (parts_text w) (Ok u)
    → StepAnswers {A = ⊤} (λ _. []) (all_contents w.contents.stored) spool spool_after mid sink_after (Err e) → FinishAnswers w spool spool_after sink sink_after (Err e)
finished-contents w spool spool_after sink mid sink_after u e p s = record {
  told = λ runs tiles is wrote.
      writes-as e sink.bytes sink_after.bytes (archive_text w.meta tiles) s.never_memory
      (prefix-behind sink.bytes mid.bytes sink_after.bytes (parts_text w) (all_contents w.contents.stored runs) (archive_text w.meta tiles) p.put (text-is w runs tiles wrote) (s.told runs is));
  totals = λ runs tiles is wrote. tt;
  back = λ runs tiles is wrote few. tt;
  runs = s.runs;
  counts = counts-as e spool spool_after sink mid sink_after s.never_memory p.counts s.counts;
  spool_never_falls = s.spool_never_falls;
  sink_never_falls = omega (arith, p.counts, s.sink_never_falls);
}
