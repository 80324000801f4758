-- Bytes are compared with those of a run part by part.
use Rattle.std.proofs.Common.{◌≡◌, ℕ, ◌+◌, ◌-◌, ◌<◌, ◌≤◌, Bool, true, false, Option, None, Some, IfSome, Result, Ok, Err, IfOk, List, [], ◌∷◌, ◌++◌, length, take, drop, min, slice_index_or, slice_range, refl, ap, sym, subst, ◌∙◌, arith}
use Rattle.std.specs.Str.{bytes_eq}
use Rattle.tb_types.specs.Counts.{Rose}
use Rattle.std.proofs.lemmas.List.{take_all, drop-take, take-append-drop, take-take}
use Rattle.std.proofs.lemmas.Slice.Eq.{bytes_eq-Decides}
use Rattle.tb_outside.specs.declared.failed.Failed.{Failed}
use Rattle.tb_outside.specs.Spill.{SpillSeen, Runs, ReadAnswers}
use Rattle.std.specs.Prelude.{⊤}
use Rattle.pmtiles_file.specs.Spool.{Reads}

-- the bytes up to a place are those of the run
pub record Comparing (old now : SpillSeen) (run : ℕ) (bytes : List ℕ) (at : ℕ) (room start : ℕ) : Type 0 where
  pub runs : now.runs ≡ old.runs
  pub faults : now.faults ≡ old.faults
  pub within : at ≤ length bytes
  pub same : (runs : Runs) → old.runs ≡ Some runs → take at bytes ≡ take at (slice_index_or runs.ended run [])
  pub kept : room ≡ start

-- a part more
pub take-part : (xs : List ℕ) (at n : ℕ) → take (at + n) xs ≡ take at xs ++ take n (drop at xs)
take-part xs at n =
    let prefix : take at (take (at + n) xs) ≡ take at xs = take-take at (at + n) xs (omega arith) in
    sym (take-append-drop at (take (at + n) xs)) ∙ (ap (λ ys. ys ++ drop at (take (at + n) xs)) prefix ∙ ap (λ ys. take at xs ++ ys) (drop-take at n xs))

pub comparing-next : (old mid new : SpillSeen) (run : ℕ) (bytes : List ℕ) (at n room start left : ℕ) (part : List ℕ) (u : ⊤) → at + n ≤ length bytes → length part ≡ n → left ≡ room → part ≡ slice_range bytes at (at + n)
    → Comparing old mid run bytes at room start → ReadAnswers mid new run at part (Ok u) → Comparing old new run bytes (at + n) left start
comparing-next old mid new run bytes at n room start left part u fits len kept same c r = record {
  runs = r.runs ∙ c.runs;
  faults = r.ok ∙ c.faults;
  within = fits;
  same = λ runs is.
      let count : at + n - at ≡ n = omega arith in
      let read : part ≡ slice_range (slice_index_or runs.ended run []) at (at + length part) = subst (λ (o : Option Runs). IfSome o (λ x. part ≡ slice_range (slice_index_or x.ended run []) at (at + length part))) (c.runs ∙ is) r.value in
      let one : take n (drop at bytes) ≡ part = sym (rw count at same) in
      let other : part ≡ take n (drop at (slice_index_or runs.ended run [])) = rw (len, count) at read in
      take-part bytes at n ∙ (ap (λ xs. xs ++ take n (drop at bytes)) (c.same runs is) ∙ (ap (λ xs. take at (slice_index_or runs.ended run []) ++ xs) (one ∙ other) ∙ sym (take-part (slice_index_or runs.ended run []) at n)));
  kept = kept ∙ c.kept;
}

pub compared-all : (old now : SpillSeen) (run : ℕ) (bytes : List ℕ) (at room start : ℕ) → length bytes ≤ at → IfSome old.runs (λ runs. (run < length runs.ended) × (length (slice_index_or runs.ended run []) ≡ length bytes)) → Comparing old now run bytes at room start
    → IfSome old.runs (λ runs. true ≡ bytes_eq bytes (slice_index_or runs.ended run []))
compared-all old now run bytes at room start done told c = by_runs old.runs refl told
  where
    by_runs : (o : Option Runs) → old.runs ≡ o → IfSome o (λ runs. (run < length runs.ended) × (length (slice_index_or runs.ended run []) ≡ length bytes)) → IfSome o (λ runs. true ≡ bytes_eq bytes (slice_index_or runs.ended run []))
    by_runs None is t = tt
    by_runs (Some runs) is t =
        let whole : bytes ≡ slice_index_or runs.ended run [] = sym (take_all at bytes done) ∙ (c.same runs is ∙ take_all at (slice_index_or runs.ended run []) (omega (arith, t.1, done))) in
        sym ((bytes_eq-Decides bytes (slice_index_or runs.ended run [])).1 whole)

-- a part that differs
pub compared-differs : (old mid new : SpillSeen) (run : ℕ) (bytes : List ℕ) (at n room start : ℕ) (part : List ℕ) (u : ⊤) → length part ≡ n → (part ≡ slice_range bytes at (at + n) → ⊥)
    → Comparing old mid run bytes at room start → ReadAnswers mid new run at part (Ok u) → IfSome old.runs (λ runs. false ≡ bytes_eq bytes (slice_index_or runs.ended run []))
compared-differs old mid new run bytes at n room start part u len differs c r = by_runs old.runs refl
  where
    by_runs : (o : Option Runs) → old.runs ≡ o → IfSome o (λ runs. false ≡ bytes_eq bytes (slice_index_or runs.ended run []))
    by_runs None is = tt
    by_runs (Some runs) is =
        let read : part ≡ slice_range (slice_index_or runs.ended run []) at (at + length part) = subst (λ (o : Option Runs). IfSome o (λ x. part ≡ slice_range (slice_index_or x.ended run []) at (at + length part))) (c.runs ∙ is) r.value in
        by_test (slice_index_or runs.ended run []) (rw len at read) (bytes_eq bytes (slice_index_or runs.ended run [])) refl
      where
        by_test : (content : List ℕ) → part ≡ slice_range content at (at + n) → (b : Bool) → bytes_eq bytes content ≡ b → false ≡ bytes_eq bytes content
        by_test content read true e = let whole : bytes ≡ content = (bytes_eq-Decides bytes content).0 e in absurd (differs (read ∙ ap (λ xs. slice_range xs at (at + n)) (sym whole)))
        by_test content read false e = sym e

pub comparing-reads : {A : Type 0} (old now : SpillSeen) (run : ℕ) (bytes : List ℕ) (at room start : ℕ) (x : A) → Comparing old now run bytes at room start → Reads old now (Ok x)
comparing-reads old now run bytes at room start x c = record { runs = c.runs; counts = c.faults; never_falls = omega (arith, c.faults) }

pub comparing-failed : {A : Type 0} (old mid new : SpillSeen) (run : ℕ) (bytes : List ℕ) (at room start : ℕ) (part : List ℕ) (e : Failed) → Comparing old mid run bytes at room start → ReadAnswers mid new run at part (Err e) → Reads {A = A} old new (Err e)
comparing-failed old mid new run bytes at room start part e c r = record { runs = r.runs ∙ c.runs; counts = subst (λ n. Rose n new.faults) c.faults r.err; never_falls = omega (arith, c.faults, r.never_falls) }
