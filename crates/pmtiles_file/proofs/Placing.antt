-- A content is placed: it was found among those before it, or it is stored.
use Rattle.std.proofs.Common.{◌≡◌, ℕ, ◌+◌, ◌-◌, ◌^◌, ◌<◌, ◌≤◌, Bool, true, false, if◌then◌else◌, Option, None, Some, IfSome, Result, Ok, Err, List, [], ◌∷◌, ◌++◌, length, get_or, refl, ap, sym, subst, ◌∙◌, arith}
use Rattle.std.specs.List.{list_any}
use Rattle.std.specs.Str.{bytes_eq}
use Rattle.std.proofs.lemmas.List.{append-nil, length_push}
use Rattle.tb_types.specs.Counts.{Rose}
use Rattle.tb_outside.specs.declared.failed.Failed.{Failed}
use Rattle.tb_outside.specs.declared.spill.SpillErr.{SpillErr}
use Rattle.tb_outside.specs.declared.spill.SpillErr.TheVariants as spill_errors
use Rattle.tb_outside.specs.Spill.{SpillSeen, Runs, closed}
use Rattle.pmtiles_dirs.specs.Contents.{with_content, offset_in}
use Rattle.pmtiles_dirs.proofs.Stretches.{Among}
use Rattle.pmtiles_file.specs.declared.stored.Stored.{Stored}
use Rattle.pmtiles_file.specs.Hashes.{hash_of}
use Rattle.pmtiles_file.specs.Spool.{content_in, AllStand, Reads, Finds, HasKept, KeepsEnded, SpillCounts, with_run, ran}
use Rattle.pmtiles_file.specs.Distinct.{DistinctSeen, IsPlaced, IsDistinct, Holds, runs_with, HasPlace, StandIn, HasMore, PutAnswers, CanBeNamed, PlaceAnswers}
use Rattle.pmtiles_file.proofs.Holding.{each-more, stand-more, offset-new, holds-more, found-among, not-found-among}

pub kept-same : (old new : Option Runs) → new ≡ old → KeepsEnded old new
kept-same old new same before is = subst (HasKept before) (sym (same ∙ is)) ([], sym (append-nil before.ended))

pub distinct-more : (old new : DistinctSeen) (size hash count : ℕ) (s : Stored) → IsDistinct old size → 1 ≤ count → count < 2 ^ 32 → HasMore old new hash count s → IsDistinct new size
distinct-more old new size hash count s is some short more = record {
  len = ap length more.more ∙ (length_push old.stored s ∙ (ap (λ n. n + 1) is.len ∙ sym (ap length more.hashed ∙ length_push old.hashes hash)));
  placed = subst (λ (xs : List Stored). (n : ℕ) (d : Stored) → n < length xs → IsPlaced new.end (get_or xs n d)) (sym more.more)
      (each-more (IsPlaced new.end) old.stored s (λ n d h. let p = is.placed n d h in record { some = p.some; len = p.len; within = omega (arith, p.within, more.all) })
      (record { some = omega (arith, some, more.len); len = omega (arith, short, more.len); within = omega (arith, more.offset, more.len, more.all) }));
  fits = more.fits;
  room = is.room;
}

-- where a content is among others, nothing is stored
with-found : (contents : List (List ℕ)) (bytes : List ℕ) (b : Bool) → b ≡ true → (if b then contents else contents ++ bytes ∷ []) ≡ contents
with-found contents bytes true h = refl
with-found contents bytes false h = let no_way : false ≡ true = h in absurd cc

with-new : (contents : List (List ℕ)) (bytes : List ℕ) (b : Bool) → b ≡ false → contents ++ bytes ∷ [] ≡ (if b then contents else contents ++ bytes ∷ [])
with-new contents bytes false h = refl
with-new contents bytes true h = let no_way : true ≡ false = h in absurd cc

runs-found : (runs : Runs) (bytes : List ℕ) (b : Bool) → b ≡ true → (if b then runs else with_run runs bytes) ≡ runs
runs-found runs bytes true h = refl
runs-found runs bytes false h = let no_way : false ≡ true = h in absurd cc

runs-new : (runs : Runs) (bytes : List ℕ) (b : Bool) → b ≡ false → with_run runs bytes ≡ (if b then runs else with_run runs bytes)
runs-new runs bytes false h = refl
runs-new runs bytes true h = let no_way : true ≡ false = h in absurd cc

pub place-found : (d : DistinctSeen) (size : ℕ) (bytes : List ℕ) (spool after : SpillSeen) (n : ℕ) (any : Stored) (hash : ℕ) → IsDistinct d size → n < length d.stored
    → IfSome spool.runs (λ runs. Finds runs.ended d.hashes d.stored hash bytes (Some n)) → after.runs ≡ spool.runs → after.faults ≡ spool.faults
    → PlaceAnswers d d bytes spool after (Ok (get_or d.stored n any))
place-found d size bytes spool after n any hash is below finds same counts = record {
  named = let p = is.placed n any below in record { some = p.some; len = p.len; fits = omega (arith, p.within, is.fits) };
  told = λ runs contents told h.
      let found = subst (λ (o : Option Runs). IfSome o (λ r. Finds r.ended d.hashes d.stored hash bytes (Some n))) told finds in
      let bytes_are : bytes ≡ content_in runs.ended (get_or d.stored n any) = found.1 any in
      let among : Among bytes contents = found-among d runs.ended contents bytes n any h below bytes_are in
      let runs_are : runs_with contents runs bytes ≡ runs = runs-found runs bytes (list_any (bytes_eq bytes) contents) among in
      let contents_are : with_content contents bytes ≡ contents = with-found contents bytes (list_any (bytes_eq bytes) contents) among in
      let place : HasPlace d after.runs runs contents bytes (get_or d.stored n any) = record {
        told = same ∙ told;
        holds = h;
        offset = sym (ap (offset_in contents) bytes_are ∙ h.places n any below);
        len = sym (ap length bytes_are ∙ (h.stand n any below).1);
      } in
      subst (λ (r : Runs). HasPlace d after.runs r (with_content contents bytes) bytes (get_or d.stored n any)) (sym runs_are)
      (subst (λ (cs : List (List ℕ)). HasPlace d after.runs runs cs bytes (get_or d.stored n any)) (sym contents_are) place);
  stands = λ s. subst (λ (o : Option Runs). StandIn o d.stored) (sym same) s;
  untold = λ none. same ∙ none;
  kept = kept-same spool.runs after.runs same;
  counts = counts;
  never_falls = omega (arith, counts);
}

-- the runs after one more
ran-stands : (old new : Option Runs) (stored : List Stored) (s : Stored) (bytes : List ℕ) → new ≡ ran old bytes → IfSome old (λ runs. s.run ≡ length (closed runs)) → s.len ≡ length bytes → StandIn old stored → StandIn new (stored ++ s ∷ [])
ran-stands old new stored s bytes is number len stand = subst (λ (o : Option Runs). StandIn o (stored ++ s ∷ [])) (sym is) (by_runs old number stand)
  where
    by_runs : (o : Option Runs) → IfSome o (λ runs. s.run ≡ length (closed runs)) → StandIn o stored → StandIn (ran o bytes) (stored ++ s ∷ [])
    by_runs None number stand = tt
    by_runs (Some runs) number stand = stand-more stored s runs bytes number len stand

kept-after : (spool mid after : Option Runs) → mid ≡ spool → KeepsEnded mid after → KeepsEnded spool after
kept-after spool mid after same kept before is = kept before (same ∙ is)

counts-after : (A B : Type 0) (e : SpillErr) (a b c : ℕ) → b ≡ a → SpillCounts {A = A} (Err e) b c → SpillCounts {A = B} (Err e) a c
counts-after A B spill_errors.Failed a b c same h = subst (λ n. Rose n c) same h
counts-after A B spill_errors.Memory a b c same h = h ∙ same

pub place-new : (old new : DistinctSeen) (bytes : List ℕ) (spool mid after : SpillSeen) (hash : ℕ) (result : Result Stored SpillErr) → hash ≡ hash_of bytes → 1 ≤ length bytes → length bytes < 2 ^ 32
    → IfSome spool.runs (λ runs. Finds runs.ended old.hashes old.stored hash bytes None) → mid.runs ≡ spool.runs → mid.faults ≡ spool.faults → PutAnswers old new hash bytes mid after result → PlaceAnswers old new bytes spool after result
place-new old new bytes spool mid after hash (Ok s) hashed some short finds same counts p =
    let more : HasMore old new hash (length bytes) s = p.more in
    record {
      named = record { some = omega (arith, some, more.len); len = omega (arith, short, more.len); fits = omega (arith, more.offset, more.len, more.all, more.fits) };
      told = λ runs contents told h.
          let found = subst (λ (o : Option Runs). IfSome o (λ r. Finds r.ended old.hashes old.stored hash bytes None)) told finds in
          let none : list_any (bytes_eq bytes) contents ≡ false = not-found-among old runs.ended contents bytes h (subst (λ n. Finds runs.ended old.hashes old.stored n bytes None) hashed found) in
          let number : s.run ≡ length (closed runs) = subst (λ (o : Option Runs). IfSome o (λ r. s.run ≡ length (closed r))) (same ∙ told) p.number in
          let holds : Holds new (with_run runs bytes).ended (contents ++ bytes ∷ []) = holds-more old new runs contents bytes s h none (subst (λ n. HasMore old new n (length bytes) s) hashed more) number in
          let place : HasPlace new after.runs (with_run runs bytes) (contents ++ bytes ∷ []) bytes s = record {
            told = p.stored ∙ ap (λ o. ran o bytes) (same ∙ told);
            holds = holds;
            offset = more.offset ∙ (h.all ∙ sym (offset-new contents bytes none));
            len = more.len;
          } in
          subst (λ (r : Runs). HasPlace new after.runs r (with_content contents bytes) bytes s) (runs-new runs bytes (list_any (bytes_eq bytes) contents) none)
          (subst (λ (cs : List (List ℕ)). HasPlace new after.runs (with_run runs bytes) cs bytes s) (with-new contents bytes (list_any (bytes_eq bytes) contents) none) place);
      stands = λ stand. subst (StandIn after.runs) (sym more.more) (ran-stands mid.runs after.runs old.stored s bytes p.stored p.number more.len (subst (λ (o : Option Runs). StandIn o old.stored) (sym same) stand));
      untold = λ none. p.stored ∙ ap (λ o. ran o bytes) (same ∙ none);
      kept = kept-after spool.runs mid.runs after.runs same p.kept;
      counts = p.counts ∙ counts;
      never_falls = omega (arith, counts, p.never_falls);
    }
place-new old new bytes spool mid after hash (Err e) hashed some short finds same counts p = record {
  named = tt;
  told = tt;
  stands = tt;
  untold = tt;
  kept = kept-after spool.runs mid.runs after.runs same p.kept;
  counts = counts-after Stored Stored e spool.faults mid.faults after.faults counts p.counts;
  never_falls = omega (arith, counts, p.never_falls);
}

pub place-failed : (old new : DistinctSeen) (bytes : List ℕ) (spool after : SpillSeen) → after.runs ≡ spool.runs → Rose spool.faults after.faults → spool.faults ≤ after.faults → PlaceAnswers old new bytes spool after (Err spill_errors.Failed)
place-failed old new bytes spool after same rose falls = record { named = tt; told = tt; stands = tt; untold = tt; kept = kept-same spool.runs after.runs same; counts = rose; never_falls = falls }
