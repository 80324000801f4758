-- What is true of the objects before a call stays true after it.
use Rattle.std.specs.Prelude.{option_to_list, slice_range}
use Rattle.std.proofs.Common.{◌≡◌, ◌≢◌, ℕ, zero, suc, ◌+◌, ◌<◌, ◌≤◌, Option, None, Some, IfSome, IsSome, List, [], ◌∷◌, ◌++◌, length, map, get_or, drop, Result, Ok, Err, All, Contains, refl, sym, ap, subst, ◌∙◌, append_assoc, arith, inl, inr, true≢false}
use Rattle.std.specs.Option.{option_map}
use Rattle.std.specs.List.{AllByRecursion}
use Rattle.std.proofs.lemmas.List.{append-nil, length-append, length-map, get_or_append_left}
use Rattle.std.proofs.lemmas.List.Elements.{All-weaker, All-contains, recursion_from_All}
use Rattle.tb_types.specs.Counts.{Rose}
use Rattle.tb_outside.specs.Spill.{Runs, SpillSeen, with_begun, with_ended}
use Rattle.feature_runs.specs.Writing.{KeepsEnded}
use Rattle.feature_runs.specs.Appending.{grown}
use Rattle.run_merge.specs.declared.named_run.Store.{Store}
use Rattle.run_merge.specs.declared.named_run.Store.TheVariants as stores
use Rattle.run_merge.specs.declared.named_run.NamedRun.{NamedRun}
use Rattle.run_merge.specs.declared.run_reader.RunReader.{RunReader}
use Rattle.run_merge.specs.declared.merge_err.MergeErr.{MergeErr}
use Rattle.run_merge.specs.declared.merge_err.MergeErr.TheVariants as merge_errors
use Rattle.run_merge.specs.Items.{AreItems, items_in, merged_runs, groups_in}
use Rattle.run_merge.specs.Objects.{Objects, nowhere, spill_of, told_of, IsThere, AllTell, Keeps, OnlyRose, NoneRose}
use Rattle.run_merge.specs.Cursors.{bytes_of_run, Stands, IsRun, Reads, left_if, left_of, left_merged, left_groups, first_head, cursors_of, AreThere, AreTold, IsTold}
use Rattle.run_merge.proofs.Merged.{none_is_some}
use Rattle.run_merge.specs.Steps.{FailsIn, OnlyReads, StopsIn, Works, IsOneOf, IsReadable, items_of}

-- ---- ended runs

pub ended_refl : (r : Option Runs) → KeepsEnded r r
ended_refl None = refl
ended_refl (Some runs) = ([], sym (append-nil runs.ended))

pub ended_trans : (a b c : Option Runs) → KeepsEnded a b → KeepsEnded b c → KeepsEnded a c
ended_trans None None c h k = k
ended_trans None (Some b) c h k = absurd (none_is_some b h)
ended_trans (Some a) None c h k = absurd h
ended_trans (Some a) (Some b) None h k = absurd k
ended_trans (Some a) (Some b) (Some c) h k = (h.0 ++ k.0, k.1 ∙ ap (λ (l : List (List ℕ)). l ++ k.0) h.1 ∙ append_assoc a.ended h.0 k.0)

pub ended_same : (a b : Option Runs) → b ≡ a → KeepsEnded a b
ended_same a b e = subst (KeepsEnded a) (sym e) (ended_refl a)

pub ended_begun : (r : Option Runs) → KeepsEnded r (option_map with_begun r)
ended_begun None = refl
ended_begun (Some runs) = (option_to_list runs.begun, refl)

pub ended_ended : (r : Option Runs) → KeepsEnded r (option_map with_ended r)
ended_ended None = refl
ended_ended (Some runs) = (option_to_list runs.begun, refl)

pub ended_grown : (r : Option Runs) (more : List ℕ) → KeepsEnded r (grown more r)
ended_grown None more = refl
ended_grown (Some runs) more = ([], sym (append-nil runs.ended))

-- ---- what is kept

at_map : {A B : Type 0} (f : A → B) (xs : List A) (k : ℕ) (d : A) → f (get_or xs k d) ≡ get_or (map f xs) k (f d)
at_map f [] k d = refl
at_map f (x ∷ xs) zero d = refl
at_map f (x ∷ xs) (suc k) d = at_map f xs k d

untold_before : (a b : Option Runs) → KeepsEnded a b → b ≡ None → a ≡ None
untold_before None b h e = refl
untold_before (Some a) None h e = absurd h
untold_before (Some a) (Some b) h e = absurd (none_is_some b e)

told_after : (a b : Option Runs) → KeepsEnded a b → IsSome a → IsSome b
told_after None b h s = absurd (true≢false (sym s))
told_after (Some a) None h s = absurd h
told_after (Some a) (Some b) h s = refl

one_of_wider : (runs more : List NamedRun) (run : NamedRun) → All (IsOneOf more) runs → IsOneOf runs run → IsOneOf more run
one_of_wider runs more run all (inl c) = All-contains (IsOneOf more) runs run all c
one_of_wider runs more run all (inr s) = inr s

pub wider_all : (runs more names : List NamedRun) → All (IsOneOf more) runs → All (IsOneOf runs) names → All (IsOneOf more) names
wider_all runs more names all h = All-weaker (IsOneOf runs) (IsOneOf more) (λ run is. one_of_wider runs more run all is) names h

module _ {R : Type 0} where
  pub keeps_refl : (o : Objects R) → Keeps o o
  keeps_refl o = record { readers = refl; spills = refl; spool = ended_refl o.spool.runs }

  pub keeps_same : (old new : Objects R) → new ≡ old → Keeps old new
  keeps_same old new e = subst (Keeps old) (sym e) (keeps_refl old)

  pub keeps_trans : (old mid new : Objects R) → Keeps old mid → Keeps mid new → Keeps old new
  keeps_trans old mid new h k = record { readers = k.readers ∙ h.readers; spills = k.spills ∙ h.spills; spool = ended_trans old.spool.runs mid.spool.runs new.spool.runs h.spool k.spool }

  pub none_refl : (o : Objects R) → NoneRose o o
  none_refl o = λ store. refl

  pub none_same : (old new : Objects R) → new ≡ old → NoneRose old new
  none_same old new e = λ store. ap (λ (o : Objects R). (spill_of o store).faults) e

  pub none_trans : (old mid new : Objects R) → NoneRose old mid → NoneRose mid new → NoneRose old new
  none_trans old mid new h k = λ store. k store ∙ h store

  pub only_after : (old mid new : Objects R) (store : Store) → NoneRose old mid → OnlyRose mid new store → OnlyRose old new store
  only_after old mid new store h only = record {
    rose = subst (λ (n : ℕ). Rose n (spill_of new store).faults) (h store) only.rose;
    never_falls = subst (λ (n : ℕ). n ≤ (spill_of new store).faults) (h store) only.never_falls;
    others = λ other ne. only.others other ne ∙ h other;
  }

  -- the spool alone is another
  pub keeps_spool : (readers : List R) (spills : List SpillSeen) (s t : SpillSeen) → KeepsEnded s.runs t.runs → Keeps (record { readers = readers; spills = spills; spool = s }) (record { readers = readers; spills = spills; spool = t })
  keeps_spool readers spills s t h = record { readers = refl; spills = refl; spool = h }

  pub none_spool : (readers : List R) (spills : List SpillSeen) (s t : SpillSeen) → t.faults ≡ s.faults → NoneRose (record { readers = readers; spills = spills; spool = s }) (record { readers = readers; spills = spills; spool = t })
  none_spool readers spills s t e = by
    where
      by : NoneRose (record { readers = readers; spills = spills; spool = s }) (record { readers = readers; spills = spills; spool = t })
      by (stores.Lane k) = refl
      by stores.Spool = e

  pub only_spool : (readers : List R) (spills : List SpillSeen) (s t : SpillSeen) → Rose s.faults t.faults → s.faults ≤ t.faults
      → OnlyRose (record { readers = readers; spills = spills; spool = s }) (record { readers = readers; spills = spills; spool = t }) stores.Spool
  only_spool readers spills s t rose le = record { rose = rose; never_falls = le; others = by }
    where
      by : (other : Store) → other ≢ stores.Spool → (spill_of (record { readers = readers; spills = spills; spool = t }) other).faults ≡ (spill_of (record { readers = readers; spills = spills; spool = s }) other).faults
      by (stores.Lane k) ne = refl
      by stores.Spool ne = absurd (ne refl)

  -- ---- refusals

  pub fails_wider : (old new : Objects R) (runs more : List NamedRun) (e : MergeErr) → All (Contains more) runs → FailsIn old new runs e → FailsIn old new more e
  fails_wider old new runs more (merge_errors.Spill whom) all f = record { run = f.run; named = All-contains (Contains more) runs f.run all f.named; whom_is = f.whom_is; keeps = f.keeps; only = f.only }
  fails_wider old new runs more (merge_errors.Outside whom number at) all f =
      record { run = f.run; named = All-contains (Contains more) runs f.run all f.named; whom_is = f.whom_is; number_is = f.number_is; within = f.within; untold = f.untold; same = f.same }
  fails_wider old new runs more (merge_errors.TooLarge need) all f = f
  fails_wider old new runs more merge_errors.Memory all f = f

  pub fails_keep : (old new : Objects R) (runs : List NamedRun) (e : MergeErr) → FailsIn old new runs e → Keeps old new
  fails_keep old new runs (merge_errors.Spill whom) f = f.keeps
  fails_keep old new runs (merge_errors.Outside whom number at) f = keeps_same old new f.same
  fails_keep old new runs (merge_errors.TooLarge need) f = absurd f
  fails_keep old new runs merge_errors.Memory f = keeps_same old new f

  pub fails_stop : (old new : Objects R) (runs : List NamedRun) (e : MergeErr) → FailsIn old new runs e → StopsIn old new runs e
  fails_stop old new runs (merge_errors.Spill whom) f = (f.run.store, f.whom_is, f.only)
  fails_stop old new runs (merge_errors.Outside whom number at) f =
      record { run = f.run; named = inl f.named; whom_is = f.whom_is; number_is = f.number_is; within = f.within; untold = f.untold; counts = none_same old new f.same }
  fails_stop old new runs (merge_errors.TooLarge need) f = f
  fails_stop old new runs merge_errors.Memory f = none_same old new f

  pub reads_keep : {A : Type 0} (old new : Objects R) (runs : List NamedRun) (r : Result A MergeErr) → OnlyReads old new runs r → Keeps old new
  reads_keep old new runs (Ok x) e = keeps_same old new e
  reads_keep old new runs (Err e) f = fails_keep old new runs e f

  pub reads_work : {A : Type 0} (old new : Objects R) (runs : List NamedRun) (r : Result A MergeErr) → OnlyReads old new runs r → Works old new runs r
  reads_work old new runs (Ok x) e = none_same old new e
  reads_work old new runs (Err e) f = fails_stop old new runs e f

  -- ---- told runs

  -- what a run's spill told it tells, and maybe more behind
  pub kept_told : (old new : Objects R) (run : NamedRun) → Keeps old new → KeepsEnded (told_of old run) (told_of new run)
  kept_told old new run h = by run.store
    where
      by : (store : Store) → KeepsEnded (spill_of old store).runs (spill_of new store).runs
      by (stores.Lane k) = ended_same (spill_of old (stores.Lane k)).runs (spill_of new (stores.Lane k)).runs (
          at_map (λ (s : SpillSeen). s.runs) new.spills k nowhere
          ∙ ap (λ (l : List (Option Runs)). get_or l k nowhere.runs) h.spills
          ∙ sym (at_map (λ (s : SpillSeen). s.runs) old.spills k nowhere)
          )
      by stores.Spool = h.spool

  pub tell_still : (old new : Objects R) → Keeps old new → AllTell old → AllTell new
  tell_still old new h all = λ store. told_after (spill_of old store).runs (spill_of new store).runs (kept_told old new (record { store = store; run = record { run = 0; len = 0 } }) h) (all store)

  pub stops_after : (old mid new : Objects R) (runs : List NamedRun) (e : MergeErr) → NoneRose old mid → Keeps old mid → StopsIn mid new runs e → StopsIn old new runs e
  stops_after old mid new runs (merge_errors.Spill whom) h k s = (s.0, s.1, only_after old mid new s.0 h s.2)
  stops_after old mid new runs (merge_errors.Outside whom number at) h k s = record {
    run = s.run;
    named = s.named;
    whom_is = s.whom_is;
    number_is = s.number_is;
    within = s.within;
    untold = untold_before (told_of old s.run) (told_of mid s.run) (kept_told old mid s.run k) s.untold;
    counts = none_trans old mid new h s.counts;
  }
  stops_after old mid new runs (merge_errors.TooLarge need) h k s = s
  stops_after old mid new runs merge_errors.Memory h k s = none_trans old mid new h s

  pub works_after : {A : Type 0} (old mid new : Objects R) (runs : List NamedRun) (r : Result A MergeErr) → NoneRose old mid → Keeps old mid → Works mid new runs r → Works old new runs r
  works_after old mid new runs (Ok x) h k w = none_trans old mid new h w
  works_after old mid new runs (Err e) h k w = stops_after old mid new runs e h k w

  pub stops_wider : (old new : Objects R) (runs more : List NamedRun) (e : MergeErr) → All (IsOneOf more) runs → StopsIn old new runs e → StopsIn old new more e
  stops_wider old new runs more (merge_errors.Spill whom) all s = s
  stops_wider old new runs more (merge_errors.Outside whom number at) all s =
      record { run = s.run; named = one_of_wider runs more s.run all s.named; whom_is = s.whom_is; number_is = s.number_is; within = s.within; untold = s.untold; counts = s.counts }
  stops_wider old new runs more (merge_errors.TooLarge need) all s = s
  stops_wider old new runs more merge_errors.Memory all s = s

-- ---- readers, after more runs were ended

bytes_still : (a b : Runs) (run : NamedRun) → KeepsEnded (Some a) (Some b) → run.run.run < length a.ended → bytes_of_run b run ≡ bytes_of_run a run
bytes_still a b run h lt = ap (λ (l : List (List ℕ)). get_or l run.run.run []) h.1 ∙ get_or_append_left a.ended h.0 [] run.run.run lt

stands_still : (a b : Runs) (run : NamedRun) → KeepsEnded (Some a) (Some b) → Stands a run → Stands b run
stands_still a b run h is = record {
  ended = omega (arith, is.ended, ap length h.1, length-append a.ended h.0);
  len = is.len ∙ ap length (sym (bytes_still a b run h is.ended));
}

reads_still : (layers : ℕ) (reader : RunReader) (a b : Option Runs) → KeepsEnded a b → IfSome a (Reads layers reader) → IfSome b (Reads layers reader)
reads_still layers reader None None h is = tt
reads_still layers reader None (Some b) h is = absurd (none_is_some b h)
reads_still layers reader (Some a) None h is = absurd h
reads_still layers reader (Some a) (Some b) h is =
    let run = reader.cursor.run in
    let bytes : bytes_of_run b run ≡ bytes_of_run a run = bytes_still a b run h is.stands.ended in
    record {
      stands = stands_still a b run h is.stands;
      items = subst (λ (l : List ℕ). AreItems layers (drop reader.cursor.at l)) (sym bytes) is.items;
      head = is.head ∙ ap (λ (l : List ℕ). first_head (items_in (drop reader.cursor.at l))) (sym bytes);
      ahead = is.ahead ∙ ap (λ (l : List ℕ). slice_range l reader.window.from (reader.window.from + length reader.window.bytes.items)) (sym bytes);
    }

left_still : (run : NamedRun) (at : ℕ) (a b : Option Runs) → KeepsEnded a b → IfSome a (λ runs. run.run.run < length runs.ended) → left_if run at b ≡ left_if run at a
left_still run at None None h is = refl
left_still run at None (Some b) h is = absurd (none_is_some b h)
left_still run at (Some a) None h is = absurd h
left_still run at (Some a) (Some b) h is = ap (λ (l : List ℕ). items_in (drop at l)) (bytes_still a b run h is)

readable_still : (layers : ℕ) (run : NamedRun) (a b : Option Runs) → KeepsEnded a b → IfSome a (λ runs. IsRun layers runs run) → IfSome b (λ runs. IsRun layers runs run)
readable_still layers run None None h is = tt
readable_still layers run None (Some b) h is = absurd (none_is_some b h)
readable_still layers run (Some a) None h is = absurd h
readable_still layers run (Some a) (Some b) h is =
    record { stands = stands_still a b run h is.stands; items = subst (AreItems layers) (sym (bytes_still a b run h is.stands.ended)) is.items }

ended_of_reads : (layers : ℕ) (reader : RunReader) (a : Option Runs) → IfSome a (Reads layers reader) → IfSome a (λ runs. reader.cursor.run.run.run < length runs.ended)
ended_of_reads layers reader None h = tt
ended_of_reads layers reader (Some a) h = h.stands.ended

ended_of_run : (layers : ℕ) (run : NamedRun) (a : Option Runs) → IfSome a (λ runs. IsRun layers runs run) → IfSome a (λ runs. run.run.run < length runs.ended)
ended_of_run layers run None h = tt
ended_of_run layers run (Some a) h = h.stands.ended

pub map_agree : {A B : Type 0} (f g : A → B) (xs : List A) → AllByRecursion (λ x. f x ≡ g x) xs → map f xs ≡ map g xs
map_agree f g [] h = refl
map_agree f g (x ∷ xs) h = (λ i. h.0 i ∷ map_agree f g xs h.1 i)

module _ {R : Type 0} (old new : Objects R) (keeps : Keeps old new) where
  pub there_one : (store : Store) → IsThere old store → IsThere new store
  there_one (stores.Lane k) is = omega (arith, is, ap length keeps.spills, length-map new.spills (λ (s : SpillSeen). s.runs), length-map old.spills (λ (s : SpillSeen). s.runs))
  there_one stores.Spool is = tt

  pub there_still : (readers : List RunReader) → AreThere old readers → AreThere new readers
  there_still readers h = All-weaker _ _ (λ reader is. there_one reader.cursor.run.store is) readers h

  pub told_still : (layers : ℕ) (readers : List RunReader) → AreTold old layers readers → AreTold new layers readers
  told_still layers readers h = All-weaker (IsTold old layers) (IsTold new layers) (λ reader is. reads_still layers reader (told_of old reader.cursor.run) (told_of new reader.cursor.run) (kept_told old new reader.cursor.run keeps) is) readers h

  left_lists : (layers : ℕ) (readers : List RunReader) → AllByRecursion (IsTold old layers) readers → map (left_of new) (cursors_of readers) ≡ map (left_of old) (cursors_of readers)
  left_lists layers [] h = refl
  left_lists layers (reader ∷ readers) h =
      let run = reader.cursor.run in
      let here : left_of new reader.cursor ≡ left_of old reader.cursor =
      left_still run reader.cursor.at (told_of old run) (told_of new run) (kept_told old new run keeps) (ended_of_reads layers reader (told_of old run) h.0) in
      (λ i. here i ∷ left_lists layers readers h.1 i)

  pub lists_still : (layers : ℕ) (readers : List RunReader) → AreTold old layers readers → map (left_of new) (cursors_of readers) ≡ map (left_of old) (cursors_of readers)
  lists_still layers readers h = left_lists layers readers (recursion_from_All (IsTold old layers) readers h)

  pub merged_still : (layers : ℕ) (readers : List RunReader) → AreTold old layers readers → left_merged new (cursors_of readers) ≡ left_merged old (cursors_of readers)
  merged_still layers readers h = ap merged_runs (lists_still layers readers h)

  pub groups_still : (layers : ℕ) (readers : List RunReader) → AreTold old layers readers → left_groups new (cursors_of readers) ≡ left_groups old (cursors_of readers)
  groups_still layers readers h = ap groups_in (lists_still layers readers h)

  pub readable_one : (layers : ℕ) (run : NamedRun) → IsReadable old layers run → IsReadable new layers run
  readable_one layers run is = readable_still layers run (told_of old run) (told_of new run) (kept_told old new run keeps) is

  pub items_one : (layers : ℕ) (run : NamedRun) → IsReadable old layers run → items_of new run ≡ items_of old run
  items_one layers run is = left_still run 0 (told_of old run) (told_of new run) (kept_told old new run keeps) (ended_of_run layers run (told_of old run) is)

  pub items_still : (layers : ℕ) (runs : List NamedRun) → AllByRecursion (IsReadable old layers) runs → map (items_of new) runs ≡ map (items_of old) runs
  items_still layers [] h = refl
  items_still layers (run ∷ runs) h = (λ i. items_one layers run h.0 i ∷ items_still layers runs h.1 i)
