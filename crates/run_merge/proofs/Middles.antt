-- A run of the spool that is made of the items of others.
use Rattle.std.specs.Prelude.{⊤}
use Rattle.std.proofs.Common.{◌≡◌, ℕ, ◌+◌, ◌≤◌, Option, None, Some, IfSome, IsSome, List, [], ◌∷◌, ◌++◌, length, map, get_or, drop, Result, Ok, Err, All, refl, sym, ap, subst, ◌∙◌, append_assoc, arith, inl, inr, true≢false}
use Rattle.std.specs.Option.{option_map}
use Rattle.std.specs.List.{AllByRecursion}
use Rattle.std.proofs.lemmas.List.{append-nil, length-append}
use Rattle.std.proofs.lemmas.List.Concat.{flat_map-append}
use Rattle.std.proofs.lemmas.List.Elements.{All-from_get_or}
use Rattle.std.proofs.Math.Seq.{get_or-append_seam}
use Rattle.sorted_lists.specs.Sorting.{by_rank}
use Rattle.sorted_lists.proofs.Orders.{Ascends, each_append, each_weaker, sorted_from_ascends}
use Rattle.sorted_lists.proofs.Sorts.{same_first}
use Rattle.tb_types.specs.Counts.{Rose}
use Rattle.tb_types.specs.declared.trouble.Whom.TheVariants as whoms
use Rattle.tb_outside.specs.declared.failed.Failed.{Failed}
use Rattle.tb_outside.specs.declared.spill.SpillErr.{SpillErr}
use Rattle.tb_outside.specs.declared.spill.SpillErr.TheVariants as spill_errors
use Rattle.tb_outside.specs.Spill.{Runs, SpillSeen, closed, with_begun, with_ended, StaysOrEnds, BeginAnswers, AppendAnswers, EndAnswers}
use Rattle.mvt_codec.specs.declared.item.RunItem.{RunItem}
use Rattle.mvt_codec.specs.Items.{item_text, items_bytes}
use Rattle.feature_runs.specs.Writing.{KeepsEnded, with_run}
use Rattle.feature_runs.specs.Appending.{grown, HasBegun, PutsOff}
use Rattle.feature_runs.proofs.Appended.{Written, nothing_written, written_more, written_whole, grown-nil, still_begun, begun_now, run_written}
use Rattle.run_merge.specs.declared.cursor.Head.{Head}
use Rattle.run_merge.specs.declared.cursor.Cursor.{Cursor}
use Rattle.run_merge.specs.declared.named_run.Store.TheVariants as stores
use Rattle.run_merge.specs.declared.named_run.NamedRun.{NamedRun}
use Rattle.run_merge.specs.declared.run_reader.RunReader.{RunReader}
use Rattle.run_merge.specs.declared.merge_err.MergeErr.TheVariants as merge_errors
use Rattle.run_merge.specs.Items.{items_in, item_rank, IsItemOf, AreItems, AreInOrder}
use Rattle.run_merge.specs.Objects.{Objects, AllTell, Keeps, NoneRose}
use Rattle.run_merge.specs.Cursors.{head_rank, rank_at, IsRun, IsFromRank, IsDone, left_if, left_of, left_merged, cursors_of, runs_of, AreSound, AreTold}
use Rattle.run_merge.specs.Steps.{StopsIn, IsLeast, LoadsAt, AdvancesAt, PutsNext, AppendsAll, IsMadeOf, left_at, bytes_left}
use Rattle.run_merge.proofs.RunItems.{run_made, items_again}
use Rattle.run_merge.proofs.Heads.{rank_of_item, len_of_item}
use Rattle.run_merge.proofs.Merged.{no_cursor}
use Rattle.run_merge.proofs.Gathering.{next_sound, least_of_all, head_there, ascends_push, bytes_push}
use Rattle.run_merge.proofs.Ends.{no_bytes, none_merged}
use Rattle.run_merge.proofs.ObjectSteps.{ended_same, ended_begun, ended_ended, ended_grown, keeps_spool, keeps_trans, none_spool, only_spool, told_still, tell_still, merged_still}

-- ---- what calls of the spool keep

pub append_keeps : (s t : SpillSeen) (piece : List ℕ) (r : Result ⊤ SpillErr) → AppendAnswers s t piece r → KeepsEnded s.runs t.runs
append_keeps s t piece (Ok x) a = subst (KeepsEnded s.runs) (sym a.appended) (ended_grown s.runs piece)
append_keeps s t piece (Err spill_errors.Failed) a = let p = a.failed_runs refl in subst (KeepsEnded s.runs) (sym p.3) (ended_grown s.runs p.0)
append_keeps s t piece (Err spill_errors.Memory) a = ended_same s.runs t.runs (ap (λ (x : SpillSeen). x.runs) (a.memory refl))

stays_or_ends : (a b : Option Runs) → StaysOrEnds a b → KeepsEnded a b
stays_or_ends a b h = elim h [ inl same ↦ ended_same a b same | inr ends ↦ subst (KeepsEnded a) (sym ends) (ended_ended a) ]

pub begin_keeps : (s t : SpillSeen) (r : Result ℕ SpillErr) → BeginAnswers s t r → KeepsEnded s.runs t.runs
begin_keeps s t (Ok n) a = subst (KeepsEnded s.runs) (sym a.begun) (ended_begun s.runs)
begin_keeps s t (Err spill_errors.Failed) a = stays_or_ends s.runs t.runs (a.failed_runs refl)
begin_keeps s t (Err spill_errors.Memory) a = ended_same s.runs t.runs (ap (λ (x : SpillSeen). x.runs) (a.memory refl))

pub end_keeps : (s t : SpillSeen) (r : Result ℕ Failed) → EndAnswers s t r → KeepsEnded s.runs t.runs
end_keeps s t (Ok n) a = subst (KeepsEnded s.runs) (sym a.ended) (ended_ended s.runs)
end_keeps s t (Err e) a = ended_same s.runs t.runs a.failed_runs

-- after a run was begun, and after it was written and ended
pub begun_keeps : {R : Type 0} (o : Objects R) (begun : SpillSeen) (number : Result ℕ SpillErr) → BeginAnswers o.spool begun number → Keeps o (record { readers = o.readers; spills = o.spills; spool = begun })
begun_keeps o begun number answers = keeps_spool o.readers o.spills o.spool begun (begin_keeps o.spool begun number answers)

pub written_keeps : {R : Type 0} (o written : Objects R) (begun ended : SpillSeen) (number : Result ℕ SpillErr) (len : Result ℕ Failed) → BeginAnswers o.spool begun number → Keeps (record { readers = o.readers; spills = o.spills; spool = begun }) written → EndAnswers written.spool ended len
    → Keeps o (record { readers = written.readers; spills = written.spills; spool = ended })
written_keeps o written begun ended number len begins writes ends =
    keeps_trans o written (record { readers = written.readers; spills = written.spills; spool = ended })
    (keeps_trans o (record { readers = o.readers; spills = o.spills; spool = begun }) written (begun_keeps o begun number begins) writes)
    (keeps_spool written.readers written.spills written.spool ended (end_keeps written.spool ended len ends))

-- the spool failed
pub spool_failed : {R : Type 0} (readers : List R) (spills : List SpillSeen) (s t : SpillSeen) (runs : List NamedRun) → Rose s.faults t.faults → s.faults ≤ t.faults
    → StopsIn (record { readers = readers; spills = spills; spool = s }) (record { readers = readers; spills = spills; spool = t }) runs (merge_errors.Spill whoms.Spool)
spool_failed readers spills s t runs rose le = (stores.Spool, refl, only_spool readers spills s t rose le)

-- ---- one item more

pub puts_off_none : (s t : SpillSeen) (block after bytes : List ℕ) → t ≡ s → HasBegun s → after ≡ block ++ bytes → PutsOff {A = ⊤} s t block after bytes (Ok tt)
puts_off_none s t block after bytes same begun e = (
  [],
  record {
    all = ap (λ (x : SpillSeen). x.runs) same ∙ sym (grown-nil s.runs);
    some = tt;
    begun = subst HasBegun (sym same) begun;
    ok = ap (λ (x : SpillSeen). x.faults) same;
    memory = λ h. ap (λ (x : SpillSeen). x.faults) same;
    failed = λ h. absurd cc;
    never_falls = omega (arith, ap (λ (x : SpillSeen). x.faults) same);
  },
  e,
)

pub puts_off_all : (r s t : SpillSeen) (block piece bytes : List ℕ) → s ≡ r → HasBegun r → piece ≡ block ++ bytes → AppendAnswers s t piece (Ok tt) → PutsOff {A = ⊤} r t block [] bytes (Ok tt)
puts_off_all r s t block piece bytes same begun e a =
    let runs : t.runs ≡ grown piece r.runs = a.appended ∙ ap (λ (x : SpillSeen). grown piece x.runs) same in
    let faults : t.faults ≡ r.faults = a.ok ∙ ap (λ (x : SpillSeen). x.faults) same in (
      piece,
      record {
        all = runs;
        some = tt;
        begun = still_begun r t piece begun runs;
        ok = faults;
        memory = λ h. faults;
        failed = λ h. absurd cc;
        never_falls = omega (arith, faults);
      },
      append-nil piece ∙ e,
    )

pub puts_next : {R : Type 0} (o n : Objects R) (layers number : ℕ) (head : Head) (before mid after : List RunReader) (item : RunItem) (block block' : List ℕ) → LoadsAt o layers number head before mid item → AdvancesAt o layers number head mid after
    → n.readers ≡ o.readers → n.spills ≡ o.spills → KeepsEnded o.spool.runs n.spool.runs → PutsOff {A = ⊤} o.spool n.spool block block' (item_text item) (Ok tt) → PutsNext o n layers head before after block block'
puts_next o n layers number head before mid after item block block' loads advances readers spills ended puts =
    let keeps : Keeps o n = record { readers = readers; spills = ap (map (λ (s : SpillSeen). s.runs)) spills; spool = ended } in
    record {
      item = item;
      item_is = loads.item_is;
      head_is = sym loads.head_is;
      readers = readers;
      spills = spills;
      puts = puts;
      runs = advances.runs ∙ ap runs_of loads.cursors;
      told_are = told_still o n keeps layers after advances.told_are;
      rises = advances.rises;
      bytes = ap bytes_left (sym loads.cursors) ∙ advances.bytes;
      merged = λ tell.
          let t = advances.merged tell in
          let left : left_at o before number ≡ left_at o mid number = ap (λ (l : List Cursor). get_or (map (left_of o) l) number []) (sym loads.cursors) in
          let same : t.item ≡ item = same_first t.item item _ _ (sym t.first ∙ sym left ∙ loads.first tell) in
          ap (left_merged o) (sym loads.cursors) ∙ t.merged ∙ ap (λ (x : RunItem). x ∷ left_merged o (cursors_of after)) same ∙ ap (λ (l : List RunItem). item ∷ l) (sym (merged_still o n keeps layers after advances.told_are));
    }

-- ---- all items

-- items that were written, where the last has the rank `low` and all have so many bytes
pub record Risen (layers low total : ℕ) (items : List RunItem) : Type 0 where
  pub each : AllByRecursion (IsItemOf layers) items
  pub below : AllByRecursion (λ item. item_rank item ≤ low) items
  pub up : Ascends (by_rank item_rank) items
  pub len : total ≡ length (items_bytes items)

pub record Writing {R : Type 0} (o now : Objects R) (layers : ℕ) (before readers : List RunReader) (block : List ℕ) (appended : ℕ) : Type 0 where
  pub items : List RunItem
  pub readers_same : now.readers ≡ o.readers
  pub spills_same : now.spills ≡ o.spills
  pub written : Written o.spool now.spool block (items_bytes items)
  pub sound : AreSound readers
  pub told_are : AreTold now layers readers
  pub runs : runs_of (cursors_of readers) ≡ runs_of (cursors_of before)
  pub low : ℕ
  pub risen : Risen layers low appended items
  pub rises : All (IsFromRank low) (cursors_of readers)
  pub bytes : bytes_left (cursors_of before) ≡ bytes_left (cursors_of readers) + appended
  pub merged : AllTell o → left_merged o (cursors_of before) ≡ items ++ left_merged now (cursors_of readers)

pub writing_begun : {R : Type 0} (o : Objects R) (layers : ℕ) (before : List RunReader) → AreSound before → AreTold o layers before → HasBegun o.spool → Writing o o layers before before [] 0
writing_begun o layers before sound told begun = record {
  items = [];
  readers_same = refl;
  spills_same = refl;
  written = nothing_written o.spool begun;
  sound = sound;
  told_are = told;
  runs = refl;
  low = 0;
  risen = record { each = tt; below = tt; up = tt; len = refl };
  rises = All-from_get_or (IsFromRank 0) (cursors_of before) no_cursor (λ k lt. omega arith);
  bytes = omega arith;
  merged = λ tell. refl;
}

module _ {R : Type 0} (o now : Objects R) (layers : ℕ) (before readers : List RunReader) (block : List ℕ) (appended : ℕ) (w : Writing o now layers before readers block appended) where
  pub writing_keeps : Keeps o now
  writing_keeps = record {
    readers = w.readers_same;
    spills = ap (map (λ (s : SpillSeen). s.runs)) w.spills_same;
    spool = subst (KeepsEnded o.spool.runs) (sym w.written.runs) (ended_grown o.spool.runs w.written.out);
  }

  -- the objects as they are, by their parts
  pub writing_none : NoneRose o now
  writing_none =
      let parts : NoneRose (record { readers = o.readers; spills = o.spills; spool = o.spool }) (record { readers = o.readers; spills = o.spills; spool = now.spool }) = none_spool o.readers o.spills o.spool now.spool w.written.faults in
      let readers : o.readers ≡ now.readers = sym w.readers_same in
      let spills : o.spills ≡ now.spills = sym w.spills_same in
      subst (λ (n : Objects R). NoneRose o n) (λ i. record { readers = readers i; spills = spills i; spool = now.spool }) parts

  pub writing_more : (next : Objects R) (number : ℕ) (head : Head) (after : List RunReader) (block' : List ℕ) → IsLeast (cursors_of readers) number head → PutsNext now next layers head readers after block block' → AreSound after → Writing o next layers before after block' (appended + head.len)
  writing_more next number head after block' least puts sound =
      let item = puts.item in
      let items = w.items ++ item ∷ [] in
      let low : w.low ≤ head_rank head = subst (λ (h : Option Head). w.low ≤ rank_at h) (head_there (cursors_of readers) number head least) (least_of_all (cursors_of readers) number head least (IsFromRank w.low) w.rises) in
      let rank : head_rank head ≡ item_rank item = ap head_rank (sym puts.head_is) ∙ rank_of_item item in
      let size : length (item_text item) ≡ head.len = sym (len_of_item item) ∙ ap (λ (h : Head). h.len) puts.head_is in
      let text : items_bytes w.items ++ item_text item ≡ items_bytes items =
      ap (λ (l : List ℕ). items_bytes w.items ++ l) (sym (append-nil (item_text item))) ∙ sym (flat_map-append item_text w.items (item ∷ [])) in
      let below : AllByRecursion (λ y. item_rank y ≤ head_rank head) w.items = each_weaker (λ y. item_rank y ≤ w.low) (λ y. item_rank y ≤ head_rank head) (λ y h. omega (arith, h, low)) w.items w.risen.below in
      record {
        items = items;
        readers_same = puts.readers ∙ w.readers_same;
        spills_same = puts.spills ∙ w.spills_same;
        written = subst (Written o.spool next.spool block') text (written_more {A = ⊤} o.spool now.spool next.spool block block' (items_bytes w.items) (item_text item) tt w.written puts.puts);
        sound = sound;
        told_are = puts.told_are;
        runs = puts.runs ∙ w.runs;
        low = head_rank head;
        risen = record {
          each = each_append (IsItemOf layers) w.items (item ∷ []) w.risen.each (puts.item_is, tt);
          below = each_append (λ y. item_rank y ≤ head_rank head) w.items (item ∷ []) below (omega (arith, rank), tt);
          up = ascends_push w.items item w.risen.up (each_weaker (λ y. item_rank y ≤ head_rank head) (λ y. item_rank y ≤ item_rank item) (λ y h. omega (arith, h, rank)) w.items below);
          len = omega (arith, w.risen.len, size, bytes_push w.items item);
        };
        rises = puts.rises;
        bytes = omega (arith, w.bytes, puts.bytes);
        merged = λ tell.
            w.merged tell
            ∙ ap (λ (l : List RunItem). w.items ++ l) (puts.merged (tell_still o now writing_keeps tell))
            ∙ sym (append_assoc w.items (item ∷ []) (left_merged next (cursors_of after)));
      }

  pub writing_ends : (new : Objects R) → All IsDone (cursors_of readers) → new.readers ≡ now.readers → new.spills ≡ now.spills → AppendAnswers now.spool new.spool block (Ok tt) → AppendsAll o new layers before appended
  writing_ends new done readers_same spills_same a =
      let whole = written_whole {old = o.spool} {now = now.spool} {new = new.spool} {block = block} {bytes = items_bytes w.items} (Ok tt) w.written a in
      record {
        items = w.items;
        each = w.risen.each;
        sorted = sorted_from_ascends (by_rank item_rank) w.items w.risen.up;
        appended = whole.all;
        begun = whole.begun;
        len_is = w.risen.len;
        bytes = omega (arith, w.bytes, no_bytes (cursors_of readers) (next_sound readers w.sound) done);
        merged = λ tell.
            sym (append-nil w.items)
            ∙ ap (λ (l : List RunItem). w.items ++ l) (sym (none_merged now layers readers (tell_still o now writing_keeps tell) w.told_are done))
            ∙ sym (w.merged tell);
      }

-- ---- the run that was made

abbrev pub spool_run : ℕ → ℕ → NamedRun
spool_run run len = record { store = stores.Spool; run = record { run = run; len = len } }

pub made_readable : (layers : ℕ) (old new : Option Runs) (items : List RunItem) (run len : ℕ) → new ≡ option_map (with_run (items_bytes items)) old → IfSome old (λ runs. run ≡ length (closed runs)) → len ≡ length (items_bytes items)
    → AllByRecursion (IsItemOf layers) items → AreInOrder items → IfSome new (λ runs. IsRun layers runs (spool_run run len))
made_readable layers None new items run len e number size each sorted = subst (λ (r : Option Runs). IfSome r (λ runs. IsRun layers runs (spool_run run len))) (sym e) tt
made_readable layers (Some runs) new items run len e number size each sorted =
    let bytes = items_bytes items in
    let there : get_or (closed runs ++ bytes ∷ []) run [] ≡ bytes = rw number (get_or-append_seam (closed runs) bytes [] []) in
    subst (λ (r : Option Runs). IfSome r (λ rs. IsRun layers rs (spool_run run len))) (sym e) (record {
      stands = record { ended = omega (arith, number, length-append (closed runs) (bytes ∷ [])); len = size ∙ ap length (sym there) };
      items = subst (λ (l : List ℕ). AreItems layers l) (sym there) (run_made layers items each sorted);
    })

pub made_items : (layers : ℕ) (old new : Option Runs) (items : List RunItem) (run len : ℕ) → new ≡ option_map (with_run (items_bytes items)) old → IfSome old (λ runs. run ≡ length (closed runs)) → IsSome old → AllByRecursion (IsItemOf layers) items
    → left_if (spool_run run len) 0 new ≡ items
made_items layers None new items run len e number s each = absurd (true≢false (sym s))
made_items layers (Some runs) new items run len e number s each =
    let bytes = items_bytes items in
    let there : get_or (closed runs ++ bytes ∷ []) run [] ≡ bytes = rw number (get_or-append_seam (closed runs) bytes [] []) in
    ap (left_if (spool_run run len) 0) e ∙ ap (λ (l : List ℕ). items_in (drop 0 l)) there ∙ items_again layers items each

pub begun_spill : (s t : SpillSeen) → t.runs ≡ option_map with_begun s.runs → HasBegun t
begun_spill s t e = subst (λ (r : Option Runs). IfSome r (λ runs. IsSome runs.begun)) (sym e) (begun_now s.runs)

pub made_of : {R : Type 0} (o o1 o2 o3 : Objects R) (layers run len : ℕ) (readers : List RunReader) → Keeps o o1 → AreTold o layers readers → IfSome o.spool.runs (λ runs. run ≡ length (closed runs)) → o1.spool.runs ≡ option_map with_begun o.spool.runs
    → AppendsAll o1 o2 layers readers len → o3.spool.runs ≡ option_map with_ended o2.spool.runs → IsMadeOf o o3 layers (bytes_left (cursors_of readers)) (map (left_of o) (cursors_of readers)) (spool_run run len)
made_of o o1 o2 o3 layers run len readers keeps told number begun a ended =
    let bytes = items_bytes a.items in
    let e : o3.spool.runs ≡ option_map (with_run bytes) o.spool.runs = ended ∙ ap (option_map with_ended) (a.appended ∙ ap (grown bytes) begun) ∙ run_written o.spool.runs bytes in
    record {
      there = tt;
      readable = made_readable layers o.spool.runs o3.spool.runs a.items run len e number a.len_is a.each a.sorted;
      bytes_are = a.bytes;
      items = λ tell.
          made_items layers o.spool.runs o3.spool.runs a.items run len e number (tell stores.Spool) a.each
          ∙ a.merged (tell_still o o1 keeps tell)
          ∙ merged_still o o1 keeps layers readers told;
    }
