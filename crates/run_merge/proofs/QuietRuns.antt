-- Where no spill tells its runs, all of them can be read.
use Rattle.std.proofs.Common.{◌≡◌, ℕ, zero, suc, ◌<◌, Option, None, IfSome, List, [], ◌∷◌, length, map, get_or, sym, subst, arith}
use Rattle.std.proofs.lemmas.List.{length-map}
use Rattle.std.proofs.lemmas.List.Elements.{All-weaker}
use Rattle.tb_outside.specs.declared.lane.Lane.{Lane}
use Rattle.tb_outside.specs.declared.spill.RunAt.{RunAt}
use Rattle.tb_outside.specs.Spill.{Runs, SpillSeen}
use Rattle.run_merge.specs.declared.named_run.Store.{Store}
use Rattle.run_merge.specs.declared.named_run.Store.TheVariants as stores
use Rattle.run_merge.specs.declared.named_run.NamedRun.{NamedRun}
use Rattle.run_merge.specs.declared.run_reader.RunReader.{RunReader}
use Rattle.run_merge.specs.Objects.{objects_of, nowhere, spill_of, IsThere}
use Rattle.run_merge.specs.Cursors.{IsRun, Reads, AreThere, AreTold, IsTold}
use Rattle.run_merge.specs.Steps.{IsReadable, AreReadable, RunsAreThere}
use Rattle.run_merge.specs.Answers.{named_runs}
use Rattle.run_merge.proofs.Openings.{named_there}

nothing_told : (P : Runs → Type 0) (r : Option Runs) → r ≡ None → IfSome r P
nothing_told P r e = subst (λ (o : Option Runs). IfSome o P) (sym e) tt

module _ {R S : Type 0} (seen : S → SpillSeen) (quiet : (s : S) → (seen s).runs ≡ None) where
  untold_at : (lanes : List (Lane R S)) (k : ℕ) → k < length lanes → (get_or (map (λ (lane : Lane R S). seen lane.spill) lanes) k nowhere).runs ≡ None
  untold_at [] k lt = absurd (omega (arith, lt))
  untold_at (lane ∷ lanes) zero lt = quiet lane.spill
  untold_at (lane ∷ lanes) (suc k) lt = untold_at lanes k (omega (arith, lt))

  untold : (lanes : List (Lane R S)) (spool : S) (store : Store) → IsThere (objects_of seen lanes spool) store → (spill_of (objects_of seen lanes spool) store).runs ≡ None
  untold lanes spool (stores.Lane k) there = untold_at lanes k (omega (arith, there, length-map lanes (λ (lane : Lane R S). seen lane.spill)))
  untold lanes spool stores.Spool there = quiet spool

  pub quiet_readers : (lanes : List (Lane R S)) (spool : S) (layers : ℕ) (readers : List RunReader) → AreThere (objects_of seen lanes spool) readers → AreTold (objects_of seen lanes spool) layers readers
  quiet_readers lanes spool layers readers there =
      let o = objects_of seen lanes spool in
      All-weaker (λ (reader : RunReader). IsThere o reader.cursor.run.store) (IsTold o layers) (λ reader is. nothing_told (Reads layers reader) (spill_of o reader.cursor.run.store).runs (untold lanes spool reader.cursor.run.store is)) readers there

  pub quiet_runs : (lanes : List (Lane R S)) (spool : S) (layers : ℕ) (lists : List (List RunAt)) → length lists ≡ length lanes → AreReadable (objects_of seen lanes spool) layers (named_runs lists)
  quiet_runs lanes spool layers lists count =
      let o = objects_of seen lanes spool in
      let there : RunsAreThere o (named_runs lists) = named_there o 0 lists (omega (arith, count, length-map lanes (λ (lane : Lane R S). seen lane.spill))) in
      All-weaker (λ (run : NamedRun). IsThere o run.store) (IsReadable o layers) (λ run is. nothing_told (λ runs. IsRun layers runs run) (spill_of o run.store).runs (untold lanes spool run.store is)) (named_runs lists) there
