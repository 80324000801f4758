-- One lane's spill is read, and the other objects stay.
use Rattle.std.proofs.Common.{◌≡◌, ◌≢◌, ℕ, ◌<◌, ◌≤◌, List, [], ◌∷◌, length, map, get_or, set, refl, sym, ap, subst, ◌∙◌, arith}
use Rattle.std.proofs.lemmas.List.{length-map, map-set, set-get_or, get_or-map, get_or-set_same, get_or-set_other}
use Rattle.tb_types.specs.Counts.{Rose}
use Rattle.tb_types.specs.declared.trouble.Whom.{Whom}
use Rattle.tb_outside.specs.declared.lane.Lane.{Lane}
use Rattle.tb_outside.specs.Spill.{SpillSeen}
use Rattle.run_merge.specs.declared.named_run.Store.{Store}
use Rattle.run_merge.specs.declared.named_run.Store.TheVariants as stores
use Rattle.run_merge.specs.declared.named_run.NamedRun.{NamedRun}
use Rattle.run_merge.specs.Objects.{objects_of, nowhere, spill_of, whom_of, Keeps, OnlyRose}
use Rattle.run_merge.specs.Steps.{FaultIn}
use Rattle.run_merge.proofs.ObjectSteps.{ended_refl}

-- what is set doesn't change what is seen
pub map_set_same : {A B : Type 0} (f : A → B) (xs : List A) (k : ℕ) (d y : A) → k < length xs → f y ≡ f (get_or xs k d) → map f (set xs k y) ≡ map f xs
map_set_same f xs k d y lt e = map-set f xs k y ∙ ap (set (map f xs) k) (e ∙ sym (get_or-map f xs k d (f d) lt)) ∙ set-get_or (map f xs) k (f d)

module _ {R S : Type 0} (seen : S → SpillSeen) (lanes : List (Lane R S)) (k : ℕ) (d : Lane R S) (t : S) (spool : S) (lt : k < length lanes) where
  abbrev reader_of : Lane R S → R
  reader_of lane = lane.reader

  abbrev seen_of : Lane R S → SpillSeen
  seen_of lane = seen lane.spill

  abbrev now : List (Lane R S)
  now = set lanes k (record { reader = (get_or lanes k d).reader; spill = t })

  readers_same : map reader_of now ≡ map reader_of lanes
  readers_same = map_set_same reader_of lanes k d (record { reader = (get_or lanes k d).reader; spill = t }) lt refl

  pub lane_same : seen t ≡ seen (get_or lanes k d).spill → objects_of seen now spool ≡ objects_of seen lanes spool
  lane_same e =
      let spills : map seen_of now ≡ map seen_of lanes = map_set_same seen_of lanes k d (record { reader = (get_or lanes k d).reader; spill = t }) lt e in
      λ i. record { readers = readers_same i; spills = spills i; spool = seen spool }

  spills_are : map seen_of now ≡ set (map seen_of lanes) k (seen t)
  spills_are = map-set seen_of lanes k (record { reader = (get_or lanes k d).reader; spill = t })

  spill_was : get_or (map seen_of lanes) k nowhere ≡ seen (get_or lanes k d).spill
  spill_was = get_or-map seen_of lanes k d nowhere lt

  inside : k < length (map seen_of lanes)
  inside = omega (arith, lt, length-map lanes seen_of)

  spill_is : get_or (map seen_of now) k nowhere ≡ seen t
  spill_is = ap (λ (l : List SpillSeen). get_or l k nowhere) spills_are ∙ get_or-set_same (map seen_of lanes) k (seen t) nowhere inside

  keeps : (seen t).runs ≡ (seen (get_or lanes k d).spill).runs → Keeps (objects_of seen lanes spool) (objects_of seen now spool)
  keeps e = record {
    readers = readers_same;
    spills = ap (map (λ (s : SpillSeen). s.runs)) spills_are ∙ map_set_same (λ (s : SpillSeen). s.runs) (map seen_of lanes) k nowhere (seen t) inside (e ∙ ap (λ (s : SpillSeen). s.runs) (sym spill_was));
    spool = ended_refl (seen spool).runs;
  }

  others : (other : Store) → other ≢ stores.Lane k → (spill_of (objects_of seen now spool) other).faults ≡ (spill_of (objects_of seen lanes spool) other).faults
  others (stores.Lane j) ne =
      let apart : j ≢ k = λ e. ne (ap (λ (n : ℕ). stores.Lane n) e) in
      ap (λ (l : List SpillSeen). (get_or l j nowhere).faults) spills_are ∙ ap (λ (s : SpillSeen). s.faults) (get_or-set_other (map seen_of lanes) k j (seen t) nowhere apart)
  others stores.Spool ne = refl

  only : Rose (seen (get_or lanes k d).spill).faults (seen t).faults → (seen (get_or lanes k d).spill).faults ≤ (seen t).faults → OnlyRose (objects_of seen lanes spool) (objects_of seen now spool) (stores.Lane k)
  only rose le = record {
    rose = subst (λ (s : SpillSeen). Rose s.faults (get_or (map seen_of now) k nowhere).faults) (sym spill_was) (subst (λ (s : SpillSeen). Rose (seen (get_or lanes k d).spill).faults s.faults) (sym spill_is) rose);
    never_falls = omega (arith, le, ap (λ (s : SpillSeen). s.faults) spill_was, ap (λ (s : SpillSeen). s.faults) spill_is);
    others = others;
  }

  pub lane_fault : (run : NamedRun) (whom : Whom) → run.store ≡ stores.Lane k → whom ≡ whom_of run.store → (seen t).runs ≡ (seen (get_or lanes k d).spill).runs → Rose (seen (get_or lanes k d).spill).faults (seen t).faults
      → (seen (get_or lanes k d).spill).faults ≤ (seen t).faults → FaultIn (objects_of seen lanes spool) (objects_of seen now spool) (run ∷ []) whom
  lane_fault run whom store is runs rose le = record {
    run = run;
    named = (0, omega arith, refl);
    whom_is = is;
    keeps = keeps runs;
    only = subst (OnlyRose (objects_of seen lanes spool) (objects_of seen now spool)) (sym store) (only rose le);
  }
