-- The map of one lane's runs: the lane stays one, with the same reader.
use Rattle.std.proofs.Common.{◌≡◌, ℕ, Option, Result, Ok, Err, List, [], ◌∷◌, map, slice_index_or, refl, ap, subst}
use Rattle.tb_types.specs.declared.location.Bounds.{Bounds}
use Rattle.tb_outside.specs.declared.lane.Lane.{Lane}
use Rattle.tb_outside.specs.declared.spill.RunAt.{RunAt}
use Rattle.tb_outside.specs.Sink.{SinkSeen}
use Rattle.tb_outside.specs.Spill.{SpillSeen}
use Rattle.profile_rules.specs.declared.parts.Parts.{Parts}
use Rattle.profile_rules.specs.Sound.{IsSound}
use Rattle.mvt_codec.specs.declared.item.RunItem.{RunItem}
use Rattle.pmtiles_dirs.specs.declared.meta.Meta.{Meta}
use Rattle.pmtiles_dirs.specs.declared.totals.Totals.{Totals}
use Rattle.pmtiles_file.specs.declared.finish_err.FinishErr.{FinishErr}
use Rattle.pmtiles_file.specs.Finished.{FinishAnswers}
use Rattle.pmtiles_file.specs.Writing.{WriterSeen}
use Rattle.run_merge.specs.declared.merge_err.MergeErr.{MergeErr}
use Rattle.run_merge.specs.Objects.{objects_of}
use Rattle.tile_model.specs.declared.stop.Stop.{Stop}
use Rattle.tile_model.specs.Due.{Due}
use Rattle.tile_model.specs.Map.{meta_of}
use Rattle.build_one.specs.Made.{IsKnown, MapWritten}
use Rattle.build_one.specs.Stages.{stop_of_tiles}
use Rattle.build_one.specs.Writing.{all_groups, MapAnswers}
use Rattle.build_one.proofs.MapDue.{IsFinished, map-finished, map-refused, told_of}

module _ {R S : Type 0} where
  one-left : (lanes : List (Lane R S)) (d : Lane R S) → map (λ (l : Lane R S). l.reader) lanes ≡ d.reader ∷ [] → lanes ≡ slice_index_or lanes 0 d ∷ []
  one-left [] d h = absurd cc
  one-left (l ∷ []) d h = refl
  one-left (l ∷ (m ∷ lanes)) d h = absurd cc

module _ {R S : Type 0} (seen : S → SpillSeen) (parts : Parts) (part : ℕ) (box : Option Bounds) (sound : IsSound parts) (meta : Meta) (lane : Lane R S) (spool : S) (runs : List (List RunAt)) (lanes : List (Lane R S)) (spool' : S) where
  abbrev left : Lane R S
  left = slice_index_or lanes 0 lane

  abbrev groups : List (ℕ × List RunItem)
  groups = all_groups (objects_of seen (lane ∷ []) spool) runs

  abbrev Answers : List (Lane R S) → Result WriterSeen MergeErr → Type 0
  Answers after r = MapAnswers parts part meta groups (objects_of seen (lane ∷ []) spool) (objects_of seen after spool') r

  -- what is said of a list that has this lane alone
  pub of-one : (before : List (Lane R S)) (r : Result WriterSeen MergeErr) → before ≡ lane ∷ [] → MapAnswers parts part meta (all_groups (objects_of seen before spool) runs) (objects_of seen before spool) (objects_of seen lanes spool') r → Answers lanes r
  of-one before r is = subst (λ l. MapAnswers parts part meta (all_groups (objects_of seen l spool) runs) (objects_of seen l spool) (objects_of seen lanes spool') r) is

  module _ (r : Result WriterSeen MergeErr) (a : Answers lanes r) where
    one : Answers (left ∷ []) r
    one = subst (λ l. Answers l r) (one-left lanes lane a.stays.readers) a

    pub same-reader : left.reader ≡ lane.reader
    same-reader = ap (λ rs. slice_index_or rs 0 left.reader) one.stays.readers

  pub map-stopped : (e : MergeErr) → Answers lanes (Err e) → (k : SinkSeen) (due : Option Due) → IsKnown parts part (told_of (seen lane.spill) (seen spool)) groups box due
      → MapWritten due (seen lane.spill) (seen left.spill) (seen spool) (seen spool') k k (Err (stop_of_tiles e))
  map-stopped e a k due known =
      let h = one (Err e) a in
      map-refused parts part box sound groups (lane.reader ∷ []) (left.reader ∷ []) (seen lane.spill) (seen left.spill) (seen spool) (seen spool') due known h.stays meta k e h

  pub map-ended : (w : WriterSeen) → Answers lanes (Ok w) → meta ≡ meta_of parts box → (o' : SpillSeen) (k k' : SinkSeen) (r : Result Totals FinishErr) → FinishAnswers w (seen spool') o' k k' r → (x : Result Totals Stop) → IsFinished r x
      → (due : Option Due) → IsKnown parts part (told_of (seen lane.spill) (seen spool)) groups box due → MapWritten due (seen lane.spill) (seen left.spill) (seen spool) o' k k' x
  map-ended w a meta-is o' k k' r f x is due known =
      let h = one (Ok w) a in
      map-finished parts part box sound groups (lane.reader ∷ []) (left.reader ∷ []) (seen lane.spill) (seen left.spill) (seen spool) (seen spool') due known h.stays meta meta-is w h o' k k' r f x is
