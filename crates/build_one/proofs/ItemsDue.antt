-- What a build answers by the items that an extract gave.
use Rattle.std.proofs.Common.{◌≡◌, ℕ, Option, None, Some, IfSome, Result, [], ◌∷◌, length, unwrap_or, refl, sym, subst}
use Rattle.tb_types.specs.Needs.{batch_part}
use Rattle.tb_types.specs.declared.location.Bounds.{Bounds}
use Rattle.tb_outside.specs.Source.{SourceSeen}
use Rattle.tb_outside.specs.Spill.{SpillSeen}
use Rattle.tb_outside.specs.Sink.{SinkSeen}
use Rattle.profile_rules.specs.declared.parts.Parts.{Parts}
use Rattle.profile_rules.specs.Sound.{IsSound}
use Rattle.pmtiles_dirs.specs.declared.totals.Totals.{Totals}
use Rattle.tile_model.specs.declared.from.ProfileFrom.{ProfileFrom}
use Rattle.tile_model.specs.declared.stop.Stop.{Stop}
use Rattle.tile_model.specs.Due.{Due}
use Rattle.tile_model.specs.Needs.{run_limit}
use Rattle.profile_rules.specs.Fields.{layers_of}
use Rattle.run_merge.specs.Answers.{named_runs}
use Rattle.run_merge.specs.Steps.{AreReadable}
use Rattle.build_one.specs.Answers.{BuildAnswers}
use Rattle.build_one.specs.Made.{IsKnown, MapWritten}
use Rattle.build_one.specs.declared.extract.Items.{Items}
use Rattle.build_one.specs.Extracts.{ReadsParts, HasItems, at_lane}
use Rattle.pmtiles_dirs.specs.Bounds.{CanBeWritten}
use Rattle.build_one.specs.Writing.{all_groups}
use Rattle.build_one.proofs.MapDue.{seen_by, told_of}
use Rattle.pass_survey.specs.declared.header.HeaderAt.{HeaderAt}
use Rattle.pass_survey.specs.Told.{box_of}
use Rattle.pass_survey.specs.Found.{IsValidBox}
use Rattle.build_one.proofs.Boxes.{some-written}
use Rattle.build_one.proofs.Runs.{runs-readable}
use Rattle.build_one.proofs.Builds.{map-answers}

-- the box of the items can be written
pub ready-box : (found : Option HeaderAt) (box : Option Bounds) → box ≡ unwrap_or (box_of found) None → IfSome found IsValidBox → IfSome box CanBeWritten
ready-box None box is h = subst (λ b. IfSome b CanBeWritten) (sym is) tt
ready-box (Some first) box is h = subst (λ b. IfSome b CanBeWritten) (sym is) (some-written first.bounds h)

module _ (parts : Parts) (budget : ℕ) (r r' : SourceSeen) (s s' o : SpillSeen) {L : Type 0} (lane : L) (sound : IsSound parts) (items : Items) (h : HasItems parts budget r r' s s' items) where
  pub items-readable : AreReadable (seen_by (lane ∷ []) s' o) (length (layers_of parts)) (named_runs (items.runs ∷ []))
  items-readable = runs-readable parts (run_limit budget 1) (lane ∷ []) s s' o items.runs sound h.gathered.told.0 h.gathered.kept

module _ (from : ProfileFrom) (budget : ℕ) (p p' r : SourceSeen) (s o : SpillSeen) (k : SinkSeen) (parts : Parts) (q : ReadsParts from p p' parts) (r' : SourceSeen) (s' : SpillSeen) {L : Type 0} (lane : L) (sound : IsSound parts) (items : Items)
    (h : HasItems parts budget r r' s s' items) (s'' o' : SpillSeen) (k' : SinkSeen) (result : Result Totals Stop) where
  pub items-written : ((d : Option Due) → IsKnown parts (batch_part budget) (told_of s' o) (all_groups (seen_by (lane ∷ []) s' o) (items.runs ∷ [])) items.bounds d → MapWritten d s' s'' o o' k k' result)
      → BuildAnswers from budget 1 (at_lane p r s o k) (at_lane p' r' s'' o' k') result
  items-written writes =
      map-answers from budget p p' r s o k parts q r' h.gathered.bytes h.blocks h.framed h.found h.surveys (run_limit budget 1) s' lane items.runs items.bounds sound h.box h.gathered s'' o' k' result refl h.loaded writes
