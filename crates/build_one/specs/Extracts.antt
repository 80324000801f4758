-- What reading an extract answers: the items of its map in runs, or why there are none.
use Rattle.std.specs.Prelude.{◌≡◌, ℕ, ◌≤◌, Option, None, IfSome, Result, Ok, Err, List, [], ◌∷◌, unwrap_or}
use Rattle.tb_types.specs.Needs.{batch_part}
use Rattle.tb_outside.specs.Source.{SourceSeen}
use Rattle.tb_outside.specs.Spill.{SpillSeen}
use Rattle.tb_outside.specs.Sink.{SinkSeen}
use Rattle.pbf_blobs.specs.declared.block.BlockAt.{BlockAt}
use Rattle.pbf_blobs.specs.Frames.{frames_of}
use Rattle.profile_rules.specs.declared.parts.Parts.{Parts}
use Rattle.pmtiles_dirs.specs.Bounds.{CanBeWritten}
use Rattle.tile_model.specs.declared.from.ProfileFrom.{ProfileFrom}
use Rattle.tile_model.specs.declared.stop.Stop.{Stop}
use Rattle.tile_model.specs.Contents.{contents_at}
use Rattle.tile_model.specs.Due.{parts_from}
use Rattle.tile_model.specs.From.{IsAlone}
use Rattle.tile_model.specs.Loads.{AreLoaded}
use Rattle.tile_model.specs.Needs.{largest, block_needs, run_limit}
use Rattle.tile_model.specs.Objects.{Objects}
use Rattle.build_one.specs.declared.extract.Items.{Items}
use Rattle.pass_survey.specs.declared.found.Found.{Found}
use Rattle.pass_survey.specs.Told.{box_of}
use Rattle.build_one.specs.Answers.{BuildAnswers}
use Rattle.build_one.specs.Made.{GatherAnswers}
use Rattle.build_one.specs.Survey.{Surveys}

-- the objects of a build on one lane: the profile's source, the extract's reader, the lane's spill, the spool and the archive's sink
abbrev pub at_lane : SourceSeen → SourceSeen → SpillSeen → SpillSeen → SinkSeen → Objects
at_lane profile reader spill spool archive = record { profile = profile; readers = reader ∷ []; spills = spill ∷ []; spool = spool; archive = archive }

-- what was read of the profile, and what that leaves of its source
pub record ReadsParts (from : ProfileFrom) (p p' : SourceSeen) (parts : Parts) : Type 0 where
  pub told : IfSome (parts_from from p.bytes) (λ found. found ≡ Ok parts)
  pub bytes : p'.bytes ≡ p.bytes
  pub faults : p'.faults ≡ p.faults
  pub alone : IsAlone from → p' ≡ p

-- the frames have these blocks, of which none needs more than the part
pub record AreFramed (part : ℕ) (told : Option (List ℕ)) (blocks : List BlockAt) : Type 0 where
  pub frames : IfSome told (λ extract. frames_of extract ≡ Ok blocks)
  pub fit : largest (block_needs blocks) ≤ part

-- all passes behind the survey were done, and each loaded what it has to
pub record HasItems (parts : Parts) (budget : ℕ) (r r' : SourceSeen) (s s' : SpillSeen) (items : Items) : Type 0 where
  pub blocks : List BlockAt
  pub framed : AreFramed (batch_part budget) r.bytes blocks
  pub found : Found
  pub surveys : IfSome r.bytes (λ extract. Surveys parts extract blocks (Ok found) (contents_at extract blocks))
  pub gathered : GatherAnswers parts (batch_part budget) (run_limit budget 1) found r r' s s' (Ok items.runs)
  pub loaded : IfSome r.bytes (λ extract. AreLoaded extract (r ∷ []) (r' ∷ []))
  pub box : items.bounds ≡ unwrap_or (box_of found.header) None
  pub ready : IfSome items.bounds CanBeWritten

-- the items are there; or a build that stops here keeps its promise, whatever its other objects are
abbrev pub ExtractAnswers : Parts → ℕ → SourceSeen → SourceSeen → SpillSeen → SpillSeen → Result Items Stop → Type 0
ExtractAnswers parts budget r r' s s' (Ok items) = HasItems parts budget r r' s s' items
ExtractAnswers parts budget r r' s s' (Err stop) = (from : ProfileFrom) (p p' : SourceSeen) (o : SpillSeen) (k : SinkSeen) → ReadsParts from p p' parts
    → BuildAnswers from budget 1 (at_lane p r s o k) (at_lane p' r' s' o k) (Err stop)
