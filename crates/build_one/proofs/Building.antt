-- From what the calls of a build answer to what the lemmas on the whole build take.
use Rattle.std.proofs.Common.{◌≡◌, ℕ, ◌≤◌, Option, IfSome, Result, Ok, List, sym, subst, ◌∙◌}
use Rattle.tb_outside.specs.Source.{SourceSeen}
use Rattle.tb_outside.specs.Spill.{SpillSeen}
use Rattle.tb_outside.specs.declared.spill.RunAt.{RunAt}
use Rattle.pbf_blobs.specs.declared.block.BlockAt.{BlockAt}
use Rattle.pbf_blobs.specs.Frames.{frames_of}
use Rattle.profile_rules.specs.declared.parts.Parts.{Parts}
use Rattle.tile_model.specs.declared.stop.Stop.{Stop}
use Rattle.tile_model.specs.Needs.{largest, block_needs}
use Rattle.pass_survey.specs.declared.found.Found.{Found}
use Rattle.build_one.specs.Made.{GatherAnswers, GatherCounts, Gathers}
use Rattle.build_one.specs.Extracts.{AreFramed}

-- the blocks that a scan gave, of which none needs more than the part
pub framed : (part need : ℕ) (told : Option (List ℕ)) (blocks found : List BlockAt) → IfSome told (λ extract. frames_of extract ≡ Ok found) → blocks ≡ found → need ≡ largest (block_needs blocks) → need ≤ part → AreFramed part told blocks
framed part need told blocks found frames is needs fit = record { frames = subst (λ bs. IfSome told (λ extract. frames_of extract ≡ Ok bs)) (sym is) frames; fit = subst (λ n. n ≤ part) needs fit }

-- what a reader answers is said of the one before it too, which told the same bytes and had failed as often
pub gather-from : (parts : Parts) (part limit : ℕ) (found : Found) (r0 r r' : SourceSeen) (s s' : SpillSeen) (result : Result (List RunAt) Stop) → r.bytes ≡ r0.bytes → r.faults ≡ r0.faults → GatherAnswers parts part limit found r r' s s' result
    → GatherAnswers parts part limit found r0 r' s s' result
gather-from parts part limit found r0 r r' s s' result bytes faults a = record {
  told = subst (λ told. Gathers parts part limit told found s s' result) bytes a.told;
  counts = subst (λ m. GatherCounts result m r'.faults s s') faults a.counts;
  bytes = a.bytes ∙ bytes;
  reader_never_falls = subst (λ m. m ≤ r'.faults) faults a.reader_never_falls;
  spill_never_falls = a.spill_never_falls;
  kept = a.kept;
}
