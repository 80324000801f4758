-- What is due by what is told of a profile and an extract.
use Rattle.std.proofs.Common.{◌≡◌, ℕ, ◌≤◌, ◌<◌, cond, Option, None, Some, IfSome, Result, Ok, Err, List, sym, ap, subst, ◌∙◌}
use Rattle.std.specs.Option.{option_map, option_and_then}
use Rattle.std.proofs.lemmas.Bool.{lt-ltb, le-ltb}
use Rattle.tb_types.specs.declared.trouble.Stage.{Stage}
use Rattle.tb_types.specs.declared.trouble.Stage.TheVariants as stages
use Rattle.pbf_blobs.specs.declared.block.BlockAt.{BlockAt}
use Rattle.pbf_blobs.specs.Frames.{frames_of}
use Rattle.profile_rules.specs.declared.parts.Parts.{Parts}
use Rattle.profile_rules.specs.Faults.{Fault}
use Rattle.tile_model.specs.declared.stop.Stop.TheVariants as stops
use Rattle.tile_model.specs.Contents.{contents_at}
use Rattle.tile_model.specs.Due.{Due, Built, if_small, if_within, due_of_contents, due_of_frames, due_of_extract, due_of_profile}
use Rattle.tile_model.specs.Needs.{largest, block_needs}

abbrev pub due_by : ℕ → Option (Result Parts Fault) → Option (List ℕ) → Option Due
due_by part told extract = option_and_then (λ found. due_of_profile part found extract) told

-- by what is told of a profile: nothing, or what its parts and the extract give
pub on-due : (part : ℕ) (told : Option (Result Parts Fault)) (parts : Parts) (extract : Option (List ℕ)) (P : Option Due → Type 0) → IfSome told (λ found. found ≡ Ok parts) → P None → P (option_map (due_of_extract parts part) extract)
    → P (due_by part told extract)
on-due part None parts extract P is none some = none
on-due part (Some found) parts extract P is none some = subst P (sym (ap (λ f. due_of_profile part f extract) is)) some

pub above-part : (part need : ℕ) (stage : Stage) (due : Due) → part < need → if_within part stage need due ≡ Err (stops.Budget stage need)
above-part part need stage due h = ap (λ b. cond b (Err (stops.Budget stage need)) due) (lt-ltb part need h)

pub within-part : (part need : ℕ) (stage : Stage) (due : Due) → need ≤ part → if_within part stage need due ≡ due
within-part part need stage due h = ap (λ b. cond b (Err (stops.Budget stage need)) due) (le-ltb part need h)

pub due-framed : (parts : Parts) (part : ℕ) (extract : List ℕ) (blocks : List BlockAt) → frames_of extract ≡ Ok blocks → largest (block_needs blocks) ≤ part → due_of_extract parts part extract ≡ due_of_contents parts part (contents_at extract blocks)
due-framed parts part extract blocks is fit = ap (due_of_frames parts part extract) is ∙ within-part part (largest (block_needs blocks)) stages.Block (due_of_contents parts part (contents_at extract blocks)) fit

-- of an archive that is due, P holds
abbrev pub IfBuilt : Due → (Built → Type 0) → Type 0
IfBuilt (Ok built) P = P built
IfBuilt (Err stop) P = Unit {0}

pub if-built : (over : Option ℕ) (built : Built) (P : Built → Type 0) → P built → IfBuilt (if_small over built) P
if-built None built P h = h
if-built (Some need) built P h = tt
