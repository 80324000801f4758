-- What the statuses of `gen` say.
use Rattle.std.specs.Prelude.{◌≡◌, ◌⊎◌, ℕ, Option, None, Some, List}
use Rattle.tb_types.specs.Counts.{Rose}
use Rattle.tb_outside.specs.Sink.{SinkSeen, with_more}
use Rattle.gen_world.specs.Frames.{frames_of, extract_of}
use Rattle.tile_model.specs.declared.stop.Stop.TheVariants as stops
use Rattle.tile_model.specs.Objects.{Objects, CountsStay}
use Rattle.build_cli.specs.declared.status.Refusal.TheVariants.{Stopped}
use Rattle.build_cli.specs.Command.{Command, build, check, show, generate, trial, command_of}
use Rattle.build_cli.specs.Extract.{totals_of, generated_line}
use Rattle.build_cli.specs.Status.{done, status_of}
use Rattle.build_cli.specs.Answers.{Answers}

-- P holds of the seed and the number of elements, where a command generates
abbrev pub IfGenerates : Option Command → (ℕ → ℕ → Type 0) → Type 0
IfGenerates None P = Unit {0}
IfGenerates (Some (build rules extract archive budget)) P = Unit {0}
IfGenerates (Some (check archive)) P = Unit {0}
IfGenerates (Some (show archive tile)) P = Unit {0}
IfGenerates (Some (generate seed count extract)) P = P seed count
IfGenerates (Some (trial seed count archive)) P = Unit {0}

-- the archive's sink has just the extract more, the console just the line of its blocks and bytes, no count rose, and nothing else was used
pub record IsGenerated (seed count : ℕ) (before after : Objects) (console new_console : SinkSeen) : Type 0 where
  pub written : after.archive.bytes ≡ with_more before.archive.bytes (extract_of seed count)
  pub told : new_console.bytes ≡ with_more console.bytes (generated_line (totals_of (frames_of seed count)))
  pub counts : CountsStay before after
  pub console_count : new_console.faults ≡ console.faults
  pub unused : after ≡ record before { archive = after.archive }

-- status 0 of `gen` means that
abbrev pub DoneMeansGenerated : Type 0
DoneMeansGenerated = (words : List (List ℕ)) (before after : Objects) (console new_console : SinkSeen) (answer : ℕ) → Answers words before after console new_console answer → answer ≡ done
    → IfGenerates (command_of words) (λ seed count. IsGenerated seed count before after console new_console)

-- where neither the count of the archive's sink rose nor the console's, `gen` is done, or memory wants
abbrev pub GeneratingIsComplete : Type 0
GeneratingIsComplete = (words : List (List ℕ)) (before after : Objects) (console new_console : SinkSeen) (answer : ℕ) → Answers words before after console new_console answer
    → (Rose before.archive.faults after.archive.faults → ⊥) → (Rose console.faults new_console.faults → ⊥) → IfGenerates (command_of words) (λ seed count. (answer ≡ done) ⊎ (answer ≡ status_of (Stopped stops.Memory)))
