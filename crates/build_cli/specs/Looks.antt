-- What the statuses of a look into an archive say: of `check` and `show`.
use Rattle.std.specs.Prelude.{◌≡◌, ◌⊎◌, ℕ, Option, None, Some, IfSome, Result, Ok, Err, List}
use Rattle.tb_types.specs.Counts.{Rose}
use Rattle.tb_outside.specs.Sink.{SinkSeen, with_more}
use Rattle.pmtiles_dirs.specs.declared.fault.ArcFault.{ArcFault}
use Rattle.archive_text.specs.Check.{check_text}
use Rattle.archive_text.specs.Show.{show_text}
use Rattle.archive_text.specs.Due.{due_of}
use Rattle.tile_model.specs.declared.stop.Stop.TheVariants as stops
use Rattle.tile_model.specs.Objects.{Objects, CountsStay, NoneRose, extract_in}
use Rattle.build_cli.specs.declared.status.Refusal.TheVariants.{Stopped, Faulty}
use Rattle.build_cli.specs.Command.{Command, build, check, show, generate, trial, command_of}
use Rattle.build_cli.specs.Status.{done, status_of}
use Rattle.build_cli.specs.Answers.{Answers}

-- the text that a command asks for of an archive's bytes, if it looks into one
abbrev pub text_of : Option Command → Option (List ℕ → List ℕ)
text_of None = None
text_of (Some (build rules extract archive budget)) = None
text_of (Some (check archive)) = Some check_text
text_of (Some (show archive tile)) = Some (show_text tile)
text_of (Some (generate seed count extract)) = None
text_of (Some (trial seed count archive)) = None

-- P holds of the text that words ask for and of the archive's bytes, where the words look into one that tells its bytes
abbrev pub OfText : List (List ℕ) → Objects → ((List ℕ → List ℕ) → List ℕ → Type 0) → Type 0
OfText words before P = IfSome (text_of (command_of words)) (λ text. IfSome (extract_in before) (P text))

-- a look was done: the archive has no fault, the console has just its text more, and no count rose
pub record IsShown (text : List ℕ → List ℕ) (archive : List ℕ) (before after : Objects) (console new_console : SinkSeen) : Type 0 where
  pub due : due_of text archive ≡ Ok (text archive)
  pub told : new_console.bytes ≡ with_more console.bytes (text archive)
  pub counts : CountsStay before after
  pub console_count : new_console.faults ≡ console.faults

-- status 0 of a look means that
abbrev pub DoneMeansShown : Type 0
DoneMeansShown = (words : List (List ℕ)) (before after : Objects) (console new_console : SinkSeen) (answer : ℕ) → Answers words before after console new_console answer → answer ≡ done
    → OfText words before (λ text archive. IsShown text archive before after console new_console)

-- the status of what is due, or of want of memory
abbrev pub Fits : Result (List ℕ) ArcFault → ℕ → Type 0
Fits (Ok text) answer = (answer ≡ done) ⊎ (answer ≡ status_of (Stopped stops.Memory))
Fits (Err fault) answer = (answer ≡ status_of (Faulty fault)) ⊎ (answer ≡ status_of (Stopped stops.Memory))

-- where no count rose, the status of a look tells exactly whether the archive has a fault, or that memory wants
abbrev pub LooksAreComplete : Type 0
LooksAreComplete = (words : List (List ℕ)) (before after : Objects) (console new_console : SinkSeen) (answer : ℕ) → Answers words before after console new_console answer → NoneRose before after → (Rose console.faults new_console.faults → ⊥)
    → OfText words before (λ text archive. Fits (due_of text archive) answer)
