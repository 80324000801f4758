-- What a command's answer says, whatever number of lanes works on it.
use Rattle.std.specs.Prelude.{◌≡◌, ◌⊎◌, ◌↔◌, ℕ, ◌≤◌, Option, None, Some, IfSome, Result, Ok, Err, List, [], ◌∷◌}
use Rattle.std.specs.List.{concat}
use Rattle.tb_types.specs.Counts.{Rose}
use Rattle.tb_outside.specs.Source.{SourceSeen}
use Rattle.tb_outside.specs.Sink.{SinkSeen, with_more, GrowsByPrefix}
use Rattle.pmtiles_read.specs.declared.error.ReadErr.{ReadErr}
use Rattle.archive_text.specs.Answers.{LookAnswers}
use Rattle.archive_text.specs.Check.{check_text}
use Rattle.archive_text.specs.Show.{show_text}
use Rattle.tile_model.specs.declared.from.ProfileFrom.{ProfileFrom}
use Rattle.tile_model.specs.declared.stop.Stop.{Stop}
use Rattle.pmtiles_dirs.specs.declared.totals.Totals.{Totals}
use Rattle.tile_model.specs.Objects.{Objects, all_told}
use Rattle.tile_model.specs.declared.from.ProfileFrom.TheVariants as profiles
use Rattle.tile_model.specs.Due.{Due, due_in, due_of}
use Rattle.tile_model.specs.From.{IsAlone}
use Rattle.build_one.specs.Answers.{BuildAnswers, OnBuilt, IfTold}
use Rattle.gen_world.specs.Frames.{frames_of, extract_of}
use Rattle.build_cli.specs.Command.{Command, build, check, show, generate, trial, command_of, source_of}
use Rattle.build_cli.specs.Ended.{Ended, build_ended, look_ended, generate_ended, trial_ended}
use Rattle.build_cli.specs.Extract.{totals_of}
use Rattle.build_cli.specs.Line.{line_of}
use Rattle.build_cli.specs.Status.{done, sink_failed, status_of}
use Rattle.build_cli.specs.declared.generate.Generated.{Generated}
use Rattle.build_cli.specs.declared.generate.GenErr.{GenErr}
use Rattle.build_cli.specs.declared.generate.GenErr.TheVariants as gen_errors
use Rattle.build_cli.specs.declared.number.TheConstants.{DEFAULT_BUDGET}
use Rattle.build_cli.specs.declared.status.Refusal.TheVariants.{Words}

-- the console has a line more, or a prefix of it where its count rose; its count never falls
pub record HasLine (old new : SinkSeen) (line : List ℕ) : Type 0 where
  pub told : (new.bytes ≡ with_more old.bytes line) ⊎ (Rose old.faults new.faults × GrowsByPrefix old.bytes new.bytes line)
  pub never_falls : old.faults ≤ new.faults

-- a sink has a text more
pub record HasWholeText (old new : SinkSeen) (text : List ℕ) : Type 0 where
  pub told : new.bytes ≡ with_more old.bytes text
  pub faults : new.faults ≡ old.faults

-- a sink failed with a prefix of the text
pub record LacksText (old new : SinkSeen) (text : List ℕ) : Type 0 where
  pub told : GrowsByPrefix old.bytes new.bytes text
  pub rose : Rose old.faults new.faults
  pub never_falls : old.faults ≤ new.faults

-- The status and the console after a command. The text of success is whole, or else the status is that of a sink; a refusal keeps its
-- status, whatever becomes of its line.
abbrev pub Tells : Ended → SinkSeen → SinkSeen → ℕ → Type 0
Tells (Ok text) old new answer = ((answer ≡ done) × HasWholeText old new text) ⊎ ((answer ≡ sink_failed) × LacksText old new text)
Tells (Err refusal) old new answer = (answer ≡ status_of refusal) × HasLine old new (line_of refusal)

-- a build by these rules answered, and the status and the console tell of its answer
pub record AnswersBuild (from : ProfileFrom) (budget : ℕ) (before after : Objects) (console new_console : SinkSeen) (answer : ℕ) : Type 0 where
  pub result : Result Totals Stop
  pub built : BuildAnswers from budget 1 before after result
  pub told : Tells (build_ended result) console new_console answer

-- the reader of lane 0 was asked for a text of the archive that it has, and those of other lanes weren't used
abbrev pub LooksAtFirst : (List ℕ → List ℕ) → List SourceSeen → List SourceSeen → Result (List ℕ) ReadErr → Type 0
LooksAtFirst text [] readers result = ⊥
LooksAtFirst text (old ∷ others) [] result = ⊥
LooksAtFirst text (old ∷ others) (new ∷ readers) result = LookAnswers text old new result × (readers ≡ others)

-- a look into an archive answered, status and console tell of its answer, and all but its reader is as it was
pub record AnswersLook (text : List ℕ → List ℕ) (before after : Objects) (console new_console : SinkSeen) (answer : ℕ) : Type 0 where
  pub result : Result (List ℕ) ReadErr
  pub looked : LooksAtFirst text before.readers after.readers result
  pub unused : after ≡ record before { readers = after.readers }
  pub told : Tells (look_ended result) console new_console answer

-- The sink has all frames more, and the totals are theirs. Where the sink failed, or memory wants, it has a prefix of them more.
abbrev pub GenerateAnswers : List (List ℕ) → SinkSeen → SinkSeen → Result Generated GenErr → Type 0
GenerateAnswers frames old new (Ok totals) = (totals ≡ totals_of frames) × HasWholeText old new (concat frames)
GenerateAnswers frames old new (Err gen_errors.Sink) = LacksText old new (concat frames)
GenerateAnswers frames old new (Err gen_errors.Memory) = GrowsByPrefix old.bytes new.bytes (concat frames) × (new.faults ≡ old.faults)

-- an extract was generated, status and console tell of it, and all but the archive's sink is as it was
pub record AnswersGenerate (seed count : ℕ) (before after : Objects) (console new_console : SinkSeen) (answer : ℕ) : Type 0 where
  pub result : Result Generated GenErr
  pub generated : GenerateAnswers (frames_of seed count) before.archive after.archive result
  pub unused : after ≡ record before { archive = after.archive }
  pub told : Tells (generate_ended result) console new_console answer

-- what is seen of the reader of a generated extract, which tells its bytes and never fails
abbrev pub generated_reader : ℕ → ℕ → SourceSeen
generated_reader seed count = record { bytes = Some (extract_of seed count); log = None; faults = 0 }

-- A map of a generated extract by the profile of trials was built as that of one that a lane's reader has, within the budget of a build that gives
-- none; status and console tell of it, and the lane's own reader and the profile's source are as they were.
pub record AnswersTrial (seed count : ℕ) (before after : Objects) (console new_console : SinkSeen) (answer : ℕ) : Type 0 where
  pub result : Result Totals Stop
  pub built : BuildAnswers profiles.Trial DEFAULT_BUDGET 1 (record before { readers = generated_reader seed count ∷ [] }) (record after { readers = generated_reader seed count ∷ [] }) result
  pub readers : after.readers ≡ before.readers
  pub told : Tells (trial_ended seed count result) console new_console answer

-- the words are no command: nothing but the console is touched
pub record AnswersWords (before after : Objects) (console new_console : SinkSeen) (answer : ℕ) : Type 0 where
  pub status : answer ≡ status_of Words
  pub untouched : after ≡ before
  pub told : HasLine console new_console (line_of Words)

abbrev pub AnswersCommand : Option Command → Objects → Objects → SinkSeen → SinkSeen → ℕ → Type 0
AnswersCommand None before after console new_console answer = AnswersWords before after console new_console answer
AnswersCommand (Some (build rules extract archive budget)) before after console new_console answer = AnswersBuild (source_of rules) budget before after console new_console answer
AnswersCommand (Some (check archive)) before after console new_console answer = AnswersLook check_text before after console new_console answer
AnswersCommand (Some (show archive tile)) before after console new_console answer = AnswersLook (show_text tile) before after console new_console answer
AnswersCommand (Some (generate seed count extract)) before after console new_console answer = AnswersGenerate seed count before after console new_console answer
AnswersCommand (Some (trial seed count archive)) before after console new_console answer = AnswersTrial seed count before after console new_console answer

-- What a command that leaves them alone doesn't touch, also where objects don't tell what they hold: the profile's source, the reader, the
-- spool, and the archive's sink.
abbrev pub Leaves : Option Command → Type 0 → Type 0 → Type 0 → Type 0 → Type 0 → Type 0
Leaves None profile reader spill spool archive = profile × reader × spill × spool × archive
Leaves (Some (build rules extract output budget)) profile reader spill spool archive = IsAlone (source_of rules) → profile
Leaves (Some (check input)) profile reader spill spool archive = profile × spill × spool × archive
Leaves (Some (show input tile)) profile reader spill spool archive = profile × spill × spool × archive
Leaves (Some (generate seed count output)) profile reader spill spool archive = profile × reader × spill × spool
Leaves (Some (trial seed count output)) profile reader spill spool archive = profile × reader

-- The promise of a top call.
abbrev pub Answers : List (List ℕ) → Objects → Objects → SinkSeen → SinkSeen → ℕ → Type 0
Answers words before after console new_console answer = AnswersCommand (command_of words) before after console new_console answer

-- what is due for a command that builds, as far as the objects tell
abbrev pub due_of_command : Option Command → Objects → Option Due
due_of_command None before = None
due_of_command (Some (build rules extract archive budget)) before = due_in (source_of rules) budget before
due_of_command (Some (check archive)) before = None
due_of_command (Some (show archive tile)) before = None
due_of_command (Some (generate seed count extract)) before = None
due_of_command (Some (trial seed count archive)) before = due_of profiles.Trial DEFAULT_BUDGET None (Some (extract_of seed count))

-- an archive is due, and stands behind what the archive's sink had, where the spool tells its runs
abbrev pub IsWritten : Option Due → Objects → Objects → Type 0
IsWritten due before after = IfTold (all_told before) (IfSome due (λ d. OnBuilt d (λ built. after.archive.bytes ≡ with_more before.archive.bytes built.bytes)))

-- status 0 means that the archive that is due was written
abbrev pub DoneMeansWritten : Type 0
DoneMeansWritten = (words : List (List ℕ)) (before after : Objects) (console new_console : SinkSeen) (answer : ℕ) → Answers words before after console new_console answer → answer ≡ done → IsWritten (due_of_command (command_of words) before) before after

-- status 2 comes exactly where the words are no command
abbrev pub OnlyWordsAreNotUnderstood : Type 0
OnlyWordsAreNotUnderstood = (words : List (List ℕ)) (before after : Objects) (console new_console : SinkSeen) (answer : ℕ) → Answers words before after console new_console answer → (answer ≡ status_of Words) ↔ (command_of words ≡ None)
