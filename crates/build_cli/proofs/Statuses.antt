-- What statuses say of the answers that stand behind them.
use Rattle.std.proofs.Common.{◌≡◌, inl, inr, ◌↔◌, ℕ, Option, None, Some, IfSome, Result, Ok, Err, List, [], ◌++◌, refl, sym, ap, subst, ◌∙◌, arith}
use Rattle.tb_outside.specs.Sink.{SinkSeen, with_more}
use Rattle.tile_model.specs.declared.from.ProfileFrom.{ProfileFrom}
use Rattle.tile_model.specs.declared.stop.Stop.{Stop}
use Rattle.tile_model.specs.declared.stop.Stop.TheVariants as stops
use Rattle.pmtiles_dirs.specs.declared.totals.Totals.{Totals}
use Rattle.pmtiles_read.specs.declared.error.ReadErr.{ReadErr}
use Rattle.pmtiles_read.specs.declared.error.ReadErr.TheVariants as errors
use Rattle.tb_outside.specs.Spill.{Runs}
use Rattle.tile_model.specs.Objects.{Objects, all_told, extract_in}
use Rattle.tile_model.specs.Due.{Due, due_in}
use Rattle.tile_model.specs.Due as builds
use Rattle.build_cli.specs.Told.{due_of}
use Rattle.build_one.specs.Answers.{BuildAnswers, OnBuilt, IfTold, Writes}
use Rattle.build_cli.specs.Command.{Command, build, check, show, generate, trial, source_of}
use Rattle.build_cli.specs.Ended.{build_ended, look_ended, generate_ended, trial_ended}
use Rattle.build_cli.specs.Answers.{Tells, AnswersLook, AnswersTrial, AnswersCommand, due_of_command, IsWritten}
use Rattle.build_cli.specs.Status.{done, status_of}
use Rattle.build_cli.specs.declared.generate.Generated.{Generated}
use Rattle.build_cli.specs.declared.generate.GenErr.{GenErr}
use Rattle.build_cli.specs.declared.generate.GenErr.TheVariants as gen_errors
use Rattle.build_cli.specs.declared.status.Refusal.TheVariants.{Words, Stopped}

never_done : (stop : Stop) → status_of (Stopped stop) ≡ 0 → ⊥
never_done (stops.Profile spot why) e = absurd (omega arith)
never_done (stops.Damage damage) e = absurd (omega arith)
never_done (stops.Source w) e = absurd (omega arith)
never_done (stops.Spill w) e = absurd (omega arith)
never_done stops.Sink e = absurd (omega arith)
never_done (stops.Budget stage need) e = absurd (omega arith)
never_done (stops.Outside w run at) e = absurd (omega arith)
never_done (stops.Changed pass block) e = absurd (omega arith)
never_done stops.Memory e = absurd (omega arith)

never_words : (stop : Stop) → status_of (Stopped stop) ≡ 2 → ⊥
never_words (stops.Profile spot why) e = absurd (omega arith)
never_words (stops.Damage damage) e = absurd (omega arith)
never_words (stops.Source w) e = absurd (omega arith)
never_words (stops.Spill w) e = absurd (omega arith)
never_words stops.Sink e = absurd (omega arith)
never_words (stops.Budget stage need) e = absurd (omega arith)
never_words (stops.Outside w run at) e = absurd (omega arith)
never_words (stops.Changed pass block) e = absurd (omega arith)
never_words stops.Memory e = absurd (omega arith)

written : (from : ProfileFrom) (budget : ℕ) (before after : Objects) (console new_console : SinkSeen) (answer : ℕ) (result : Result Totals Stop) → Tells (build_ended result) console new_console answer → BuildAnswers from budget 1 before after result → answer ≡ done → IsWritten (due_in from budget before) before after
written from budget before after console new_console answer (Ok totals) told built is = built.written
written from budget before after console new_console answer (Err stop) told built is = absurd (never_done stop (sym told.0 ∙ is))

trial_written : (seed count : ℕ) (before after : Objects) (console new_console : SinkSeen) (answer : ℕ) → AnswersTrial seed count before after console new_console answer → answer ≡ done → IsWritten (due_of_command (Some (trial seed count [])) before) before after
trial_written seed count before after console new_console answer h is = by h.result h.told h.built.written
  where
    by : (result : Result Totals Stop) → Tells (trial_ended seed count result) console new_console answer → Writes result (all_told before) (due_of_command (Some (trial seed count [])) before) before.archive after.archive → IsWritten (due_of_command (Some (trial seed count [])) before) before after
    by (Ok totals) told wrote = wrote
    by (Err stop) told wrote = absurd (never_done stop (sym told.0 ∙ is))

if_told : (runs : Option Runs) (P : Type 0) → P → IfTold runs P
if_told None P h = tt
if_told (Some told) P h = h

pub done_written : (command : Option Command) (before after : Objects) (console new_console : SinkSeen) (answer : ℕ) → AnswersCommand command before after console new_console answer → answer ≡ done → IsWritten (due_of_command command before) before after
done_written None before after console new_console answer h is = if_told (all_told before) _ tt
done_written (Some (build rules extract archive budget)) before after console new_console answer h is = written (source_of rules) budget before after console new_console answer h.result h.told h.built is
done_written (Some (check archive)) before after console new_console answer h is = if_told (all_told before) _ tt
done_written (Some (show archive tile)) before after console new_console answer h is = if_told (all_told before) _ tt
done_written (Some (generate seed count extract)) before after console new_console answer h is = if_told (all_told before) _ tt
done_written (Some (trial seed count archive)) before after console new_console answer h is = trial_written seed count before after console new_console answer h is

done_is_understood : (text : List ℕ) (console new_console : SinkSeen) (answer : ℕ) → Tells (Ok text) console new_console answer → answer ≡ 2 → ⊥
done_is_understood text console new_console answer (inl t) is = let zero : answer ≡ 0 = t.0 in omega arith
done_is_understood text console new_console answer (inr t) is = let nine : answer ≡ 9 = t.0 in omega arith

understood : (console new_console : SinkSeen) (answer : ℕ) (result : Result Totals Stop) → Tells (build_ended result) console new_console answer → answer ≡ 2 → ⊥
understood console new_console answer (Ok totals) told is = done_is_understood _ console new_console answer told is
understood console new_console answer (Err stop) told is = never_words stop (sym told.0 ∙ is)

look_understood : (console new_console : SinkSeen) (answer : ℕ) (result : Result (List ℕ) ReadErr) → Tells (look_ended result) console new_console answer → answer ≡ 2 → ⊥
look_understood console new_console answer (Ok text) told is = done_is_understood text console new_console answer told is
look_understood console new_console answer (Err errors.Failed) told is = let seven : answer ≡ 7 = told.0 in omega arith
look_understood console new_console answer (Err (errors.Bad fault)) told is = let eleven : answer ≡ 11 = told.0 in omega arith
look_understood console new_console answer (Err errors.Memory) told is = let ten : answer ≡ 10 = told.0 in omega arith

generate_understood : (console new_console : SinkSeen) (answer : ℕ) (result : Result Generated GenErr) → Tells (generate_ended result) console new_console answer → answer ≡ 2 → ⊥
generate_understood console new_console answer (Ok totals) told is = done_is_understood _ console new_console answer told is
generate_understood console new_console answer (Err gen_errors.Sink) told is = let nine : answer ≡ 9 = told.0 in omega arith
generate_understood console new_console answer (Err gen_errors.Memory) told is = let ten : answer ≡ 10 = told.0 in omega arith

trial_understood : (seed count : ℕ) (console new_console : SinkSeen) (answer : ℕ) (result : Result Totals Stop) → Tells (trial_ended seed count result) console new_console answer → answer ≡ 2 → ⊥
trial_understood seed count console new_console answer (Ok totals) told is = done_is_understood _ console new_console answer told is
trial_understood seed count console new_console answer (Err stop) told is = never_words stop (sym told.0 ∙ is)

is_looking : (text : List ℕ → List ℕ) (before after : Objects) (console new_console : SinkSeen) (answer : ℕ) → AnswersLook text before after console new_console answer → answer ≡ 2 → ⊥
is_looking text before after console new_console answer h is = look_understood console new_console answer h.result h.told is

pub only_words : (command : Option Command) (before after : Objects) (console new_console : SinkSeen) (answer : ℕ) → AnswersCommand command before after console new_console answer → (answer ≡ status_of Words) ↔ (command ≡ None)
only_words None before after console new_console answer h = (λ _. refl, λ _. h.status)
only_words (Some (build rules extract archive budget)) before after console new_console answer h =
    (λ is. absurd (understood console new_console answer h.result h.told is), λ none. absurd cc)
only_words (Some (check archive)) before after console new_console answer h = (λ is. absurd (is_looking _ before after console new_console answer h is), λ none. absurd cc)
only_words (Some (show archive tile)) before after console new_console answer h = (λ is. absurd (is_looking _ before after console new_console answer h is), λ none. absurd cc)
only_words (Some (generate seed count extract)) before after console new_console answer h =
    (λ is. absurd (generate_understood console new_console answer h.result h.told is), λ none. absurd cc)
only_words (Some (trial seed count archive)) before after console new_console answer h =
    (λ is. absurd (trial_understood seed count console new_console answer h.result h.told is), λ none. absurd cc)

-- the same in the words of objects that tell
told_by : (runs : Option Runs) (told : Runs) (P : Type 0) → runs ≡ Some told → IfTold runs P → P
told_by runs told P is h = subst (λ (o : Option Runs). IfTold o P) is h

pub grown : (due : Option Due) (before after : Objects) (told : Runs) (old new : List ℕ) → IsWritten due before after → all_told before ≡ Some told → before.archive.bytes ≡ Some old → after.archive.bytes ≡ Some new
    → IfSome due (λ d. OnBuilt d (λ built. new ≡ old ++ built.bytes))
grown None before after told old new h runs was is = tt
grown (Some (Err stop)) before after told old new h runs was is = told_by (all_told before) told ⊥ runs h
grown (Some (Ok built)) before after told old new h runs was is =
    let grew : after.archive.bytes ≡ with_more before.archive.bytes built.bytes = told_by (all_told before) told _ runs h in
    let same : Some new ≡ Some (old ++ built.bytes) = sym is ∙ (grew ∙ ap (λ bytes. with_more bytes built.bytes) was) in
    cc

pub told_grown : (command : Option Command) (before after : Objects) (profile reader old new : List ℕ) (told : Runs) → before.profile.bytes ≡ Some profile → extract_in before ≡ Some reader → all_told before ≡ Some told
    → IsWritten (due_of_command command before) before after → before.archive.bytes ≡ Some old → after.archive.bytes ≡ Some new → IfSome (due_of command profile reader) (λ d. OnBuilt d (λ built. new ≡ old ++ built.bytes))
told_grown None before after profile reader old new told p r runs h was is = tt
told_grown (Some (build rules extract archive budget)) before after profile reader old new told p r runs h was is =
    let same : builds.due_of (source_of rules) budget before.profile.bytes (extract_in before) ≡ builds.due_of (source_of rules) budget (Some profile) (Some reader) =
    ap (λ t. builds.due_of (source_of rules) budget t (extract_in before)) p ∙ ap (λ t. builds.due_of (source_of rules) budget (Some profile) t) r in
    grown (builds.due_of (source_of rules) budget (Some profile) (Some reader)) before after told old new (subst (λ (o : Option Due). IsWritten o before after) same h) runs was is
told_grown (Some (check archive)) before after profile reader old new told p r runs h was is = tt
told_grown (Some (show archive tile)) before after profile reader old new told p r runs h was is = tt
told_grown (Some (generate seed count extract)) before after profile reader old new told p r runs h was is = tt
told_grown (Some (trial seed count archive)) before after profile reader old new told p r runs h was is =
    grown (due_of_command (Some (trial seed count archive)) before) before after told old new h runs was is

-- both of an answer
pub told_done : (command : Option Command) (before after : Objects) (console new_console : SinkSeen) (answer : ℕ) (profile reader old new : List ℕ) (told : Runs) → AnswersCommand command before after console new_console answer → answer ≡ done
    → before.profile.bytes ≡ Some profile → extract_in before ≡ Some reader → all_told before ≡ Some told → before.archive.bytes ≡ Some old → after.archive.bytes ≡ Some new
    → IfSome (due_of command profile reader) (λ d. OnBuilt d (λ built. new ≡ old ++ built.bytes))
told_done command before after console new_console answer profile reader old new told h is p r runs was grew =
    told_grown command before after profile reader old new told p r runs (done_written command before after console new_console answer h is) was grew
