-- Where no count rose, a build's answer is what is due, or memory wants.
use Rattle.std.proofs.Common.{◌≡◌, ℕ, zero, suc, ◌⊎◌, inl, inr, Option, None, Some, IfSome, option_and_then, Result, Ok, Err, List, [], ◌∷◌, refl, sym, subst}
use Rattle.tb_types.specs.declared.trouble.Stage.TheVariants as stages
use Rattle.tb_types.specs.declared.trouble.Whom.{Whom}
use Rattle.tb_types.specs.declared.trouble.Whom.TheVariants as whom
use Rattle.tile_model.specs.declared.from.ProfileFrom.{ProfileFrom}
use Rattle.tile_model.specs.declared.stop.Stop.{Stop}
use Rattle.tile_model.specs.declared.stop.Stop.TheVariants as stops
use Rattle.pmtiles_dirs.specs.declared.totals.Totals.{Totals}
use Rattle.tb_outside.specs.Spill.{Runs, SpillSeen}
use Rattle.tile_model.specs.Objects.{Objects, NoneRose, reading, spilling, writing, runs_told, spill_runs, if_told, all_told}
use Rattle.tile_model.specs.Due.{Due, due_in}
use Rattle.build_one.specs.Answers.{IsDue, IfTold, HasCause, Fits, BuildAnswers}

-- where all tell their runs, each does
if-more : (runs spool : Option Runs) (spills : List SpillSeen) → IfTold (if_told spills spool) ⊥ → IfTold (option_and_then (λ (told : Runs). if_told spills spool) runs) ⊥
if-more None spool spills h = tt
if-more (Some runs) spool spills h = h

none-first : (runs spool : Option Runs) (spills : List SpillSeen) → runs ≡ None → IfTold (option_and_then (λ (told : Runs). if_told spills spool) runs) ⊥
none-first runs spool spills is = subst (λ (o : Option Runs). IfTold (option_and_then (λ (told : Runs). if_told spills spool) o) ⊥) (sym is) tt

spills-told : (spills : List SpillSeen) (spool : Option Runs) (k : ℕ) → spill_runs spills k ≡ None → IfTold (if_told spills spool) ⊥
spills-told [] spool k is = absurd cc
spills-told (s ∷ spills) spool zero is = none-first s.runs spool spills is
spills-told (s ∷ spills) spool (suc k) is = if-more s.runs spool spills (spills-told spills spool k is)

spool-told : (spills : List SpillSeen) (spool : Option Runs) → spool ≡ None → IfTold (if_told spills spool) ⊥
spool-told [] spool is = subst (λ (o : Option Runs). IfTold o ⊥) (sym is) tt
spool-told (s ∷ spills) spool is = if-more s.runs spool spills (spool-told spills spool is)

untold : (before : Objects) (w : Whom) → runs_told before w ≡ None → IfTold (all_told before) ⊥
untold before whom.Profile is = absurd cc
untold before (whom.Lane k) is = spills-told before.spills before.spool.runs k is
untold before whom.Spool is = spool-told before.spills before.spool.runs is
untold before whom.Archive is = absurd cc
untold before whom.Console is = absurd cc

never : (runs : Option Runs) (P : Type 0) → IfTold runs ⊥ → IfTold runs P
never None P h = tt
never (Some told) P h = absurd h

abbrev Complete : Objects → Result Totals Stop → Due → Type 0
Complete before result due = Fits before result due ⊎ (result ≡ Err stops.Memory)

at_due : (before after : Objects) (result : Result Totals Stop) (due : Due) → NoneRose before after → HasCause result before after → IsDue (all_told before) result due → Complete before result due
at_due before after (Ok totals) due none cause is = inl is
at_due before after (Err (stops.Profile spot why)) due none cause is = inl is
at_due before after (Err (stops.Damage damage)) due none cause is = inl is
at_due before after (Err (stops.Budget stages.Block need)) due none cause is = inl is
at_due before after (Err (stops.Budget stages.Relation need)) due none cause is = inl is
at_due before after (Err (stops.Budget stages.Tile need)) due none cause is = inl is
at_due before after (Err (stops.Source w)) due none cause is = absurd (none reading w cause.rose)
at_due before after (Err (stops.Spill w)) due none cause is = absurd (none spilling w cause.rose)
at_due before after (Err (stops.Outside w run at)) due none cause is = inl (never (all_told before) (due ≡ Err (stops.Outside w run at)) (untold before w cause.1))
at_due before after (Err stops.Sink) due none cause is = absurd (none writing whom.Archive cause.rose)
at_due before after (Err (stops.Changed pass block)) due none cause is = inl (λ same. absurd (cause.1 same))
at_due before after (Err stops.Memory) due none cause is = inr refl

told_by : (told : Option Due) (before after : Objects) (result : Result Totals Stop) → NoneRose before after → HasCause result before after → IfSome told (IsDue (all_told before) result) → IfSome told (Complete before result)
told_by None before after result none cause is = tt
told_by (Some due) before after result none cause is = at_due before after result due none cause is

pub complete : (from : ProfileFrom) (budget lanes : ℕ) (before after : Objects) (result : Result Totals Stop) → BuildAnswers from budget lanes before after result → NoneRose before after → IfSome (due_in from budget before) (Complete before result)
complete from budget lanes before after result answers none = told_by (due_in from budget before) before after result none answers.cause answers.told
