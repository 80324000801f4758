-- Ended runs that stay, whatever comes behind them.
use Rattle.std.proofs.Common.{◌≡◌, ◌++◌, [], Option, None, Some, List, ℕ, refl, sym, ap, subst, ◌∙◌, append_assoc}
use Rattle.std.proofs.lemmas.List.{append-nil}
use Rattle.tb_outside.specs.Spill.{Runs}
use Rattle.feature_runs.specs.Writing as buffers
use Rattle.pmtiles_file.specs.Spool.{KeepsEnded, HasKept}

pub kept-self : (runs : Option Runs) → KeepsEnded runs runs
kept-self runs before is = subst (HasKept before) (sym is) ([], sym (append-nil before.ended))

kept-if : (before : Runs) (mid : Option Runs) (after : Option Runs) → HasKept before mid → KeepsEnded mid after → HasKept before after
kept-if before None after h k = absurd h
kept-if before (Some runs) after h k = kept-more before runs after h (k runs refl)
  where
    kept-more : (before runs : Runs) (after : Option Runs) → (more : List (List ℕ)) × (runs.ended ≡ before.ended ++ more) → HasKept runs after → HasKept before after
    kept-more before runs None h k = absurd k
    kept-more before runs (Some later) h k = (h.0 ++ k.0, k.1 ∙ (ap (λ xs. xs ++ k.0) h.1 ∙ append_assoc before.ended h.0 k.0))

pub kept-both : (one two three : Option Runs) → KeepsEnded one two → KeepsEnded two three → KeepsEnded one three
kept-both one two three h k = λ before is. kept-if before two three (h before is) k

-- as a buffer says it, a spill that doesn't tell its runs goes on not telling them
kept-has : (before : Runs) (new : Option Runs) → buffers.KeepsEnded (Some before) new → HasKept before new
kept-has before None h = absurd h
kept-has before (Some after) h = h

pub kept-of : (old new : Option Runs) → buffers.KeepsEnded old new → KeepsEnded old new
kept-of old new h = λ before is. kept-has before new (subst (λ (o : Option Runs). buffers.KeepsEnded o new) is h)

has-kept : (before : Runs) (new : Option Runs) → HasKept before new → buffers.KeepsEnded (Some before) new
has-kept before None h = absurd h
has-kept before (Some after) h = h

pub of-kept : (old new : Option Runs) → KeepsEnded old new → (old ≡ None → new ≡ None) → buffers.KeepsEnded old new
of-kept None new h none = none refl
of-kept (Some before) new h none = has-kept before new (h before refl)
