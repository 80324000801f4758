-- Loads that a reader logs, some behind others.
use Rattle.std.proofs.Common.{◌≡◌, ℕ, Option, None, Some, option_map, List, [], ◌++◌, refl, sym, ap, ◌∙◌, append_assoc}
use Rattle.std.proofs.lemmas.List.{append-nil}
use Rattle.tb_outside.specs.Source.{SourceSeen}
use Rattle.tile_model.specs.Loads.{Logs}

pub logs-none : (s : SourceSeen) → Logs s s []
logs-none s = by s.log
  where
    by : (log : Option (List (ℕ × ℕ))) → log ≡ option_map (λ loads. loads ++ []) log
    by None = refl
    by (Some loads) = ap Some (sym (append-nil loads))

pub logs-on : (r s t : SourceSeen) (some more : List (ℕ × ℕ)) → Logs r s some → Logs s t more → Logs r t (some ++ more)
logs-on r s t some more h k = k ∙ (ap (option_map (λ loads. loads ++ more)) h ∙ by r.log)
  where
    by : (log : Option (List (ℕ × ℕ))) → option_map (λ loads. loads ++ more) (option_map (λ loads. loads ++ some) log) ≡ option_map (λ loads. loads ++ (some ++ more)) log
    by None = refl
    by (Some loads) = ap Some (append_assoc loads some more)
