use Rattle.std.proofs.Common.{◌≡◌, ◌==◌, length, IsUtf8}
use Rattle.std.specs.List.{slice_split}
use Rattle.profile_rules.specs.Turns.{in_turn}
use Rattle.profile_rules.specs.Conditions.{filled, values_of, or_mark}
use Rattle.profile_rules.proofs.condition.values_of.Given as goal

abbrev pub invariant-loop-value : goal.invariant-loop-value
invariant-loop-value l = record {
  told : in_turn (λ _. filled) l.values.items (slice_split (λ b. b == or_mark) l.rest) ≡ values_of l.fn.text;
  utf8 : IsUtf8 l.rest;
}

abbrev pub decreases-loop-value : goal.decreases-loop-value
decreases-loop-value l = length l.rest
