-- Conditions, and how they are written.
use Rattle.std.specs.Prelude.{ℕ, ◌==◌, nat_lt, if◌then◌else◌, Option, None, Some, option_map, Result, Ok, Err, List, [], ◌∷◌, length}
use Rattle.std.specs.List.{position_or_len, before_first, after_first, slice_split}
use Rattle.profile_rules.specs.declared.fault.ProfileWhy.{ProfileWhy}
use Rattle.profile_rules.specs.declared.fault.ProfileWhy.TheVariants as reasons
use Rattle.profile_rules.specs.declared.condition.Condition.{Condition}
use Rattle.profile_rules.specs.declared.condition.Condition.TheVariants as conditions
use Rattle.profile_rules.specs.Turns.{◌>>=◌, in_turn}

-- the marks of conditions: `=`, `!` and `|`
abbrev pub equals_mark : ℕ
equals_mark = 61

abbrev pub not_mark : ℕ
not_mark = 33

abbrev pub or_mark : ℕ
or_mark = 124

-- the parts round the first mark in a text, where it has one
abbrev pub split_at : ℕ → List ℕ → Option (List ℕ × List ℕ)
split_at mark text =
    if nat_lt (position_or_len (λ b. b == mark) text) (length text)
    then Some (before_first (λ b. b == mark) text, after_first (λ b. b == mark) text)
    else None

-- a text without the mark that it begins with
abbrev pub without_first : ℕ → List ℕ → Option (List ℕ)
without_first mark [] = None
without_first mark (b ∷ more) = if b == mark then Some more else None

-- a text without the mark that it ends with
abbrev pub without_last : ℕ → List ℕ → Option (List ℕ)
without_last mark [] = None
without_last mark (b ∷ []) = if b == mark then Some [] else None
without_last mark (b ∷ c ∷ more) = option_map (λ prefix. b ∷ prefix) (without_last mark (c ∷ more))

-- keys and values aren't empty
abbrev pub filled : List ℕ → Result (List ℕ) ProfileWhy
filled text = if length text == 0 then Err reasons.Condition else Ok text

-- `!K`, or `K`
abbrev pub bare : List ℕ → Option (List ℕ) → Result Condition ProfileWhy
bare text (Some key) = filled key >>= λ key. Ok (conditions.Missing key)
bare text None = filled text >>= λ key. Ok (conditions.Stands key)

-- the values between the marks
abbrev pub values_of : List ℕ → Result (List (List ℕ)) ProfileWhy
values_of text = in_turn (λ _. filled) [] (slice_split (λ b. b == or_mark) text)

-- `K!=V`, or `K=V|W`
abbrev pub valued : List ℕ → List ℕ → Option (List ℕ) → Result Condition ProfileWhy
valued before value (Some key) = filled key >>= λ key. filled value >>= λ value. Ok (conditions.Other key value)
valued before value None = filled before >>= λ key. values_of value >>= λ values. Ok (conditions.OneOf key values)

abbrev pub split_condition : List ℕ → Option (List ℕ × List ℕ) → Result Condition ProfileWhy
split_condition text None = bare text (without_first not_mark text)
split_condition text (Some parts) = valued parts.0 parts.1 (without_last not_mark parts.0)

-- The condition that a text is: it is split at its first `=`.
unfoldable pub condition_of : List ℕ → Result Condition ProfileWhy
condition_of text = split_condition text (split_at equals_mark text)

abbrev pub conditions_of : List (List ℕ) → Result (List Condition) ProfileWhy
conditions_of texts = in_turn (λ _. condition_of) [] texts
