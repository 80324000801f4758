-- The numbers of rules by the key that each asks for, and what the rules of some numbers make of an element.
use Rattle.std.specs.Prelude.{◌≡◌, ℕ, suc, ◌+◌, ◌-◌, ◌*◌, ◌%◌, ◌<◌, ◌==◌, min, Bool, nat_lt, if◌then◌else◌, Option, None, Some, List, [], ◌∷◌, length, get_or, slice_get}
use Rattle.std.specs.List.{flat_map}
use Rattle.tb_types.specs.declared.element.Kind.{Kind}
use Rattle.profile_rules.specs.declared.parts.Rule.{Rule}
use Rattle.profile_rules.specs.declared.spec.Spec.{Spec}
use Rattle.profile_rules.specs.declared.condition.Condition.{Condition}
use Rattle.profile_rules.specs.declared.condition.Condition.TheVariants as conditions
use Rattle.profile_rules.specs.declared.parts.Parts.{Parts}
use Rattle.profile_rules.specs.Features.{Tag, specs_in}
use Rattle.profile_rules.specs.Sound.{IsSound}

-- the key that has to stand where this condition holds, or else another one
abbrev pub key_or : Option (List ℕ) → Condition → Option (List ℕ)
key_or other (conditions.Stands key) = Some key
key_or other (conditions.OneOf key values) = Some key
key_or other (conditions.Missing key) = other
key_or other (conditions.Other key value) = other

-- the first key that has to stand where all of these conditions hold
abbrev pub asked_key : List Condition → Option (List ℕ)
asked_key [] = None
asked_key (c ∷ more) = key_or (asked_key more) c

-- a number of a key, behind that of the bytes before it
abbrev pub key_number : ℕ → List ℕ → ℕ
key_number before [] = before
key_number before (byte ∷ more) = key_number ((before * 31 + byte) % 65536) more

-- the place of a key among so many, of which each is that of many keys
abbrev pub place_of : ℕ → List ℕ → ℕ
place_of count key = key_number 0 key % count

-- the place of a rule that asks for this key; behind all of them is that of the rules that ask for none
abbrev pub place_of_asked : ℕ → Option (List ℕ) → ℕ
place_of_asked count None = count
place_of_asked count (Some key) = place_of count key

abbrev pub place_of_rule : ℕ → Rule → ℕ
place_of_rule count rule = place_of_asked count (asked_key rule.conditions)

-- the numbers of those of these rules that pass a test, where the first has the number `at`
abbrev pub numbers_where : (Rule → Bool) → ℕ → List Rule → List ℕ
numbers_where test at [] = []
numbers_where test at (rule ∷ more) = if test rule then at ∷ numbers_where test (at + 1) more else numbers_where test (at + 1) more

-- what stands at a place
abbrev pub at_place : ℕ → List (List ℕ) → List ℕ
at_place place places = get_or places place []

-- the places of keys, of which there is one less than of rules
abbrev pub key_places : List (List ℕ) → ℕ
key_places places = length places - 1

-- Each rule's number stands at its place, and the numbers at a place ascend.
pub record IsByKey (rules : List Rule) (places : List (List ℕ)) : Type 0 where
  pub some : 1 < length places
  pub each : (place : ℕ) → at_place place places ≡ numbers_where (λ rule. place_of_rule (key_places places) rule == place) 0 rules

-- a profile: its parts, and the numbers of its rules at their places
pub record IsProfile (parts : Parts) (places : List (List ℕ)) : Type 0 where
  pub sound : IsSound parts
  pub by_key : IsByKey parts.rules places

-- a number and those behind it, merged with others
abbrev pub merged_behind : ℕ → List ℕ → (List ℕ → List ℕ) → List ℕ → List ℕ
merged_behind x xs rest [] = x ∷ xs
merged_behind x xs rest (y ∷ ys) = if nat_lt x y then x ∷ rest (y ∷ ys) else if nat_lt y x then y ∷ merged_behind x xs rest ys else x ∷ rest ys

-- two lists of ascending numbers as one, each number once
abbrev pub merged : List ℕ → List ℕ → List ℕ
merged [] ys = ys
merged (x ∷ xs) ys = merged_behind x xs (merged xs) ys

-- the least of the first numbers of two lists
abbrev pub least_of : Option ℕ → Option ℕ → Option ℕ
least_of None other = other
least_of (Some x) None = Some x
least_of (Some x) (Some y) = Some (min x y)

abbrev pub least : List ℕ → List ℕ → Option ℕ
least xs ys = least_of (slice_get xs 0) (slice_get ys 0)

-- a list without this number at its start
abbrev pub without : ℕ → List ℕ → List ℕ
without number [] = []
without number (x ∷ xs) = if x == number then xs else x ∷ xs

-- these numbers and those at the places of the tags' keys
abbrev pub gathered : List (List ℕ) → List ℕ → List Tag → List ℕ
gathered places numbers [] = numbers
gathered places numbers (tag ∷ more) = gathered places (merged numbers (at_place (place_of (key_places places) tag.0) places)) more

-- The numbers of the rules that may be for an element with these tags: of those that ask for no key, or for one whose
-- place is that of a tag's key.
abbrev pub numbers_for : List (List ℕ) → List Tag → List ℕ
numbers_for places tags = gathered places (at_place (key_places places) places) tags

-- what the rule of a number makes of an element
abbrev pub specs_if : List Tag → Kind → ℕ → Option Rule → List Spec
specs_if tags kind number None = []
specs_if tags kind number (Some rule) = specs_in tags kind ((number, rule) ∷ [])

-- what the rules of these numbers make of an element
abbrev pub specs_by : List Tag → Kind → List Rule → List ℕ → List Spec
specs_by tags kind rules numbers = flat_map (λ number. specs_if tags kind number (slice_get rules number)) numbers
