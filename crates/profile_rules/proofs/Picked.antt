-- The rules that are for an element are among those of the numbers that are looked at.
use Rattle.std.proofs.Common.{◌≡◌, ℕ, zero, suc, ◌+◌, ◌<◌, ◌==◌, ◌&&◌, ◌||◌, nat_lt, Bool, true, false, IfOk, IfSome, Option, None, Some, is_some, Result, Ok, Err, List, [], ◌∷◌, ◌++◌, length, refl, sym, ap, ◌∙◌, arith, filter, map, drop, get_or, append_assoc, if◌then◌else◌}
use Rattle.std.specs.Prelude.{slice_get}
use Rattle.std.specs.Borrow.{Bor}
use Rattle.std.specs.Option.{option_copied}
use Rattle.std.specs.Slice.{IsItemAt}
use Rattle.std.proofs.lemmas.List.{drop_more, nil_from_length}
use Rattle.std.proofs.lemmas.Option.{slice_get_past, slice_get_read}
use Rattle.std.specs.List.{list_all, enumerate_from}
use Rattle.std.specs.Str.{bytes_eq}
use Rattle.std.proofs.lemmas.Bool.{and_parts, false≢true, eq-eqb, lt-ltb, le-ltb, or_right}
use Rattle.std.proofs.lemmas.Slice.Eq.{bytes_eq-Decides}
use Rattle.tb_types.specs.declared.element.Kind.{Kind}
use Rattle.profile_rules.specs.declared.parts.Rule.{Rule}
use Rattle.profile_rules.specs.declared.spec.Spec.{Spec}
use Rattle.profile_rules.specs.declared.condition.Condition.{Condition}
use Rattle.profile_rules.specs.declared.condition.Condition.TheVariants as conditions
use Rattle.profile_rules.specs.Features.{Tag, tag_value, is_one_of, holds, fits, applies, spec_of, specs_in}
use Rattle.profile_rules.proofs.Merging.{merged-nil}
use Rattle.profile_rules.specs.ByKey.{key_or, asked_key, place_of, place_of_asked, place_of_rule, numbers_where, at_place, key_places, IsByKey, merged_behind, merged, gathered, numbers_for, specs_if, specs_by}

-- the first number, if there is one, is above n
abbrev BeginsAbove : ℕ → List ℕ → Type 0
BeginsAbove n [] = Unit {0}
BeginsAbove n (x ∷ xs) = n < x

begins_above : (test : Rule → Bool) (n at : ℕ) (rules : List Rule) → n < at → BeginsAbove n (numbers_where test at rules)
begins_above test n at [] h = tt
begins_above test n at (rule ∷ more) h = by (test rule) (begins_above test n (at + 1) more (omega (arith, h)))
  where
    by : (b : Bool) → BeginsAbove n (numbers_where test (at + 1) more) → BeginsAbove n (if b then at ∷ numbers_where test (at + 1) more else numbers_where test (at + 1) more)
    by true k = h
    by false k = k

-- a number below all others comes first
merged-left : (n : ℕ) (xs ys : List ℕ) → BeginsAbove n ys → merged (n ∷ xs) ys ≡ n ∷ merged xs ys
merged-left n xs [] h = ap (λ l. n ∷ l) (sym (merged-nil xs))
merged-left n xs (y ∷ ys) h = ap (λ b. if b then n ∷ merged xs (y ∷ ys) else (if nat_lt y n then y ∷ merged_behind n xs (merged xs) ys else n ∷ merged xs ys)) (lt-ltb n y h)

merged-right : (n : ℕ) (xs ys : List ℕ) → BeginsAbove n xs → merged xs (n ∷ ys) ≡ n ∷ merged xs ys
merged-right n [] ys h = refl
merged-right n (x ∷ xs) ys h =
    ap (λ b. if b then x ∷ merged xs (n ∷ ys) else (if nat_lt n x then n ∷ merged (x ∷ xs) ys else x ∷ merged xs ys)) (le-ltb x n (omega (arith, h)))
    ∙ ap (λ b. if b then n ∷ merged (x ∷ xs) ys else x ∷ merged xs ys) (lt-ltb n x h)

merged-both : (n : ℕ) (xs ys : List ℕ) → merged (n ∷ xs) (n ∷ ys) ≡ n ∷ merged xs ys
merged-both n xs ys = ap (λ b. if b then n ∷ merged xs (n ∷ ys) else (if b then n ∷ merged (n ∷ xs) ys else n ∷ merged xs ys)) (le-ltb n n (omega arith))

-- the numbers of rules that pass one test, and of those that pass another
merged-where : (one other : Rule → Bool) (at : ℕ) (rules : List Rule) → merged (numbers_where one at rules) (numbers_where other at rules) ≡ numbers_where (λ rule. one rule || other rule) at rules
merged-where one other at [] = refl
merged-where one other at (rule ∷ more) =
    by (one rule) (other rule) (numbers_where one (at + 1) more) (numbers_where other (at + 1) more) (numbers_where (λ r. one r || other r) (at + 1) more)
    (begins_above one at (at + 1) more (omega arith)) (begins_above other at (at + 1) more (omega arith)) (merged-where one other (at + 1) more)
  where
    by : (a b : Bool) (xs ys zs : List ℕ) → BeginsAbove at xs → BeginsAbove at ys → merged xs ys ≡ zs → merged (if a then at ∷ xs else xs) (if b then at ∷ ys else ys) ≡ (if a || b then at ∷ zs else zs)
    by true true xs ys zs h k e = merged-both at xs ys ∙ ap (λ l. at ∷ l) e
    by true false xs ys zs h k e = merged-left at xs ys k ∙ ap (λ l. at ∷ l) e
    by false true xs ys zs h k e = merged-right at xs ys h ∙ ap (λ l. at ∷ l) e
    by false false xs ys zs h k e = e

-- whether a place is that of a tag's key
abbrev is_met : ℕ → Bool → ℕ → List Tag → Bool
is_met count before place [] = before
is_met count before place (tag ∷ more) = is_met count (before || (place == place_of count tag.0)) place more

gathered-where : (rules : List Rule) (places : List (List ℕ)) (test : Rule → Bool) (tags : List Tag) → IsByKey rules places
    → gathered places (numbers_where test 0 rules) tags ≡ numbers_where (λ rule. is_met (key_places places) (test rule) (place_of_rule (key_places places) rule) tags) 0 rules
gathered-where rules places test [] k = refl
gathered-where rules places test (tag ∷ more) k =
    let place = place_of (key_places places) tag.0 in
    ap (λ l. gathered places (merged (numbers_where test 0 rules) l) more) (k.each place)
    ∙ ap (λ l. gathered places l more) (merged-where test (λ rule. place_of_rule (key_places places) rule == place) 0 rules)
    ∙ gathered-where rules places (λ rule. test rule || (place_of_rule (key_places places) rule == place)) more k

numbers-where : (rules : List Rule) (places : List (List ℕ)) (tags : List Tag) → IsByKey rules places
    → numbers_for places tags ≡ numbers_where (λ rule. is_met (key_places places) (place_of_rule (key_places places) rule == key_places places) (place_of_rule (key_places places) rule) tags) 0 rules
numbers-where rules places tags k =
    ap (λ l. gathered places l tags) (k.each (key_places places)) ∙ gathered-where rules places (λ rule. place_of_rule (key_places places) rule == key_places places) tags k

-- what is met stays so
met_before : (count place : ℕ) (tags : List Tag) → is_met count true place tags ≡ true
met_before count place [] = refl
met_before count place (tag ∷ more) = met_before count place more

met_at : (count : ℕ) (before : Bool) (key : List ℕ) (tags : List Tag) → is_some (tag_value key tags) ≡ true → is_met count before (place_of count key) tags ≡ true
met_at count before key [] h = absurd (false≢true h)
met_at count before key (tag ∷ more) h = by (bytes_eq tag.0 key) refl (met_at count (before || (place_of count key == place_of count tag.0)) key more) h
  where
    now : bytes_eq tag.0 key ≡ true → (before || (place_of count key == place_of count tag.0)) ≡ true
    now e = or_right before _ (eq-eqb (place_of count key) (place_of count tag.0) (ap (place_of count) (sym ((bytes_eq-Decides tag.0 key).0 e))))

    by : (b : Bool) → bytes_eq tag.0 key ≡ b → (is_some (tag_value key more) ≡ true → is_met count (before || (place_of count key == place_of count tag.0)) (place_of count key) more ≡ true)
        → is_some (if b then Some tag.1 else tag_value key more) ≡ true → is_met count (before || (place_of count key == place_of count tag.0)) (place_of count key) more ≡ true
    by true e later k = ap (λ b. is_met count b (place_of count key) more) (now e) ∙ met_before count (place_of count key) more
    by false e later k = later k

-- where all conditions hold the key stands that they ask for
one_of-stands : (values : List (List ℕ)) (value : Option (List ℕ)) → is_one_of values value ≡ true → is_some value ≡ true
one_of-stands values None h = absurd (false≢true h)
one_of-stands values (Some value) h = refl

asked-stands : (tags : List Tag) (conditions : List Condition) → list_all (holds tags) conditions ≡ true → IfSome (asked_key conditions) (λ key. is_some (tag_value key tags) ≡ true)
asked-stands tags [] h = tt
asked-stands tags (conditions.Stands key ∷ more) h = (and_parts (is_some (tag_value key tags)) (list_all (holds tags) more) h).0
asked-stands tags (conditions.OneOf key values ∷ more) h =
    one_of-stands values (tag_value key tags) (and_parts (is_one_of values (tag_value key tags)) (list_all (holds tags) more) h).0
asked-stands tags (conditions.Missing key ∷ more) h = asked-stands tags more (and_parts (holds tags (conditions.Missing key)) (list_all (holds tags) more) h).1
asked-stands tags (conditions.Other key value ∷ more) h = asked-stands tags more (and_parts (holds tags (conditions.Other key value)) (list_all (holds tags) more) h).1

asked-met : (count : ℕ) (tags : List Tag) (asked : Option (List ℕ)) → IfSome asked (λ key. is_some (tag_value key tags) ≡ true)
    → is_met count (place_of_asked count asked == count) (place_of_asked count asked) tags ≡ true
asked-met count tags None h = ap (λ b. is_met count b count tags) (eq-eqb count count refl) ∙ met_before count count tags
asked-met count tags (Some key) h = met_at count (place_of count key == count) key tags h

-- a rule that is for an element is met
applies-met : (count : ℕ) (tags : List Tag) (kind : Kind) (rule : Rule) → applies tags kind rule ≡ true → is_met count (place_of_rule count rule == count) (place_of_rule count rule) tags ≡ true
applies-met count tags kind rule h =
    asked-met count tags (asked_key rule.conditions) (asked-stands tags rule.conditions (and_parts (fits tags kind rule.form) (list_all (holds tags) rule.conditions) h).1)

-- the rules that pass a test which each rule passes that is for the element
module _ (tags : List Tag) (kind : Kind) (rules : List Rule) (test : Rule → Bool) (passes : (rule : Rule) → applies tags kind rule ≡ true → test rule ≡ true) where
  picked_from : (at : ℕ) (rest : List Rule) → ((i : ℕ) → slice_get rules (at + i) ≡ slice_get rest i) → specs_by tags kind rules (numbers_where test at rest) ≡ specs_in tags kind (enumerate_from at rest)
  picked_from at [] h = refl
  picked_from at (rule ∷ more) h =
      by (applies tags kind rule) (test rule) refl (passes rule) (numbers_where test (at + 1) more) (filter (λ r. applies tags kind r.1) (enumerate_from (at + 1) more))
      (picked_from (at + 1) more (λ i. ap (slice_get rules) (next i) ∙ h (suc i)))
    where
      next : (i : ℕ) → at + 1 + i ≡ at + suc i
      next i = omega arith

      itself : at ≡ at + 0
      itself = omega arith

      found : slice_get rules at ≡ Some rule
      found = ap (slice_get rules) itself ∙ h 0

      here : (a : Bool) → applies tags kind rule ≡ a → specs_if tags kind at (slice_get rules at) ≡ map (spec_of tags) (if a then (at, rule) ∷ [] else [])
      here a e = ap (specs_if tags kind at) found ∙ ap (λ b. map (spec_of tags) (if b then (at, rule) ∷ [] else [])) e

      by : (a b : Bool) → applies tags kind rule ≡ a → (a ≡ true → b ≡ true) → (numbers : List ℕ) (later : List (ℕ × Rule)) → specs_by tags kind rules numbers ≡ map (spec_of tags) later
          → specs_by tags kind rules (if b then at ∷ numbers else numbers) ≡ map (spec_of tags) (if a then (at, rule) ∷ later else later)
      by true true e p numbers later k = ap (λ l. l ++ specs_by tags kind rules numbers) (here true e) ∙ ap (λ l. spec_of tags (at, rule) ∷ l) k
      by false true e p numbers later k = ap (λ l. l ++ specs_by tags kind rules numbers) (here false e) ∙ k
      by false false e p numbers later k = k
      by true false e p numbers later k = absurd (false≢true (p refl))

-- the rules of these numbers make of an element what all rules do
pub picked : (tags : List Tag) (kind : Kind) (rules : List Rule) (places : List (List ℕ)) → IsByKey rules places → specs_by tags kind rules (numbers_for places tags) ≡ specs_in tags kind (enumerate_from 0 rules)
picked tags kind rules places k =
    let count = key_places places in
    let test : Rule → Bool = λ rule. is_met count (place_of_rule count rule == count) (place_of_rule count rule) tags in
    let start : (i : ℕ) → 0 + i ≡ i = λ i. omega arith in
    ap (specs_by tags kind rules) (numbers-where rules places tags k) ∙ picked_from tags kind rules test (applies-met count tags kind) 0 rules (λ i. ap (slice_get rules) (start i))

-- what the code makes by these numbers of the tags and rules that it sees
pub made : {E : Type 0} (r : Result (List Spec) E) (tags seen_tags : List Tag) (kind : Kind) (rules seen_rules : List Rule) (places : List (List ℕ)) (numbers : List ℕ) → IsByKey rules places → seen_tags ≡ tags → seen_rules ≡ rules
    → numbers ≡ numbers_for places seen_tags → IfOk r (λ specs. specs ≡ specs_by seen_tags kind seen_rules numbers) → IfOk r (λ specs. specs ≡ specs_in tags kind (enumerate_from 0 rules))
made (Ok specs) tags seen_tags kind rules seen_rules places numbers k same same_rules are told =
    told ∙ ap (specs_by seen_tags kind seen_rules) are ∙ ap (λ t. specs_by t kind seen_rules (numbers_for places t)) same ∙ ap (λ l. specs_by tags kind l (numbers_for places tags)) same_rules
    ∙ picked tags kind rules places k
made (Err e) tags seen_tags kind rules seen_rules places numbers k same same_rules are told = tt

-- an element without tags
pub made_bare : {E : Type 0} (r : Result (List Spec) E) (tags seen_tags : List Tag) (kind : Kind) (rules seen_rules : List Rule) (places : List (List ℕ)) (numbers : List ℕ) → IsByKey rules places → seen_tags ≡ tags → seen_rules ≡ rules
    → length seen_tags ≡ 0 → numbers ≡ numbers_for places [] → IfOk r (λ specs. specs ≡ specs_by seen_tags kind seen_rules numbers) → IfOk r (λ specs. specs ≡ specs_in tags kind (enumerate_from 0 rules))
made_bare r tags seen_tags kind rules seen_rules places numbers k same same_rules none are told =
    made r tags seen_tags kind rules seen_rules places numbers k same same_rules (are ∙ ap (numbers_for places) (sym (nil_from_length seen_tags none))) told

-- a rule that is looked up
pub found_at : (xs : List Rule) (i : ℕ) (r : Option (Bor Rule)) → IsItemAt xs i r → option_copied r ≡ slice_get xs i
found_at xs i None h = sym (slice_get_past xs i h.3)
found_at xs i (Some x) h = sym (slice_get_read xs (length xs) i x.now refl h.3.0 h.1)

-- what the rule of one number more makes
pub specs_next : (tags : List Tag) (kind : Kind) (rules : List Rule) (numbers : List ℕ) (i : ℕ) (found : Option Rule) (before after total : List Spec) → i < length numbers → found ≡ slice_get rules (get_or numbers i 0)
    → after ≡ before ++ specs_if tags kind (get_or numbers i 0) found → before ++ specs_by tags kind rules (drop i numbers) ≡ total → after ++ specs_by tags kind rules (drop (i + 1) numbers) ≡ total
specs_next tags kind rules numbers i found before after total less is added told =
    let number = get_or numbers i 0 in
    let rest = specs_by tags kind rules (drop (i + 1) numbers) in
    ap (λ l. l ++ rest) (added ∙ ap (λ f. before ++ specs_if tags kind number f) is)
    ∙ append_assoc before (specs_if tags kind number (slice_get rules number)) rest
    ∙ ap (λ l. before ++ specs_by tags kind rules l) (sym (drop_more numbers i 0 less)) ∙ told
