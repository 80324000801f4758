-- The specs of an element by a sound profile are sound.
use Rattle.std.proofs.Common.{◌≡◌, ℕ, ℤ, zero, suc, pos, neg_ℤ, ◌+◌, ◌-◌, ◌*◌, ◌^◌, ◌<◌, ◌≤◌, ◌==◌, ◌&&◌, nat_le, nat_lt, Bool, true, false, cond, IfSome, Option, None, Some, option_map, List, [], ◌∷◌, length, filter, refl, arith, mul-le-mul_left}
use Rattle.std.specs.Prelude.{All, filter_map, option_and_then}
use Rattle.std.specs.List.{cons_option, enumerate_from}
use Rattle.std.specs.Str.{all_ascii_digits}
use Rattle.std.specs.Char.{is_ascii_digit}
use Rattle.std.proofs.lemmas.Bool.{and_parts, leb-true, lt-ltb}
use Rattle.std.proofs.lemmas.List.Elements.{All-nil, All-cons, All-head, All-tail, All-weaker, All-map, All-filter}
use Rattle.tb_types.specs.declared.attribute.Attr.{Attr}
use Rattle.tb_types.specs.declared.attribute.AttrValue.{AttrValue}
use Rattle.tb_types.specs.declared.attribute.AttrValue.TheVariants as values
use Rattle.tb_types.specs.declared.attribute.Tags.{Tags}
use Rattle.tb_types.specs.declared.element.Kind.{Kind}
use Rattle.profile_rules.specs.declared.parts.Rule.{Rule}
use Rattle.profile_rules.specs.declared.parts.Parts.{Parts}
use Rattle.profile_rules.specs.declared.attribute.ValueForm.{ValueForm}
use Rattle.profile_rules.specs.declared.attribute.ValueForm.TheVariants as read_as
use Rattle.profile_rules.specs.declared.attribute.Constant.{Constant}
use Rattle.profile_rules.specs.declared.attribute.Constant.TheVariants as constants
use Rattle.profile_rules.specs.declared.attribute.Origin.{Origin}
use Rattle.profile_rules.specs.declared.attribute.Origin.TheVariants as origins
use Rattle.profile_rules.specs.declared.attribute.Attribute.{Attribute}
use Rattle.profile_rules.specs.Ranges.{fits_64}
use Rattle.profile_rules.specs.Features.{Tag, tag_value, number_from, digits_value, whole_value, truth_value, value_in, constant_value, origin_value, attr_of, applies, spec_of, specs_of}
use Rattle.profile_rules.specs.Sound.{IsSoundConstant, IsSoundOrigin, IsSoundAttribute, IsSoundRule, IsSound, IsSoundValue, IsSoundAttr, IsSoundSpec}
use Rattle.profile_rules.proofs.Digits.{ten_more, ten_mono}

number_below : (before : ℕ) (text : List ℕ) → all_ascii_digits text ≡ true → number_from before text < (before + 1) * 10 ^ length text
number_below before [] e = omega arith
number_below before (c ∷ more) e =
    let both = and_parts (is_ascii_digit c) (all_ascii_digits more) e in
    let digit = leb-true c 57 (and_parts (nat_le 48 c) (nat_le c 57) both.0).1 in
    let rest : number_from (10 * before + (c - 48)) more < (10 * before + (c - 48) + 1) * 10 ^ length more = number_below (10 * before + (c - 48)) more both.1 in
    let wider : 10 ^ length more * (10 * before + (c - 48) + 1) ≤ 10 ^ length more * (10 * (before + 1)) = mul-le-mul_left (10 ^ length more) (omega (arith, digit)) in
    let one_more : length (c ∷ more) ≡ length more + 1 = omega arith in
    rw (one_more, ten_more (length more)) (omega (arith, rest, wider))

-- what is made of a value, where one stands
IfSome-map : {A B : Type 0} (f : A → B) (P : B → Type 0) (o : Option A) → IfSome o (λ x. P (f x)) → IfSome (option_map f o) P
IfSome-map f P None h = tt
IfSome-map f P (Some x) h = h

IfSome-weaker : {A : Type 0} (P Q : A → Type 0) (o : Option A) → ((x : A) → P x → Q x) → IfSome o P → IfSome o Q
IfSome-weaker P Q None f h = tt
IfSome-weaker P Q (Some x) f h = f x h

IfSome-each : {A : Type 0} (Q : A → Type 0) (o : Option A) → ((x : A) → Q x) → IfSome o Q
IfSome-each Q None f = tt
IfSome-each Q (Some x) f = f x

IfSome-then : {A B : Type 0} (f : A → Option B) (Q : B → Type 0) (o : Option A) → ((x : A) → IfSome (f x) Q) → IfSome (option_and_then f o) Q
IfSome-then f Q None k = tt
IfSome-then f Q (Some x) k = k x

IfSome-either : {A : Type 0} (P : A → Type 0) (b : Bool) (x y : Option A) → (b ≡ true → IfSome x P) → (b ≡ false → IfSome y P) → IfSome (cond b x y) P
IfSome-either P true x y h k = h refl
IfSome-either P false x y h k = k refl

abbrev IsSmall : ℕ → Type 0
IsSmall n = n < 1000000000000000000

digits_below : (text : List ℕ) → IfSome (digits_value text) IsSmall
digits_below text =
    IfSome-either IsSmall ((nat_lt 0 (length text) && nat_le (length text) 18) && all_ascii_digits text) (Some (number_from 0 text)) None
    (λ e.
    let both = and_parts (nat_lt 0 (length text) && nat_le (length text) 18) (all_ascii_digits text) e in
    let few = leb-true (length text) 18 (and_parts (nat_lt 0 (length text)) (nat_le (length text) 18) both.0).1 in
    omega (arith, number_below 0 text both.1, ten_mono (length text) 18 few))
    (λ _. tt)

abbrev Fits : ℤ → Type 0
Fits n = fits_64 n ≡ true

pos_fits : (n : ℕ) → IsSmall n → Fits (pos n)
pos_fits n h = lt-ltb n 9223372036854775808 (omega arith)

neg_fits : (n : ℕ) → IsSmall n → Fits (neg_ℤ (pos n))
neg_fits zero h = refl
neg_fits (suc n) h = lt-ltb n 9223372036854775808 (omega arith)

whole_fits : (text : List ℕ) → IfSome (whole_value text) Fits
whole_fits [] = tt
whole_fits (c ∷ more) =
    IfSome-either Fits (c == 45) (option_map (λ n. neg_ℤ (pos n)) (digits_value more)) (option_map (λ n. pos n) (digits_value (c ∷ more)))
    (λ _. IfSome-map (λ n. neg_ℤ (pos n)) Fits (digits_value more) (IfSome-weaker IsSmall (λ n. Fits (neg_ℤ (pos n))) (digits_value more) neg_fits (digits_below more)))
    (λ _. IfSome-map (λ n. pos n) Fits (digits_value (c ∷ more)) (IfSome-weaker IsSmall (λ n. Fits (pos n)) (digits_value (c ∷ more)) pos_fits (digits_below (c ∷ more))))

value_in-sound : (form : ValueForm) (text : List ℕ) → IfSome (value_in form text) IsSoundValue
value_in-sound read_as.Text text = tt
value_in-sound read_as.Whole text = IfSome-map (λ n. values.Whole n) IsSoundValue (whole_value text) (whole_fits text)
value_in-sound read_as.Truth text = IfSome-map (λ b. values.Truth b) IsSoundValue (truth_value text) (IfSome-each (λ b. IsSoundValue (values.Truth b)) (truth_value text) (λ b. tt))

constant-sound : (constant : Constant) → IsSoundConstant constant → IsSoundValue (constant_value constant)
constant-sound (constants.Text text) h = tt
constant-sound (constants.Whole n) h = h
constant-sound (constants.Truth b) h = tt

origin-sound : (tags : List Tag) (origin : Origin) → IsSoundOrigin origin → IfSome (origin_value tags origin) IsSoundValue
origin-sound tags (origins.Tag key form) h = IfSome-then (value_in form) IsSoundValue (tag_value key tags) (value_in-sound form)
origin-sound tags (origins.Constant constant) h = constant-sound constant h

attr-sound : (tags : List Tag) (attribute : Attribute) → IsSoundAttribute attribute → IfSome (attr_of tags attribute) IsSoundAttr
attr-sound tags attribute h =
    let make : AttrValue → Attr = λ value. record { name = attribute.name; value = value } in
    IfSome-map make IsSoundAttr (origin_value tags attribute.origin)
    (IfSome-weaker IsSoundValue (λ value. IsSoundAttr (make value)) (origin_value tags attribute.origin) (λ value v. record { named = h.named; value = v }) (origin-sound tags attribute.origin h.origin))

All-option : {Y : Type 0} (Q : Y → Type 0) (o : Option Y) (ys : List Y) → IfSome o Q → All Q ys → All Q (cons_option o ys)
All-option Q None ys h k = k
All-option Q (Some y) ys h k = All-cons Q y ys h k

All-filter_map : {X Y : Type 0} (P : X → Type 0) (Q : Y → Type 0) (f : X → Option Y) → ((x : X) → P x → IfSome (f x) Q) → (xs : List X) → All P xs → All Q (filter_map f xs)
All-filter_map P Q f k [] h = All-nil Q
All-filter_map P Q f k (x ∷ xs) h = All-option Q (f x) (filter_map f xs) (k x (All-head P x xs h)) (All-filter_map P Q f k xs (All-tail P x xs h))

length-option : {Y : Type 0} (o : Option Y) (ys : List Y) (n : ℕ) → length ys ≤ n → length (cons_option o ys) ≤ suc n
length-option None ys n h = omega arith
length-option (Some y) ys n h = omega arith

length-filter_map : {X Y : Type 0} (f : X → Option Y) (xs : List X) → length (filter_map f xs) ≤ length xs
length-filter_map f [] = omega arith
length-filter_map f (x ∷ xs) = length-option (f x) (filter_map f xs) (length xs) (length-filter_map f xs)

-- a rule with its number
abbrev IsNumbered : Parts → ℕ × Rule → Type 0
IsNumbered parts numbered = (numbered.0 < length parts.rules) × IsSoundRule (length parts.layers) parts.min parts.max numbered.1

numbered-sound : (parts : Parts) (i : ℕ) (rules : List Rule) → i + length rules ≤ length parts.rules → All (IsSoundRule (length parts.layers) parts.min parts.max) rules → All (IsNumbered parts) (enumerate_from i rules)
numbered-sound parts i [] h all = All-nil (IsNumbered parts)
numbered-sound parts i (rule ∷ rules) h all =
    let P = IsSoundRule (length parts.layers) parts.min parts.max in
    All-cons (IsNumbered parts) (i, rule) (enumerate_from (i + 1) rules) (omega arith, All-head P rule rules all)
    (numbered-sound parts (i + 1) rules (omega arith) (All-tail P rule rules all))

spec-sound : (parts : Parts) (tags : List Tag) (numbered : ℕ × Rule) → IsNumbered parts numbered → IsSoundSpec parts (spec_of tags numbered)
spec-sound parts tags numbered h =
    let attributes = numbered.1.attributes in record {
      rule = h.0;
      layer = h.1.layer;
      first = h.1.first;
      ordered = h.1.ordered;
      last = h.1.last;
      order = h.1.order;
      few = omega (arith, h.1.few, length-filter_map (attr_of tags) attributes);
      attributes = All-filter_map IsSoundAttribute IsSoundAttr (attr_of tags) (attr-sound tags) attributes h.1.attributes;
    }

-- The specs of an element by a sound profile are sound.
pub specs-sound : (parts : Parts) (tags : Tags) (kind : Kind) → IsSound parts → All (IsSoundSpec parts) (specs_of parts tags kind)
specs-sound parts tags kind h =
    let numbered = enumerate_from 0 parts.rules in
    let test : ℕ × Rule → Bool = λ r. applies tags.pairs kind r.1 in
    let kept = All-filter test (IsNumbered parts) numbered (numbered-sound parts 0 parts.rules (omega arith) h.rules) in
    All-map (IsSoundSpec parts) (spec_of tags.pairs) (filter test numbered)
    (All-weaker (IsNumbered parts) (λ r. IsSoundSpec parts (spec_of tags.pairs r)) (spec-sound parts tags.pairs) (filter test numbered) kept)
