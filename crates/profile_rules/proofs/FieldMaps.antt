-- A map of fields beside the list that it is seen as.
use Rattle.std.proofs.Common.{◌≡◌, ◌<◌, ◌+◌, length, drop, get_or, ℕ, Bool, true, false, cond, List, [], ◌∷◌, ◌++◌, map, Option, Some, None, Bor, Ordering, Less, Equal, Greater, nat_cmp, refl, ap, sym, ◌∙◌}
use Rattle.std.proofs.lemmas.List.{drop_more}
use Rattle.std.specs.Ordering.{is_eq, match_ordering}
use Rattle.std.specs.Cmp.Lexicographic.{slice_cmp}
use Rattle.std.specs.List.{AllByRecursion}
use Rattle.std.specs.List.Sorted.{IsStrictlySortedBy}
use Rattle.std.specs.Map.{keys_of, lookup}
use Rattle.std.specs.BTreeMap.{insert_entry}
use Rattle.tb_types.specs.declared.attribute.FieldKind.{FieldKind}
use Rattle.profile_rules.specs.declared.attribute.Attribute.{Attribute}
use Rattle.profile_rules.specs.declared.parts.Rule.{Rule}
use Rattle.profile_rules.specs.Fields.{Field, both_kinds, joined_kind, put_field, with_field, with_fields, kind_of, own_attributes, attributes_in, IsAscending}
use Rattle.profile_rules.specs.SeenFields.{seen_fields}

abbrev pub Entry : Type 0
Entry = Bor (List ℕ) × FieldKind

-- a kind with the one that was found before
abbrev pub with_found : FieldKind → Option FieldKind → FieldKind
with_found kind None = kind
with_found kind (Some before) = both_kinds before kind

found-cond : (kind before : FieldKind) (b : Bool) (rest : Option FieldKind) (k : FieldKind) → with_found kind rest ≡ k → with_found kind (cond b (Some before) rest) ≡ cond b (both_kinds before kind) k
found-cond kind before true rest k h = refl
found-cond kind before false rest k h = h

pub joined-lookup : (name : List ℕ) (kind : FieldKind) (es : List Entry) → with_found kind (lookup (λ k. is_eq (slice_cmp nat_cmp name k.now)) es) ≡ joined_kind name kind (seen_fields es)
joined-lookup name kind [] = refl
joined-lookup name kind (e ∷ es) = found-cond kind e.1 (is_eq (slice_cmp nat_cmp name e.0.now)) _ _ (joined-lookup name kind es)

seen-match : (o : Ordering) (a b d : List Entry) → seen_fields (match_ordering o a b d) ≡ match_ordering o (seen_fields a) (seen_fields b) (seen_fields d)
seen-match Less a b d = refl
seen-match Equal a b d = refl
seen-match Greater a b d = refl

pub put-insert : (name : Bor (List ℕ)) (kind : FieldKind) (es : List Entry) → seen_fields (insert_entry (λ a b. slice_cmp nat_cmp a.now b.now) es name kind) ≡ put_field name.now kind (seen_fields es)
put-insert name kind [] = refl
put-insert name kind (e ∷ es) = seen-match (slice_cmp nat_cmp name.now e.0.now) _ _ _ ∙ rw (put-insert name kind es)

pub with_fields-append : (found : List Field) (xs ys : List Attribute) → with_fields found (xs ++ ys) ≡ with_fields (with_fields found xs) ys
with_fields-append found [] ys = refl
with_fields-append found (x ∷ xs) ys = with_fields-append (with_field x.name (kind_of x.origin) found) xs ys

-- the attributes of one rule more
pub rule_added : (found more : List Field) (layer : ℕ) (rules : List Rule) (i : ℕ) (rule : Rule) (total : List Field) → i < length rules → rule ≡ get_or rules i rule
    → more ≡ with_fields found (own_attributes layer rule) → with_fields found (attributes_in layer (drop i rules)) ≡ total → with_fields more (attributes_in layer (drop (i + 1) rules)) ≡ total
rule_added found more layer rules i rule total h is added told =
    let prefix : drop i rules ≡ rule ∷ drop (i + 1) rules = drop_more rules i rule h ∙ ap (λ r. r ∷ drop (i + 1) rules) (sym is) in
    ap (λ fields. with_fields fields (attributes_in layer (drop (i + 1) rules))) added
    ∙ (sym (with_fields-append found (own_attributes layer rule) (attributes_in layer (drop (i + 1) rules)))
    ∙ (ap (λ rs. with_fields found (attributes_in layer rs)) (sym prefix) ∙ told))

names_after : (name : List ℕ) (es : List Entry) → AllByRecursion (λ k. slice_cmp nat_cmp name k.now ≡ Less) (keys_of es) → AllByRecursion (λ n. slice_cmp nat_cmp name n ≡ Less) (map (λ f. f.0) (seen_fields es))
names_after name [] h = tt
names_after name (e ∷ es) h = (h.0, names_after name es h.1)

-- the names of a map's fields ascend as its keys do
pub seen-ascending : (es : List Entry) → IsStrictlySortedBy (λ a b. slice_cmp nat_cmp a.now b.now) (keys_of es) → IsAscending (seen_fields es)
unfolding IsStrictlySortedBy
seen-ascending [] h = tt
seen-ascending (e ∷ es) h = (names_after e.0.now es h.0, seen-ascending es h.1)
