-- A map of fields beside the list that it is seen as.
use Rattle.std.proofs.Common.{◌≡◌, ℕ, Bool, true, false, cond, List, [], ◌∷◌, Option, Some, None, Bor, Ordering, Less, Equal, Greater, nat_cmp, refl, ◌∙◌}
use Rattle.std.specs.Ordering.{is_eq, match_ordering}
use Rattle.std.specs.Cmp.Lexicographic.{slice_cmp}
use Rattle.std.specs.Map.{lookup}
use Rattle.std.specs.BTreeMap.{insert_entry}
use Rattle.tb_types.specs.declared.attribute.FieldKind.{FieldKind}
use Rattle.pmtiles_dirs.specs.Meta.{both_kinds, joined_kind, put_field}
use Rattle.pmtiles_dirs.specs.SeenFields.{seen_fields}

abbrev pub Entry : Type 0
Entry = Bor (List ℕ) × FieldKind

-- a kind with the one that was found before
abbrev pub with_found : FieldKind → Option FieldKind → FieldKind
with_found kind None = kind
with_found kind (Some before) = both_kinds before kind

found-cond : (kind before : FieldKind) (b : Bool) (rest : Option FieldKind) (k : FieldKind) → with_found kind rest ≡ k → with_found kind (cond b (Some before) rest) ≡ cond b (both_kinds before kind) k
found-cond kind before true rest k h = refl
found-cond kind before false rest k h = h

pub joined-lookup : (name : List ℕ) (kind : FieldKind) (es : List Entry) → with_found kind (lookup (λ k. is_eq (slice_cmp nat_cmp name k.now)) es) ≡ joined_kind name kind (seen_fields es)
joined-lookup name kind [] = refl
joined-lookup name kind (e ∷ es) = found-cond kind e.1 (is_eq (slice_cmp nat_cmp name e.0.now)) _ _ (joined-lookup name kind es)

seen-match : (o : Ordering) (a b d : List Entry) → seen_fields (match_ordering o a b d) ≡ match_ordering o (seen_fields a) (seen_fields b) (seen_fields d)
seen-match Less a b d = refl
seen-match Equal a b d = refl
seen-match Greater a b d = refl

pub put-insert : (name : Bor (List ℕ)) (kind : FieldKind) (es : List Entry) → seen_fields (insert_entry (λ a b. slice_cmp nat_cmp a.now b.now) es name kind) ≡ put_field name.now kind (seen_fields es)
put-insert name kind [] = refl
put-insert name kind (e ∷ es) = seen-match (slice_cmp nat_cmp name.now e.0.now) _ _ _ ∙ rw (put-insert name kind es)
