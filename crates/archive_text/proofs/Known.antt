-- The contents that were read, with one looked up or added.
use Rattle.std.proofs.Common.{◌≡◌, ℕ, ◌+◌, ◌==◌, ◌&&◌, ◌||◌, Bool, true, false, cond, if◌then◌else◌, Option, None, Some, is_some, List, [], ◌∷◌, ◌++◌, map, slice_range, refl, sym, ap, subst, ◌∙◌}
use Rattle.std.specs.List.{list_any}
use Rattle.std.proofs.lemmas.Bool.{eqb-true}
use Rattle.std.proofs.lemmas.List.{map-append}
use Rattle.pmtiles_dirs.specs.Fault.{Opened}
use Rattle.archive_text.specs.declared.span.Span.{Span}
use Rattle.archive_text.specs.Rows.{rows_of}
use Rattle.archive_text.specs.Spans.{is_same, with_span}
use Rattle.archive_text.specs.Counted.{features_at, spans_in, bytes_at, AreCounted}

both : (a b : Bool) → (a && b) ≡ true → (a ≡ true) × (b ≡ true)
both true b h = (refl, h)
both false b h = let no : false ≡ true = h in absurd cc

module _ (archive : List ℕ) (o : Opened) where
  -- contents that are one have one and the same bytes
  same-bytes : (a b : Span) → is_same a b ≡ true → bytes_at archive o a ≡ bytes_at archive o b
  same-bytes a b h =
      let parts = both (a.offset == b.offset) (a.len == b.len) h in
      let at : a.offset ≡ b.offset = eqb-true a.offset b.offset parts.0 in
      let len : a.len ≡ b.len = eqb-true a.len b.len parts.1 in
      ap (λ (n : ℕ). slice_range archive (o.tiles_at + n) (o.tiles_at + n + a.len)) at ∙ ap (λ (n : ℕ). slice_range archive (o.tiles_at + b.offset) (o.tiles_at + b.offset + n)) len

  found-here : (b : Bool) (span : Span) (c : Span × ℕ) (rest : Option ℕ) (n : ℕ) → is_same span c.0 ≡ b → rows_of (bytes_at archive o c.0) ≡ Some c.1 → (rest ≡ Some n → rows_of (bytes_at archive o span) ≡ Some n)
      → cond b (Some c.1) rest ≡ Some n → rows_of (bytes_at archive o span) ≡ Some n
  found-here true span c rest n same here later h = ap rows_of (same-bytes span c.0 same) ∙ here ∙ h
  found-here false span c rest n same here later h = later h

  -- a content that was read has as many features as was noted
  pub features-known : (span : Span) (counted : List (Span × ℕ)) (n : ℕ) → AreCounted archive o counted → features_at span counted ≡ Some n → rows_of (bytes_at archive o span) ≡ Some n
  features-known span [] n known h = let no : None ≡ Some n = h in absurd cc
  features-known span (c ∷ counted) n known h = found-here (is_same span c.0) span c (features_at span counted) n refl known.0 (features-known span counted n known.1) h

  -- one more
  pub counted-add : (counted : List (Span × ℕ)) (span : Span) (n : ℕ) → AreCounted archive o counted → rows_of (bytes_at archive o span) ≡ Some n → AreCounted archive o (counted ++ (span, n) ∷ [])
  counted-add [] span n known h = (h, tt)
  counted-add (c ∷ counted) span n known h = (known.0, counted-add counted span n known.1 h)

any-known : (b : Bool) (n : ℕ) (rest : Bool) (later : Option ℕ) → rest ≡ is_some later → (b || rest) ≡ is_some (cond b (Some n) later)
any-known true n rest later h = refl
any-known false n rest later h = h

-- a content is among those that were read where its number of features is found
pub is-known : (span : Span) (counted : List (Span × ℕ)) → list_any (is_same span) (spans_in counted) ≡ is_some (features_at span counted)
is-known span [] = refl
is-known span (c ∷ counted) = any-known (is_same span c.0) c.1 (list_any (is_same span) (spans_in counted)) (features_at span counted) (is-known span counted)

pub spans-found : (span : Span) (counted : List (Span × ℕ)) (n : ℕ) → features_at span counted ≡ Some n → spans_in counted ≡ with_span (spans_in counted) span
spans-found span counted n h = sym (ap (λ (b : Bool). if b then spans_in counted else spans_in counted ++ span ∷ []) (is-known span counted ∙ ap is_some h))

pub spans-add : (span : Span) (counted : List (Span × ℕ)) (n : ℕ) → features_at span counted ≡ None → spans_in (counted ++ (span, n) ∷ []) ≡ with_span (spans_in counted) span
spans-add span counted n h = map-append (λ (c : Span × ℕ). c.0) counted ((span, n) ∷ []) ∙ sym (ap (λ (b : Bool). if b then spans_in counted else spans_in counted ++ span ∷ []) (is-known span counted ∙ ap is_some h))
