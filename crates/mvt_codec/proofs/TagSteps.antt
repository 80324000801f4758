-- The attributes of tags are read two tags at a time.
use Rattle.std.proofs.Common.{◌≡◌, ℕ, ◌+◌, ◌<◌, Option, None, Some, List, [], ◌∷◌, ◌++◌, length, drop, get_or, refl, ap, ◌∙◌, arith, append_assoc}
use Rattle.std.proofs.lemmas.List.{drop_more}
use Rattle.std.proofs.Math.ListN.{drop_of_length-le}
use Rattle.tb_types.specs.declared.attribute.Attr.{Attr}
use Rattle.tb_types.specs.declared.attribute.AttrValue.{AttrValue}
use Rattle.mvt_geom.specs.Options.{◌>>=◌}
use Rattle.mvt_codec.specs.Grammar.{attribute_at, attributes_at}
use Rattle.mvt_codec.specs.Reading.{with_list}

module _ (keys : List (List ℕ)) (values : List AttrValue) where
  two_more : (tags : List ℕ) (at : ℕ) → at + 1 < length tags → drop at tags ≡ get_or tags at 0 ∷ get_or tags (at + 1) 0 ∷ drop (at + 2) tags
  two_more tags at h =
      let place : at + 1 + 1 ≡ at + 2 = omega arith in
      drop_more tags at 0 (omega (arith, h)) ∙ ap (λ l. get_or tags at 0 ∷ l) (drop_more tags (at + 1) 0 h ∙ ap (λ n. get_or tags (at + 1) 0 ∷ drop n tags) place)

  one_more : (prefix : List Attr) (a : Attr) (r : Option (List Attr)) → with_list prefix (r >>= λ later. Some (a ∷ later)) ≡ with_list (prefix ++ a ∷ []) r
  one_more prefix a None = refl
  one_more prefix a (Some later) = rw append_assoc refl

  pub attributes-step : (prefix : List Attr) (a : Attr) (tags : List ℕ) (at : ℕ) → at + 1 < length tags → attribute_at keys values (get_or tags at 0) (get_or tags (at + 1) 0) ≡ Some a
      → with_list prefix (attributes_at keys values (drop at tags)) ≡ with_list (prefix ++ a ∷ []) (attributes_at keys values (drop (at + 2) tags))
  attributes-step prefix a tags at h e =
      ap (λ l. with_list prefix (attributes_at keys values l)) (two_more tags at h) ∙ ap (λ r. with_list prefix (r >>= λ x. attributes_at keys values (drop (at + 2) tags) >>= λ later. Some (x ∷ later))) e
      ∙ one_more prefix a (attributes_at keys values (drop (at + 2) tags))

  pub attributes-bad : (prefix : List Attr) (tags : List ℕ) (at : ℕ) → at + 1 < length tags → attribute_at keys values (get_or tags at 0) (get_or tags (at + 1) 0) ≡ None → with_list prefix (attributes_at keys values (drop at tags)) ≡ None
  attributes-bad prefix tags at h e =
      ap (λ l. with_list prefix (attributes_at keys values l)) (two_more tags at h) ∙ ap (λ r. with_list prefix (r >>= λ x. attributes_at keys values (drop (at + 2) tags) >>= λ later. Some (x ∷ later))) e

  pub attributes-odd : (prefix : List Attr) (tags : List ℕ) (at : ℕ) → at + 1 ≡ length tags → with_list prefix (attributes_at keys values (drop at tags)) ≡ None
  attributes-odd prefix tags at h =
      let one : drop at tags ≡ get_or tags at 0 ∷ [] = drop_more tags at 0 (omega (arith, h)) ∙ ap (λ l. get_or tags at 0 ∷ l) (drop_of_length-le tags (omega (arith, h))) in
      ap (λ l. with_list prefix (attributes_at keys values l)) one
