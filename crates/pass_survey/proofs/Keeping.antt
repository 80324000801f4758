-- Walks over relations and members, one by one.
use Rattle.std.proofs.Common.{◌≡◌, ℕ, ◌+◌, ◌<◌, Bool, true, false, cond, Option, None, Some, List, [], ◌∷◌, ◌++◌, length, take, get_or, map, filter, filter_map, All, refl, sym, ap, subst, ◌∙◌, arith}
use Rattle.std.proofs.lemmas.List.{take_more, append-nil, map-append}
use Rattle.std.proofs.lemmas.List.Elements.{filter-append, filter_map-append, All-append, All-cons, All-nil}
use Rattle.std.specs.List.{cons_option}
use Rattle.tb_types.specs.declared.element.Kind.TheVariants as kinds
use Rattle.osm_elements.specs.declared.element.RelEl.{RelEl}
use Rattle.profile_rules.specs.declared.parts.Parts.{Parts}
use Rattle.profile_rules.specs.declared.spec.Spec.{Spec}
use Rattle.profile_rules.specs.Features.{specs_of}
use Rattle.profile_rules.specs.Sound.{IsSoundSpec}
use Rattle.member_sets.specs.declared.kept.KeptRelation.{KeptRelation}
use Rattle.tile_model.specs.Extract.{is_kept, is_some_list}
use Rattle.pass_survey.specs.Kept.{kept_of, kept_in, IsSoundKept}

kept-split : (parts : Parts) (block : ℕ) (xs ys : List RelEl) → kept_in parts block (xs ++ ys) ≡ kept_in parts block xs ++ kept_in parts block ys
kept-split parts block xs ys = ap (map (kept_of parts block)) (filter-append (is_kept parts) xs ys) ∙ map-append (kept_of parts block) (filter (is_kept parts) xs) (filter (is_kept parts) ys)

pub kept_next : (parts : Parts) (block : ℕ) (relations : List RelEl) (i : ℕ) (d : RelEl) → i < length relations → kept_in parts block (take (i + 1) relations) ≡ kept_in parts block (take i relations) ++ kept_in parts block (get_or relations i d ∷ [])
kept_next parts block relations i d more = ap (kept_in parts block) (take_more relations i d more) ∙ kept-split parts block (take i relations) (get_or relations i d ∷ [])

-- a relation of which the rules make nothing, and one of which they make something
none-made : (specs : List Spec) → length specs ≡ 0 → is_some_list specs ≡ false
none-made [] h = refl
none-made (s ∷ specs) h = absurd (omega (arith, h))

some-made : (specs : List Spec) → 0 < length specs → is_some_list specs ≡ true
some-made [] h = absurd (omega (arith, h))
some-made (s ∷ specs) h = refl

pub kept_none : (parts : Parts) (block : ℕ) (r : RelEl) (specs : List Spec) → specs ≡ specs_of parts r.tags kinds.Relation → length specs ≡ 0 → kept_in parts block (r ∷ []) ≡ []
kept_none parts block r specs is h = ap (λ b. map (kept_of parts block) (cond b (r ∷ []) [])) (sym (ap is_some_list is) ∙ none-made specs h)

pub kept_some : (parts : Parts) (block : ℕ) (r : RelEl) (specs : List Spec) → specs ≡ specs_of parts r.tags kinds.Relation → 0 < length specs → kept_in parts block (r ∷ []) ≡ kept_of parts block r ∷ []
kept_some parts block r specs is h = ap (λ b. map (kept_of parts block) (cond b (r ∷ []) [])) (sym (ap is_some_list is) ∙ some-made specs h)

-- one more that is sound
pub sound-more : (parts : Parts) (old new : List KeptRelation) (k : KeptRelation) → new ≡ old ++ k ∷ [] → IsSoundKept parts k → All (IsSoundKept parts) old → All (IsSoundKept parts) new
sound-more parts old new k is one h = subst (All (IsSoundKept parts)) (sym is) (All-append (IsSoundKept parts) old (k ∷ []) h (All-cons (IsSoundKept parts) k [] one (All-nil (IsSoundKept parts))))

-- chosen values
module _ {A B : Type 0} (g : A → Option B) (xs : List A) (i : ℕ) (d : A) (more : i < length xs) where
  chosen : filter_map g (take (i + 1) xs) ≡ filter_map g (take i xs) ++ filter_map g (get_or xs i d ∷ [])
  chosen = ap (filter_map g) (take_more xs i d more) ∙ filter_map-append g (take i xs) (get_or xs i d ∷ [])

  pub chosen_next : (y : B) → g (get_or xs i d) ≡ Some y → filter_map g (take (i + 1) xs) ≡ filter_map g (take i xs) ++ y ∷ []
  chosen_next y e = chosen ∙ ap (λ o. filter_map g (take i xs) ++ cons_option o []) e

  pub chosen_not : g (get_or xs i d) ≡ None → filter_map g (take (i + 1) xs) ≡ filter_map g (take i xs)
  chosen_not e = chosen ∙ (ap (λ o. filter_map g (take i xs) ++ cons_option o []) e ∙ append-nil (filter_map g (take i xs)))
