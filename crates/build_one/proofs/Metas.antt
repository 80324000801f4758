-- Each layer of a profile has its number.
use Rattle.std.proofs.Common.{◌≡◌, ℕ, suc, ◌+◌, ◌<◌, List, [], ◌∷◌, ◌++◌, length, take, get_or, map, refl, sym, ap, subst, ◌∙◌, arith}
use Rattle.std.specs.List.{enumerate_from}
use Rattle.std.proofs.lemmas.List.{take_more, map-append, length-take-le}
use Rattle.profile_rules.specs.declared.parts.LayerInfo.{LayerInfo}
use Rattle.profile_rules.specs.declared.parts.Parts.{Parts}
use Rattle.profile_rules.specs.Fields.{layers_of}
use Rattle.pmtiles_dirs.specs.declared.meta.MetaLayer.{MetaLayer}
use Rattle.tile_model.specs.Map.{meta_layer}

numbered-last : {A : Type 0} (n : ℕ) (xs : List A) (x : A) → enumerate_from n (xs ++ x ∷ []) ≡ enumerate_from n xs ++ (n + length xs, x) ∷ []
numbered-last n [] x = let same : n + 0 ≡ n = omega arith in rw same refl
numbered-last n (y ∷ xs) x =
    let same : n + suc (length xs) ≡ (n + 1) + length xs = omega arith in rw same (ap (λ later. (n, y) ∷ later) (numbered-last (n + 1) xs x))

-- one layer more, with its number
pub numbered-more : {A B : Type 0} (f : ℕ × A → B) (xs : List A) (i : ℕ) (d : A) → i < length xs → map f (enumerate_from 0 (take (i + 1) xs)) ≡ map f (enumerate_from 0 (take i xs)) ++ f (i, get_or xs i d) ∷ []
numbered-more f xs i d h =
    let short : length (take i xs) ≡ i = length-take-le i xs (omega (arith, h)) in
    let len : 0 + length (take i xs) ≡ i = omega (arith, short) in
    ap (λ ys. map f (enumerate_from 0 ys)) (take_more xs i d h) ∙ (ap (map f) (numbered-last 0 (take i xs) (get_or xs i d)) ∙ (map-append f (enumerate_from 0 (take i xs)) ((0 + length (take i xs), get_or xs i d) ∷ [])
    ∙ ap (λ n. map f (enumerate_from 0 (take i xs)) ++ f (n, get_or xs i d) ∷ []) len))

-- the next layer of a profile
pub meta-next : (parts : Parts) (infos : List LayerInfo) (i : ℕ) (d : LayerInfo) (before after : List MetaLayer) (m : MetaLayer) → infos ≡ layers_of parts → i < length infos
    → before ≡ map (meta_layer parts) (enumerate_from 0 (take i (layers_of parts))) → after ≡ before ++ m ∷ [] → m ≡ meta_layer parts (i, get_or infos i d)
    → after ≡ map (meta_layer parts) (enumerate_from 0 (take (i + 1) (layers_of parts)))
meta-next parts infos i d before after m same h was grows is =
    grows ∙ (ap (λ xs. xs ++ m ∷ []) was ∙ (ap (λ x. map (meta_layer parts) (enumerate_from 0 (take i (layers_of parts))) ++ x ∷ []) (is ∙ ap (λ xs. meta_layer parts (i, get_or xs i d)) same)
    ∙ sym (numbered-more (meta_layer parts) (layers_of parts) i d (subst (λ xs. i < length xs) same h))))
