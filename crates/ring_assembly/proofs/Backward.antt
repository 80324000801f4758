-- A list from its end to its start.
use Rattle.std.proofs.Common.{◌≡◌, ℕ, ◌+◌, ◌-◌, ◌<◌, List, [], ◌∷◌, ◌++◌, length, take, drop, get_or, reverse, refl, sym, ap, ◌∙◌, append_assoc, arith}
use Rattle.std.proofs.lemmas.List.{reverse-append, take_more, take_all}

module _ {A : Type 0} where
  pub reverse_take : (xs : List A) (i : ℕ) (d : A) → i < length xs → reverse (take (i + 1) xs) ≡ get_or xs i d ∷ reverse (take i xs)
  reverse_take xs i d h = ap reverse (take_more xs i d h) ∙ reverse-append (take i xs) (get_or xs i d ∷ [])

  -- all but the last
  pub reverse_rest : (xs : List A) → drop 1 (reverse xs) ≡ reverse (take (length xs - 1) xs)
  reverse_rest [] = refl
  reverse_rest (x ∷ xs) =
      let last : length xs + 1 ≡ length (x ∷ xs) = omega arith in
      let count : length (x ∷ xs) - 1 ≡ length xs = omega arith in
      let all : take (length xs + 1) (x ∷ xs) ≡ x ∷ xs = take_all (length xs + 1) (x ∷ xs) (omega arith) in
      ap (λ l. drop 1 (reverse l)) (sym all) ∙ ap (drop 1) (reverse_take (x ∷ xs) (length xs) x (omega arith)) ∙ ap (λ n. reverse (take n (x ∷ xs))) (sym count)

  -- one point down
  pub backward_step : (so_far more : List A) (xs : List A) (at : ℕ) (d : A) → at < length xs → more ≡ so_far ++ get_or xs at d ∷ [] → more ++ reverse (take at xs) ≡ so_far ++ reverse (take (at + 1) xs)
  backward_step so_far more xs at d h e =
      ap (λ l. l ++ reverse (take at xs)) e ∙ append_assoc so_far (get_or xs at d ∷ []) (reverse (take at xs)) ∙ ap (λ l. so_far ++ l) (sym (reverse_take xs at d h))
