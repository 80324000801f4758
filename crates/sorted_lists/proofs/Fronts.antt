-- A first group, by how many elements it has.
use Rattle.std.proofs.Common.{◌≡◌, ◌≢◌, ℕ, zero, suc, ◌<◌, ◌≤◌, List, [], ◌∷◌, length, get_or, take, drop, All, sym, ap, ◌∙◌, arith, take-append-drop}
use Rattle.std.proofs.lemmas.List.Elements.{recursion_from_All}
use Rattle.sorted_lists.specs.Grouping.{grouped_by}
use Rattle.sorted_lists.specs.Merging.{OnFirst}
use Rattle.sorted_lists.proofs.Groups.{grouped-front}

module _ {X : Type 0} (class : X → ℕ) where
  first-at : (n : ℕ) (xs : List X) (k : ℕ) → (k < length xs → (d : X) → class (get_or xs k d) ≢ n) → OnFirst (λ y. class y ≢ n) (drop k xs)
  first-at n [] zero h = tt
  first-at n [] (suc k) h = tt
  first-at n (x ∷ xs) zero h = h (omega arith) x
  first-at n (x ∷ xs) (suc k) h = first-at n xs k (λ lt d. h (omega (arith, lt)) d)

  pub front-at : (n : ℕ) (xs : List X) (k : ℕ) → 0 < k → k ≤ length xs → All (λ x. class x ≡ n) (take k xs) → (k < length xs → (d : X) → class (get_or xs k d) ≢ n)
      → (d : X) → grouped_by class xs ≡ (class (get_or xs 0 d), take k xs) ∷ grouped_by class (drop k xs)
  front-at n xs zero some within same other d = absurd (omega (arith, some))
  front-at n [] (suc k) some within same other d = absurd (omega (arith, within))
  front-at n (x ∷ xs) (suc k) some within same other d =
      let each = recursion_from_All (λ y. class y ≡ n) (x ∷ take k xs) same in
      let e : class x ≡ n = each.0 in
      ap (λ l. grouped_by class (x ∷ l)) (sym (take-append-drop k xs))
      ∙ grouped-front class n x (take k xs) (drop k xs) e each.1 (first-at n xs k (λ lt d. other (omega (arith, lt)) d))
      ∙ ap (λ m. (m, x ∷ take k xs) ∷ grouped_by class (drop k xs)) (sym e)
