-- Totals over the views of all lanes, and facts that hold of each view.
use Rattle.std.proofs.Common.{◌≡◌, ◌≢◌, ℕ, zero, suc, ◌+◌, ◌≤◌, List, [], ◌∷◌, ◌++◌, set, ap, sym, refl, subst, arith, le_refl}
use mathlib.Core.Option.{some, some-injective, some-ne-none}
use lib.ListN.{get_elem?}
use Rattle.tb_types.specs.Bags.{total}

-- it holds of each view
abbrev pub Each : {V : Type 0} → (V → Type 0) → List V → Type 0
Each P vs = (i : ℕ) (v : _) → get_elem? vs i ≡ some v → P v

module _ {V : Type 0} where
  -- one view changes
  pub total_set : (f : V → ℕ) (vs : List V) (i : ℕ) (v w : V) → get_elem? vs i ≡ some v → total f (set vs i w) + f v ≡ total f vs + f w
  total_set f [] i v w e = absurd (some-ne-none v (sym e))
  total_set f (x ∷ xs) zero v w e = let s : f x ≡ f v = ap f (some-injective x v e) in omega arith
  total_set f (x ∷ xs) (suc i) v w e = let r = total_set f xs i v w e in omega arith

  -- one view more
  pub total_push : (f : V → ℕ) (vs : List V) (w : V) → total f (vs ++ w ∷ []) ≡ total f vs + f w
  total_push f [] w = omega arith
  total_push f (x ∷ xs) w = let r = total_push f xs w in omega arith

  -- one view has at most the total
  pub total_at : (f : V → ℕ) (vs : List V) (i : ℕ) (v : V) → get_elem? vs i ≡ some v → f v ≤ total f vs
  total_at f [] i v e = absurd (some-ne-none v (sym e))
  total_at f (x ∷ xs) zero v e = let s : f x ≡ f v = ap f (some-injective x v e) in omega arith
  total_at f (x ∷ xs) (suc i) v e = let r = total_at f xs i v e in omega arith

  -- two views have at most the total
  pub total_two : (f : V → ℕ) (vs : List V) (i j : ℕ) (v w : V) → i ≢ j → get_elem? vs i ≡ some v → get_elem? vs j ≡ some w → f v + f w ≤ total f vs
  total_two f [] i j v w apart e e' = absurd (some-ne-none v (sym e))
  total_two f (x ∷ xs) zero zero v w apart e e' = absurd (apart refl)
  total_two f (x ∷ xs) zero (suc j) v w apart e e' = let s : f x ≡ f v = ap f (some-injective x v e) in let t = total_at f xs j w e' in omega arith
  total_two f (x ∷ xs) (suc i) zero v w apart e e' = let s : f x ≡ f w = ap f (some-injective x w e') in let t = total_at f xs i v e in omega arith
  total_two f (x ∷ xs) (suc i) (suc j) v w apart e e' = let r = total_two f xs i j v w (λ s. apart (ap suc s)) e e' in omega arith

  pub each_set : (P : V → Type 0) (vs : List V) (i : ℕ) (w : V) → P w → Each P vs → Each P (set vs i w)
  each_set P [] i w p h j u e = absurd (some-ne-none u (sym e))
  each_set P (x ∷ xs) zero w p h zero u e = subst P (some-injective w u e) p
  each_set P (x ∷ xs) zero w p h (suc j) u e = h (suc j) u e
  each_set P (x ∷ xs) (suc i) w p h zero u e = h zero u e
  each_set P (x ∷ xs) (suc i) w p h (suc j) u e = each_set P xs i w p (λ k v t. h (suc k) v t) j u e

  pub each_push : (P : V → Type 0) (vs : List V) (w : V) → P w → Each P vs → Each P (vs ++ w ∷ [])
  each_push P [] w p h zero u e = subst P (some-injective w u e) p
  each_push P [] w p h (suc j) u e = absurd (some-ne-none u (sym e))
  each_push P (x ∷ xs) w p h zero u e = h zero u e
  each_push P (x ∷ xs) w p h (suc j) u e = each_push P xs w p (λ k v t. h (suc k) v t) j u e

  pub total_le : (f g : V → ℕ) (vs : List V) → Each (λ v. f v ≤ g v) vs → total f vs ≤ total g vs
  total_le f g [] h = le_refl 0
  total_le f g (x ∷ xs) h = let a = h 0 x refl in let r = total_le f g xs (λ i v e. h (suc i) v e) in omega arith

  nothing : (f g : V → ℕ) (vs : List V) → Each (λ u. f u ≡ 0 → g u ≡ 0) vs → total f vs ≡ 0 → total g vs ≡ 0
  nothing f g [] h all = refl
  nothing f g (y ∷ ys) h all = let here = h 0 y refl (omega arith) in let r = nothing f g ys (λ i u t. h (suc i) u t) (omega arith) in omega arith

  -- where one view has all of f, and each that has none of f has none of g, it has all of g
  pub total_whole : (f g : V → ℕ) (vs : List V) (i : ℕ) (v : V) → Each (λ u. f u ≡ 0 → g u ≡ 0) vs → get_elem? vs i ≡ some v → total f vs ≡ f v → total g vs ≡ g v
  total_whole f g [] i v h e all = absurd (some-ne-none v (sym e))
  total_whole f g (x ∷ xs) zero v h e all =
      let s : x ≡ v = some-injective x v e in
      let a : f x ≡ f v = ap f s in
      let b : g x ≡ g v = ap g s in
      let none_left : total f xs ≡ 0 = omega arith in
      let r = nothing f g xs (λ i u t. h (suc i) u t) none_left in omega arith
  total_whole f g (x ∷ xs) (suc i) v h e all =
      let least = total_at f xs i v e in
      let here = h 0 x refl (omega arith) in
      let r = total_whole f g xs i v (λ j u t. h (suc j) u t) e (omega arith) in omega arith
