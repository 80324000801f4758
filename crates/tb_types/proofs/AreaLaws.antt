-- The doubled area of a ring that starts elsewhere, or that is reversed.
use Rattle.std.proofs.Common.{◌≡◌, ℤ, neg_ℤ, ◌+ℤ◌, ◌-ℤ◌, ◌*ℤ◌, List, [], ◌∷◌, ◌++◌, reverse, refl, sym, ap, ◌∙◌, arith}
use Rattle.std.proofs.lemmas.Int.{ints}
use Rattle.std.proofs.lemmas.List.{append-nil, reverse-append}
use Rattle.tb_types.specs.Points.{turn, area_along, doubled_area}

regroup : (a b c : ℤ) → a +ℤ (b +ℤ c) ≡ (a +ℤ b) +ℤ c
regroup a b c = omega (arith, ints)

add_comm_ℤ : (a b : ℤ) → a +ℤ b ≡ b +ℤ a
add_comm_ℤ a b = omega (arith, ints)

opposite : (a b : ℤ) → b -ℤ a ≡ neg_ℤ (a -ℤ b)
opposite a b = omega (arith, ints)

both : (a b : ℤ) → neg_ℤ a +ℤ neg_ℤ b ≡ neg_ℤ (b +ℤ a)
both a b = omega (arith, ints)

pub reverse-cons : {P : Type 0} (q : P) (rest : List P) → reverse (q ∷ rest) ≡ reverse rest ++ q ∷ []
reverse-cons q rest = reverse-append (q ∷ []) rest

module _ {P : Type 0} (x y : P → ℤ) where
  area_along-append : (p : P) (xs : List P) (q : P) (ys : List P) (end : P) → area_along x y p (xs ++ q ∷ ys) end ≡ area_along x y p xs q +ℤ area_along x y q ys end
  area_along-append p [] q ys end = refl
  area_along-append p (r ∷ xs) q ys end = let more = area_along-append r xs q ys end in ap (λ z. turn x y p r +ℤ z) more ∙ regroup (turn x y p r) (area_along x y r xs q) (area_along x y q ys end)

  -- where a ring starts doesn't matter
  pub area-swap : (xs ys : List P) → doubled_area x y (ys ++ xs) ≡ doubled_area x y (xs ++ ys)
  area-swap [] ys = ap (doubled_area x y) (append-nil ys)
  area-swap (r ∷ xs) [] = sym (ap (doubled_area x y) (append-nil (r ∷ xs)))
  area-swap (r ∷ xs) (s ∷ ys) = area_along-append s ys r xs s ∙ add_comm_ℤ (area_along x y s ys r) (area_along x y r xs s) ∙ sym (area_along-append r xs s ys r)

  turn_back : (p q : P) → turn x y q p ≡ neg_ℤ (turn x y p q)
  unfolding turn
  turn_back p q = opposite (x p *ℤ y q) (x q *ℤ y p)

  area_along-reverse : (p : P) (rest : List P) (end : P) → area_along x y end (reverse rest) p ≡ neg_ℤ (area_along x y p rest end)
  area_along-reverse p [] end = turn_back p end
  area_along-reverse p (q ∷ rest) end =
      ap (λ xs. area_along x y end xs p) (reverse-cons q rest) ∙ area_along-append end (reverse rest) q [] p ∙ ap (λ z. z +ℤ turn x y q p) (area_along-reverse q rest end) ∙ ap (λ z. neg_ℤ (area_along x y q rest end) +ℤ z) (turn_back p q) ∙ both (area_along x y q rest end) (turn x y p q)

  -- a reversed ring has the opposite area
  pub area-reverse : (ring : List P) → doubled_area x y (reverse ring) ≡ neg_ℤ (doubled_area x y ring)
  area-reverse [] = refl
  area-reverse (p ∷ rest) = ap (doubled_area x y) (reverse-cons p rest) ∙ area-swap (p ∷ []) (reverse rest) ∙ area_along-reverse p rest p
