-- The end of a ring.
use Rattle.std.proofs.Common.{◌≡◌, ℕ, zero, suc, ◌-◌, ◌<◌, Bool, true, false, cond, List, [], ◌∷◌, length, take, get_or, ℤ, refl, sym, ap, ◌∙◌, arith}
use Rattle.std.proofs.lemmas.List.{take_all}
use Rattle.tb_types.specs.Points.{same, unclosed, opened}

module _ {P : Type 0} (x y : P → ℤ) where
  unclosed_end : (first last : P) (ys : List P) (n : ℕ) (b : Bool) → length ys ≡ suc n → last ≡ get_or ys n last → same x y first last ≡ b → unclosed x y first ys ≡ cond b (take n ys) ys
  unclosed_end first last [] n b h e s = absurd (omega arith)
  unclosed_end first last (q ∷ []) zero b h e s = ap (λ t. cond t [] (q ∷ [])) (ap (same x y first) (sym e) ∙ s)
  unclosed_end first last (q ∷ []) (suc n) b h e s = absurd (omega arith)
  unclosed_end first last (q ∷ r ∷ rest) zero b h e s = absurd (omega arith)
  unclosed_end first last (q ∷ r ∷ rest) (suc n) b h e s = ap (λ xs. q ∷ xs) (unclosed_end first last (r ∷ rest) n b (omega arith) e s) ∙ inward b
    where
      inward : (t : Bool) → q ∷ cond t (take n (r ∷ rest)) (r ∷ rest) ≡ cond t (q ∷ take n (r ∷ rest)) (q ∷ r ∷ rest)
      inward true = refl
      inward false = refl

  opened_suc : (ring : List P) (first last : P) (n : ℕ) (b : Bool) → length ring ≡ suc (suc n) → first ≡ get_or ring 0 first → last ≡ get_or ring (suc n) last → same x y first last ≡ b → opened x y ring ≡ cond b (take (suc n) ring) ring
  opened_suc [] first last n b h d e s = absurd (omega arith)
  opened_suc (p ∷ ys) first last n b h d e s = ap (λ xs. p ∷ xs) (unclosed_end p last ys n b (omega arith) e (ap (λ q. same x y q last) (sym d) ∙ s)) ∙ inward b
    where
      inward : (t : Bool) → p ∷ cond t (take n ys) ys ≡ cond t (take (suc n) (p ∷ ys)) (p ∷ ys)
      inward true = refl
      inward false = refl

  opened_at : (ring : List P) (first last : P) (b : Bool) → 1 < length ring → first ≡ get_or ring 0 first → last ≡ get_or ring (length ring - 1) last → same x y first last ≡ b → opened x y ring ≡ cond b (take (length ring - 1) ring) ring
  opened_at ring first last b h d e s =
      let end : length ring - 1 ≡ suc (length ring - 2) = omega arith in
      opened_suc ring first last (length ring - 2) b (omega arith) d (e ∙ ap (λ m. get_or ring m last) end) s ∙ ap (λ m. cond b (take m ring) ring) (sym end)

  -- how many points stay where the last is the first again, where it isn't, and where there is no last one
  pub opened_drops : (ring : List P) (first last : P) → 1 < length ring → first ≡ get_or ring 0 first → last ≡ get_or ring (length ring - 1) last → same x y first last ≡ true → take (length ring - 1) ring ≡ opened x y ring
  opened_drops ring first last h d e s = sym (opened_at ring first last true h d e s)

  pub opened_keeps : (ring : List P) (first last : P) → 1 < length ring → first ≡ get_or ring 0 first → last ≡ get_or ring (length ring - 1) last → same x y first last ≡ false → take (length ring) ring ≡ opened x y ring
  opened_keeps ring first last h d e s = take_all (length ring) ring (omega arith) ∙ sym (opened_at ring first last false h d e s)
