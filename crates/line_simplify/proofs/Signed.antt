-- Sums and products of small signed numbers fit 64 bits.
use Rattle.std.proofs.Common.{◌≡◌, ℕ, ◌+◌, ◌^◌, ◌≤◌, ℤ, ◌+ℤ◌, ◌-ℤ◌, ◌*ℤ◌, unsigned_abs, FitsSigned, w32, w64, to_z, of_z, ap, ◌∙◌, arith, lit<}
use Rattle.std.proofs.lemmas.Int.{ints, to_z-of_z, unsigned_abs-mul, fits_signed_from_abs, fits_signed_mul}
use Rattle.std.proofs.lemmas.Nat.{mul-le}
use Rattle.line_simplify.specs.Key.{IsCoordinate}

pub fits_57 : (a : ℤ) → unsigned_abs a ≤ 2 ^ 57 → FitsSigned w64 a
fits_57 a h = fits_signed_from_abs w64 a (omega arith)

pub abs_add : (a b : ℤ) (n : ℕ) → unsigned_abs a ≤ n → unsigned_abs b ≤ n → unsigned_abs (a +ℤ b) ≤ n + n
abs_add a b n h k = omega (arith, ints)

pub abs_sub : (a b : ℤ) (n : ℕ) → unsigned_abs a ≤ n → unsigned_abs b ≤ n → unsigned_abs (a -ℤ b) ≤ n + n
abs_sub a b n h k = omega (arith, ints)

pub abs_mul : (a b : ℤ) → unsigned_abs a ≤ 2 ^ 28 → unsigned_abs b ≤ 2 ^ 28 → unsigned_abs (a *ℤ b) ≤ 2 ^ 56
abs_mul a b h k = omega (arith, unsigned_abs-mul a b, mul-le (unsigned_abs a) (unsigned_abs b) (2 ^ 28) (2 ^ 28) h k)

-- what the code's product, sum and difference give
pub product_is : (a b : ℤ) → FitsSigned w64 a → FitsSigned w64 b → unsigned_abs a ≤ 2 ^ 28 → unsigned_abs b ≤ 2 ^ 28 → to_z w64 (of_z w64 (to_z w64 (of_z w64 a) *ℤ to_z w64 (of_z w64 b))) ≡ a *ℤ b
product_is a b f g h k =
    let fits = fits_signed_mul w64 a b (2 ^ 28) (2 ^ 28) h k (lit< tt) in
    ap (λ x. to_z w64 (of_z w64 (x *ℤ to_z w64 (of_z w64 b)))) (to_z-of_z w64 a f) ∙ ap (λ x. to_z w64 (of_z w64 (a *ℤ x))) (to_z-of_z w64 b g) ∙ to_z-of_z w64 (a *ℤ b) fits

module _ (a b : ℤ) (h : unsigned_abs a ≤ 2 ^ 56) (k : unsigned_abs b ≤ 2 ^ 56) where
  read_a : to_z w64 (of_z w64 a) ≡ a
  read_a = to_z-of_z w64 a (fits_57 a (omega arith))

  read_b : to_z w64 (of_z w64 b) ≡ b
  read_b = to_z-of_z w64 b (fits_57 b (omega arith))

  sum_same : to_z w64 (of_z w64 a) +ℤ to_z w64 (of_z w64 b) ≡ a +ℤ b
  sum_same = ap (λ x. x +ℤ to_z w64 (of_z w64 b)) read_a ∙ ap (λ x. a +ℤ x) read_b

  difference_same : to_z w64 (of_z w64 a) -ℤ to_z w64 (of_z w64 b) ≡ a -ℤ b
  difference_same = ap (λ x. x -ℤ to_z w64 (of_z w64 b)) read_a ∙ ap (λ x. a -ℤ x) read_b

  sum_small : unsigned_abs (a +ℤ b) ≤ 2 ^ 57
  sum_small = omega (arith, abs_add a b (2 ^ 56) h k)

  difference_small : unsigned_abs (a -ℤ b) ≤ 2 ^ 57
  difference_small = omega (arith, abs_sub a b (2 ^ 56) h k)

  pub sum_fits : FitsSigned w64 (to_z w64 (of_z w64 a) +ℤ to_z w64 (of_z w64 b))
  sum_fits = rw sum_same (fits_57 (a +ℤ b) sum_small)

  pub difference_fits : FitsSigned w64 (to_z w64 (of_z w64 a) -ℤ to_z w64 (of_z w64 b))
  difference_fits = rw difference_same (fits_57 (a -ℤ b) difference_small)

  pub sum_is : to_z w64 (of_z w64 (to_z w64 (of_z w64 a) +ℤ to_z w64 (of_z w64 b))) ≡ a +ℤ b
  sum_is = ap (λ x. to_z w64 (of_z w64 x)) sum_same ∙ to_z-of_z w64 (a +ℤ b) (fits_57 (a +ℤ b) sum_small)

  pub difference_is : to_z w64 (of_z w64 (to_z w64 (of_z w64 a) -ℤ to_z w64 (of_z w64 b))) ≡ a -ℤ b
  difference_is = ap (λ x. to_z w64 (of_z w64 x)) difference_same ∙ to_z-of_z w64 (a -ℤ b) (fits_57 (a -ℤ b) difference_small)

  pub difference_within : unsigned_abs (to_z w64 (of_z w64 (to_z w64 (of_z w64 a) -ℤ to_z w64 (of_z w64 b)))) ≤ 2 ^ 57
  difference_within = omega (arith, ap unsigned_abs difference_is, difference_small)

coordinate_fits : (n : ℤ) → IsCoordinate n → FitsSigned w32 n
coordinate_fits n h = fits_signed_from_abs w32 n (omega (arith, ints, h.low, h.high))

-- what the code's way between two coordinates, and its product of two such ways, give
pub step_of : (r to from : ℤ) → IsCoordinate to → IsCoordinate from → r ≡ to_z w32 (of_z w32 to) -ℤ to_z w32 (of_z w32 from) → r ≡ to -ℤ from
step_of r to from h k e = e ∙ ap (λ x. x -ℤ to_z w32 (of_z w32 from)) (to_z-of_z w32 to (coordinate_fits to h)) ∙ ap (λ x. to -ℤ x) (to_z-of_z w32 from (coordinate_fits from k))

pub product_of : (r m n x y : ℤ) → r ≡ to_z w64 (of_z w64 m) *ℤ to_z w64 (of_z w64 n) → unsigned_abs m ≤ 2 ^ 28 → unsigned_abs n ≤ 2 ^ 28 → m ≡ x → n ≡ y → r ≡ x *ℤ y
product_of r m n x y e h k is is' = e ∙ ap (λ v. v *ℤ to_z w64 (of_z w64 n)) (to_z-of_z w64 m (fits_57 m (omega arith)) ∙ is) ∙ ap (λ v. x *ℤ v) (to_z-of_z w64 n (fits_57 n (omega arith)) ∙ is')
