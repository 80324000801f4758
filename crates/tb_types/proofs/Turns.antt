-- Products and differences of coordinates fit their types.
use Rattle.std.proofs.Common.{◌≡◌, ◌^◌, ◌≤◌, ℤ, ◌-ℤ◌, ◌*ℤ◌, unsigned_abs, FitsSigned, to_z, of_z, ap, ◌∙◌, arith}
use Rattle.std.specs.Int.{w64, w128}
use Rattle.std.proofs.lemmas.Int.{ints, to_z-of_z, fits_signed_from_abs}

fits_wide : (z : ℤ) → unsigned_abs z ≤ 2 ^ 70 → FitsSigned w128 z
fits_wide z h = fits_signed_from_abs w128 z (omega arith)

abs_difference : (y z : ℤ) → unsigned_abs y ≤ 2 ^ 64 → unsigned_abs z ≤ 2 ^ 64 → unsigned_abs (y -ℤ z) ≤ 2 ^ 65
abs_difference y z h k = omega (arith, ints)

module _ (y z : ℤ) (h : unsigned_abs y ≤ 2 ^ 64) (k : unsigned_abs z ≤ 2 ^ 64) where
  -- the difference as the code has it
  pub difference_is : to_z w128 (of_z w128 (to_z w128 (of_z w128 y) -ℤ to_z w128 (of_z w128 z))) ≡ y -ℤ z
  difference_is = ap (λ v. to_z w128 (of_z w128 (v -ℤ to_z w128 (of_z w128 z)))) (to_z-of_z w128 y (fits_wide y (omega arith))) ∙ ap (λ v. to_z w128 (of_z w128 (y -ℤ v))) (to_z-of_z w128 z (fits_wide z (omega arith))) ∙ to_z-of_z w128 (y -ℤ z) (fits_wide (y -ℤ z) (omega (arith, abs_difference y z h k)))

  pub difference_small : unsigned_abs (to_z w128 (of_z w128 (to_z w128 (of_z w128 y) -ℤ to_z w128 (of_z w128 z)))) ≤ 2 ^ 65
  difference_small = omega (arith, ap unsigned_abs difference_is, abs_difference y z h k)

read_64 : (z : ℤ) → unsigned_abs z ≤ 2 ^ 32 → to_z w64 (of_z w64 z) ≡ z
read_64 z h = to_z-of_z w64 z (fits_signed_from_abs w64 z (omega arith))

-- a product of coordinates
pub product_is : (r m n a b : ℤ) → unsigned_abs m ≤ 2 ^ 32 → unsigned_abs n ≤ 2 ^ 32 → m ≡ a → n ≡ b → r ≡ to_z w64 (of_z w64 m) *ℤ to_z w64 (of_z w64 n) → r ≡ a *ℤ b
product_is r m n a b h k d e f =
    f ∙ ap (λ z. z *ℤ to_z w64 (of_z w64 n)) (read_64 m h ∙ d) ∙ ap (λ z. a *ℤ z) (read_64 n k ∙ e)
