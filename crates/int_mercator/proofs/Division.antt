-- Bounds of quotients.
use Rattle.std.proofs.Common.{◌≡◌, ℕ, ◌+◌, ◌-◌, ◌*◌, ◌/◌, ◌^◌, ◌<◌, ◌≤◌, ap, ◌∙◌, arith, lit<}
use Rattle.std.proofs.Math.Nat.{mul-le-mul_left, div-mul-le_self, pow-le-pow_right}
use Rattle.std.proofs.lemmas.Nat.{le-div, mul-le, div_below, pow-add, pow_pos}

-- a greater divisor gives no greater quotient
pub div_anti : (n a b : ℕ) → 0 < a → a ≤ b → n / b ≤ n / a
div_anti n a b positive h = le-div (n / b) n a positive (omega (arith, mul-le-mul_left (n / b) h, div-mul-le_self n b))

-- a part of a step is within the step
pub part_within : (step rest : ℕ) → rest < 15625000 → step * rest / 15625000 ≤ step
part_within step rest h =
    let less : rest ≤ 15625000 = omega arith in
    omega (arith, mul-le-mul_left step less)

-- the angles up to the last half knot are below 2
pub square_small : (angle : ℕ) → angle ≤ 2 ^ 61 → angle * angle ≤ 2 ^ 122
square_small angle h = omega (arith, mul-le angle angle (2 ^ 61) (2 ^ 61) h h)

-- a coordinate of the world is on the grid
pub on_grid : (w z : ℕ) → w < 2 ^ 32 → z ≤ 14 → (w + 2 ^ (19 - z)) / 2 ^ (20 - z) ≤ 4096 * 2 ^ z
on_grid w z h k =
    let place : 20 - z ≡ (19 - z) + 1 = omega arith in
    let halves : 2 ^ (20 - z) ≡ 2 ^ (19 - z) * 2 ^ 1 = ap (λ n. 2 ^ n) place ∙ pow-add 2 (19 - z) 1 in
    let all : 32 ≡ (12 + z) + (20 - z) = omega arith in
    let world : 2 ^ 32 ≡ 2 ^ (12 + z) * 2 ^ (20 - z) = ap (λ n. 2 ^ n) all ∙ pow-add 2 (12 + z) (20 - z) in
    let wide : 2 ^ (12 + z) ≡ 2 ^ 12 * 2 ^ z = pow-add 2 12 z in
    let below = div_below (w + 2 ^ (19 - z)) (2 ^ (20 - z)) (2 ^ (12 + z) + 1) (pow_pos (20 - z)) (omega (arith, pow_pos (19 - z))) in
    omega arith

-- a point of a grid is no large number
pub grid_small : (z : ℕ) → z ≤ 14 → 4096 * 2 ^ z ≤ 2 ^ 26
grid_small z h = let most : 2 ^ z ≤ 2 ^ 14 = pow-le-pow_right (lit< tt) h in omega arith
