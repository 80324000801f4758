-- The number that some digits are stays below a power of ten.
use Rattle.std.proofs.Common.{◌≡◌, ℕ, zero, suc, ◌+◌, ◌-◌, ◌*◌, ◌<◌, ◌≤◌, ◌^◌, arith, mul-le-mul_left, ap, sym, ◌∙◌}
use lib.Pow.{pow-add}

pub ten_more : (k : ℕ) → 10 ^ (k + 1) ≡ 10 * 10 ^ k
ten_more k = omega (arith, pow-add 10 k 1)

ten_pos : (d : ℕ) → 0 < 10 ^ d
ten_pos zero = omega arith
ten_pos (suc d) = let e : suc d ≡ d + 1 = omega arith in rw e (omega (arith, ten_more d, ten_pos d))

pub ten_mono : (k m : ℕ) → k ≤ m → 10 ^ k ≤ 10 ^ m
ten_mono k m h =
    let rest : k + (m - k) ≡ m = omega arith in
    let all : 10 ^ m ≡ 10 ^ k * 10 ^ (m - k) = ap (λ n. 10 ^ n) (sym rest) ∙ pow-add 10 k (m - k) in
    let more : 10 ^ k * 1 ≤ 10 ^ k * 10 ^ (m - k) = mul-le-mul_left (10 ^ k) (omega (arith, ten_pos (m - k))) in
    omega (arith, all, more)

-- below 18 digits so far, a number has 17 at most
pub few_digits : (n k : ℕ) → k < 18 → n < 10 ^ k → n < 10 ^ 17
few_digits n k h l = omega (arith, ten_mono k 17 (omega arith))

pub one_digit_more : (n d k : ℕ) → n < 10 ^ k → d < 10 → 10 * n + d < 10 ^ (k + 1)
one_digit_more n d k h l = omega (arith, ten_more k)
