-- The terms of the cosine's series stay small, and all cosines of the table are large enough.
use Rattle.std.proofs.Common.{◌≡◌, ℕ, zero, suc, ◌+◌, ◌-◌, ◌*◌, ◌/◌, ◌^◌, ◌<◌, ◌≤◌, Bool, true, false, leb, refl, sym, ap, arith, lit<, add-one, add-zero, zero-add}
use Rattle.std.proofs.lemmas.Nat.{mul-le}
use Rattle.std.proofs.lemmas.Bool.{leb-true}
use Rattle.int_mercator.specs.Cosine.{angle_of, square_of, term, even_terms, odd_terms, series, cosine_of, last_half, least_cosine}
use Rattle.int_mercator.proofs.Division.{div_anti}

later_term : (product divisor : ℕ) → product ≤ 2 ^ 123 → 12 ≤ divisor → product / divisor / 2 ^ 60 ≤ 2 ^ 61
later_term product divisor h k = omega (arith, div_anti product 12 divisor (lit< tt) k)

pub divisor_large : (n : ℕ) → 1 ≤ n → 12 ≤ (2 * n + 1) * (2 * n + 2)
divisor_large n h = omega (arith, mul-le 3 4 (2 * n + 1) (2 * n + 2) (omega arith) (omega arith))

pub term_small : (square n : ℕ) → square ≤ 2 ^ 62 → term square n ≤ 2 ^ 61
term_small square zero h = omega arith
term_small square (suc zero) h = omega arith
term_small square (suc (suc n)) h =
    let before = term_small square (suc n) h in
    later_term (term square (suc n) * square) ((2 * suc n + 1) * (2 * suc n + 2)) (omega (arith, mul-le (term square (suc n)) square (2 ^ 61) (2 ^ 62) before h)) (divisor_large (suc n) (omega arith))

pub product_small : (square n : ℕ) → square ≤ 2 ^ 62 → term square n * square ≤ 2 ^ 123
product_small square n h = omega (arith, mul-le (term square n) square (2 ^ 61) (2 ^ 62) (term_small square n h) h)

-- one step of each sum
pub more_even : (square pairs : ℕ) → even_terms square (pairs + 1) ≡ even_terms square pairs + term square (2 * pairs)
more_even square pairs = rw add-one refl

pub more_odd : (square pairs : ℕ) → odd_terms square (pairs + 1) ≡ odd_terms square pairs + term square (2 * pairs + 1)
more_odd square pairs = rw add-one refl

pub next_is : (square n : ℕ) → term square n * square / ((2 * n + 1) * (2 * n + 2)) / 2 ^ 60 ≡ term square (n + 1)
next_is square n = sym (ap (term square) (add-one n))

pub next_small : (square n : ℕ) → square ≤ 2 ^ 62 → term square n * square / ((2 * n + 1) * (2 * n + 2)) / 2 ^ 60 ≤ 2 ^ 61
next_small square n h = rw next_is (term_small square (n + 1) h)

pub series_is : (square pairs : ℕ) → pairs ≡ 8 → series square ≡ even_terms square pairs - odd_terms square pairs
unfolding series
series_is square pairs e = sym (ap (λ n. even_terms square n - odd_terms square n) e)

pub cosine_is : (halves : ℕ) → cosine_of halves ≡ series (square_of (angle_of halves))
unfolding cosine_of
cosine_is halves = refl

-- The test that all cosines of the table are large enough. The checker computes it over the whole table.
both : Bool → Bool → Bool
both true b = b
both false b = false

all_large : ℕ → ℕ → Bool
all_large zero halves = true
all_large (suc more) halves = both (leb least_cosine (cosine_of halves)) (all_large more (halves + 1))

computed : all_large 10889 0 ≡ true
unfolding both all_large cosine_of series
computed = refl

both_first : (a b : Bool) → both a b ≡ true → a ≡ true
unfolding both
both_first true b e = refl
both_first false b e = e

both_second : (a b : Bool) → both a b ≡ true → b ≡ true
unfolding both
both_second true b e = e
both_second false b e = absurd (cc)

large_at : (more halves i : ℕ) → all_large more halves ≡ true → i < more → least_cosine ≤ cosine_of (halves + i)
unfolding all_large
large_at zero halves i e h = absurd (omega arith)
large_at (suc more) halves zero e h = rw add-zero (leb-true least_cosine (cosine_of halves) (both_first (leb least_cosine (cosine_of halves)) (all_large more (halves + 1)) e))
large_at (suc more) halves (suc i) e h =
    let rest = large_at more (halves + 1) i (both_second (leb least_cosine (cosine_of halves)) (all_large more (halves + 1)) e) (omega arith) in
    let place : halves + 1 + i ≡ halves + suc i = omega arith in
    rw place at rest

pub cosine_large : (halves : ℕ) → halves ≤ last_half → least_cosine ≤ cosine_of halves
cosine_large halves h = let found = large_at 10889 0 halves computed (omega arith) in rw zero-add at found
