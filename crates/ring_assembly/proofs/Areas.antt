-- A doubled area as the difference of two sums of numbers.
use Rattle.std.proofs.Common.{◌≡◌, ℕ, ◌+◌, ◌-◌, ◌*◌, ℤ, pos, ◌+ℤ◌, ◌-ℤ◌, unsigned_abs, ap, sym, ◌∙◌, refl, arith}
use Rattle.std.proofs.lemmas.Int.{ints}
use Rattle.tb_types.specs.declared.location.World.{World}
use Rattle.tb_types.specs.Points.{turn}
use Rattle.ring_assembly.specs.Rings.{x_of, y_of}

moved : (f b m n : ℕ) (rest : ℤ) → (pos (f + m) -ℤ pos (b + n)) +ℤ rest ≡ (pos f -ℤ pos b) +ℤ ((pos m -ℤ pos n) +ℤ rest)
moved f b m n rest = omega (arith, ints)

last : (f b m n : ℕ) → pos (f + m) -ℤ pos (b + n) ≡ (pos f -ℤ pos b) +ℤ (pos m -ℤ pos n)
last f b m n = omega (arith, ints)

turn_is : (p q : World) → turn x_of y_of p q ≡ pos (p.x * q.y) -ℤ pos (q.x * p.y)
unfolding turn
turn_is p q = refl

-- one edge more
pub edge_step : (p q : World) (f b f' b' : ℕ) (rest : ℤ) → f' ≡ f + p.x * q.y → b' ≡ b + q.x * p.y → (pos f' -ℤ pos b') +ℤ rest ≡ (pos f -ℤ pos b) +ℤ (turn x_of y_of p q +ℤ rest)
edge_step p q f b f' b' rest d e =
    ap (λ n. (pos n -ℤ pos b') +ℤ rest) d ∙ ap (λ n. (pos (f + p.x * q.y) -ℤ pos n) +ℤ rest) e ∙ moved f b (p.x * q.y) (q.x * p.y) rest
    ∙ ap (λ z. (pos f -ℤ pos b) +ℤ (z +ℤ rest)) (sym (turn_is p q))

-- the last edge
pub last_edge : (p q : World) (f b f' b' : ℕ) → f' ≡ f + p.x * q.y → b' ≡ b + q.x * p.y → pos f' -ℤ pos b' ≡ (pos f -ℤ pos b) +ℤ turn x_of y_of p q
last_edge p q f b f' b' d e =
    ap (λ n. pos n -ℤ pos b') d ∙ ap (λ n. pos (f + p.x * q.y) -ℤ pos n) e ∙ last f b (p.x * q.y) (q.x * p.y) ∙ ap (λ z. (pos f -ℤ pos b) +ℤ z) (sym (turn_is p q))

-- how far two numbers are from each other
pub difference : (m n : ℕ) → (m - n) + (n - m) ≡ unsigned_abs (pos m -ℤ pos n)
difference m n = omega (arith, ints)
