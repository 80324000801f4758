-- The curve of one zoom: its places are below the number of tiles, and stand one to one with columns and rows.
use Rattle.std.proofs.Common.{◌≡◌, ℕ, zero, suc, ◌+◌, ◌-◌, ◌*◌, ◌/◌, ◌%◌, ◌^◌, ◌<◌, ◌≤◌, inl, inr, ap, sym, refl, ◌∙◌, arith, add-one}
use Rattle.std.proofs.lemmas.Bool.{cases_lt}
use Rattle.std.proofs.lemmas.Bool.Decides.{nat_tests}
use Rattle.std.proofs.lemmas.Nat.{same_from_place, mul-add-lt, div-add-mod', mod_below, div_below}
use Rattle.hilbert_ids.specs.Curve.{place}
use Rattle.hilbert_ids.proofs.Numbers.{pow_more, four_pos}

module _ (z x y : ℕ) where
  pub upper_left : x < 2 ^ z → y < 2 ^ z → place (z + 1) x y ≡ place z y x
  upper_left a b = rw add-one (grind (arith, nat_tests))

  pub lower_left : x < 2 ^ z → 2 ^ z ≤ y → place (z + 1) x y ≡ 4 ^ z + place z x (y - 2 ^ z)
  lower_left a b = rw add-one (grind (arith, nat_tests))

  pub lower_right : 2 ^ z ≤ x → 2 ^ z ≤ y → place (z + 1) x y ≡ 2 * 4 ^ z + place z (x - 2 ^ z) (y - 2 ^ z)
  lower_right a b = rw add-one (grind (arith, nat_tests))

  pub upper_right : 2 ^ z ≤ x → y < 2 ^ z → place (z + 1) x y ≡ 3 * 4 ^ z + place z (2 ^ z - 1 - y) (2 ^ z - 1 - (x - 2 ^ z))
  upper_right a b = rw add-one (grind (arith, nat_tests))

-- the column and the row in the whole square, from the quadrant's rank and those inside it
abbrev pub outer_x : ℕ → ℕ → ℕ → ℕ → ℕ
outer_x side zero x y = y
outer_x side (suc zero) x y = x
outer_x side (suc (suc zero)) x y = side + x
outer_x side (suc (suc (suc _))) x y = 2 * side - 1 - y

abbrev pub outer_y : ℕ → ℕ → ℕ → ℕ → ℕ
outer_y side zero x y = x
outer_y side (suc zero) x y = side + y
outer_y side (suc (suc zero)) x y = side + y
outer_y side (suc (suc (suc _))) x y = side - 1 - x

-- a quadrant is entered, and what was outside can be told again
pub record Entered (z x y : ℕ) : Type 0 where
  pub rank : ℕ
  pub column : ℕ
  pub row : ℕ
  pub low_rank : rank < 4
  pub low_column : column < 2 ^ z
  pub low_row : row < 2 ^ z
  pub is : place (z + 1) x y ≡ rank * 4 ^ z + place z column row
  pub x_again : x ≡ outer_x (2 ^ z) rank column row
  pub y_again : y ≡ outer_y (2 ^ z) rank column row

pub entered : (z x y : ℕ) → x < 2 ^ (z + 1) → y < 2 ^ (z + 1) → Entered z x y
entered z x y a b =
    let twice = pow_more 2 z in
    elim (cases_lt x (2 ^ z)) [
      | inl left ↦ elim (cases_lt y (2 ^ z)) [
        | inl high ↦ record { rank = 0; column = y; row = x; low_rank = omega arith; low_column = high; low_row = left; is = upper_left z x y left high ∙ omega arith; x_again = refl; y_again = refl }
        | inr low ↦ record { rank = 1; column = x; row = y - 2 ^ z; low_rank = omega arith; low_column = left; low_row = omega arith; is = lower_left z x y left low ∙ omega arith; x_again = refl; y_again = omega arith }
      ]
      | inr right ↦ elim (cases_lt y (2 ^ z)) [
        | inl high ↦ record { rank = 3; column = 2 ^ z - 1 - y; row = 2 ^ z - 1 - (x - 2 ^ z); low_rank = omega arith; low_column = omega arith; low_row = omega arith; is = upper_right z x y right high; x_again = omega arith; y_again = omega arith }
        | inr low ↦ record { rank = 2; column = x - 2 ^ z; row = y - 2 ^ z; low_rank = omega arith; low_column = omega arith; low_row = omega arith; is = lower_right z x y right low; x_again = omega arith; y_again = omega arith }
      ]
    ]

-- a rank and a place inside its quadrant lie below four times the area
pub ranked_below : (rank area inside : ℕ) → rank < 4 → inside < area → rank * area + inside < 4 * area
ranked_below rank area inside a b = omega (arith, mul-add-lt rank area inside 4 a b)

pub place_below : (z x y : ℕ) → x < 2 ^ z → y < 2 ^ z → place z x y < 4 ^ z
place_below zero x y a b = omega arith
place_below (suc z) x y a b =
    let e = entered z x y (rw add-one a) (rw add-one b) in
    let inner = place_below z e.column e.row e.low_column e.low_row in
    let whole = ranked_below e.rank (4 ^ z) (place z e.column e.row) e.low_rank inner in
    let is : place (suc z) x y ≡ e.rank * 4 ^ z + place z e.column e.row = rw add-one at e.is in
    let more : 4 ^ suc z ≡ 4 * 4 ^ z = rw add-one at (pow_more 4 z) in
    omega (arith, is, more, whole)

-- equal quadrants and places inside them were entered from equal places
pub outside_same : (outer : ℕ → ℕ → ℕ → ℕ) (rank column row rank' column' row' x u : ℕ) → rank ≡ rank' → (column ≡ column') × (row ≡ row') → x ≡ outer rank column row → u ≡ outer rank' column' row' → x ≡ u
outside_same outer rank column row rank' column' row' x u ranks inner is_x is_u =
    is_x ∙ ap (λ n. outer n column row) ranks ∙ ap (λ n. outer rank' n row) inner.0 ∙ ap (λ n. outer rank' column' n) inner.1 ∙ sym is_u

-- two tiles of one place are one tile
pub place_same : (z x y u v : ℕ) → x < 2 ^ z → y < 2 ^ z → u < 2 ^ z → v < 2 ^ z → place z x y ≡ place z u v → (x ≡ u) × (y ≡ v)
place_same zero x y u v a b c d same = (omega arith, omega arith)
place_same (suc z) x y u v a b c d same =
    let e = entered z x y (rw add-one a) (rw add-one b) in
    let f = entered z u v (rw add-one c) (rw add-one d) in
    let one : place (suc z) x y ≡ e.rank * 4 ^ z + place z e.column e.row = rw add-one at e.is in
    let other : place (suc z) u v ≡ f.rank * 4 ^ z + place z f.column f.row = rw add-one at f.is in
    let parts = same_from_place e.rank (place z e.column e.row) f.rank (place z f.column f.row) (4 ^ z) (place_below z e.column e.row e.low_column e.low_row) (place_below z f.column f.row f.low_column f.low_row) (sym one ∙ same ∙ other) in
    let inner = place_same z e.column e.row f.column f.row e.low_column e.low_row f.low_column f.low_row parts.1 in (
      outside_same (outer_x (2 ^ z)) e.rank e.column e.row f.rank f.column f.row x u parts.0 inner e.x_again f.x_again,
      outside_same (outer_y (2 ^ z)) e.rank e.column e.row f.rank f.column f.row y v parts.0 inner e.y_again f.y_again,
    )

-- a quadrant is left: where its column and row lie in the whole square
pub record Left (z rank column row x y : ℕ) : Type 0 where
  pub low_x : x < 2 ^ (z + 1)
  pub low_y : y < 2 ^ (z + 1)
  pub is : place (z + 1) x y ≡ rank * 4 ^ z + place z column row

pub left : (z rank column row : ℕ) → rank < 4 → column < 2 ^ z → row < 2 ^ z → Left z rank column row (outer_x (2 ^ z) rank column row) (outer_y (2 ^ z) rank column row)
left z zero column row a b c =
    let twice = pow_more 2 z in
    record { low_x = omega arith; low_y = omega arith; is = upper_left z row column c b ∙ omega arith }
left z (suc zero) column row a b c =
    let twice = pow_more 2 z in
    let back : (2 ^ z + row) - 2 ^ z ≡ row = omega arith in
    let step = rw back at (lower_left z column (2 ^ z + row) b (omega arith)) in
    record { low_x = omega arith; low_y = omega arith; is = step ∙ omega arith }
left z (suc (suc zero)) column row a b c =
    let twice = pow_more 2 z in
    let back_x : (2 ^ z + column) - 2 ^ z ≡ column = omega arith in
    let back_y : (2 ^ z + row) - 2 ^ z ≡ row = omega arith in
    let step = rw (back_x, back_y) at (lower_right z (2 ^ z + column) (2 ^ z + row) (omega arith) (omega arith)) in
    record { low_x = omega arith; low_y = omega arith; is = step }
left z (suc (suc (suc zero))) column row a b c =
    let twice = pow_more 2 z in
    let back_x : 2 ^ z - 1 - (2 ^ z - 1 - column) ≡ column = omega arith in
    let back_y : 2 ^ z - 1 - (2 * 2 ^ z - 1 - row - 2 ^ z) ≡ row = omega arith in
    let step = rw (back_x, back_y) at (upper_right z (2 * 2 ^ z - 1 - row) (2 ^ z - 1 - column) (omega arith) (omega arith)) in
    record { low_x = omega arith; low_y = omega arith; is = step }
left z (suc (suc (suc (suc _)))) column row a b c = absurd (omega arith)

-- each number below the number of tiles is a place of the curve
pub record Placed (z n : ℕ) : Type 0 where
  pub x : ℕ
  pub y : ℕ
  pub low_x : x < 2 ^ z
  pub low_y : y < 2 ^ z
  pub is : place z x y ≡ n

pub placed : (z n : ℕ) → n < 4 ^ z → Placed z n
placed zero n h = record { x = 0; y = 0; low_x = omega arith; low_y = omega arith; is = omega arith }
placed (suc z) n h =
    let more : 4 ^ suc z ≡ 4 * 4 ^ z = rw add-one at (pow_more 4 z) in
    let inner = placed z (n % 4 ^ z) (mod_below n (4 ^ z) (four_pos z)) in
    let low : n / 4 ^ z < 4 = div_below n (4 ^ z) 4 (four_pos z) (omega arith) in
    let l = left z (n / 4 ^ z) inner.x inner.y low inner.low_x inner.low_y in
    let step : place (suc z) (outer_x (2 ^ z) (n / 4 ^ z) inner.x inner.y) (outer_y (2 ^ z) (n / 4 ^ z) inner.x inner.y) ≡ n / 4 ^ z * 4 ^ z + place z inner.x inner.y = rw add-one at l.is in
    record {
      x = outer_x (2 ^ z) (n / 4 ^ z) inner.x inner.y;
      y = outer_y (2 ^ z) (n / 4 ^ z) inner.x inner.y;
      low_x = rw add-one at l.low_x;
      low_y = rw add-one at l.low_y;
      is = step ∙ ap (λ k. n / 4 ^ z * 4 ^ z + k) inner.is ∙ div-add-mod' n (4 ^ z);
    }
