-- Powers, and where the ids of a zoom begin.
use Rattle.std.proofs.Common.{◌≡◌, ℕ, zero, suc, ◌+◌, ◌*◌, ◌/◌, ◌%◌, ◌^◌, ◌<◌, ◌≤◌, ap, sym, refl, ◌∙◌, arith, add-one, inl, inr, lit<}
use Rattle.std.proofs.Math.Nat.{pow-succ', pow-le-pow_right}
use Rattle.std.proofs.lemmas.Nat.{mul-pow, pow-add}
use Rattle.std.proofs.lemmas.Bool.{cases_lt}
use Rattle.hilbert_ids.specs.Ids.{first_id_of}

-- a zoom more
pub pow_more : (n zoom : ℕ) → n ^ (zoom + 1) ≡ n * n ^ zoom
pow_more n zoom = ap (λ k. n ^ k) (add-one zoom) ∙ pow-succ' n zoom

-- the shift of `area`
pub four_shift : (zoom : ℕ) → 2 ^ (2 * zoom) ≡ 4 ^ zoom
four_shift zoom =
    let doubled : 2 * zoom ≡ zoom + zoom = omega arith in
    ap (λ k. 2 ^ k) doubled ∙ pow-add 2 zoom zoom ∙ sym (mul-pow 2 2 zoom)

pub two_mono : (a b : ℕ) → a ≤ b → 2 ^ a ≤ 2 ^ b
two_mono a b h = pow-le-pow_right (lit< tt) h

pub four_mono : (a b : ℕ) → a ≤ b → 4 ^ a ≤ 4 ^ b
four_mono a b h = pow-le-pow_right (lit< tt) h

-- a zoom has at least one tile
pub four_pos : (zoom : ℕ) → 1 ≤ 4 ^ zoom
four_pos zoom = four_mono 0 zoom (omega arith)

-- three times the tiles of all lower zooms, and one, are the zoom's tiles
pub thirds : (zoom : ℕ) → 3 * first_id_of zoom + 1 ≡ 4 ^ zoom
thirds zero = refl
thirds (suc zoom) =
    let more : 4 ^ suc zoom ≡ 4 * 4 ^ zoom = pow-succ' 4 zoom in
    let before = thirds zoom in
    omega arith

-- the ids of a zoom follow those of the zoom before
pub first_id_more : (zoom : ℕ) → first_id_of (zoom + 1) ≡ first_id_of zoom + 4 ^ zoom
first_id_more zoom = omega (arith, thirds zoom, thirds (zoom + 1), pow_more 4 zoom)

-- they never fall
pub first_id_mono : (a b : ℕ) → a ≤ b → first_id_of a ≤ first_id_of b
first_id_mono a b h = omega (arith, thirds a, thirds b, four_mono a b h)

-- a number below the first id of a zoom is an id of one lower zoom
pub some_zoom : (end n : ℕ) → n < first_id_of end → (zoom : ℕ) × (zoom < end) × (first_id_of zoom ≤ n) × (n < first_id_of (zoom + 1))
some_zoom zero n h = absurd (omega arith)
some_zoom (suc end) n h =
    elim (cases_lt n (first_id_of end)) [
      | inl low ↦ let r = some_zoom end n low in (r.0, omega (arith, r.1), r.2, r.3)
      | inr high ↦ (end, omega arith, high, rw add-one h)
    ]

-- one number is an id of one zoom
pub same_zoom : (a b n : ℕ) → first_id_of a ≤ n → n < first_id_of (a + 1) → first_id_of b ≤ n → n < first_id_of (b + 1) → a ≡ b
same_zoom a b n la ha lb hb =
    elim (cases_lt a b) [
      | inl less ↦ absurd (omega (arith, first_id_mono (a + 1) b (omega arith)))
      | inr more ↦ elim (cases_lt b a) [
        | inl less ↦ absurd (omega (arith, first_id_mono (b + 1) a (omega arith)))
        | inr same ↦ omega arith
      ]
    ]

-- the rest of a place, when one quadrant more is left
pub told_more : (rest level inner outer at : ℕ) → outer ≡ rest % 4 * 4 ^ level + inner → rest * 4 ^ level + inner ≡ at → rest / 4 * 4 ^ (level + 1) + outer ≡ at
told_more rest level inner outer at is told =
    let split : rest ≡ rest / 4 * 4 + rest % 4 = omega arith in
    let product : rest * 4 ^ level ≡ (rest / 4 * 4 + rest % 4) * 4 ^ level = ap (λ n. n * 4 ^ level) split in
    let more : rest / 4 * 4 ^ (level + 1) ≡ rest / 4 * (4 * 4 ^ level) = ap (λ n. rest / 4 * n) (pow_more 4 level) in
    omega arith

-- at the whole square nothing is left of it
pub nothing_left : (rest zoom inner at : ℕ) → at < 4 ^ zoom → rest * 4 ^ zoom + inner ≡ at → inner ≡ at
nothing_left zero zoom inner at h told = omega arith
nothing_left (suc rest) zoom inner at h told = absurd (omega arith)
