-- The heights of the knots, and the entries made of them.
use Rattle.std.proofs.Common.{◌≡◌, ℕ, zero, suc, ◌+◌, ◌-◌, ◌*◌, ◌^◌, ◌≤◌, List, [], ◌∷◌, ◌++◌, map, refl, sym, ap, ◌∙◌, arith, add-one}
use Rattle.std.specs.List.{range_with_len}
use Rattle.std.proofs.lemmas.List.FromFn.{map-range_with_len_more}
use Rattle.int_mercator.specs.Quarter.{secant_of, simpson, height_of, scaled, entry_of, quarter}

pub height_more : (knot : ℕ) → height_of (knot + 1) ≡ height_of knot + simpson (secant_of (2 * knot)) (secant_of (2 * knot + 1)) (secant_of (2 * knot + 2))
unfolding height_of
height_more knot = rw add-one refl

pub height_none : height_of 0 ≡ 0
unfolding height_of
height_none = refl

pub height_mono : (i d : ℕ) → height_of i ≤ height_of (i + d)
height_mono i zero = let same : i + 0 ≡ i = omega arith in rw same (omega arith)
height_mono i (suc d) =
    let place : i + suc d ≡ (i + d) + 1 = omega arith in
    rw place (omega (arith, height_mono i d, height_more (i + d)))

pub scaled_mono : (a b : ℕ) → a ≤ b → scaled a ≤ scaled b
scaled_mono a b h = omega arith

pub entry_is : (knot : ℕ) → entry_of knot ≡ scaled (height_of knot)
unfolding entry_of
entry_is knot = refl

pub entry_mono : (i j : ℕ) → i ≤ j → entry_of i ≤ entry_of j
entry_mono i j h =
    let place : i + (j - i) ≡ j = omega arith in
    let heights : height_of i ≤ height_of j = rw place at (height_mono i (j - i)) in
    omega (arith, entry_is i, entry_is j, scaled_mono (height_of i) (height_of j) heights)

pub entry_small : (knot : ℕ) → entry_of knot ≤ 2 ^ 31
entry_small knot = rw entry_is (omega arith)

pub quarter_is : (knots : ℕ) → knots ≡ 5445 → map entry_of (range_with_len 0 knots) ≡ quarter
unfolding quarter
quarter_is knots e = ap (λ n. map entry_of (range_with_len 0 n)) e

-- one turn of the loop that makes the table
pub heights_more : (knot height rise here half next : ℕ) → height ≡ height_of knot → rise ≡ simpson here half next → here ≡ secant_of (2 * knot) → half ≡ secant_of (2 * knot + 1) → next ≡ secant_of (2 * knot + 2) → height + rise ≡ height_of (knot + 1)
heights_more knot height rise here half next a b c d e = omega (arith, height_more knot)

pub entries_more : (old new : List ℕ) (knot value height : ℕ) → old ≡ map entry_of (range_with_len 0 knot) → height ≡ height_of knot → value ≡ scaled height → new ≡ old ++ value ∷ [] → new ≡ map entry_of (range_with_len 0 (knot + 1))
entries_more old new knot value height before at is pushed =
    let entry : value ≡ entry_of knot = is ∙ ap scaled at ∙ sym (entry_is knot) in
    pushed ∙ ap (λ xs. xs ++ value ∷ []) before ∙ ap (λ v. map entry_of (range_with_len 0 knot) ++ v ∷ []) entry ∙ sym (map-range_with_len_more entry_of 0 knot knot (omega arith))
