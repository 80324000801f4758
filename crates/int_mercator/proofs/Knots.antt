-- The table by its knots.
use Rattle.std.proofs.Common.{◌≡◌, ℕ, ◌^◌, ◌<◌, ◌≤◌, inl, inr, length, get_or, refl, sym, ap, ◌∙◌, arith}
use Rattle.std.proofs.lemmas.List.{get_or_past}
use Rattle.std.proofs.lemmas.List.FromFn.{length-map-range_with_len, get_or-map-range_with_len}
use Rattle.std.proofs.lemmas.Bool.{cases_lt}
use Rattle.int_mercator.specs.Quarter.{entry_of, quarter, TableFacts}
use Rattle.int_mercator.proofs.Terms.{cosine_large}
use Rattle.int_mercator.proofs.Heights.{entry_mono, entry_small, quarter_is}

pub length_of_quarter : length quarter ≡ 5445
length_of_quarter = sym (ap length (quarter_is 5445 refl)) ∙ length-map-range_with_len entry_of 0 5445

pub at_knot : (knot : ℕ) → knot < 5445 → get_or quarter knot 0 ≡ entry_of knot
at_knot knot h = sym (ap (λ xs. get_or xs knot 0) (quarter_is 5445 refl)) ∙ get_or-map-range_with_len entry_of 0 5445 knot knot 0 h (omega arith)

pub never_falls : (i j : ℕ) → i ≤ j → j < 5445 → get_or quarter i 0 ≤ get_or quarter j 0
never_falls i j h k = omega (arith, at_knot i (omega arith), at_knot j k, entry_mono i j h)

pub at_most_half : (i : ℕ) → get_or quarter i 0 ≤ 2 ^ 31
at_most_half i =
    elim (cases_lt i 5445) [
      | inl within ↦ omega (arith, at_knot i within, entry_small i)
      | inr past ↦ omega (arith, get_or_past quarter i 0 (omega (arith, length_of_quarter)))
    ]

pub table_facts : TableFacts
table_facts = record { knots = length_of_quarter; never_falls = never_falls; at_most_half = at_most_half; no_small_cosine = cosine_large }
