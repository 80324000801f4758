use Rattle.std.proofs.Common.{◌≡◌, ◌*◌, ◌^◌, ◌≤◌}
use Rattle.int_mercator.specs.Cosine.{term, even_terms, odd_terms}
use Rattle.int_mercator.proofs.cosine.sum_of_series.Given as goal

-- the sums of the terms so far, and the next term
abbrev pub invariant-loop-pair : goal.invariant-loop-pair
invariant-loop-pair l = record {
  evens : l.evens ≡ even_terms l.square l.pair;
  odds : l.odds ≡ odd_terms l.square l.pair;
  term : l.term ≡ term l.square (2 * l.pair);
  evens_small : l.evens ≤ l.pair * 2 ^ 61;
  odds_small : l.odds ≤ l.pair * 2 ^ 61;
  term_small : l.term ≤ 2 ^ 61;
}
