-- Lists of numbers: how often each stands in them, and ranges.
use Rattle.std.proofs.Common.{◌≡◌, ℕ, zero, suc, ◌+◌, ◌-◌, ◌<◌, ◌≤◌, ◌==◌, List, [], ◌∷◌, ◌++◌, Contains, refl, sym, add-one, ap, ap₂, ◌∙◌, arith}
use Rattle.std.proofs.lemmas.List.FromFn.{length-range_with_len, get_or-range_with_len}
use Rattle.std.specs.Cmp.{unsigned_Decides}
use Rattle.std.specs.List.{range_with_len}
use Rattle.std.specs.List.Sorted.{IsPermutation, IsStrictlyIncreasing}
use Rattle.tb_types.specs.Bags.{below, times, IsEachOnce}
use Rattle.sorted_lists.proofs.Counts.{copied}

pub counted : (xs ys : List ℕ) → ((n : ℕ) → times n xs ≡ times n ys) → IsPermutation xs ys
counted xs ys h = copied (λ m n. m == n) unsigned_Decides xs ys h

pub each_once : (n : ℕ) (xs : List ℕ) → IsEachOnce n xs → IsPermutation xs (below n)
each_once n xs h = counted xs (below n) h

-- ranges
pub adjacent : (a m n : ℕ) → range_with_len a (m + n) ≡ range_with_len a m ++ range_with_len (a + m) n
adjacent a zero n = ap₂ range_with_len (sym (plus-zero a)) (zero-plus n)
  where
    plus-zero : (k : ℕ) → k + 0 ≡ k
    plus-zero k = omega arith

    zero-plus : (k : ℕ) → 0 + k ≡ k
    zero-plus k = omega arith
adjacent a (suc m) n = ap (range_with_len a) (one-out m n) ∙ ap (λ l. a ∷ l) (adjacent (a + 1) m n ∙ ap (λ k. range_with_len (a + 1) m ++ range_with_len k n) (one-in a m))
  where
    one-out : (m n : ℕ) → suc m + n ≡ suc (m + n)
    one-out m n = omega arith

    one-in : (a m : ℕ) → a + 1 + m ≡ a + suc m
    one-in a m = omega arith

pub climbing : (a n : ℕ) → IsStrictlyIncreasing (range_with_len a n)
climbing a n k le =
    let long = length-range_with_len a n in
    omega (arith, get_or-range_with_len a n k 0 (omega (arith, long, le)), get_or-range_with_len a n (k + 1) 0 (omega (arith, long, le)))

pub within : (a n k : ℕ) → a ≤ k → k < a + n → Contains (range_with_len a n) k
within a n k low high =
    let long = length-range_with_len a n in
    (k - a, omega (arith, long, low, high), omega (arith, get_or-range_with_len a n (k - a) k (omega (arith, low, high)), low))

pub counting : (n : ℕ) → below n ≡ range_with_len 0 n
counting zero = refl
counting (suc n) =
    ap (λ l. l ++ n ∷ []) (counting n)
    ∙ ap (λ k. range_with_len 0 n ++ k ∷ []) (zero-plus n)
    ∙ sym (ap (range_with_len 0) (sym (add-one n)) ∙ adjacent 0 n 1)
  where
    zero-plus : (k : ℕ) → k ≡ 0 + k
    zero-plus k = omega arith
