-- What is true of elements that are ordered by keys, part by part, or by ranks.
use Rattle.std.specs.Prelude.{◌≡◌, ℕ, ◌<◌, ℤ, true, false, List, Contains}
use Rattle.std.specs.Cmp.{IsTotalOrder, IsStrictWeakOrder}
use Rattle.std.specs.Ordering.{is_lt, nat_cmp, int_cmp, ordering_then}
use Rattle.std.specs.declared.cmp.Ordering.{Ordering}
use Rattle.std.specs.declared.cmp.Ordering.TheVariants.{Equal}
use Rattle.std.specs.List.Sorted.{ties, IsSortedBy, IsPermutation}
use Rattle.sorted_lists.specs.Sorting.{by_key, by_rank, KeysDiffer, TiesAreEqual}
use Rattle.sorted_lists.specs.Grouping.{ClassFirst}

-- keys that an order takes for equal are equal
abbrev pub IsExact : {K : Type 0} → (K → K → Ordering) → Type 0
IsExact {K} cmp = (a b : K) → cmp a b ≡ Equal → a ≡ b

pub record KeyLaws (X K : Type 0) : Type 0 where
  pub order : (key : X → K) (cmp : K → K → Ordering) → IsTotalOrder cmp → IsStrictWeakOrder (by_key key cmp)
  -- where keys differ, ties are equal, in each list of these elements
  pub differ : (key : X → K) (cmp : K → K → Ordering) (xs : List X) → IsTotalOrder cmp → IsExact cmp → KeysDiffer key xs → TiesAreEqual (by_key key cmp) xs
  pub moved : (key : X → K) (xs ys : List X) → KeysDiffer key xs → IsPermutation xs ys → KeysDiffer key ys
  -- two lists in order of one bag are equal where keys differ
  pub one : (key : X → K) (cmp : K → K → Ordering) (xs ys : List X) → IsTotalOrder cmp → IsExact cmp → KeysDiffer key xs
      → IsSortedBy (by_key key cmp) xs → IsSortedBy (by_key key cmp) ys → IsPermutation xs ys → xs ≡ ys
  -- of keys that all differ, each is that of one element
  pub named : (key : X → K) (xs : List X) → KeysDiffer key xs → (x y : X) → Contains xs x → Contains xs y → key x ≡ key y → x ≡ y
  -- elements that tie have equal keys, and so each part of them is equal
  pub level : (key : X → K) (cmp : K → K → Ordering) (x y : X) → IsTotalOrder cmp → ties (by_key key cmp) x y ≡ true → cmp (key x) (key y) ≡ Equal
  pub parts : (o p : Ordering) → ordering_then o p ≡ Equal → (o ≡ Equal) × (p ≡ Equal)
  pub number : (m n : ℕ) → nat_cmp m n ≡ Equal → m ≡ n
  pub integer : (m n : ℤ) → int_cmp m n ≡ Equal → m ≡ n
  -- an order by a number and then by more puts lower numbers first; within a number, so does the second part
  pub first : (key : X → K) (number : K → ℕ) (more : K → K → Ordering)
      → ClassFirst (λ x. number (key x)) (by_key key (λ a b. ordering_then (nat_cmp (number a) (number b)) (more a b)))
  pub second : (key : X → K) (number next : K → ℕ) (more : K → K → Ordering) (x y : X) → number (key x) ≡ number (key y) → next (key x) < next (key y)
      → by_key key (λ a b. ordering_then (nat_cmp (number a) (number b)) (ordering_then (nat_cmp (next a) (next b)) (more a b))) x y ≡ true
  -- where the last part doesn't say less, the parts before it decide
  pub last : (key : X → K) (cmp more : K → K → Ordering) (x y : X) → is_lt (more (key y) (key x)) ≡ false
      → by_key key (λ a b. ordering_then (cmp a b) (more a b)) y x ≡ by_key key cmp y x
  -- the same of ranks
  pub ranked : (rank : X → ℕ) → IsStrictWeakOrder (by_rank rank)
  pub ranks_differ : (rank : X → ℕ) (xs : List X) → KeysDiffer rank xs → TiesAreEqual (by_rank rank) xs
