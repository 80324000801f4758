-- Lists that have the same entries of each shard have the same entries, each as often.
use Rattle.std.proofs.Common.{◌≡◌, ◌≢◌, ⊎_elim, ℕ, zero, suc, ◌+◌, ◌<◌, ◌≤◌, ◌==◌, Bool, true, false, List, [], ◌∷◌, ap, sym, ◌∙◌, refl, arith, sum_by, if◌then◌else◌}
use Rattle.std.proofs.lemmas.Bool.{cases_eq, eq-eqb, ne_eqb}
use Rattle.std.proofs.lemmas.List.Sums.{sum_by-cons}
use Rattle.tb_types.specs.Bags.{IsSameBag}
use Rattle.shard_store.specs.Ids.{shard_number}
use Rattle.shard_store.specs.Join.{Entry}
use Rattle.shard_store.specs.PutAll.{of_shard}
use Rattle.shard_store.proofs.Closings.{shard_small}

module _ {V : Type 0} (h : Entry V → ℕ) where
  -- the weights of the first n shards
  abbrev sums : ℕ → List (Entry V) → ℕ
  sums zero xs = 0
  sums (suc n) xs = sums n xs + sum_by h (of_shard n xs)

  chosen : (t : Bool) (x : Entry V) (xs : List (Entry V)) → sum_by h (if t then x ∷ xs else xs) ≡ sum_by h xs + (if t then h x else 0)
  chosen true x xs = let c = sum_by-cons h x xs in omega arith
  chosen false x xs = omega arith

  past : (n : ℕ) (x : Entry V) (xs : List (Entry V)) → n ≤ shard_number x.0 → sums n (x ∷ xs) ≡ sums n xs
  past zero x xs least = refl
  past (suc n) x xs least =
      let r = past n x xs (omega arith) in
      let c = chosen (shard_number x.0 == n) x (of_shard n xs) in
      let z : (if shard_number x.0 == n then h x else 0) ≡ 0 = ap (λ t. if t then h x else 0) (ne_eqb _ _ (λ e. omega (arith, e))) in
      omega arith

  once : (n : ℕ) (x : Entry V) (xs : List (Entry V)) → shard_number x.0 < n → sums n (x ∷ xs) ≡ sums n xs + h x
  once zero x xs below = absurd (omega arith)
  once (suc n) x xs below =
      let c = chosen (shard_number x.0 == n) x (of_shard n xs) in
      ⊎_elim
      (λ (same : shard_number x.0 ≡ n).
      let r = past n x xs (omega arith) in
      let z : (if shard_number x.0 == n then h x else 0) ≡ h x = ap (λ t. if t then h x else 0) (eq-eqb _ _ same) in omega arith)
      (λ (apart : shard_number x.0 ≢ n).
      let r = once n x xs (omega arith) in
      let z : (if shard_number x.0 == n then h x else 0) ≡ 0 = ap (λ t. if t then h x else 0) (ne_eqb _ _ apart) in omega arith)
      (cases_eq (shard_number x.0) n)

  nothing : (n : ℕ) → sums n [] ≡ 0
  nothing zero = refl
  nothing (suc n) = let r = nothing n in omega arith

  all_shards : (xs : List (Entry V)) → sum_by h xs ≡ sums 64 xs
  all_shards [] = sym (nothing 64)
  all_shards (x ∷ xs) = let r = all_shards xs in let o = once 64 x xs (shard_small x.0) in let c = sum_by-cons h x xs in omega arith

  same_sums : (n : ℕ) (xs ys : List (Entry V)) → ((k : ℕ) → of_shard k xs ≡ of_shard k ys) → sums n xs ≡ sums n ys
  same_sums zero xs ys same = refl
  same_sums (suc n) xs ys same = let r = same_sums n xs ys same in let s = ap (sum_by h) (same n) in omega arith

pub same_often : {V : Type 0} (xs ys : List (Entry V)) → ((k : ℕ) → of_shard k xs ≡ of_shard k ys) → IsSameBag xs ys
same_often xs ys same h = all_shards h xs ∙ same_sums h 64 xs ys same ∙ sym (all_shards h ys)
