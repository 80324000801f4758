-- Parts are read one by one: what was read, and then what is read of the rest.
use Rattle.std.proofs.Common.{◌≡◌, ℕ, suc, ◌-◌, ◌+◌, ◌≤◌, ◌<◌, List, [], ◌∷◌, ◌++◌, Option, Some, None, refl, sym, ap, ◌∙◌, append_assoc, arith}
use Rattle.std.proofs.lemmas.List.{append-nil}
use Rattle.feature_runs.specs.declared.refused.Refused.{Refused}
use Rattle.feature_runs.specs.declared.refused.Refused.TheVariants as refused
use Rattle.mvt_geom.specs.Options.{◌>>=◌}
use Rattle.feature_runs.specs.ItemReading.{Fails, parts_at}

module _ {A : Type 0} where
  -- what was read before, and what is still read
  abbrev pub with_front : List A → Option (List A × List ℕ) → Option (List A × List ℕ)
  with_front front read = read >>= λ x. Some (front ++ x.0, x.1)

  regroup : (front : List A) (n : A) (read : Option (List A × List ℕ)) → with_front front (read >>= λ x. Some (n ∷ x.0, x.1)) ≡ with_front (front ++ n ∷ []) read
  regroup front n (Some x) = ap (λ (ns : List A). Some (ns, x.1)) (simp append_assoc)
  regroup front n None = refl

  pub goes_on : (read : List ℕ → Option (A × List ℕ)) (front : List A) (count i : ℕ) (bytes : List ℕ) (n : A) (after : List ℕ) (total : Option (List A × List ℕ)) → i < count → read bytes ≡ Some (n, after)
      → with_front front (parts_at read (count - i) bytes) ≡ total → with_front (front ++ n ∷ []) (parts_at read (count - (i + 1)) after) ≡ total
  goes_on read front count i bytes n after total lt h so_far =
      let k : count - i ≡ suc (count - (i + 1)) = omega arith in
      let one : with_front front (parts_at read (count - i) bytes) ≡ with_front (front ++ n ∷ []) (parts_at read (count - (i + 1)) after) = rw (k, h) (regroup front n (parts_at read (count - (i + 1)) after)) in
      sym one ∙ so_far

  pub ends : (read : List ℕ → Option (A × List ℕ)) (front : List A) (count i : ℕ) (bytes : List ℕ) (total : Option (List A × List ℕ)) → i < count → read bytes ≡ None
      → with_front front (parts_at read (count - i) bytes) ≡ total → total ≡ None
  ends read front count i bytes total lt h so_far =
      let k : count - i ≡ suc (count - (i + 1)) = omega arith in
      let one : with_front front (parts_at read (count - i) bytes) ≡ None = rw (k, h) refl in
      sym so_far ∙ one

  pub is_done : (read : List ℕ → Option (A × List ℕ)) (front : List A) (count i : ℕ) (bytes : List ℕ) (total : Option (List A × List ℕ)) → count ≤ i
      → with_front front (parts_at read (count - i) bytes) ≡ total → total ≡ Some (front, bytes)
  is_done read front count i bytes total le so_far =
      let k : count - i ≡ 0 = omega arith in
      let one : with_front front (parts_at read (count - i) bytes) ≡ Some (front, bytes) = rw k (ap (λ (ns : List A). Some (ns, bytes)) (append-nil front)) in
      sym so_far ∙ one

  -- the same of a reader's refusal
  pub ends_at : (e : Refused) (read : List ℕ → Option (A × List ℕ)) (front : List A) (count i : ℕ) (bytes : List ℕ) (total : Option (List A × List ℕ)) → i < count → Fails e (read bytes)
      → with_front front (parts_at read (count - i) bytes) ≡ total → Fails e total
  ends_at refused.Memory read front count i bytes total lt h so_far = tt
  ends_at refused.NoItem read front count i bytes total lt h so_far = ends read front count i bytes total lt h so_far
