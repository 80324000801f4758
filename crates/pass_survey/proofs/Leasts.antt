-- The element of the least number: of two lists, of a shuffled list, and of one that ascends.
use Rattle.std.proofs.Common.{◌≡◌, ℕ, ◌<◌, ◌≤◌, Bool, true, false, cond, nat_lt, Option, None, Some, slice_get, List, [], ◌∷◌, ◌++◌, length, All, Contains, refl, sym, ap, subst, ◌∙◌, arith, inl, inr}
use Rattle.std.proofs.lemmas.Bool.{ltb-true, ltb-false}
use Rattle.std.proofs.lemmas.List.{append-nil, nil_from_length}
use Rattle.std.proofs.lemmas.List.Elements.{All-append, All-weaker, All-cons, All-nil, All-head, All-contains, All-contains_itself, Contains-append_left, Contains-append_right, Contains-append_cases, All-from_recursion}
use Rattle.std.proofs.lemmas.List.Sorted.{IsPermutation-sym, All-permutation, length_permutation}
use Rattle.std.specs.List.{AllByRecursion}
use Rattle.std.specs.List.Sorted.{IsPermutation}
use Rattle.sorted_lists.proofs.Orders.{Pairs}
use Rattle.pass_survey.specs.Least.{IsLeast, lesser, least_of}

module _ {X : Type 0} (number : X → ℕ) where
  weaker : (x y : X) (xs : List X) → number y ≤ number x → All (λ z. number x ≤ number z) xs → All (λ z. number y ≤ number z) xs
  weaker x y xs le h = All-weaker (λ z. number x ≤ number z) (λ z. number y ≤ number z) (λ z more. omega (arith, le, more)) xs h

  of-both : (xs ys : List X) (x y : X) → IsLeast number xs (Some x) → IsLeast number ys (Some y) → (b : Bool) → nat_lt (number y) (number x) ≡ b → IsLeast number (xs ++ ys) (Some (cond b y x))
  of-both xs ys x y h k true is =
      let less = ltb-true (number y) (number x) is in
      (Contains-append_right xs ys y k.0, All-append (λ z. number y ≤ number z) xs ys (weaker x y xs (omega (arith, less)) h.1) k.1)
  of-both xs ys x y h k false is =
      let more = ltb-false (number y) (number x) is in
      (Contains-append_left xs ys x h.0, All-append (λ z. number x ≤ number z) xs ys h.1 (weaker y x ys (omega (arith, more)) k.1))

  pub least-append : (xs ys : List X) (o p : Option X) → IsLeast number xs o → IsLeast number ys p → IsLeast number (xs ++ ys) (least_of number o p)
  least-append xs ys None p h k = subst (λ zs. IsLeast number (zs ++ ys) p) (sym h) k
  least-append xs ys (Some x) None h k = subst (λ zs. IsLeast number (xs ++ zs) (Some x)) (sym k) (subst (λ zs. IsLeast number zs (Some x)) (sym (append-nil xs)) h)
  least-append xs ys (Some x) (Some y) h k = of-both xs ys x y h k (nat_lt (number y) (number x)) refl

  pub least-one : (x : X) → IsLeast number (x ∷ []) (Some x)
  least-one x = (All-head (Contains (x ∷ [])) x [] (All-contains_itself (x ∷ [])), All-cons (λ z. number x ≤ number z) x [] (omega arith) (All-nil (λ z. number x ≤ number z)))

  pub least-moved : (xs ys : List X) (o : Option X) → IsPermutation xs ys → IsLeast number xs o → IsLeast number ys o
  least-moved xs ys None m h = nil_from_length ys (length_permutation xs ys m ∙ ap length h)
  least-moved xs ys (Some x) m h = (
    All-contains (Contains ys) xs x (All-permutation (Contains ys) ys xs (IsPermutation-sym xs ys m) (All-contains_itself ys)) h.0,
    All-permutation (λ z. number x ≤ number z) xs ys m h.1,
  )

  later-is-more : (x y : X) (xs : List X) → AllByRecursion (λ z. number x < number z) xs → Contains xs y → number x < number y
  later-is-more x y xs h c = All-contains (λ z. number x < number z) xs y (All-from_recursion (λ z. number x < number z) xs h) c

  none-there : (y : X) → Contains [] y → ⊥
  none-there y c = let lt = c.1 in omega (arith, lt)

  only-there : (x y : X) → Contains (x ∷ []) y → y ≡ x
  only-there x y c = All-contains (λ z. z ≡ x) (x ∷ []) y (All-cons (λ z. z ≡ x) x [] refl (All-nil (λ z. z ≡ x))) c

  pub least-first : (xs : List X) (o : Option X) → Pairs (λ x y. number x < number y) xs → IsLeast number xs o → o ≡ slice_get xs 0
  least-first [] None up h = refl
  least-first [] (Some y) up h = absurd (none-there y h.0)
  least-first (x ∷ xs) None up h = let no : ◌≡◌ {A = List X} (x ∷ xs) [] = h in absurd cc
  least-first (x ∷ xs) (Some y) up h =
      elim (Contains-append_cases (x ∷ []) xs y h.0) [
        | inl c ↦ ap Some (only-there x y c)
        | inr c ↦ let more = later-is-more x y xs up.0 c in let le = All-head (λ z. number y ≤ number z) x xs h.1 in absurd (omega (arith, more, le))
      ]
