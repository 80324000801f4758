-- Two lists of ascending numbers that are merged, number by number.
use Rattle.std.proofs.Common.{◌≡◌, ℕ, ◌+◌, ◌<◌, ◌==◌, min, nat_lt, Bool, true, false, IfSome, Option, None, Some, List, [], ◌∷◌, ◌++◌, length, refl, sym, subst, ap, ◌∙◌, arith, append_assoc, append-nil, if◌then◌else◌, ⊎_elim}
use Rattle.std.proofs.lemmas.Bool.{eq-eqb, ne_eqb, lt-ltb, le-ltb, cases_order}
use Rattle.std.specs.Prelude.{slice_get}
use Rattle.profile_rules.specs.ByKey.{merged_behind, merged, least, without}

pub merged-nil : (xs : List ℕ) → merged xs [] ≡ xs
merged-nil [] = refl
merged-nil (x ∷ xs) = refl

-- the least number comes first, and the lists behind it are shorter
record IsStep (xs ys : List ℕ) (n : ℕ) : Type 0 where
  all : merged xs ys ≡ n ∷ merged (without n xs) (without n ys)
  shorter : length (without n xs) + length (without n ys) < length xs + length ys

without-same : (n : ℕ) (xs : List ℕ) → without n (n ∷ xs) ≡ xs
without-same n xs = ap (λ b. if b then xs else n ∷ xs) (eq-eqb n n refl)

without-other : (n x : ℕ) (xs : List ℕ) → (x ≡ n → ⊥) → without n (x ∷ xs) ≡ x ∷ xs
without-other n x xs h = ap (λ b. if b then xs else x ∷ xs) (ne_eqb x n h)

step_of : (xs ys left right : List ℕ) (n : ℕ) → without n xs ≡ left → without n ys ≡ right → merged xs ys ≡ n ∷ merged left right → length left + length right < length xs + length ys → IsStep xs ys n
step_of xs ys left right n e f all shorter = record {
  all = all ∙ ap (λ l. n ∷ merged l right) (sym e) ∙ ap (λ l. n ∷ merged (without n xs) l) (sym f);
  shorter = subst (λ l. length l + length (without n ys) < length xs + length ys) (sym e) (subst (λ l. length left + length l < length xs + length ys) (sym f) shorter);
}

both_step : (x y : ℕ) (xs ys : List ℕ) → IsStep (x ∷ xs) (y ∷ ys) (min x y)
both_step x y xs ys =
    ⊎_elim
    (λ (same : x ≡ y). subst (λ n. IsStep (x ∷ xs) (n ∷ ys) (min x n)) same (subst (IsStep (x ∷ xs) (x ∷ ys)) (least_same x)
    (step_of (x ∷ xs) (x ∷ ys) xs ys x (without-same x xs) (without-same x ys) (ap (λ b. if b then x ∷ merged xs (x ∷ ys) else (if b then x ∷ merged (x ∷ xs) ys else x ∷ merged xs ys)) (le-ltb x x (omega arith))) (omega arith))))
    (⊎_elim
    (λ (less : x < y). subst (IsStep (x ∷ xs) (y ∷ ys)) (least_left less)
    (step_of (x ∷ xs) (y ∷ ys) xs (y ∷ ys) x (without-same x xs) (without-other x y ys (λ e. omega (arith, e, less)))
    (ap (λ b. if b then x ∷ merged xs (y ∷ ys) else (if nat_lt y x then y ∷ merged (x ∷ xs) ys else x ∷ merged xs ys)) (lt-ltb x y less)) (omega arith)))
    (λ (less : y < x). subst (IsStep (x ∷ xs) (y ∷ ys)) (least_right less)
    (step_of (x ∷ xs) (y ∷ ys) (x ∷ xs) ys y (without-other y x xs (λ e. omega (arith, e, less))) (without-same y ys)
    (ap (λ b. if b then x ∷ merged xs (y ∷ ys) else (if nat_lt y x then y ∷ merged (x ∷ xs) ys else x ∷ merged xs ys)) (le-ltb x y (omega (arith, less)))
    ∙ ap (λ b. if b then y ∷ merged (x ∷ xs) ys else x ∷ merged xs ys) (lt-ltb y x less)) (omega arith))))
    (cases_order x y)
  where
    least_same : (n : ℕ) → n ≡ min n n
    least_same n = omega arith

    least_left : x < y → x ≡ min x y
    least_left h = omega (arith, h)

    least_right : y < x → y ≡ min x y
    least_right h = omega (arith, h)

step : (xs ys : List ℕ) → IfSome (least xs ys) (IsStep xs ys)
step [] [] = tt
step [] (y ∷ ys) = step_of [] (y ∷ ys) [] ys y refl (without-same y ys) refl (omega arith)
step (x ∷ xs) [] = step_of (x ∷ xs) [] xs [] x (without-same x xs) refl (ap (λ l. x ∷ l) (sym (merged-nil xs))) (omega arith)
step (x ∷ xs) (y ∷ ys) = both_step x y xs ys

step_at : (xs ys : List ℕ) (n : ℕ) → least xs ys ≡ Some n → IsStep xs ys n
step_at xs ys n e = subst (λ o. IfSome o (IsStep xs ys)) e (step xs ys)

-- one number more
pub merged-more : (all more xs ys left right total : List ℕ) (n : ℕ) → least xs ys ≡ Some n → more ≡ all ++ n ∷ [] → left ≡ without n xs → right ≡ without n ys → all ++ merged xs ys ≡ total → more ++ merged left right ≡ total
merged-more all more xs ys left right total n e push l r told =
    ap (λ m. m ++ merged left right) push ∙ ap (λ m. (all ++ n ∷ []) ++ merged m right) l ∙ ap (λ m. (all ++ n ∷ []) ++ merged (without n xs) m) r
    ∙ append_assoc all (n ∷ []) _ ∙ ap (λ m. all ++ m) (sym (step_at xs ys n e).all) ∙ told

pub merged-shorter : (xs ys left right : List ℕ) (n : ℕ) → least xs ys ≡ Some n → left ≡ without n xs → right ≡ without n ys → length left + length right < length xs + length ys
merged-shorter xs ys left right n e l r =
    subst (λ m. length m + length right < length xs + length ys) (sym l) (subst (λ m. length (without n xs) + length m < length xs + length ys) (sym r) (step_at xs ys n e).shorter)

-- the end of both
none_left : (xs ys : List ℕ) → least xs ys ≡ None → merged xs ys ≡ []
none_left [] [] e = refl
none_left [] (y ∷ ys) e = let one : Some y ≡ None = e in absurd cc
none_left (x ∷ xs) [] e = let one : Some x ≡ None = e in absurd cc
none_left (x ∷ xs) (y ∷ ys) e = let one : Some (min x y) ≡ None = e in absurd cc

pub merged-end : (all xs ys total : List ℕ) → least xs ys ≡ None → all ++ merged xs ys ≡ total → all ≡ total
merged-end all xs ys total e told = sym (append-nil all) ∙ ap (λ m. all ++ m) (sym (none_left xs ys e)) ∙ told
