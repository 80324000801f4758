-- Numbers of rules that are put at their places, one rule after another.
use Rattle.std.proofs.Common.{◌≡◌, ◌≢◌, ⊎_elim, ℕ, zero, suc, ◌+◌, ◌-◌, ◌<◌, ◌≤◌, ◌==◌, Bool, true, false, List, [], ◌∷◌, ◌++◌, length, get_or, set, take, replicate, refl, sym, subst, ap, ◌∙◌, arith, append-nil, if◌then◌else◌}
use Rattle.std.proofs.lemmas.Bool.{cases_eq, eq-eqb, ne_eqb}
use Rattle.std.proofs.lemmas.List.{take_more, take_all, get_or-set_same, get_or-set_other, get_or_read, length-take-le}
use Rattle.profile_rules.specs.declared.parts.Rule.{Rule}
use Rattle.profile_rules.specs.ByKey.{place_of_rule, numbers_where, at_place, key_places, IsByKey}

-- one rule more
numbers_where-push : (test : Rule → Bool) (at : ℕ) (rules : List Rule) (rule : Rule) → numbers_where test at (rules ++ rule ∷ []) ≡ numbers_where test at rules ++ (if test rule then (at + length rules) ∷ [] else [])
numbers_where-push test at [] rule = by (test rule)
  where
    by : (b : Bool) → (if b then at ∷ [] else []) ≡ (if b then (at + 0) ∷ [] else [])
    by true = ap (λ n. n ∷ []) (omega arith)
    by false = refl
numbers_where-push test at (r ∷ more) rule =
    by (test r) (numbers_where test (at + 1) (more ++ rule ∷ [])) (numbers_where test (at + 1) more)
    (numbers_where-push test (at + 1) more rule ∙ ap (λ n. numbers_where test (at + 1) more ++ (if test rule then n ∷ [] else [])) (omega arith))
  where
    by : (b : Bool) (xs ys : List ℕ) → xs ≡ ys ++ (if test rule then (at + length (r ∷ more)) ∷ [] else [])
        → (if b then at ∷ xs else xs) ≡ (if b then at ∷ ys else ys) ++ (if test rule then (at + length (r ∷ more)) ∷ [] else [])
    by true xs ys e = ap (λ l. at ∷ l) e
    by false xs ys e = e

-- the numbers of so many rules stand at their places
abbrev pub ArePlaced : ℕ → List Rule → List (List ℕ) → Type 0
ArePlaced count rules places = (place : ℕ) → at_place place places ≡ numbers_where (λ rule. place_of_rule count rule == place) 0 rules

pub none_placed : (count n : ℕ) → ArePlaced count [] (replicate n [])
none_placed count zero place = refl
none_placed count (suc n) zero = refl
none_placed count (suc n) (suc place) = none_placed count n place

pub one_placed : (count : ℕ) (rules : List Rule) (rule : Rule) (places : List (List ℕ)) (number place : ℕ) (now : List ℕ) → ArePlaced count rules places → place ≡ place_of_rule count rule → place < length places → number ≡ length rules
    → now ≡ at_place place places ++ number ∷ [] → ArePlaced count (rules ++ rule ∷ []) (set places place now)
one_placed count rules rule places number place now placed is inside last new k =
    let test : Rule → Bool = λ r. place_of_rule count r == k in
    let pushed : numbers_where test 0 (rules ++ rule ∷ []) ≡ numbers_where test 0 rules ++ (if test rule then (0 + length rules) ∷ [] else []) = numbers_where-push test 0 rules rule in
    let start : number ≡ 0 + length rules = omega (arith, last) in
    ⊎_elim
    (λ (same : place ≡ k).
    ap (λ p. at_place p (set places place now)) (sym same) ∙ get_or-set_same places place now [] inside ∙ new ∙ ap (λ p. at_place p places ++ number ∷ []) same
    ∙ ap (λ l. l ++ number ∷ []) (placed k) ∙ ap (λ n. numbers_where test 0 rules ++ n ∷ []) start
    ∙ ap (λ b. numbers_where test 0 rules ++ (if b then (0 + length rules) ∷ [] else [])) (sym (eq-eqb _ _ (sym is ∙ same))) ∙ sym pushed)
    (λ (apart : place ≢ k).
    get_or-set_other places place k now [] (λ e. apart (sym e)) ∙ placed k ∙ sym (append-nil _)
    ∙ ap (λ b. numbers_where test 0 rules ++ (if b then (0 + length rules) ∷ [] else [])) (sym (ne_eqb _ _ (λ e. apart (is ∙ e)))) ∙ sym pushed)
    (cases_eq place k)

-- one rule of a slice more
pub next_placed : (count : ℕ) (rules : List Rule) (i : ℕ) (rule : Rule) (places : List (List ℕ)) (place : ℕ) (before now : List ℕ) → ArePlaced count (take i rules) places → i < length rules → rule ≡ get_or rules i rule
    → place ≡ place_of_rule count rule → place < length places → before ≡ get_or places place before → now ≡ before ++ i ∷ [] → ArePlaced count (take (i + 1) rules) (set places place now)
next_placed count rules i rule places place before now placed less is at inside read new =
    subst (λ l. ArePlaced count l (set places place now)) (sym (take_more rules i rule less ∙ ap (λ r. take i rules ++ r ∷ []) (sym is)))
    (one_placed count (take i rules) rule places i place now placed at inside (sym (length-take-le i rules (omega (arith, less)))) (new ∙ ap (λ l. l ++ i ∷ []) (get_or_read places place before inside read [])))

-- all rules
pub all_placed : (rules : List Rule) (count i : ℕ) (places : List (List ℕ)) → 0 < count → length places ≡ count + 1 → ArePlaced count (take i rules) places → length rules ≤ i → IsByKey rules places
all_placed rules count i places some all placed done =
    let keys : count ≡ key_places places = omega (arith, all) in
    record {
      some = omega (arith, some, all);
      each = subst (λ n. ArePlaced n rules places) keys (subst (λ l. ArePlaced count l places) (take_all i rules done) placed);
    }
