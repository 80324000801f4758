-- Texts that begin or end with a mark, or are split at one.
use Rattle.std.proofs.Common.{◌≡◌, ◌≢◌, ℕ, zero, suc, ◌<◌, ◌==◌, false, List, [], ◌∷◌, ◌++◌, length, length-append, get_or, Option, Some, None, IfSome, MatchOption, option_map, option_copied, Bor, refl, sym, ap, ◌∙◌, arith}
use Rattle.std.proofs.lemmas.Bool.{eq-eqb, ne_eqb}
use Rattle.std.proofs.lemmas.List.Splits.{slice_split_none, slice_split_at}
use Rattle.std.specs.List.{slice_split}
use Rattle.std.specs.Prelude.{All}
use Rattle.profile_rules.specs.Conditions.{without_first, without_last}

pub first_of : (c : ℕ) (bs : List ℕ) (r : Option (Bor (List ℕ))) → MatchOption r ((rest : List ℕ) → bs ≢ c ∷ rest) (λ x. bs ≡ c ∷ x.now) → option_copied r ≡ without_first c bs
first_of c [] None h = refl
first_of c (b ∷ bs) None h = rw (ne_eqb b c (λ e. h bs (ap (λ x. x ∷ bs) e)))
first_of c bs (Some x) h = rw (h, eq-eqb c c refl)

last_is : (c : ℕ) (prefix : List ℕ) → without_last c (prefix ++ c ∷ []) ≡ Some prefix
last_is c [] = rw (eq-eqb c c refl)
last_is c (x ∷ []) = ap (option_map (λ f. x ∷ f)) (last_is c [])
last_is c (x ∷ y ∷ prefix) = ap (option_map (λ f. x ∷ f)) (last_is c (y ∷ prefix))

no_last : (c : ℕ) (bs : List ℕ) → ((prefix : List ℕ) → bs ≢ prefix ++ (c ∷ [])) → without_last c bs ≡ None
no_last c [] h = refl
no_last c (b ∷ []) h = rw (ne_eqb b c (λ e. h [] (ap (λ x. x ∷ []) e)))
no_last c (b ∷ d ∷ more) h = ap (option_map (λ prefix. b ∷ prefix)) (no_last c (d ∷ more) (λ prefix e. h (b ∷ prefix) (ap (λ l. b ∷ l) e)))

pub last_of : (c : ℕ) (bs : List ℕ) (r : Option (Bor (List ℕ))) → MatchOption r ((prefix : List ℕ) → bs ≢ prefix ++ (c ∷ [])) (λ x. bs ≡ x.now ++ (c ∷ [])) → option_copied r ≡ without_last c bs
last_of c bs None h = sym (no_last c bs h)
last_of c bs (Some x) h = rw (h, last_is c x.now)

no_mark : (c : ℕ) (bs : List ℕ) → ((i : ℕ) → i < length bs → get_or bs i 0 ≢ c) → All (λ b. (b == c) ≡ false) bs
no_mark c [] h k d l = absurd (omega arith)
no_mark c (b ∷ bs) h zero d l = ne_eqb b c (h 0 (omega arith))
no_mark c (b ∷ bs) h (suc k) d l = no_mark c bs (λ i m. h (suc i) (omega arith)) k d (omega arith)

pub split_parts_are : (c : ℕ) (bs : List ℕ) (r : Option (Bor (List ℕ) × Bor (List ℕ)))
    → MatchOption r ((i : ℕ) → i < length bs → get_or bs i 0 ≢ c) (λ x. (bs ≡ x.0.now ++ (c ∷ x.1.now)) × ((i : ℕ) → i < length x.0.now → get_or x.0.now i 0 ≢ c))
    → MatchOption r (slice_split (λ b. b == c) bs ≡ bs ∷ []) (λ p. slice_split (λ b. b == c) bs ≡ p.0.now ∷ slice_split (λ b. b == c) p.1.now)
split_parts_are c bs None h = slice_split_none (λ b. b == c) bs (no_mark c bs h)
split_parts_are c bs (Some x) h =
    ap (slice_split (λ b. b == c)) h.0 ∙ slice_split_at (λ b. b == c) x.0.now c x.1.now (no_mark c x.0.now h.1) (eq-eqb c c refl)

pub split_is_shorter : (c : ℕ) (bs : List ℕ) (r : Option (Bor (List ℕ) × Bor (List ℕ)))
    → MatchOption r ((i : ℕ) → i < length bs → get_or bs i 0 ≢ c) (λ x. (bs ≡ x.0.now ++ (c ∷ x.1.now)) × ((i : ℕ) → i < length x.0.now → get_or x.0.now i 0 ≢ c))
    → IfSome r (λ p. length p.1.now < length bs)
split_is_shorter c bs None h = tt
split_is_shorter c bs (Some x) h = omega (arith, ap length h.0, length-append x.0.now (c ∷ x.1.now))
