-- What holds of all that may be read.
use Rattle.std.proofs.Common.{◌≡◌, refl, ◌+◌, Bool, true, false, if◌then◌else◌, IfOk, Result, Ok, Err, List, [], ◌∷◌, ◌++◌, length, length-append, arith}
use Rattle.profile_rules.specs.declared.fault.Spot.{Spot}
use Rattle.profile_rules.specs.declared.fault.ProfileWhy.{ProfileWhy}
use Rattle.profile_rules.specs.Turns.{◌>>=◌, in_turn}
use Rattle.profile_rules.specs.Faults.{at_spot}

-- of a choice it holds where it holds of both
pub IfOk-either : {A E : Type 0} (P : A → Type 0) (b : Bool) (x y : Result A E) → (b ≡ true → IfOk x P) → (b ≡ false → IfOk y P) → IfOk (if b then x else y) P
IfOk-either P true x y h k = h refl
IfOk-either P false x y h k = k refl

-- of what is read next it holds where it holds after each that may have been read
pub IfOk-next : {A B E : Type 0} (P : A → Type 0) (Q : B → Type 0) (r : Result A E) (f : A → Result B E) → IfOk r P → ((x : A) → P x → IfOk (f x) Q) → IfOk (r >>= f) Q
IfOk-next P Q (Ok x) f h k = k x h
IfOk-next P Q (Err e) f h k = tt

-- the same, whatever was read
pub IfOk-then : {A B E : Type 0} (Q : B → Type 0) (r : Result A E) (f : A → Result B E) → ((x : A) → IfOk (f x) Q) → IfOk (r >>= f) Q
IfOk-then Q (Ok x) f k = k x
IfOk-then Q (Err e) f k = tt

pub IfOk-weaker : {A E : Type 0} (P Q : A → Type 0) (r : Result A E) → ((x : A) → P x → Q x) → IfOk r P → IfOk r Q
IfOk-weaker P Q (Ok x) f h = f x h
IfOk-weaker P Q (Err e) f h = tt

pub IfOk-both : {A E : Type 0} (P Q : A → Type 0) (r : Result A E) → IfOk r P → IfOk r Q → IfOk r (λ x. P x × Q x)
IfOk-both P Q (Ok x) h k = (h, k)
IfOk-both P Q (Err e) h k = tt

pub IfOk-at_spot : {A : Type 0} (P : A → Type 0) (spot : Spot) (r : Result A ProfileWhy) → IfOk r P → IfOk (at_spot spot r) P
IfOk-at_spot P spot (Ok x) h = h
IfOk-at_spot P spot (Err why) h = tt

-- what each turn keeps holds at the end
pub in_turn-keeps : {A B E : Type 0} (Q : List B → Type 0) (read : List B → A → Result B E) → ((before : List B) (x : A) → Q before → IfOk (read before x) (λ y. Q (before ++ y ∷ [])))
    → (before : List B) (xs : List A) → Q before → IfOk (in_turn read before xs) Q
in_turn-keeps Q read step before [] q = q
in_turn-keeps Q read step before (x ∷ xs) q =
    IfOk-next (λ y. Q (before ++ y ∷ [])) Q (read before x) _ (step before x q) (λ y h. in_turn-keeps Q read step (before ++ y ∷ []) xs h)

-- all are read, or none
pub in_turn-length : {A B E : Type 0} (read : List B → A → Result B E) (before : List B) (xs : List A) → IfOk (in_turn read before xs) (λ ys. length ys ≡ length before + length xs)
in_turn-length read before [] = omega arith
in_turn-length read before (x ∷ xs) =
    IfOk-then (λ ys. length ys ≡ length before + length (x ∷ xs)) (read before x) _
    (λ y. IfOk-weaker (λ ys. length ys ≡ length (before ++ y ∷ []) + length xs) _ (in_turn read (before ++ y ∷ []) xs) (λ ys e. omega (arith, e, length-append before (y ∷ []))) (in_turn-length read (before ++ y ∷ []) xs))
