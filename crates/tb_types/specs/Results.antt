-- Going on with what was read, and what code gives of what a definition reads.
use Rattle.std.specs.Prelude.{◌≡◌, Option, IfSome, Result, Ok, Err}

-- go on with what was read
infixl 10 ◌>>=◌
abbrev pub ◌>>=◌ : {A B E : Type 0} → Result A E → (A → Result B E) → Result B E
(Ok x) >>= f = f x
(Err e) >>= f = Err e

-- The code gives what the definition reads: the value, or the reason. An error without a reason is want of memory, which may
-- come at any time.
abbrev pub GivesBy : {X A W E : Type 0} → (W → Option E) → (X → A) → Result X W → Result A E → Type 0
GivesBy reason_of view (Ok x) found = found ≡ Ok (view x)
GivesBy reason_of view (Err e) found = IfSome (reason_of e) (λ why. found ≡ Err why)
