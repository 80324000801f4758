-- Numbers among words: a word is parsed, and its number printed again.
use Rattle.std.proofs.Common.{◌≡◌, ℕ, ◌<◌, ◌≤◌, ◌^◌, ◌&&◌, nat_le, if◌then◌else◌, Bool, true, false, Option, None, Some, Result, Ok, List, refl, sym, ap, subst, ◌∙◌, arith}
use Rattle.std.specs.Str.Parse.{ParsesUnsigned}
use Rattle.std.specs.Fmt.{decimal}
use Rattle.std.proofs.lemmas.Bool.{leb-true, le-leb}
use Rattle.std.proofs.lemmas.Fmt.{decimal_is_IsNumeral, parse-decimal}
use Rattle.std.proofs.lemmas.Slice.Eq.{bytes_eq-Decides}
use Rattle.build_cli.specs.Numbers.{value_of, is_number, number_of}

both-hold : (a b : Bool) (x : Option ℕ) → a ≡ true → b ≡ true → (if a && b then x else None) ≡ x
both-hold true true x is also = refl
both-hold true false x is also = absurd cc
both-hold false b x is also = absurd cc

-- a word that a number is printed as is that number
pub number-printed : (word : List ℕ) (most n : ℕ) → n < 2 ^ 64 → n ≤ most → decimal n ≡ word → number_of word most ≡ Some n
number-printed word most n fits small same =
    let value : value_of word ≡ n = ap value_of (sym same) ∙ (decimal_is_IsNumeral n fits).1 in
    both-hold (is_number word) (nat_le (value_of word) most) (Some (value_of word))
    ((bytes_eq-Decides (decimal (value_of word)) word).1 (ap decimal value ∙ same))
    (le-leb (value_of word) most (subst (λ v. v ≤ most) (sym value) small))
    ∙ ap Some value

none-unless : (a b : Bool) (x : ℕ) → (a ≡ true → b ≡ true → ⊥) → (if a && b then Some x else None) ≡ None
none-unless true true x h = absurd (h refl refl)
none-unless true false x h = refl
none-unless false b x h = refl

-- a word is no number where none that was parsed is printed as it
pub number-none : {E : Type 0} (word : List ℕ) (most : ℕ) (r : Result ℕ E) → most < 2 ^ 64 → ParsesUnsigned 64 10 word r → ((n : ℕ) → r ≡ Ok n → n ≤ most → decimal n ≡ word → ⊥) → number_of word most ≡ None
number-none word most r fits parsed h =
    none-unless (is_number word) (nat_le (value_of word) most) (value_of word)
    (λ is small.
    let printed : decimal (value_of word) ≡ word = (bytes_eq-Decides (decimal (value_of word)) word).0 is in
    let within : value_of word ≤ most = leb-true (value_of word) most small in
    let below : value_of word < 2 ^ 64 = omega (arith, within, fits) in
    h (value_of word) (parse-decimal 64 (value_of word) word r below below (sym printed) parsed) within printed)

ok-same : {E : Type 0} (a b : ℕ) (r : Result ℕ E) → r ≡ Ok a → r ≡ Ok b → a ≡ b
ok-same a b r one other = cc

-- nor where the one that was parsed isn't printed as it, or is too large
pub number-other : {E : Type 0} (word : List ℕ) (most n : ℕ) (r : Result ℕ E) → r ≡ Ok n → most < 2 ^ 64 → ParsesUnsigned 64 10 word r → (n ≤ most → decimal n ≡ word → ⊥) → number_of word most ≡ None
number-other word most n r is fits parsed h =
    number-none word most r fits parsed
    (λ m same within printed. let number : m ≡ n = ok-same m n r same is in h (subst (λ k. k ≤ most) number within) (subst (λ k. decimal k ≡ word) number printed))
