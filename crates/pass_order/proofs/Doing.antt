-- Lists of steps that were done: more of them, and with more bodies known.
use Rattle.std.proofs.Common.{◌≡◌, ℕ, Option, Some, List, [], ◌∷◌, ◌++◌, append_assoc, sym, ap, subst, ◌∙◌}
use Rattle.pass_order.specs.declared.step.Step.{Step}
use Rattle.pass_order.specs.declared.step.Step.TheVariants.{Load, Put, Emit}
use Rattle.pass_order.specs.Driven.{Meaning, Does, Did, DidSome}

-- what f knows g knows
abbrev pub Knows : {B : Type 0} → (ℕ → Option B) → (ℕ → Option B) → Type 0
Knows {B} f g = (unit : ℕ) (body : B) → f unit ≡ Some body → g unit ≡ Some body

module _ {S B E : Type 0} (m : Meaning S B E) where
  does-more : (f g : ℕ → Option B) → Knows f g → (step : Step) (a b : S) → Does m f step a b → Does m g step a b
  does-more f g k (Load unit) a b d = (d.0, k unit d.0 d.1, d.2)
  does-more f g k (Put unit) a b d = (d.0, k unit d.0 d.1, d.2)
  does-more f g k (Emit unit) a b d = (d.0, k unit d.0 d.1, d.2)

  pub did-more : (f g : ℕ → Option B) → Knows f g → (steps : List Step) (a b : S) → Did m f steps a b → Did m g steps a b
  did-more f g k [] a b d = d
  did-more f g k (step ∷ steps) a b d = (d.0, does-more f g k step a d.0 d.1, did-more f g k steps d.0 b d.2)

  pub did-append : (f : ℕ → Option B) (xs ys : List Step) (a b c : S) → Did m f xs a b → Did m f ys b c → Did m f (xs ++ ys) a c
  did-append f [] ys a b c d e = subst (λ (s : S). Did m f ys s c) d e
  did-append f (x ∷ xs) ys a b c d e = (d.0, d.1, did-append f xs ys d.0 b c d.2 e)

  pub some-behind : (f : ℕ → Option B) (xs ys : List Step) (fault : E) (a b c : S) → Did m f xs a b → DidSome m f ys fault b c → DidSome m f (xs ++ ys) fault a c
  some-behind f xs ys fault a b c d e =
      record {
        done = xs ++ e.done;
        failed = e.failed;
        rest = e.rest;
        are = ap (λ (zs : List Step). xs ++ zs) e.are ∙ sym (append_assoc xs e.done (e.failed ∷ e.rest));
        mid = e.mid;
        did = did-append f xs e.done a b e.mid d e.did;
        fails = e.fails;
      }

  pub some-before : (f : ℕ → Option B) (xs ys : List Step) (fault : E) (a c : S) → DidSome m f xs fault a c → DidSome m f (xs ++ ys) fault a c
  some-before f xs ys fault a c e =
      record {
        done = e.done;
        failed = e.failed;
        rest = e.rest ++ ys;
        are = ap (λ (zs : List Step). zs ++ ys) e.are ∙ append_assoc e.done (e.failed ∷ e.rest) ys;
        mid = e.mid;
        did = e.did;
        fails = e.fails;
      }
