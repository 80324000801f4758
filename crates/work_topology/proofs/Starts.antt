-- What the lanes of a pass start with.
use Rattle.std.proofs.Common.{◌≡◌, ◌⊎◌, inl, inr, ⊎_elim, ℕ, zero, suc, List, [], ◌∷◌, ◌++◌, length, length-append, ap, sym, refl, subst, arith}
use mathlib.Core.Option.{some, some-injective, some-ne-none}
use lib.ListN.{get_elem?}
use Rattle.work_topology.specs.declared.post.Report.{Report}
use Rattle.work_topology.specs.Job.{Meaning}
use Rattle.work_topology.specs.Start.{IsStarted, AreStarted}
use Rattle.work_topology.proofs.Pairs.{inside}

-- an element of a list that grew by one: it is one of the list, or it is the new one, at the list's end
pub at_end : {A : Type 0} (l : List A) (x y : A) (k : ℕ) → get_elem? (l ++ x ∷ []) k ≡ some y → (get_elem? l k ≡ some y) ⊎ ((k ≡ length l) × (x ≡ y))
at_end [] x y zero e = inr (refl, some-injective x y e)
at_end [] x y (suc k) e = absurd (some-ne-none y (sym e))
at_end (a ∷ l) x y zero e = inl e
at_end (a ∷ l) x y (suc k) e = ⊎_elim (λ f. inl f) (λ s. inr ((let z : suc k ≡ suc (length l) = ap suc s.0 in z), s.1)) (at_end l x y k e)

pub started_push : {Seed Out S : Type 0} (m : Meaning Seed Out S) (seeds : List Seed) (reports : List (Report Out)) (seed : Seed) (report : Report Out)
    → AreStarted m seeds reports → IsStarted m (length seeds) seed report → AreStarted m (seeds ++ seed ∷ []) (reports ++ report ∷ [])
started_push m seeds reports seed report all one =
    let a = length-append seeds (seed ∷ []) in let b = length-append reports (report ∷ []) in let len = all.same in
    record {
      same = omega arith;
      each = λ k s r e f.
          ⊎_elim
          (λ was. ⊎_elim (λ had. all.each k s r was had) (λ h. absurd (let less = inside seeds k s was in let at = h.0 in omega arith)) (at_end reports report r k f))
          (λ h.
          ⊎_elim (λ had. absurd (let less = inside reports k r had in let at = h.0 in omega arith))
          (λ i. subst (λ (t : _ × _ × _). IsStarted m t.0 t.1 t.2) (λ j. (sym h.0 j, h.1 j, i.1 j)) one)
          (at_end reports report r k f))
          (at_end seeds seed s k e);
    }
