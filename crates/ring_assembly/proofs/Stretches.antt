-- Boxes around stretches, one behind the other.
use Rattle.std.proofs.Common.{◌≡◌, ℕ, ◌+◌, ◌<◌, List, [], ◌∷◌, ◌++◌, length, take, drop, get_or, sym, ap, ◌∙◌, subst, append_assoc, inl, inr, arith}
use Rattle.std.proofs.lemmas.List.{drop_more, append-nil, get_or_append_left}
use Rattle.std.proofs.lemmas.Bool.{cases_lt}
use Rattle.std.proofs.Math.Seq.{get_or-append_seam}
use Rattle.tb_types.specs.declared.location.World.{World}
use Rattle.ring_assembly.specs.declared.envelope.Envelope.{Envelope}
use Rattle.ring_assembly.specs.Envelopes.{IsAround, end_of, AreAlong, AreOnRing}

abbrev pub box_at : List Envelope → ℕ → Envelope
box_at boxes i = get_or boxes i (record { low = record { x = 0; y = 0 }; high = record { x = 0; y = 0 } })

-- the box of the next stretch, and the boxes behind it
module _ (boxes : List Envelope) (i : ℕ) (from : World) (left stretch more : List World) (here : i < length boxes) (first : stretch ≡ take 64 left) (behind : more ≡ drop 64 left) (boxed : AreAlong (drop i boxes) from left) where
  both : IsAround (box_at boxes i) (from ∷ take 64 left) × AreAlong (drop (i + 1) boxes) (end_of from (take 64 left)) (drop 64 left)
  both = subst (λ es. AreAlong es from left) (drop_more boxes i (record { low = record { x = 0; y = 0 }; high = record { x = 0; y = 0 } }) here) boxed

  pub around_stretch : IsAround (box_at boxes i) (from ∷ stretch)
  around_stretch = subst (λ l. IsAround (box_at boxes i) (from ∷ l)) (sym first) both.0

  pub later_boxes : (next : World) → next ≡ end_of from stretch → AreAlong (drop (i + 1) boxes) next more
  later_boxes next e =
      let at_end = subst (λ z. AreAlong (drop (i + 1) boxes) z (drop 64 left)) (sym (e ∙ ap (end_of from) first)) both.1 in
      subst (AreAlong (drop (i + 1) boxes) next) (sym behind) at_end

-- a box more, where P is what the boxes are
module _ (P : List Envelope → Type 0) (old new : List Envelope) (e : Envelope) (from next : World) (left stretch more : List World) (first : stretch ≡ take 64 left) (behind : more ≡ drop 64 left)
    (told : (boxes : List Envelope) → AreAlong boxes from left → P (old ++ boxes)) (around : IsAround e (from ∷ stretch)) (is : new ≡ old ++ e ∷ []) (end : next ≡ end_of from stretch) where
  pub box_more : (boxes : List Envelope) → AreAlong boxes next more → P (new ++ boxes)
  box_more boxes h =
      let at_end = subst (λ z. AreAlong boxes z (drop 64 left)) (end ∙ ap (end_of from) first) (subst (AreAlong boxes next) behind h) in
      let all = told (e ∷ boxes) (subst (λ l. IsAround e (from ∷ l)) first around, at_end) in
      subst P (sym (ap (λ l. l ++ boxes) is ∙ append_assoc old (e ∷ []) boxes)) all

pub all_boxes : (P : List Envelope → Type 0) (boxes : List Envelope) → P (boxes ++ []) → P boxes
all_boxes P boxes h = subst P (append-nil boxes) h

pub no_boxes : (ring : List World) → AreOnRing [] ring
no_boxes [] = tt
no_boxes (a ∷ rest) = tt

-- a fact of each item, with its number, where an item is put behind
pub each_more : {X : Type 0} (P : ℕ → X → Type 0) (old new : List X) (n : ℕ) (x : X) → new ≡ old ++ x ∷ [] → length old ≡ n → ((k : ℕ) (d : X) → k < n → P k (get_or old k d)) → P n x → (k : ℕ) (d : X) → k < n + 1 → P k (get_or new k d)
each_more P old new n x is count each here k d h = elim (cases_lt k n) [
  | inl less ↦
      let shorter : k < length old = omega (arith, count) in
      subst (P k) (sym (ap (λ l. get_or l k d) is ∙ get_or_append_left old (x ∷ []) d k shorter)) (each k d less)
  | inr more ↦
      let last : k ≡ length old = omega (arith, count) in
      let at : get_or new k d ≡ x = ap (λ l. get_or l k d) is ∙ ap (λ i. get_or (old ++ x ∷ []) i d) last ∙ get_or-append_seam old x [] d in
      subst (P k) (sym at) (subst (λ i. P i x) (sym (last ∙ count)) here)
]
