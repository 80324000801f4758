-- The unused ways, by their marks.
use Rattle.std.proofs.Common.{◌≡◌, ℕ, zero, suc, ◌<◌, ◌≤◌, Bool, true, false, Some, None, List, [], ◌∷◌, length, get_or, set, replicate, refl, ap, ◌∙◌, inl, inr, arith}
use Rattle.std.proofs.lemmas.Bool.{cases_Bool, cond-true, cond-false, true≢false, false≢true}
use Rattle.tb_types.specs.declared.element.OsmId.{OsmId}
use Rattle.ring_assembly.specs.declared.way.WayShape.{WayShape}
use Rattle.ring_assembly.specs.Chains.{fits, keeping, first_fit}
use Rattle.ring_assembly.specs.Search.{unused_of, IsUsed, StaysUsed}

pub unmarked : (n : ℕ) (ways : List WayShape) → length ways ≤ n → unused_of (replicate n false) ways ≡ ways
unmarked zero [] h = refl
unmarked zero (w ∷ ways) h = absurd (omega arith)
unmarked (suc n) [] h = refl
unmarked (suc n) (w ∷ ways) h = ap (λ ws. w ∷ ws) (unmarked n ways (omega arith))

-- where all are used
pub all_used : (used : List Bool) (ways : List WayShape) → ((k : ℕ) → k < length ways → IsUsed used k) → unused_of used ways ≡ []
all_used [] ways h = refl
all_used (u ∷ used) [] h = refl
all_used (true ∷ used) (w ∷ ways) h = all_used used ways (λ k l. h (suc k) (omega arith))
all_used (false ∷ used) (w ∷ ways) h = absurd (false≢true (h 0 (omega arith)))

-- the lowest unused way, where all below are used
pub unused_first : (used : List Bool) (ways : List WayShape) (i : ℕ) (d : WayShape) → i < length ways → i < length used → ((k : ℕ) → k < i → IsUsed used k) → get_or used i true ≡ false → unused_of used ways ≡ get_or ways i d ∷ unused_of (set used i true) ways
unused_first [] ways i d h h' below e = absurd (omega arith)
unused_first (u ∷ used) [] i d h h' below e = absurd (omega arith)
unused_first (false ∷ used) (w ∷ ways) zero d h h' below e = refl
unused_first (true ∷ used) (w ∷ ways) zero d h h' below e = absurd (true≢false e)
unused_first (true ∷ used) (w ∷ ways) (suc i) d h h' below e = unused_first used ways i d (omega arith) (omega arith) (λ k l. below (suc k) (omega arith)) e
unused_first (false ∷ used) (w ∷ ways) (suc i) d h h' below e = absurd (false≢true (below 0 (omega arith)))

-- no unused way fits
pub none_fits : (node : OsmId) (used : List Bool) (ways : List WayShape) → ((k : ℕ) (d : WayShape) → k < length ways → fits node (get_or ways k d) ≡ true → IsUsed used k) → first_fit node (unused_of used ways) ≡ None
none_fits node [] ways h = refl
none_fits node (u ∷ used) [] h = refl
none_fits node (true ∷ used) (w ∷ ways) h = none_fits node used ways (λ k d l f. h (suc k) d (omega arith) f)
none_fits node (false ∷ used) (w ∷ ways) h = elim (cases_Bool (fits node w)) [
  | inl fit ↦ absurd (false≢true (h 0 w (omega arith) fit))
  | inr unfit ↦ cond-false (fits node w) _ _ unfit ∙ ap (keeping w) (none_fits node used ways (λ k d l f. h (suc k) d (omega arith) f))
]

-- the lowest unused way that fits, where all that fit below it are used
pub lowest_fits : (node : OsmId) (used : List Bool) (ways : List WayShape) (i : ℕ) (d : WayShape) → i < length ways → i < length used → get_or used i true ≡ false → fits node (get_or ways i d) ≡ true → ((k : ℕ) (e : WayShape) → k < i → fits node (get_or ways k e) ≡ true → IsUsed used k)
    → first_fit node (unused_of used ways) ≡ Some (get_or ways i d, unused_of (set used i true) ways)
lowest_fits node [] ways i d h h' e fit below = absurd (omega arith)
lowest_fits node (u ∷ used) [] i d h h' e fit below = absurd (omega arith)
lowest_fits node (true ∷ used) (w ∷ ways) zero d h h' e fit below = absurd (true≢false e)
lowest_fits node (false ∷ used) (w ∷ ways) zero d h h' e fit below = cond-true (fits node w) _ _ fit
lowest_fits node (true ∷ used) (w ∷ ways) (suc i) d h h' e fit below = lowest_fits node used ways i d (omega arith) (omega arith) e fit (λ k e' l f. below (suc k) e' (omega arith) f)
lowest_fits node (false ∷ used) (w ∷ ways) (suc i) d h h' e fit below = elim (cases_Bool (fits node w)) [
  | inl fit' ↦ absurd (false≢true (below 0 w (omega arith) fit'))
  | inr unfit ↦ cond-false (fits node w) _ _ unfit ∙ ap (keeping w) (lowest_fits node used ways i d (omega arith) (omega arith) e fit (λ k e' l f. below (suc k) e' (omega arith) f))
]

-- a mark more
set_stays : (used : List Bool) (i k : ℕ) → IsUsed used k → IsUsed (set used i true) k
set_stays [] i k h = h
set_stays (u ∷ used) zero zero h = refl
set_stays (u ∷ used) zero (suc k) h = h
set_stays (u ∷ used) (suc i) zero h = h
set_stays (u ∷ used) (suc i) (suc k) h = set_stays used i k h

pub marked : (used : List Bool) (i : ℕ) → StaysUsed used (set used i true)
marked used i = record { at = set_stays used i }

pub marked_itself : (used : List Bool) (i : ℕ) → IsUsed (set used i true) i
marked_itself [] i = refl
marked_itself (u ∷ used) zero = refl
marked_itself (u ∷ used) (suc i) = marked_itself used i
