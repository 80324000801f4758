-- The least vertex of a ring.
use Rattle.std.proofs.Common.{◌≡◌, ℕ, zero, suc, ◌+◌, ◌<◌, ◌≤◌, true, false, cond, List, [], ◌∷◌, length, length-drop, drop, get_or, pos, refl, sym, ap, ◌∙◌, arith}
use Rattle.std.proofs.lemmas.List.{drop_more}
use Rattle.tb_types.specs.declared.location.Grid.{Grid}
use Rattle.strip_clip.specs.Cleaning.{precedes, least, place_of_least}

abbrev pub point : List Grid → ℕ → Grid
point xs i = get_or xs i (record { x = pos 0; y = pos 0 })

-- the least of a list that isn't empty
abbrev pub least_in : List Grid → Grid
least_in [] = record { x = pos 0; y = pos 0 }
least_in (p ∷ rest) = least p rest

stays_place : (x : Grid) (ys : List Grid) → 0 < length ys → precedes (least_in ys) x ≡ true → (place_of_least (x ∷ ys) ≡ place_of_least ys + 1) × (least_in (x ∷ ys) ≡ least_in ys)
stays_place x [] h e = absurd (omega arith)
stays_place x (q ∷ rest) h e = (ap (λ t. cond t (place_of_least (q ∷ rest) + 1) 0) e, ap (λ t. cond t (least q rest) x) e)

takes_place : (x : Grid) (ys : List Grid) → 0 < length ys → precedes (least_in ys) x ≡ false → (place_of_least (x ∷ ys) ≡ 0) × (least_in (x ∷ ys) ≡ x)
takes_place x [] h e = absurd (omega arith)
takes_place x (q ∷ rest) h e = (ap (λ t. cond t (place_of_least (q ∷ rest) + 1) 0) e, ap (λ t. cond t (least q rest) x) e)

pub record IsLeastFrom (ring : List Grid) (at best : ℕ) : Type 0 where
  pub place : best ≡ at + place_of_least (drop at ring)
  pub point_is : point ring best ≡ least_in (drop at ring)
  pub within : best < length ring
  pub at_within : at < length ring

pub least_start : (ring : List Grid) (at : ℕ) → at + 1 ≡ length ring → IsLeastFrom ring at at
least_start ring at h =
    let one = drop_more ring at (record { x = pos 0; y = pos 0 }) (omega arith) in
    let end : drop (at + 1) ring ≡ [] = none ring (at + 1) (omega arith) in
    let all : drop at ring ≡ point ring at ∷ [] = one ∙ ap (λ xs. point ring at ∷ xs) end in
    record {
      place = rw all (omega arith);
      point_is = rw all refl;
      within = omega arith;
      at_within = omega arith;
    }
  where
    none : (xs : List Grid) (n : ℕ) → length xs ≤ n → drop n xs ≡ []
    none [] zero k = refl
    none [] (suc n) k = refl
    none (x ∷ xs) zero k = absurd (omega arith)
    none (x ∷ xs) (suc n) k = none xs n (omega arith)

module _ (ring : List Grid) (before at best : ℕ) (step : before ≡ at + 1) (is : IsLeastFrom ring before best) where
  left : drop at ring ≡ point ring at ∷ drop before ring
  left = drop_more ring at (record { x = pos 0; y = pos 0 }) (omega (arith, is.at_within)) ∙ ap (λ n. point ring at ∷ drop n ring) (sym step)

  some_left : 0 < length (drop before ring)
  some_left = omega (arith, length-drop before ring, is.at_within)

  pub least_stays : precedes (point ring best) (point ring at) ≡ true → IsLeastFrom ring at best
  least_stays e =
      let both = stays_place (point ring at) (drop before ring) some_left (sym (ap (λ p. precedes p (point ring at)) is.point_is) ∙ e) in
      record {
        place = rw left (omega (arith, both.0, is.place));
        point_is = rw left (is.point_is ∙ sym both.1);
        within = is.within;
        at_within = omega (arith, is.at_within);
      }

  pub least_taken : precedes (point ring best) (point ring at) ≡ false → IsLeastFrom ring at at
  least_taken e =
      let both = takes_place (point ring at) (drop before ring) some_left (sym (ap (λ p. precedes p (point ring at)) is.point_is) ∙ e) in
      record {
        place = rw left (omega (arith, both.0));
        point_is = rw left (sym both.1);
        within = omega (arith, is.at_within);
        at_within = omega (arith, is.at_within);
      }
