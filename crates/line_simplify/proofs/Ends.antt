-- What the points that a path keeps have in common with the path.
use Rattle.std.proofs.Common.{◌≡◌, ℕ, zero, suc, ◌+◌, ◌-◌, ◌<◌, ◌≤◌, Option, Some, None, List, [], ◌∷◌, ◌++◌, length, take, drop, All, slice_get, get_or, length-take, length-drop, length-append, refl, sym, ap, ◌∙◌, arith}
use Rattle.std.proofs.lemmas.List.Elements.{All-nil, All-cons, All-head, All-tail, All-append, All-take, All-drop, All-get_or}
use Rattle.tb_types.specs.declared.location.Grid.{Grid}
use Rattle.line_simplify.specs.Rule.{split_of, point, if_split, kept, simplified}
use Rattle.line_simplify.proofs.Parts.{split_within}

pub short : (t : ℕ) (path : List Grid) → length path ≤ 2 → simplified t path ≡ path
unfolding simplified kept
short t [] h = refl
short t (a ∷ []) h = refl
short t (a ∷ p ∷ []) h = refl
short t (a ∷ p ∷ q ∷ ps) h = absurd (omega arith)

pub first : (t : ℕ) (path : List Grid) → slice_get (simplified t path) 0 ≡ slice_get path 0
unfolding simplified
first t [] = refl
first t (a ∷ []) = refl
first t (a ∷ p ∷ ps) = refl

get_last : (xs : List Grid) (b : Grid) → slice_get (xs ++ b ∷ []) (length xs) ≡ Some b
get_last [] b = refl
get_last (x ∷ xs) b = get_last xs b

get_at : (xs : List Grid) (i : ℕ) (d : Grid) → i < length xs → slice_get xs i ≡ Some (get_or xs i d)
get_at [] i d h = absurd (omega arith)
get_at (x ∷ xs) zero d h = refl
get_at (x ∷ xs) (suc i) d h = get_at xs i d (omega arith)

last_of : (a : Grid) (xs : List Grid) (b : Grid) → slice_get (a ∷ (xs ++ b ∷ [])) (length (a ∷ (xs ++ b ∷ [])) - 1) ≡ Some b
last_of a xs b =
    let place : length (a ∷ (xs ++ b ∷ [])) - 1 ≡ suc (length xs) = omega (arith, length-append xs (b ∷ [])) in
    ap (λ n. slice_get (a ∷ (xs ++ b ∷ [])) n) place ∙ get_last xs b

pub last : (t : ℕ) (path : List Grid) → slice_get (simplified t path) (length (simplified t path) - 1) ≡ slice_get path (length path - 1)
unfolding simplified
last t [] = refl
last t (a ∷ []) = refl
last t (a ∷ p ∷ ps) =
    let b = point (p ∷ ps) (length ps) in
    let place : suc (suc (length ps)) - 1 ≡ suc (length ps) = omega arith in
    last_of a (kept (length ps) t a (take (length ps) (p ∷ ps)) b) b ∙ sym (ap (λ n. slice_get (a ∷ p ∷ ps) n) place ∙ get_at (p ∷ ps) (length ps) _ (omega arith))

pub line : (t : ℕ) (path : List Grid) → 2 ≤ length path → 2 ≤ length (simplified t path)
unfolding simplified
line t [] h = absurd (omega arith)
line t (a ∷ []) h = absurd (omega arith)
line t (a ∷ p ∷ ps) h =
    let b = point (p ∷ ps) (length ps) in
    omega (arith, length-append (kept (length ps) t a (take (length ps) (p ∷ ps)) b) (b ∷ []))

sides_fewer : (most t : ℕ) (a : Grid) (ps : List Grid) (b : Grid) (o : Option ℕ) → split_of t a ps b ≡ o → ((c : Grid) (qs : List Grid) (d : Grid) → length (kept most t c qs d) ≤ length qs)
    → length (if_split o (λ at. kept most t a (take at ps) (point ps at) ++ point ps at ∷ kept most t (point ps at) (drop (at + 1) ps) b)) ≤ length ps
sides_fewer most t a ps b None e fewer = omega arith
sides_fewer most t a ps b (Some at) e fewer =
    let p = point ps at in
    let right = drop (at + 1) ps in
    omega (arith, split_within t a ps b at e, length-append (kept most t a (take at ps) p) (p ∷ kept most t p right b), fewer a (take at ps) p, fewer p right b, length-take at ps, length-drop (at + 1) ps)

kept_fewer : (most t : ℕ) (a : Grid) (ps : List Grid) (b : Grid) → length (kept most t a ps b) ≤ length ps
unfolding kept
kept_fewer zero t a ps b = omega arith
kept_fewer (suc most) t a ps b = sides_fewer most t a ps b (split_of t a ps b) refl (λ c qs d. kept_fewer most t c qs d)

pub fewer : (t : ℕ) (path : List Grid) → length (simplified t path) ≤ length path
unfolding simplified
fewer t [] = omega arith
fewer t (a ∷ []) = omega arith
fewer t (a ∷ p ∷ ps) =
    let b = point (p ∷ ps) (length ps) in
    let between = take (length ps) (p ∷ ps) in
    omega (arith, length-append (kept (length ps) t a between b) (b ∷ []), kept_fewer (length ps) t a between b, length-take (length ps) (p ∷ ps))

-- What holds of each point of a path holds of each that it keeps.
module _ (P : Grid → Type 0) where
  sides_all : (most t : ℕ) (a : Grid) (ps : List Grid) (b : Grid) (o : Option ℕ) → split_of t a ps b ≡ o → All P ps → ((c : Grid) (qs : List Grid) (d : Grid) → All P qs → All P (kept most t c qs d))
      → All P (if_split o (λ at. kept most t a (take at ps) (point ps at) ++ point ps at ∷ kept most t (point ps at) (drop (at + 1) ps) b))
  sides_all most t a ps b None e all keeps = All-nil P
  sides_all most t a ps b (Some at) e all keeps =
      let p = point ps at in
      let right = drop (at + 1) ps in
      All-append P (kept most t a (take at ps) p) (p ∷ kept most t p right b) (keeps a (take at ps) p (All-take P at ps all)) (All-cons P p (kept most t p right b) (All-get_or P ps at _ (split_within t a ps b at e) all) (keeps p right b (All-drop P (at + 1) ps all)))

  kept_all : (most t : ℕ) (a : Grid) (ps : List Grid) (b : Grid) → All P ps → All P (kept most t a ps b)
  unfolding kept
  kept_all zero t a ps b all = All-nil P
  kept_all (suc most) t a ps b all = sides_all most t a ps b (split_of t a ps b) refl all (λ c qs d h. kept_all most t c qs d h)

  pub simplified_all : (t : ℕ) (path : List Grid) → All P path → All P (simplified t path)
  unfolding simplified
  simplified_all t [] all = all
  simplified_all t (a ∷ []) all = all
  simplified_all t (a ∷ p ∷ ps) all =
      let b = point (p ∷ ps) (length ps) in
      let between = take (length ps) (p ∷ ps) in
      let rest = All-tail P a (p ∷ ps) all in
      let end = All-cons P b [] (All-get_or P (p ∷ ps) (length ps) _ (omega arith) rest) (All-nil P) in
      All-cons P a (kept (length ps) t a between b ++ b ∷ []) (All-head P a (p ∷ ps) all) (All-append P (kept (length ps) t a between b) (b ∷ []) (kept_all (length ps) t a between b (All-take P (length ps) (p ∷ ps) rest)) end)
