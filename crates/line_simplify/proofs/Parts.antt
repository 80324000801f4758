-- What is kept in a part, without a count of turns, and by places of the path.
use Rattle.std.proofs.Common.{◌≡◌, ℕ, zero, suc, ◌+◌, ◌*◌, ◌<◌, ◌≤◌, max, Option, Some, None, List, [], ◌∷◌, ◌++◌, map, length, take, drop, length-take, length-drop, refl, sym, ap, ◌∙◌, arith}
use Rattle.std.proofs.lemmas.List.{length-map}
use Rattle.tb_types.specs.declared.location.Grid.{Grid}
use Rattle.line_simplify.specs.Key.{distance_of, key_of}
use Rattle.line_simplify.specs.Rule.{split_of, point, if_split, kept}
use Rattle.line_simplify.proofs.Greatest.{found_within, found_none}

pub split_within : (t : ℕ) (a : Grid) (ps : List Grid) (b : Grid) (at : ℕ) → split_of t a ps b ≡ Some at → at < length ps
unfolding split_of
split_within t a ps b at e = omega (arith, found_within (t * t * max (distance_of a b) 1) (map (key_of a b) ps) at e, length-map ps (key_of a b))

split_none : (t : ℕ) (a b : Grid) → split_of t a [] b ≡ None
unfolding split_of
split_none t a b = found_none (t * t * max (distance_of a b) 1)

-- both sides of the point at a place
abbrev sides : ℕ → ℕ → Grid → List Grid → Grid → ℕ → List Grid
sides most t a ps b at = kept most t a (take at ps) (point ps at) ++ point ps at ∷ kept most t (point ps at) (drop (at + 1) ps) b

kept_at : (most t : ℕ) (a : Grid) (ps : List Grid) (b : Grid) (o : Option ℕ) → split_of t a ps b ≡ o → kept (suc most) t a ps b ≡ if_split o (sides most t a ps b)
unfolding kept
kept_at most t a ps b o e = ap (λ s. if_split s (sides most t a ps b)) e

kept_zero : (t : ℕ) (a : Grid) (ps : List Grid) (b : Grid) → kept zero t a ps b ≡ []
unfolding kept
kept_zero t a ps b = refl

-- nothing is between two points that follow on each other
kept_nil : (most t : ℕ) (a b : Grid) → kept most t a [] b ≡ []
kept_nil zero t a b = kept_zero t a [] b
kept_nil (suc most) t a b = kept_at most t a [] b None (split_none t a b)

abbrev SameKept : ℕ → ℕ → ℕ → Type 0
SameKept m n t = (a : Grid) (ps : List Grid) (b : Grid) → length ps ≤ m → length ps ≤ n → kept m t a ps b ≡ kept n t a ps b

same_sides : (m n t : ℕ) (a : Grid) (ps : List Grid) (b : Grid) (o : Option ℕ) → split_of t a ps b ≡ o → SameKept m n t → length ps ≤ suc m → length ps ≤ suc n → kept (suc m) t a ps b ≡ kept (suc n) t a ps b
same_sides m n t a ps b None e same h k = kept_at m t a ps b None e ∙ sym (kept_at n t a ps b None e)
same_sides m n t a ps b (Some at) e same h k =
    let p = point ps at in
    let within = split_within t a ps b at e in
    let left = same a (take at ps) p (omega (arith, length-take at ps)) (omega (arith, length-take at ps)) in
    let right = same p (drop (at + 1) ps) b (omega (arith, length-drop (at + 1) ps)) (omega (arith, length-drop (at + 1) ps)) in
    let both : sides m t a ps b at ≡ sides n t a ps b at = ap (λ xs. xs ++ p ∷ kept m t p (drop (at + 1) ps) b) left ∙ ap (λ ys. kept n t a (take at ps) p ++ p ∷ ys) right in
    kept_at m t a ps b (Some at) e ∙ both ∙ sym (kept_at n t a ps b (Some at) e)

none_left : (n t : ℕ) (a : Grid) (ps : List Grid) (b : Grid) → length ps ≤ zero → kept zero t a ps b ≡ kept n t a ps b
none_left n t a [] b h = kept_zero t a [] b ∙ sym (kept_nil n t a b)
none_left n t a (p ∷ ps) b h = absurd (omega arith)

-- more turns than points change nothing
pub same_kept : (m n t : ℕ) → SameKept m n t
same_kept zero n t a ps b h k = none_left n t a ps b h
same_kept (suc m) zero t a ps b h k = sym (none_left (suc m) t a ps b k)
same_kept (suc m) (suc n) t a ps b h k = same_sides m n t a ps b (split_of t a ps b) refl (same_kept m n t) h k

-- the points that are kept between two ends
abbrev pub inner : ℕ → Grid → List Grid → Grid → List Grid
inner t a ps b = kept (length ps) t a ps b

pub inner_whole : (t : ℕ) (a : Grid) (ps : List Grid) (b : Grid) → split_of t a ps b ≡ None → inner t a ps b ≡ []
inner_whole t a [] b e = kept_nil zero t a b
inner_whole t a (p ∷ ps) b e = kept_at (length ps) t a (p ∷ ps) b None e

pub inner_split : (t : ℕ) (a : Grid) (ps : List Grid) (b : Grid) (at : ℕ) → split_of t a ps b ≡ Some at → inner t a ps b ≡ inner t a (take at ps) (point ps at) ++ point ps at ∷ inner t (point ps at) (drop (at + 1) ps) b
inner_split t a [] b at e = absurd (omega (arith, split_within t a [] b at e))
inner_split t a (q ∷ qs) b at e =
    let ps : List Grid = q ∷ qs in
    let p = point ps at in
    let within = split_within t a ps b at e in
    let left = same_kept (length qs) (length (take at ps)) t a (take at ps) p (omega (arith, length-take at ps)) (omega arith) in
    let right = same_kept (length qs) (length (drop (at + 1) ps)) t p (drop (at + 1) ps) b (omega (arith, length-drop (at + 1) ps)) (omega arith) in
    kept_at (length qs) t a ps b (Some at) e ∙ ap (λ xs. xs ++ p ∷ kept (length qs) t p (drop (at + 1) ps) b) left ∙ ap (λ ys. inner t a (take at ps) p ++ p ∷ ys) right
