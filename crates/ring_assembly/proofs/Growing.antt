-- Chains that grow, and how many ways they leave.
use Rattle.std.proofs.Common.{◌≡◌, ℕ, zero, suc, ◌≤◌, Bool, true, false, cond, Option, Some, None, List, [], ◌∷◌, length, refl, ap, ◌∙◌, inl, inr, le_refl, arith}
use Rattle.std.proofs.lemmas.Bool.{cases_Bool, cond-true, cond-false}
use Rattle.std.specs.List.{cons_option}
use Rattle.tb_types.specs.declared.element.OsmId.{OsmId}
use Rattle.ring_assembly.specs.declared.way.WayShape.{WayShape}
use Rattle.ring_assembly.specs.Chains.{Chain, is_closed, chain_of, fits, extended, keeping, first_fit, if_found, grown, ring_of, rings_of}

-- a way that was found is one of those it was looked for among
pub found_one : (node : OsmId) (unused : List WayShape) (way : WayShape) (rest : List WayShape) → first_fit node unused ≡ Some (way, rest) → length unused ≡ suc (length rest)
found_one node [] way rest e = absurd (cc)
found_one node (w ∷ ws) way rest e = here (fits node w) (first_fit node ws) (λ v r h. found_one node ws v r h) e
  where
    here : (b : Bool) (later : Option (WayShape × List WayShape)) → ((v : WayShape) (r : List WayShape) → later ≡ Some (v, r) → length ws ≡ suc (length r)) → cond b (Some (w, ws)) (keeping w later) ≡ Some (way, rest) → suc (length ws) ≡ suc (length rest)
    here true later h e = let pair : (w, ws) ≡ (way, rest) = cc in ap (λ (x : WayShape × List WayShape). suc (length x.1)) pair
    here false None h e = absurd (cc)
    here false (Some found) h e =
        let pair : (found.0, w ∷ found.1) ≡ (way, rest) = cc in
        ap suc (h found.0 found.1 refl) ∙ ap (λ (x : WayShape × List WayShape). suc (length x.1)) pair

-- a chain that is closed, or has no way behind it, stays as it is
pub grown_closed : (most : ℕ) (chain : Chain) (unused : List WayShape) → is_closed chain ≡ true → grown most chain unused ≡ (chain, unused)
unfolding grown
grown_closed zero chain unused e = refl
grown_closed (suc most) chain unused e = cond-true (is_closed chain) _ _ e

pub grown_alone : (most : ℕ) (chain : Chain) (unused : List WayShape) → first_fit chain.end unused ≡ None → grown most chain unused ≡ (chain, unused)
unfolding grown
grown_alone zero chain unused e = refl
grown_alone (suc most) chain unused e = elim (cases_Bool (is_closed chain)) [
  | inl closed ↦ cond-true (is_closed chain) _ _ closed
  | inr wide ↦ cond-false (is_closed chain) _ _ wide ∙ ap (λ o. if_found o (chain, unused) (λ way rest. grown most (extended chain way) rest)) e
]

-- one more way
pub grown_more : (most : ℕ) (chain : Chain) (unused : List WayShape) (way : WayShape) (rest : List WayShape) → is_closed chain ≡ false → first_fit chain.end unused ≡ Some (way, rest) → grown (suc most) chain unused ≡ grown most (extended chain way) rest
unfolding grown
grown_more most chain unused way rest wide e = cond-false (is_closed chain) _ _ wide ∙ ap (λ o. if_found o (chain, unused) (λ way rest. grown most (extended chain way) rest)) e

-- as many turns as there are unused ways
pub grown_step : (chain : Chain) (unused : List WayShape) (way : WayShape) (rest : List WayShape) → is_closed chain ≡ false → first_fit chain.end unused ≡ Some (way, rest) → grown (length unused) chain unused ≡ grown (length rest) (extended chain way) rest
grown_step chain unused way rest wide e = ap (λ n. grown n chain unused) (found_one chain.end unused way rest e) ∙ grown_more (length rest) chain unused way rest wide e

found_fewer : (most : ℕ) (chain : Chain) (unused : List WayShape) (found : Option (WayShape × List WayShape)) → first_fit chain.end unused ≡ found → ((way : WayShape) (rest : List WayShape) → length (grown most (extended chain way) rest).1 ≤ length rest)
    → length (if_found found (chain, unused) (λ way rest. grown most (extended chain way) rest)).1 ≤ length unused
found_fewer most chain unused None e h = le_refl (length unused)
found_fewer most chain unused (Some found) e h = omega (arith, h found.0 found.1, found_one chain.end unused found.0 found.1 e)

-- what a chain leaves is no more than there was
pub grown_fewer : (most : ℕ) (chain : Chain) (unused : List WayShape) → length (grown most chain unused).1 ≤ length unused
unfolding grown
grown_fewer zero chain unused = le_refl (length unused)
grown_fewer (suc most) chain unused = elim (cases_Bool (is_closed chain)) [
  | inl closed ↦ omega (arith, ap (λ (x : Chain × List WayShape). length x.1) (cond-true (is_closed chain) (chain, unused) (if_found (first_fit chain.end unused) (chain, unused) (λ way rest. grown most (extended chain way) rest)) closed))
  | inr wide ↦ omega (arith, ap (λ (x : Chain × List WayShape). length x.1) (cond-false (is_closed chain) (chain, unused) (if_found (first_fit chain.end unused) (chain, unused) (λ way rest. grown most (extended chain way) rest)) wide), found_fewer most chain unused (first_fit chain.end unused) refl (λ way rest. grown_fewer most (extended chain way) rest))
]

-- more turns than ways change nothing
pub rings_enough : (m n : ℕ) (unused : List WayShape) → length unused ≤ m → length unused ≤ n → rings_of m unused ≡ rings_of n unused
unfolding rings_of
rings_enough zero zero unused h k = refl
rings_enough zero (suc n) [] h k = refl
rings_enough zero (suc n) (w ∷ ws) h k = absurd (omega arith)
rings_enough (suc m) zero [] h k = refl
rings_enough (suc m) zero (w ∷ ws) h k = absurd (omega arith)
rings_enough (suc m) (suc n) [] h k = refl
rings_enough (suc m) (suc n) (w ∷ ws) h k =
    let fewer = grown_fewer (length ws) (chain_of w) ws in
    let left = (grown (length ws) (chain_of w) ws).1 in
    let more : length ws ≤ m = omega arith in
    let more' : length ws ≤ n = omega arith in
    ap (λ l. cons_option (ring_of (grown (length ws) (chain_of w) ws).0) l) (rings_enough m n left (omega (arith, fewer)) (omega (arith, fewer)))

-- the first unused way's chain, and what it leaves
pub rings_step : (way : WayShape) (unused : List WayShape) → rings_of (length (way ∷ unused)) (way ∷ unused) ≡ cons_option (ring_of (grown (length unused) (chain_of way) unused).0) (rings_of (length (grown (length unused) (chain_of way) unused).1) (grown (length unused) (chain_of way) unused).1)
unfolding rings_of
rings_step way unused =
    let left = (grown (length unused) (chain_of way) unused).1 in
    ap (λ l. cons_option (ring_of (grown (length unused) (chain_of way) unused).0) l) (rings_enough (length unused) (length left) left (grown_fewer (length unused) (chain_of way) unused) (le_refl (length left)))
