-- What one turn adds to a chain, and one chain to the rings.
use Rattle.std.proofs.Common.{◌≡◌, ℕ, zero, suc, ◌-◌, true, false, Some, None, List, [], ◌∷◌, ◌++◌, length, take, refl, sym, ap, ◌∙◌, append_assoc, inl, inr}
use Rattle.std.specs.List.{cons_option}
use Rattle.std.proofs.lemmas.Bool.{cases_Bool, cond-true, cond-false}
use Rattle.tb_types.specs.declared.location.World.{World}
use Rattle.ring_assembly.specs.declared.way.WayShape.{WayShape}
use Rattle.ring_assembly.specs.Rings.{clean_ring}
use Rattle.ring_assembly.specs.Chains.{Chain, is_closed, chain_of, extended, first_fit, grown, ring_of, rings_of}
use Rattle.ring_assembly.specs.Search.{closed_points}
use Rattle.ring_assembly.proofs.Growing.{grown_closed, grown_alone, grown_step, rings_step}

-- the chain so far and its unused ways, and what the first way becomes
module _ (chain : Chain) (unused : List WayShape) (whole : Chain × List WayShape) (told : grown (length unused) chain unused ≡ whole) where
  pub closed_rest : is_closed chain ≡ true → unused ≡ whole.1
  closed_rest e = ap (λ (x : Chain × List WayShape). x.1) (sym (grown_closed (length unused) chain unused e) ∙ told)

  pub closed_told : is_closed chain ≡ true → Some chain.points ≡ closed_points whole.0
  closed_told e = sym (cond-true (is_closed chain) (Some chain.points) None e) ∙ ap (λ (x : Chain × List WayShape). closed_points x.0) (sym (grown_closed (length unused) chain unused e) ∙ told)

  pub alone_rest : first_fit chain.end unused ≡ None → unused ≡ whole.1
  alone_rest e = ap (λ (x : Chain × List WayShape). x.1) (sym (grown_alone (length unused) chain unused e) ∙ told)

  pub alone_told : first_fit chain.end unused ≡ None → is_closed chain ≡ false → None ≡ closed_points whole.0
  alone_told e wide = sym (cond-false (is_closed chain) (Some chain.points) None wide) ∙ ap (λ (x : Chain × List WayShape). closed_points x.0) (sym (grown_alone (length unused) chain unused e) ∙ told)

  pub extended_told : (way : WayShape) (rest : List WayShape) (next : Chain) → is_closed chain ≡ false → first_fit chain.end unused ≡ Some (way, rest) → next ≡ extended chain way → grown (length rest) next rest ≡ whole
  extended_told way rest next wide e is = ap (λ ch. grown (length rest) ch rest) is ∙ sym (grown_step chain unused way rest wide e) ∙ told

-- the ring of a chain, by its points
pub ring_open : (chain : Chain) → None ≡ closed_points chain → ring_of chain ≡ None
unfolding ring_of
ring_open chain e = elim (cases_Bool (is_closed chain)) [
  | inl closed ↦ let absurd_is : None ≡ Some chain.points = e ∙ cond-true (is_closed chain) (Some chain.points) None closed in absurd (cc)
  | inr wide ↦ cond-false (is_closed chain) _ _ wide
]

pub ring_closed : (chain : Chain) (points : List World) → Some points ≡ closed_points chain → ring_of chain ≡ clean_ring (take (length points - 1) points)
unfolding ring_of
ring_closed chain points e = elim (cases_Bool (is_closed chain)) [
  | inl closed ↦
      let some : Some points ≡ Some chain.points = e ∙ cond-true (is_closed chain) (Some chain.points) None closed in
      let same : points ≡ chain.points = cc in
      cond-true (is_closed chain) _ _ closed ∙ ap (λ ps. clean_ring (take (length ps - 1) ps)) (sym same)
  | inr wide ↦ let absurd_is : Some points ≡ None = e ∙ cond-false (is_closed chain) (Some chain.points) None wide in absurd (cc)
]

-- the rings so far and those of the unused ways, after the first of these has had its chain
module _ (rings more : List (List World)) (way : WayShape) (unused rest left : List WayShape) (first : unused ≡ way ∷ rest) (leaves : left ≡ (grown (length rest) (chain_of way) rest).1) where
  all_rings : rings ++ rings_of (length unused) unused ≡ rings ++ cons_option (ring_of (grown (length rest) (chain_of way) rest).0) (rings_of (length left) left)
  all_rings =
      ap (λ u. rings ++ rings_of (length u) u) first ∙ ap (λ l. rings ++ l) (rings_step way rest)
      ∙ ap (λ u. rings ++ cons_option (ring_of (grown (length rest) (chain_of way) rest).0) (rings_of (length u) u)) (sym leaves)

  pub one_ring : (ring : List World) → ring_of (grown (length rest) (chain_of way) rest).0 ≡ Some ring → more ≡ rings ++ ring ∷ [] → more ++ rings_of (length left) left ≡ rings ++ rings_of (length unused) unused
  one_ring ring is list =
      ap (λ l. l ++ rings_of (length left) left) list ∙ append_assoc rings (ring ∷ []) (rings_of (length left) left)
      ∙ sym (all_rings ∙ ap (λ o. rings ++ cons_option o (rings_of (length left) left)) is)

  pub no_ring : ring_of (grown (length rest) (chain_of way) rest).0 ≡ None → more ≡ rings → more ++ rings_of (length left) left ≡ rings ++ rings_of (length unused) unused
  no_ring is list = ap (λ l. l ++ rings_of (length left) left) list ∙ sym (all_rings ∙ ap (λ o. rings ++ cons_option o (rings_of (length left) left)) is)

-- no way gives no ring
rings_none : (n : ℕ) → rings_of n [] ≡ []
unfolding rings_of
rings_none zero = refl
rings_none (suc n) = refl

pub no_rings : (n : ℕ) (unused : List WayShape) → unused ≡ [] → rings_of n unused ≡ []
no_rings n unused e = ap (rings_of n) e ∙ rings_none n
