-- The greater of two values is a join, where the order is total and tells values apart.
use Rattle.std.proofs.Common.{◌≡◌, Bool, true, false, true≢false, ap, sym, ◌∙◌, refl, if◌then◌else◌, Option, Some, None, Ordering, Less, Equal, Greater, is_lt, arith}
use Rattle.std.specs.Ordering.{nat_cmp, ordering_then, ordering_reverse}
use Rattle.std.specs.Option.{option_cmp}
use Rattle.std.specs.Cmp.{IsTotalOrder, nat_cmp_total, on_total, then_total}
use Rattle.std.proofs.lemmas.Bool.Decides.{nat_tests}
use Rattle.tb_types.specs.declared.element.Place.{Place}
use Rattle.tb_types.specs.declared.location.World.{World}
use Rattle.tb_types.specs.Orders.{place_order}
use Rattle.node_store.specs.Order.{greater, world_order}

-- by cases on a test
by_test : {P : Type 0} (b : Bool) → (b ≡ true → P) → (b ≡ false → P) → P
by_test true f g = f refl
by_test false f g = g refl

-- values that the order doesn't tell apart are one
abbrev pub IsExact : {A : Type 0} → (A → A → Ordering) → Type 0
IsExact order = (x y : _) → order x y ≡ Equal → x ≡ y

nat_exact : IsExact nat_cmp
nat_exact x y e = grind (arith, nat_tests)

pub both_equal : (p q : Ordering) → ordering_then p q ≡ Equal → (p ≡ Equal) × (q ≡ Equal)
both_equal Equal q e = (refl, e)
both_equal Less q e = cc
both_equal Greater q e = cc

pub place_exact : IsExact place_order
place_exact p q e =
    let parts = both_equal (nat_cmp p.block q.block) (nat_cmp p.index q.index) e in
    λ i. record { block = nat_exact p.block q.block parts.0 i; index = nat_exact p.index q.index parts.1 i }

pub world_exact : IsExact world_order
world_exact p q e =
    let parts = both_equal (nat_cmp p.x q.x) (nat_cmp p.y q.y) e in
    λ i. record { x = nat_exact p.x q.x parts.0 i; y = nat_exact p.y q.y parts.1 i }

pub option_exact : {A : Type 0} (order : A → A → Ordering) → IsExact order → (x y : Option A) → option_cmp order x y ≡ Equal → x ≡ y
option_exact order exact None None e = refl
option_exact order exact None (Some y) e = cc
option_exact order exact (Some x) None e = cc
option_exact order exact (Some x) (Some y) e = ap Some (exact x y e)

pub place_total : IsTotalOrder place_order
place_total = then_total (on_total (λ (p : Place). p.block) nat_cmp_total) (on_total (λ (p : Place). p.index) nat_cmp_total)

pub world_total : IsTotalOrder world_order
world_total = then_total (on_total (λ (p : World). p.x) nat_cmp_total) (on_total (λ (p : World). p.y) nat_cmp_total)

pub less_is : (o : Ordering) → is_lt o ≡ true → o ≡ Less
less_is Less e = refl
less_is Equal e = cc
less_is Greater e = cc

module _ {A : Type 0} (order : A → A → Ordering) (total : IsTotalOrder order) (exact : IsExact order) where
  back : (x y : A) (o : Ordering) → order x y ≡ o → order y x ≡ ordering_reverse o
  back x y o e = total.antisymm y x ∙ ap ordering_reverse e

  pub second : (x y : A) → is_lt (order x y) ≡ true → greater order x y ≡ y
  second x y less = ap (λ b. if b then y else x) less

  pub first : (x y : A) → is_lt (order x y) ≡ false → greater order x y ≡ x
  first x y apart = ap (λ b. if b then y else x) apart

  commutes : (x y : A) (o : Ordering) → order x y ≡ o → greater order x y ≡ greater order y x
  commutes x y Less e = second x y (ap is_lt e) ∙ sym (first y x (ap is_lt (back x y Less e)))
  commutes x y Equal e = first x y (ap is_lt e) ∙ exact x y e ∙ sym (first y x (ap is_lt (back x y Equal e)))
  commutes x y Greater e = first x y (ap is_lt e) ∙ sym (second y x (ap is_lt (back x y Greater e)))

  pub greater_commutes : (x y : A) → greater order x y ≡ greater order y x
  greater_commutes x y = commutes x y (order x y) refl

  -- what isn't below y, which isn't below z, isn't below z
  pub not_below : (x y z : A) → is_lt (order x y) ≡ false → is_lt (order y z) ≡ false → is_lt (order x z) ≡ false
  not_below x y z apart least = go (order x y) (order x z) refl refl
    where
      go : (o p : Ordering) → order x y ≡ o → order x z ≡ p → is_lt (order x z) ≡ false
      go o Equal e f = ap is_lt f
      go o Greater e f = ap is_lt f
      go Less Less e f = absurd (true≢false (sym (ap is_lt e) ∙ apart))
      go Equal Less e f = absurd (true≢false (sym (ap is_lt (sym (total.congr x y z e) ∙ f)) ∙ least))
      go Greater Less e f = absurd (true≢false (sym (ap is_lt (total.trans y x z (back x y Greater e) f)) ∙ least))

  pub greater_associates : (x y z : A) → greater order (greater order x y) z ≡ greater order x (greater order y z)
  greater_associates x y z =
      by_test (is_lt (order x y))
      (λ less.
      ap (λ a. greater order a z) (second x y less)
      ∙ by_test (is_lt (order y z))
      (λ more. second y z more ∙ sym (ap (greater order x) (second y z more) ∙ second x z (ap is_lt (total.trans x y z (less_is (order x y) less) (less_is (order y z) more)))))
      (λ most. first y z most ∙ sym (ap (greater order x) (first y z most) ∙ second x y less)))
      (λ apart.
      ap (λ a. greater order a z) (first x y apart)
      ∙ by_test (is_lt (order y z))
      (λ more. ap (greater order x) (sym (second y z more)))
      (λ most. first x z (not_below x y z apart most) ∙ sym (ap (greater order x) (first y z most) ∙ first x y apart)))

  -- nothing is below itself
  pub not_itself : (x : A) → is_lt (order x x) ≡ false
  not_itself x = go (order x x) (total.antisymm x x)
    where
      go : (o : Ordering) → o ≡ ordering_reverse o → is_lt o ≡ false
      go Less e = absurd (true≢false (ap is_lt e))
      go Equal e = refl
      go Greater e = refl

  pub greater_repeats : (x : A) → greater order x x ≡ x
  greater_repeats x = first x x (not_itself x)
