-- The greater of two ways is a join.
use Rattle.std.proofs.Common.{◌≡◌, ◌<ℤ◌, [], ◌∷◌, refl, subst, Ordering}
use Rattle.std.specs.Ordering.{int_cmp, ordering_then, MatchOrdering}
use Rattle.std.specs.Option.{option_cmp}
use Rattle.std.specs.Cmp.{IsTotalOrder, int_ranks, int_cmp_total, on_total, then_total}
use Rattle.std.specs.Cmp.Lexicographic.{slice_cmp, lists_total, options_total}
use Rattle.tb_types.specs.Orders.{place_order}
use Rattle.ring_assembly.specs.declared.way.WayShape.{WayShape}
use Rattle.node_store.specs.declared.shaped.Shaped.{Shaped}
use Rattle.node_store.specs.Order.{world_order, way_order, shaped_order, shaped_join}
use Rattle.node_store.specs.Laws.{IsExact, both_equal, option_exact, place_exact, place_total, world_exact, world_total, greater_commutes, greater_associates, greater_repeats}

int_exact : IsExact int_cmp
int_exact x y e = subst (λ r. MatchOrdering r (x <ℤ y) (x ≡ y) (y <ℤ x)) e (int_ranks x y)

list_exact : {A : Type 0} (order : A → A → Ordering) → IsExact order → IsExact (slice_cmp order)
list_exact order exact [] [] e = refl
list_exact order exact [] (y ∷ ys) e = cc
list_exact order exact (x ∷ xs) [] e = cc
list_exact order exact (x ∷ xs) (y ∷ ys) e =
    let parts = both_equal (order x y) (slice_cmp order xs ys) e in
    λ i. exact x y parts.0 i ∷ list_exact order exact xs ys parts.1 i

way_total : IsTotalOrder way_order
way_total = then_total (then_total (on_total (λ (s : WayShape). s.first.0) int_cmp_total) (on_total (λ (s : WayShape). s.last.0) int_cmp_total)) (on_total (λ (s : WayShape). s.points) (lists_total world_total))

way_exact : IsExact way_order
way_exact s t e =
    let parts = both_equal (ordering_then (int_cmp s.first.0 t.first.0) (int_cmp s.last.0 t.last.0)) (slice_cmp world_order s.points t.points) e in
    let ends = both_equal (int_cmp s.first.0 t.first.0) (int_cmp s.last.0 t.last.0) parts.0 in
    λ i. record { first = record { 0 = int_exact s.first.0 t.first.0 ends.0 i }; last = record { 0 = int_exact s.last.0 t.last.0 ends.1 i }; points = list_exact world_order world_exact s.points t.points parts.1 i }

pub shaped_total : IsTotalOrder shaped_order
shaped_total = then_total (on_total (λ (x : Shaped). x.place) place_total) (on_total (λ (x : Shaped). x.shape) (options_total way_total))

pub shaped_exact : IsExact shaped_order
shaped_exact x y e =
    let parts = both_equal (place_order x.place y.place) (option_cmp way_order x.shape y.shape) e in
    λ i. record { place = place_exact x.place y.place parts.0 i; shape = option_exact way_order way_exact x.shape y.shape parts.1 i }

pub shaped_commutes : (x y : Shaped) → shaped_join x y ≡ shaped_join y x
shaped_commutes = greater_commutes shaped_order shaped_total shaped_exact

pub shaped_associates : (x y z : Shaped) → shaped_join (shaped_join x y) z ≡ shaped_join x (shaped_join y z)
shaped_associates = greater_associates shaped_order shaped_total shaped_exact

pub shaped_repeats : (x : Shaped) → shaped_join x x ≡ x
shaped_repeats = greater_repeats shaped_order shaped_total shaped_exact
