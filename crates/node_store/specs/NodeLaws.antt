-- The greater of two nodes is a join.
use Rattle.std.proofs.Common.{◌≡◌}
use Rattle.std.specs.Option.{option_cmp}
use Rattle.std.specs.Cmp.{IsTotalOrder, on_total, then_total}
use Rattle.std.specs.Cmp.Lexicographic.{options_total}
use Rattle.tb_types.specs.Orders.{place_order}
use Rattle.node_store.specs.declared.located.Located.{Located}
use Rattle.node_store.specs.Order.{world_order, located_order, located_join}
use Rattle.node_store.specs.Laws.{IsExact, both_equal, option_exact, place_exact, place_total, world_exact, world_total, greater_commutes, greater_associates, greater_repeats}

pub located_total : IsTotalOrder located_order
located_total = then_total (on_total (λ (x : Located). x.place) place_total) (on_total (λ (x : Located). x.at) (options_total world_total))

pub located_exact : IsExact located_order
located_exact x y e =
    let parts = both_equal (place_order x.place y.place) (option_cmp world_order x.at y.at) e in
    λ i. record { place = place_exact x.place y.place parts.0 i; at = option_exact world_order world_exact x.at y.at parts.1 i }

pub located_commutes : (x y : Located) → located_join x y ≡ located_join y x
located_commutes = greater_commutes located_order located_total located_exact

pub located_associates : (x y z : Located) → located_join (located_join x y) z ≡ located_join x (located_join y z)
located_associates = greater_associates located_order located_total located_exact

pub located_repeats : (x : Located) → located_join x x ≡ x
located_repeats = greater_repeats located_order located_total located_exact
