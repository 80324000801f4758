-- What stands under an id is what was put there at the greatest place.
use Rattle.std.proofs.Common.{◌≡◌, ℕ, zero, suc, true, false, true≢false, List, [], ◌∷◌, ap, sym, ◌∙◌, refl, subst, Option, Some, None, slice_get, if◌then◌else◌, Ordering, Less, Greater, is_lt}
use Rattle.std.specs.Ordering.{ordering_then, ordering_reverse}
use Rattle.std.specs.Option.{option_cmp}
use Rattle.std.specs.Cmp.{IsTotalOrder}
use Rattle.std.proofs.lemmas.Bool.Decides.{Decides-int_eq}
use Rattle.std.proofs.lemmas.Option.{none-some, same_Some}
use Rattle.tb_types.specs.declared.element.OsmId.{OsmId}
use Rattle.tb_types.specs.declared.element.Place.{Place}
use Rattle.tb_types.specs.Orders.{place_order}
use Rattle.shard_store.specs.Ids.{is_same}
use Rattle.shard_store.specs.Join.{Entry, join, under, join_all}
use Rattle.shard_store.proofs.Joins.{by_test, same_id}
use Rattle.node_store.specs.declared.located.Located.{Located}
use Rattle.node_store.specs.declared.shaped.Shaped.{Shaped}
use Rattle.node_store.specs.Order.{greater, world_order, way_order, located_order, shaped_order}
use Rattle.node_store.specs.Greatest.{IsGreatest, GreatestDecides}
use Rattle.node_store.specs.Laws.{IsExact, place_total, place_exact, less_is, first, second, not_below, not_itself}
use Rattle.node_store.specs.NodeLaws.{located_total, located_exact}
use Rattle.node_store.specs.WayLaws.{shaped_total, shaped_exact}

own_id : (id : OsmId) → is_same id id ≡ true
own_id id = (Decides-int_eq id.0 id.0).1 refl

module _ {A : Type 0} (order : A → A → Ordering) (total : IsTotalOrder order) (exact : IsExact order) (place : A → Place)
    (below : (x y : A) → is_lt (place_order (place x) (place y)) ≡ true → order x y ≡ Less) where
  no_value : (a b : Option A) → join (greater order) a b ≡ None → (a ≡ None) × (b ≡ None)
  no_value None None e = (refl, refl)
  no_value None (Some y) e = absurd (none-some y (sym e))
  no_value (Some x) None e = absurd (none-some x (sym e))
  no_value (Some x) (Some y) e = absurd (none-some _ (sym e))

  abbrev id_of : Entry A → OsmId
  id_of e = e.0

  abbrev value_of : Entry A → A
  value_of e = e.1

  none_there : (es : List (Entry A)) (id : OsmId) (i : ℕ) (other : A) → join_all (greater order) es id ≡ None → slice_get es i ≡ Some (id, other) → ⊥
  none_there [] id i other e at = none-some _ at
  none_there (x ∷ es) id zero other e at =
      let is : x ≡ (id, other) = same_Some x (id, other) at in
      none-some other (sym (no_value (under id x) (join_all (greater order) es id) e).0 ∙ ap (under id) is ∙ ap (λ b. if b then Some other else None) (own_id id))
  none_there (x ∷ es) id (suc i) other e at = none_there es id i other (no_value (under id x) (join_all (greater order) es id) e).1 at

  not_below_place : (x y : A) → is_lt (order x y) ≡ false → is_lt (place_order (place x) (place y)) ≡ false
  not_below_place x y apart =
      by_test (is_lt (place_order (place x) (place y))) (λ less. absurd (true≢false (sym (ap is_lt (below x y less)) ∙ apart))) (λ not_it. not_it)

  -- an entry of another id more
  past : (e : Entry A) (es : List (Entry A)) (id : OsmId) (value : A) → is_same e.0 id ≡ false → IsGreatest order place es id value → IsGreatest order place (e ∷ es) id value
  past e es id value apart h = record { at = suc h.at; among = h.among; greatest = λ i other at. go i other at }
    where
      go : (i : ℕ) (other : A) → slice_get (e ∷ es) i ≡ Some (id, other) → is_lt (place_order (place value) (place other)) ≡ false
      go zero other at =
          let is : e ≡ (id, other) = same_Some e (id, other) at in absurd (true≢false (sym (own_id id) ∙ ap (λ x. is_same x id) (sym (ap id_of is)) ∙ apart))
      go (suc i) other at = h.greatest i other at

  -- an entry of this id, where nothing else is there, and where more is
  alone : (e : Entry A) (es : List (Entry A)) (id : OsmId) → e.0 ≡ id → join_all (greater order) es id ≡ None → IsGreatest order place (e ∷ es) id e.1
  alone e es id is none = record { at = 0; among = ap Some (λ i. (is i, e.1)); greatest = λ i other at. go i other at }
    where
      go : (i : ℕ) (other : A) → slice_get (e ∷ es) i ≡ Some (id, other) → is_lt (place_order (place e.1) (place other)) ≡ false
      go zero other at = subst (λ o. is_lt (place_order (place e.1) (place o)) ≡ false) (ap value_of (same_Some e (id, other) at)) (not_itself place_order place_total place_exact (place e.1))
      go (suc i) other at = absurd (none_there es id i other none at)

  more_there : (e : Entry A) (es : List (Entry A)) (id : OsmId) (v : A) → e.0 ≡ id → IsGreatest order place es id v → IsGreatest order place (e ∷ es) id (greater order e.1 v)
  more_there e es id v is h =
      by_test (is_lt (order e.1 v))
      (λ less. subst (IsGreatest order place (e ∷ es) id) (sym (second order total exact e.1 v less)) (record { at = suc h.at; among = h.among; greatest = λ i other at. later less i other at }))
      (λ apart. subst (IsGreatest order place (e ∷ es) id) (sym (first order total exact e.1 v apart)) (record { at = 0; among = ap Some (λ i. (is i, e.1)); greatest = λ i other at. earlier apart i other at }))
    where
      later : is_lt (order e.1 v) ≡ true → (i : ℕ) (other : A) → slice_get (e ∷ es) i ≡ Some (id, other) → is_lt (place_order (place v) (place other)) ≡ false
      later less zero other at =
          let back : order v e.1 ≡ Greater = total.antisymm v e.1 ∙ ap ordering_reverse (less_is (order e.1 v) less) in
          subst (λ o. is_lt (place_order (place v) (place o)) ≡ false) (ap value_of (same_Some e (id, other) at)) (not_below_place v e.1 (ap is_lt back))
      later less (suc i) other at = h.greatest i other at

      earlier : is_lt (order e.1 v) ≡ false → (i : ℕ) (other : A) → slice_get (e ∷ es) i ≡ Some (id, other) → is_lt (place_order (place e.1) (place other)) ≡ false
      earlier apart zero other at = subst (λ o. is_lt (place_order (place e.1) (place o)) ≡ false) (ap value_of (same_Some e (id, other) at)) (not_itself place_order place_total place_exact (place e.1))
      earlier apart (suc i) other at = not_below place_order place_total place_exact (place e.1) (place v) (place other) (not_below_place e.1 v apart) (h.greatest i other at)

  pub decides : (es : List (Entry A)) (id : OsmId) (value : A) → join_all (greater order) es id ≡ Some value → IsGreatest order place es id value
  decides [] id value e = absurd (none-some value e)
  decides (x ∷ es) id value e =
      by_test (is_same x.0 id)
      (λ here.
      let is = same_id x.0 id here in
      by_rest (λ w some. decides es id w some) (join_all (greater order) es id) refl is (sym (ap (λ b. join (greater order) (if b then Some x.1 else None) (join_all (greater order) es id)) here) ∙ e))
      (λ apart. past x es id value apart (decides es id value (sym (ap (λ b. join (greater order) (if b then Some x.1 else None) (join_all (greater order) es id)) apart) ∙ e)))
    where
      by_rest : ((w : A) → join_all (greater order) es id ≡ Some w → IsGreatest order place es id w) → (r : Option A) → join_all (greater order) es id ≡ r → x.0 ≡ id → join (greater order) (Some x.1) (join_all (greater order) es id) ≡ Some value → IsGreatest order place (x ∷ es) id value
      by_rest later None none is v = subst (IsGreatest order place (x ∷ es) id) (same_Some x.1 value (sym (ap (join (greater order) (Some x.1)) none) ∙ v)) (alone x es id is none)
      by_rest later (Some w) some is v = subst (IsGreatest order place (x ∷ es) id) (same_Some (greater order x.1 w) value (sym (ap (join (greater order) (Some x.1)) some) ∙ v)) (more_there x es id w is (later w some))

located_below : (x y : Located) → is_lt (place_order x.place y.place) ≡ true → located_order x y ≡ Less
located_below x y less = ap (λ o. ordering_then o (option_cmp world_order x.at y.at)) (less_is (place_order x.place y.place) less)

pub located_decides : GreatestDecides located_order (λ (x : Located). x.place)
located_decides = decides located_order located_total located_exact (λ (x : Located). x.place) located_below

shaped_below : (x y : Shaped) → is_lt (place_order x.place y.place) ≡ true → shaped_order x y ≡ Less
shaped_below x y less = ap (λ o. ordering_then o (option_cmp way_order x.shape y.shape)) (less_is (place_order x.place y.place) less)

pub shaped_decides : GreatestDecides shaped_order (λ (x : Shaped). x.place)
shaped_decides = decides shaped_order shaped_total shaped_exact (λ (x : Shaped). x.place) shaped_below
