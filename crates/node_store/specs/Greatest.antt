-- What stands under an id is what was put there at the greatest place.
use Rattle.std.specs.Prelude.{◌≡◌, ℕ, false, Some, List, slice_get}
use Rattle.std.specs.Ordering.{is_lt}
use Rattle.std.specs.declared.cmp.Ordering.{Ordering}
use Rattle.tb_types.specs.declared.element.OsmId.{OsmId}
use Rattle.tb_types.specs.declared.element.Place.{Place}
use Rattle.tb_types.specs.Orders.{place_order}
use Rattle.shard_store.specs.Join.{Entry, join_all}
use Rattle.node_store.specs.Order.{greater}

module _ {A : Type 0} (order : A → A → Ordering) (place : A → Place) where
  -- one of the entries has the value under the id, and none has one there at a greater place
  pub record IsGreatest (entries : List (Entry A)) (id : OsmId) (value : A) : Type 0 where
    pub at : ℕ
    pub among : slice_get entries at ≡ Some (id, value)
    pub greatest : (i : ℕ) (other : A) → slice_get entries i ≡ Some (id, other) → is_lt (place_order (place value) (place other)) ≡ false

  abbrev pub GreatestDecides : Type 0
  GreatestDecides = (entries : List (Entry A)) (id : OsmId) (value : A) → join_all (greater order) entries id ≡ Some value → IsGreatest entries id value
