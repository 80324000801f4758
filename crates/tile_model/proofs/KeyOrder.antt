-- The order of keys is total, and keys that it takes for equal are equal.
use Rattle.std.proofs.Common.{◌≡◌, refl, arith}
use Rattle.std.proofs.lemmas.Cmp.{on_total, then_total, nat_cmp_total, int_cmp_total}
use Rattle.std.specs.Cmp.{IsTotalOrder, IsStrictWeakOrder}
use Rattle.std.specs.Ordering.{nat_cmp, int_cmp}
use Rattle.std.specs.declared.cmp.Ordering.TheVariants.{Equal}
use Rattle.tb_types.specs.Orders.{place_order}
use Rattle.tb_types.specs.declared.element.Kind.{Kind}
use Rattle.tb_types.specs.declared.element.Kind.TheVariants.{Node, Way, Relation}
use Rattle.tb_types.specs.declared.element.Place.{Place}
use Rattle.mvt_codec.specs.declared.item.ItemKey.{ItemKey}
use Rattle.mvt_codec.specs.declared.item.RunItem.{RunItem}
use Rattle.sorted_lists.specs.Grouping.{ClassFirst}
use Rattle.sorted_lists.proofs.Keys.{order, first, parts, number, integer}
use Rattle.tile_model.specs.Keys.{kind_rank, row_cmp, key_cmp, item_less, tile_of}

row_total : IsTotalOrder row_cmp
row_total =
    then_total (on_total (λ (k : ItemKey). k.layer) nat_cmp_total)
    (then_total (on_total (λ (k : ItemKey). k.order) int_cmp_total)
    (then_total (on_total (λ (k : ItemKey). kind_rank k.kind) nat_cmp_total)
    (then_total (then_total (on_total (λ (k : ItemKey). k.place.block) nat_cmp_total) (on_total (λ (k : ItemKey). k.place.index) nat_cmp_total)) (on_total (λ (k : ItemKey). k.rule) nat_cmp_total))))

pub total : IsTotalOrder key_cmp
total = then_total (on_total (λ (k : ItemKey). k.tile) nat_cmp_total) row_total

kind_is : (a b : Kind) → kind_rank a ≡ kind_rank b → a ≡ b
kind_is Node Node e = refl
kind_is Node Way e = absurd (omega (arith, e))
kind_is Node Relation e = absurd (omega (arith, e))
kind_is Way Node e = absurd (omega (arith, e))
kind_is Way Way e = refl
kind_is Way Relation e = absurd (omega (arith, e))
kind_is Relation Node e = absurd (omega (arith, e))
kind_is Relation Way e = absurd (omega (arith, e))
kind_is Relation Relation e = refl

place_is : (p q : Place) → p.block ≡ q.block → p.index ≡ q.index → p ≡ q
place_is p q e f = λ i. record { block = e i; index = f i }

pub exact : (a b : ItemKey) → key_cmp a b ≡ Equal → a ≡ b
exact a b h =
    let tile = parts (nat_cmp a.tile b.tile) (row_cmp a b) h in
    let layer = parts (nat_cmp a.layer b.layer) _ tile.1 in
    let order = parts (int_cmp a.order b.order) _ layer.1 in
    let kind = parts (nat_cmp (kind_rank a.kind) (kind_rank b.kind)) _ order.1 in
    let place = parts (place_order a.place b.place) (nat_cmp a.rule b.rule) kind.1 in
    let block = parts (nat_cmp a.place.block b.place.block) (nat_cmp a.place.index b.place.index) place.0 in
    let tiles = number a.tile b.tile tile.0 in
    let layers = number a.layer b.layer layer.0 in
    let orders = integer a.order b.order order.0 in
    let kinds = kind_is a.kind b.kind (number _ _ kind.0) in
    let places = place_is a.place b.place (number _ _ block.0) (number _ _ block.1) in
    let rules = number a.rule b.rule place.1 in
    λ i. record { tile = tiles i; layer = layers i; order = orders i; kind = kinds i; place = places i; rule = rules i }

pub item_order : IsStrictWeakOrder item_less
item_order = order (λ (item : RunItem). item.key) key_cmp total

pub tile_first : ClassFirst tile_of item_less
tile_first = first (λ (item : RunItem). item.key) (λ k. k.tile) row_cmp
