-- The order of items: by tile, layer, order, kind, place and rule.
use Rattle.std.specs.Prelude.{ℕ, Bool}
use Rattle.std.specs.Ordering.{nat_cmp, int_cmp, ordering_then}
use Rattle.std.specs.declared.cmp.Ordering.{Ordering}
use Rattle.tb_types.specs.Orders.{place_order}
use Rattle.tb_types.specs.declared.element.Kind.{Kind}
use Rattle.tb_types.specs.declared.element.Kind.TheVariants.{Node, Way, Relation}
use Rattle.mvt_codec.specs.declared.item.ItemKey.{ItemKey}
use Rattle.mvt_codec.specs.declared.item.RunItem.{RunItem}
use Rattle.sorted_lists.specs.Sorting.{by_key}

-- nodes stand before ways, and these before relations
abbrev pub kind_rank : Kind → ℕ
kind_rank Node = 0
kind_rank Way = 1
kind_rank Relation = 2

-- a key's parts after the tile
abbrev pub row_cmp : ItemKey → ItemKey → Ordering
row_cmp a b =
    ordering_then (nat_cmp a.layer b.layer) (ordering_then (int_cmp a.order b.order) (ordering_then (nat_cmp (kind_rank a.kind) (kind_rank b.kind))
    (ordering_then (place_order a.place b.place) (nat_cmp a.rule b.rule))))

-- keys by all their parts
abbrev pub key_cmp : ItemKey → ItemKey → Ordering
key_cmp a b = ordering_then (nat_cmp a.tile b.tile) (row_cmp a b)

-- whether an item stands before another
abbrev pub item_less : RunItem → RunItem → Bool
item_less a b = by_key (λ (item : RunItem). item.key) key_cmp a b

-- the id of an item's tile
abbrev pub tile_of : RunItem → ℕ
tile_of item = item.key.tile
