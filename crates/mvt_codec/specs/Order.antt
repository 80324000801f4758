-- The order of items' keys, and keys as numbers that are ordered as keys are.
use Rattle.std.specs.Prelude.{◌≡◌, ℕ, ◌+◌, ◌-◌, ◌*◌, ◌^◌, ◌<◌, ℤ, pos, negsuc}
use Rattle.std.specs.Cmp.{IsTotalOrder}
use Rattle.std.specs.Ordering.{nat_cmp, int_cmp, ordering_then}
use Rattle.std.specs.declared.cmp.Ordering.{Ordering}
use Rattle.std.specs.declared.cmp.Ordering.TheVariants.{Equal}
use Rattle.tb_types.specs.declared.element.Kind.{Kind}
use Rattle.tb_types.specs.declared.element.Kind.TheVariants.{Node, Way, Relation}
use Rattle.tb_types.specs.Orders.{place_order}
use Rattle.mvt_codec.specs.declared.item.ItemKey.{ItemKey}

-- nodes come first, then ways, then relations
abbrev pub kind_number : Kind → ℕ
kind_number Node = 0
kind_number Way = 1
kind_number Relation = 2

-- by tile, layer, order, kind, place and rule
abbrev pub key_cmp : ItemKey → ItemKey → Ordering
key_cmp a b =
    ordering_then (nat_cmp a.tile b.tile)
    (ordering_then (nat_cmp a.layer b.layer)
    (ordering_then (int_cmp a.order b.order)
    (ordering_then (nat_cmp (kind_number a.kind) (kind_number b.kind))
    (ordering_then (place_order a.place b.place)
    (nat_cmp a.rule b.rule)))))

-- the orders from -32768 to 32767 as numbers from 0 to 65535; `negsuc n` is -(n + 1)
abbrev pub order_number : ℤ → ℕ
order_number (pos n) = 32768 + n
order_number (negsuc n) = 32767 - n

-- the first 16 bytes of a key as one number, and the last six
abbrev pub prefix_number : ItemKey → ℕ
prefix_number key = key.tile * 2 ^ 64 + ((key.layer * 65536 + order_number key.order) * 2 ^ 40 + (kind_number key.kind * 2 ^ 32 + key.place.block))

abbrev pub suffix_number : ItemKey → ℕ
suffix_number key = key.place.index * 65536 + key.rule

-- a key's rank: all 22 bytes as one number, the highest byte first
abbrev pub rank_of : ItemKey → ℕ
rank_of key = prefix_number key * 2 ^ 48 + suffix_number key

-- an order of 16 bits
abbrev pub FitsOrder : ℤ → Type 0
FitsOrder (pos n) = n < 32768
FitsOrder (negsuc n) = n < 32768

-- a key whose numbers are within their types
pub record FitsKey (key : ItemKey) : Type 0 where
  pub tile : key.tile < 2 ^ 64
  pub layer : key.layer < 256
  pub order : FitsOrder key.order
  pub block : key.place.block < 2 ^ 32
  pub index : key.place.index < 2 ^ 32
  pub rule : key.rule < 2 ^ 16

-- the order is total, keys of which neither is before the other are equal, and ranks are ordered as their keys are
pub record KeyLaws : Type 0 where
  pub total : IsTotalOrder key_cmp
  pub level : (a b : ItemKey) → key_cmp a b ≡ Equal → a ≡ b
  pub ranks : (a b : ItemKey) → FitsKey a → FitsKey b → key_cmp a b ≡ nat_cmp (rank_of a) (rank_of b)
