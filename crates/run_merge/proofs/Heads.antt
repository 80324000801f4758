-- Heads and the items that they tell of.
use Rattle.std.proofs.Common.{◌≡◌, ℕ, ◌+◌, ◌*◌, ◌/◌, ◌^◌, ◌<◌, ◌≤◌, ℤ, pos, negsuc, length, refl, arith}
use Rattle.tb_types.specs.declared.element.Kind.{Kind}
use Rattle.tb_types.specs.declared.element.Kind.TheVariants.{Node, Way, Relation}
use Rattle.mvt_codec.specs.declared.item.RunItem.{RunItem}
use Rattle.mvt_codec.specs.Items.{item_text}
use Rattle.mvt_codec.specs.Order.{kind_number, order_number, prefix_number, suffix_number, FitsOrder, FitsKey}
use Rattle.run_merge.specs.declared.cursor.Head.{Head}
use Rattle.run_merge.specs.Items.{item_rank, item_tile}
use Rattle.run_merge.specs.Cursors.{head_rank, last_rank, head_tile, item_head, IsHead}

pub rank_of_item : (x : RunItem) → head_rank (item_head x) ≡ item_rank x
unfolding head_rank item_head item_rank
rank_of_item x = refl

pub len_of_item : (x : RunItem) → (item_head x).len ≡ length (item_text x)
unfolding item_head
len_of_item x = refl

-- a head made of an item's numbers is its head
pub head_of_item : (x : RunItem) (head : Head) → head.prefix ≡ prefix_number x.key → head.suffix ≡ suffix_number x.key → head.len ≡ length (item_text x) → head ≡ item_head x
unfolding item_head
head_of_item x head p s l = λ i. record { prefix = p i; suffix = s i; len = l i }

order_small : (z : ℤ) → FitsOrder z → order_number z < 65536
order_small (pos n) is = omega (arith, is)
order_small (negsuc n) is = omega arith

kind_small : (k : Kind) → kind_number k ≤ 2
kind_small Node = omega arith
kind_small Way = omega arith
kind_small Relation = omega arith

divided : (n m q r : ℕ) → n ≡ q * 2 ^ 64 + r → r < 2 ^ 64 → n / 2 ^ 64 ≡ q
divided n m q r e small = omega (arith, e, small)

pub tile_of_item : (x : RunItem) → FitsKey x.key → head_tile (item_head x) ≡ item_tile x
unfolding head_tile item_head
tile_of_item x fits =
    let key = x.key in
    let rows = (key.layer * 65536 + order_number key.order) * 2 ^ 40 + (kind_number key.kind * 2 ^ 32 + key.place.block) in
    let small : rows < 2 ^ 64 = omega (arith, fits.layer, order_small key.order fits.order, kind_small key.kind, fits.block) in
    divided (prefix_number key) 0 key.tile rows refl small

-- ranks are below that of a run's end
pub rank_below : (len at : ℕ) (head : Head) → IsHead len at head → head_rank head < last_rank
unfolding head_rank last_rank
rank_below len at head is = omega (arith, is.suffix, is.prefix)

-- tiles rise as ranks do
pub tiles_rise : (a b : Head) → b.suffix < 2 ^ 48 → head_rank a ≤ head_rank b → head_tile a ≤ head_tile b
unfolding head_rank head_tile
tiles_rise a b small le = let up : a.prefix ≤ b.prefix = omega (arith, small, le) in omega (arith, up)

suffix_small : (x : RunItem) → FitsKey x.key → (item_head x).suffix < 2 ^ 48
unfolding item_head
suffix_small x fits = omega (arith, fits.index, fits.rule)

pub item_tiles_rise : (x y : RunItem) → FitsKey x.key → FitsKey y.key → item_rank x ≤ item_rank y → item_tile x ≤ item_tile y
item_tiles_rise x y fx fy le =
    let up : head_rank (item_head x) ≤ head_rank (item_head y) = omega (arith, rank_of_item x, rank_of_item y, le) in
    omega (arith, tiles_rise (item_head x) (item_head y) (suffix_small y fy) up, tile_of_item x fx, tile_of_item y fy)
