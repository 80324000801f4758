-- In which order the blocks of a pass are loaded.
use Rattle.std.specs.Prelude.{ℕ, option_to_list, List, map, flat_map, slice_get}
use Rattle.tb_types.specs.Needs.{block_need}
use Rattle.pbf_blobs.specs.declared.block.BlockAt.{BlockAt}
use Rattle.pass_order.specs.declared.order.Order.{Order}
use Rattle.pass_order.specs.Orders.{pass_steps}
use Rattle.pass_order.specs.Whole.{loaded}

-- the needs of blocks
abbrev pub needs_of : List BlockAt → List ℕ
needs_of blocks = map (λ (b : BlockAt). block_need b.len) blocks

-- the blocks in these places
abbrev pub blocks_at : List BlockAt → List ℕ → List BlockAt
blocks_at blocks places = flat_map (λ place. option_to_list (slice_get blocks place)) places

-- the blocks in the order in which a pass loads them
abbrev pub load_order : Order → List BlockAt → List BlockAt
load_order order blocks = blocks_at blocks (loaded (pass_steps order (needs_of blocks)))
