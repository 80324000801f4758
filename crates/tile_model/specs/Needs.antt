-- What a build needs of memory, in bytes: for its blocks, its kept relations and its tiles.
use Rattle.std.specs.Prelude.{ℕ, ◌/◌, max, nat_lt, if◌then◌else◌, Bool, true, false, Option, None, Some, List, [], ◌∷◌, length, map, filter, filter_map, flat_map, sum_by}
use Rattle.tb_types.specs.Needs.{block_need, relation_need, group_need}
use Rattle.tb_types.specs.declared.element.OsmId.{OsmId}
use Rattle.pbf_blobs.specs.declared.block.BlockAt.{BlockAt}
use Rattle.pbf_blobs.specs.declared.block.BlockKind.{BlockKind}
use Rattle.pbf_blobs.specs.declared.block.BlockKind.TheVariants as kinds
use Rattle.osm_elements.specs.declared.element.Block.{Block}
use Rattle.osm_elements.specs.declared.element.RelEl.{RelEl}
use Rattle.profile_rules.specs.declared.parts.Parts.{Parts}
use Rattle.ring_assembly.specs.declared.way.WayShape.{WayShape}
use Rattle.mvt_codec.specs.declared.item.RunItem.{RunItem}
use Rattle.mvt_codec.specs.Items.{items_bytes}
use Rattle.tile_model.specs.Extract.{is_kept}
use Rattle.tile_model.specs.Relations.{first_each, way_ids}

-- the largest of some numbers, and 0 of none
abbrev pub largest : List ℕ → ℕ
largest [] = 0
largest (n ∷ ns) = max n (largest ns)

-- blocks of another type aren't read, and need nothing
abbrev pub is_read : BlockKind → Bool
is_read kinds.Header = true
is_read kinds.Elements = true
is_read kinds.Other = false

-- the needs of the blocks that are read
abbrev pub block_needs : List BlockAt → List ℕ
block_needs blocks = map (λ (b : BlockAt). block_need b.len) (filter (λ (b : BlockAt). is_read b.kind) blocks)

-- the points of ways of these ids that have shapes, each way once
abbrev pub member_points : (OsmId → Option WayShape) → List OsmId → ℕ
member_points shape_at ids = sum_by (λ (w : WayShape). length w.points) (filter_map shape_at (first_each ids))

-- the needs of the relations of a block of which the rules make something, and of those of all blocks
abbrev pub relations_in : Parts → (OsmId → Option WayShape) → ℕ × Block → List ℕ
relations_in parts shape_at b = map (λ (r : RelEl). relation_need (member_points shape_at (way_ids r.members))) (filter (is_kept parts) b.1.relations)

abbrev pub relation_needs : Parts → (OsmId → Option WayShape) → List (ℕ × Block) → List ℕ
relation_needs parts shape_at blocks = flat_map (relations_in parts shape_at) blocks

-- the need of the items of a tile
abbrev pub tile_need : ℕ × List RunItem → ℕ
tile_need group = group_need (length (items_bytes group.1))

-- the need of the first tile that needs more than a part, if one does
abbrev pub first_over : ℕ → List (ℕ × List RunItem) → Option ℕ
first_over part [] = None
first_over part (group ∷ groups) = if nat_lt part (tile_need group) then Some (tile_need group) else first_over part groups

-- how long a run may be, in bytes: the lanes share the quarter of a budget that isn't the part of blocks, relations and tiles
abbrev pub run_limit : ℕ → ℕ → ℕ
run_limit budget lanes = budget / 4 / lanes
