-- The items of a node's point are those of its features.
use Rattle.std.proofs.Common.{◌≡◌, ℕ, ◌<◌, ◌≤◌, ◌^◌, Result, List, map, filter_map, subst, arith}
use Rattle.hilbert_ids.proofs.Numbers.{two_mono}
use Rattle.std.specs.List.Sorted.{IsPermutation}
use Rattle.tb_types.specs.declared.location.Grid.{Grid}
use Rattle.tb_types.specs.declared.location.World.{World}
use Rattle.tb_types.specs.declared.tile.TileXyz.{TileXyz}
use Rattle.osm_elements.specs.declared.element.NodeEl.{NodeEl}
use Rattle.profile_rules.specs.declared.parts.Parts.{Parts}
use Rattle.profile_rules.specs.declared.spec.Spec.{Spec}
use Rattle.tile_model.specs.Features.{item_at}
use Rattle.tile_model.specs.World.{buffer_of, grid_point}
use Rattle.tile_model.specs.Points.{point_feature, IsPointTold}
use Rattle.tile_model.specs.Tiles.{zoom_items}
use Rattle.tile_model.proofs.Proved as laws
use Rattle.tile_model.specs.Items.{item_in}
use Rattle.tb_outside.specs.Spill.{SpillSeen}
use Rattle.tb_outside.specs.declared.spill.SpillErr.{SpillErr}
use Rattle.feature_runs.specs.Entry.{Buffered}
use Rattle.pass_shapes.specs.Emitting.{Emits}
use Rattle.pass_shapes.proofs.Emitting.{emits-permuted}

-- what is emitted in the tiles that a point stands in are the items of its feature at the zoom
emits-zoom : {A : Type 0} (parts : Parts) (block : ℕ) (n : NodeEl) (w : World) (spec : Spec) (zoom : ℕ) (tiles : List TileXyz) (old new : SpillSeen) (before after : Buffered) (r : Result A SpillErr) → spec.min ≤ zoom → zoom ≤ spec.max
    → IsPointTold zoom (buffer_of parts spec.layer) (grid_point w zoom) tiles → Emits parts (map (item_in block n spec (grid_point w zoom)) tiles) old new before after r
    → Emits parts (zoom_items (point_feature parts block n w spec) zoom) old new before after r
emits-zoom parts block n w spec zoom tiles old new before after r low high told g =
    let f = point_feature parts block n w spec in
    let items : filter_map (item_at f) tiles ≡ map (item_in block n spec (grid_point w zoom)) tiles = laws.points.items parts block n w spec zoom tiles low high told in
    let same : IsPermutation (zoom_items f zoom) (filter_map (item_at f) tiles) = laws.build.told_zoom f zoom tiles low high (laws.points.told parts block n w spec zoom tiles told) in
    emits-permuted parts (map (item_in block n spec (grid_point w zoom)) tiles) (zoom_items f zoom) old new before after r (subst (IsPermutation (zoom_items f zoom)) items same) g

-- a column or row of a zoom that is built is no large number
pub strip-low : (zoom c : ℕ) → zoom ≤ 14 → c < 2 ^ zoom → c ≤ 16383
strip-low zoom c h k = let most = two_mono zoom 14 h in omega (arith, most, k)

-- the same at a place and a buffer that are known to be those
pub emits-at : {A : Type 0} (parts : Parts) (block : ℕ) (n : NodeEl) (w : World) (spec : Spec) (zoom : ℕ) (p : Grid) (buffer : ℕ) (tiles : List TileXyz) (old new : SpillSeen) (before after : Buffered) (r : Result A SpillErr) → p ≡ grid_point w zoom → buffer ≡ buffer_of parts spec.layer
    → spec.min ≤ zoom → zoom ≤ spec.max → IsPointTold zoom buffer p tiles → Emits parts (map (item_in block n spec p) tiles) old new before after r → Emits parts (zoom_items (point_feature parts block n w spec) zoom) old new before after r
emits-at parts block n w spec zoom p buffer tiles old new before after r place wide low high told g =
    emits-zoom parts block n w spec zoom tiles old new before after r low high
    (subst (λ b. IsPointTold zoom b (grid_point w zoom) tiles) wide (subst (λ q. IsPointTold zoom buffer q tiles) place told))
    (subst (λ q. Emits parts (map (item_in block n spec q) tiles) old new before after r) place g)
