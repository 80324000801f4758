-- Features of points: where they have rows, and that no two have one name.
use Rattle.std.proofs.Common.{◌≡◌, ℕ, ◌+◌, ◌≤◌, Bool, true, false, cond, not, ◌&&◌, nat_le, ℤ, pos, negsuc, ◌+ℤ◌, ◌-ℤ◌, ◌*◌, true≢false, option_map, Option, Some, None, is_some, List, [], ◌∷◌, map, filter_map, refl, sym, ap, ◌∙◌, arith}
use Rattle.std.specs.Prelude.{int_lt}
use Rattle.std.proofs.lemmas.Bool.Decides.{nat_tests}
use Rattle.std.proofs.lemmas.Int.{ints}
use Rattle.std.specs.List.{AllByRecursion, cons_option}
use Rattle.tb_types.specs.declared.element.Kind.TheVariants as kinds
use Rattle.tb_types.specs.declared.location.Grid.{Grid}
use Rattle.tb_types.specs.declared.location.World.{World}
use Rattle.tb_types.specs.declared.shape.Shape.TheVariants.{Point}
use Rattle.tb_types.specs.declared.tile.TileXyz.{TileXyz}
use Rattle.osm_elements.specs.declared.element.NodeEl.{NodeEl}
use Rattle.profile_rules.specs.declared.parts.Parts.{Parts}
use Rattle.profile_rules.specs.declared.spec.Spec.{Spec}
use Rattle.strip_clip.specs.Cuts.{cut_of, corner_of, relative, IsBetween}
use Rattle.tile_model.specs.Features.{Feature, as_item, item_at}
use Rattle.tile_model.specs.Tiles.{IsTold}
use Rattle.tb_types.specs.Zigzag.{zigzag_of}
use Rattle.tb_types.specs.declared.shape.Shape.{Shape}
use Rattle.mvt_geom.specs.Text.{ints_of}
use Rattle.mvt_codec.specs.declared.row.TileRow.{TileRow}
use Rattle.tile_model.specs.Rows.{feature_id, row_of}
use Rattle.tile_model.specs.World.{buffer_of, grid_point}
use Rattle.tile_model.specs.Points.{point_ints, point_item, point_feature, IsPointTold}
use Rattle.tile_model.proofs.Lists.{each_contained}

-- something is left of a row where something is left of a shape
row-some : (row : Shape → TileRow) (left : Option Shape) → is_some (option_map row left) ≡ is_some left
row-some row None = refl
row-some row (Some shape) = refl

module _ (parts : Parts) (block : ℕ) (n : NodeEl) (w : World) (spec : Spec) where
  abbrev f : Feature
  f = point_feature parts block n w spec

  at-zoom : (zoom : ℕ) (t : TileXyz) → t.z ≡ zoom → is_some (f.row t) ≡ is_some (cut_of t (buffer_of parts spec.layer) (Point (grid_point w zoom)))
  at-zoom zoom t e = row-some _ (cut_of t (buffer_of parts spec.layer) (Point (grid_point w t.z))) ∙ ap (λ z. is_some (cut_of t (buffer_of parts spec.layer) (Point (grid_point w z)))) e

  pub told : (zoom : ℕ) (tiles : List TileXyz) → IsPointTold zoom (buffer_of parts spec.layer) (grid_point w zoom) tiles → IsTold f zoom tiles
  told zoom tiles is = record {
    once = is.once;
    just = λ t. (
      λ c. let h = (is.just t).0 c in (h.0, at-zoom zoom t h.0.zoom ∙ h.1),
      λ h. (is.just t).1 (h.0, sym (at-zoom zoom t h.0.zoom) ∙ h.1),
    );
  }

-- what the cut leaves of a point
left-if : {A : Type 0} (b : Bool) (x : A) → is_some (cond b (Some x) None) ≡ true → cond b (Some x) None ≡ Some x
left-if true x e = refl
left-if false x e = absurd (true≢false (sym e))

pub left : (t : TileXyz) (buffer : ℕ) (p : Grid) → is_some (cut_of t buffer (Point p)) ≡ true → cut_of t buffer (Point p) ≡ Some (Point (relative (corner_of t) p))
unfolding cut_of
left t buffer p e = left-if _ (Point (relative (corner_of t) p)) e

near-by : (c : ℤ) (n b : ℕ) → b ≤ 256 → (not (int_lt c (pos (4096 * n) -ℤ pos b)) && not (int_lt (pos (4096 * n) +ℤ pos (4096 + b)) c)) ≡ true → IsBetween (negsuc 255) (pos 4352) (c -ℤ pos (4096 * n))
near-by c n b h e = record { low = grind (arith, ints); high = grind (arith, ints) }

near-if : {A : Type 0} (b : Bool) (x : A) → is_some (cond b (Some x) None) ≡ true → b ≡ true
near-if true x e = refl
near-if false x e = absurd (true≢false (sym e))

both-true : (a b : Bool) → a && b ≡ true → (a ≡ true) × (b ≡ true)
both-true true b e = (refl, e)
both-true false b e = absurd (true≢false (sym e))

sides : (t : TileXyz) (buffer : ℕ) (p : Grid) → is_some (cut_of t buffer (Point p)) ≡ true
    → ((not (int_lt p.x (pos (4096 * t.x) -ℤ pos buffer)) && not (int_lt (pos (4096 * t.x) +ℤ pos (4096 + buffer)) p.x)) ≡ true)
    × ((not (int_lt p.y (pos (4096 * t.y) -ℤ pos buffer)) && not (int_lt (pos (4096 * t.y) +ℤ pos (4096 + buffer)) p.y)) ≡ true)
unfolding cut_of
sides t buffer p e = both-true _ _ (near-if _ (Point (relative (corner_of t) p)) e)

pub near : (t : TileXyz) (buffer : ℕ) (p : Grid) → buffer ≤ 256 → is_some (cut_of t buffer (Point p)) ≡ true
    → (cut_of t buffer (Point p) ≡ Some (Point (relative (corner_of t) p))) × IsBetween (negsuc 255) (pos 4352) (relative (corner_of t) p).x × IsBetween (negsuc 255) (pos 4352) (relative (corner_of t) p).y
near t buffer p h e = let s = sides t buffer p e in (left t buffer p e, near-by p.x t.x buffer h s.0, near-by p.y t.y buffer h s.1)

-- the integers of a point
from-none : (z : ℤ) → z -ℤ pos 0 ≡ z
from-none z = grind (arith, ints)

pub ints-point : (p : Grid) → ints_of (Point p) ≡ point_ints p
ints-point p = λ i. 9 ∷ zigzag_of (from-none p.x i) ∷ zigzag_of (from-none p.y i) ∷ []

in-zooms : (low high z : ℕ) → low ≤ z → z ≤ high → (nat_le low z && nat_le z high) ≡ true
in-zooms low high z h k = grind (arith, nat_tests)

module _ (parts : Parts) (block : ℕ) (n : NodeEl) (w : World) (spec : Spec) (zoom : ℕ) (low : spec.min ≤ zoom) (high : zoom ≤ spec.max) where
  item-at : (t : TileXyz) → t.z ≡ zoom → is_some (cut_of t (buffer_of parts spec.layer) (Point (grid_point w zoom))) ≡ true
      → item_at (point_feature parts block n w spec) t ≡ Some (point_item parts block n w spec zoom t)
  item-at t e h =
      let f = point_feature parts block n w spec in
      let buffer = buffer_of parts spec.layer in
      let row = row_of (feature_id kinds.Node n.id.0) spec.attributes in
      ap (λ z. cond (nat_le spec.min z && nat_le z spec.max) (option_map (as_item f t) (option_map row (cut_of t buffer (Point (grid_point w z))))) None) e
      ∙ ap (λ b. cond b (option_map (as_item f t) (option_map row (cut_of t buffer (Point (grid_point w zoom))))) None) (in-zooms spec.min spec.max zoom low high)
      ∙ ap (λ r. option_map (as_item f t) (option_map row r)) (left t buffer (grid_point w zoom) h)
      ∙ ap (λ ints. Some (as_item f t (record { id = feature_id kinds.Node n.id.0; form = 1; ints = ints; attributes = spec.attributes }))) (ints-point (relative (corner_of t) (grid_point w zoom)))

  each-item : (tiles : List TileXyz) → AllByRecursion (λ t. (t.z ≡ zoom) × (is_some (cut_of t (buffer_of parts spec.layer) (Point (grid_point w zoom))) ≡ true)) tiles
      → filter_map (item_at (point_feature parts block n w spec)) tiles ≡ map (point_item parts block n w spec zoom) tiles
  each-item [] h = refl
  each-item (t ∷ tiles) h = λ i. cons_option (item-at t h.0.0 h.0.1 i) (each-item tiles h.1 i)

  pub items : (tiles : List TileXyz) → IsPointTold zoom (buffer_of parts spec.layer) (grid_point w zoom) tiles
      → filter_map (item_at (point_feature parts block n w spec)) tiles ≡ map (point_item parts block n w spec zoom) tiles
  items tiles is = each-item tiles (each_contained _ tiles (λ t c. let h = (is.just t).0 c in (h.0.zoom, h.1)))
