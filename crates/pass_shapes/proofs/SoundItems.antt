-- The items that a pass makes are sound.
use Rattle.std.proofs.Common.{◌≡◌, ℕ, ◌+◌, ◌*◌, ◌-◌, ◌^◌, ◌<◌, ◌≤◌, ◌==◌, nat_lt, Bool, true, false, ◌||◌, cond, ℤ, pos, negsuc, ◌-ℤ◌, List, [], ◌∷◌, ◌++◌, length, All, refl, arith}
use Rattle.std.specs.List.{AllByRecursion}
use Rattle.std.proofs.lemmas.Bool.{ltb-true, ltb-false}
use Rattle.std.proofs.lemmas.Int.{ints}
use Rattle.std.proofs.lemmas.List.Elements.{All-head, All-tail, All-weaker, recursion_from_All}
use Rattle.tb_types.specs.declared.attribute.Attr.{Attr}
use Rattle.tb_types.specs.declared.attribute.AttrValue.{AttrValue}
use Rattle.tb_types.specs.declared.attribute.AttrValue.TheVariants as values
use Rattle.tb_types.specs.declared.element.Kind.{Kind}
use Rattle.tb_types.specs.declared.location.Grid.{Grid}
use Rattle.tb_types.specs.declared.shape.Shape.{Shape}
use Rattle.tb_types.specs.declared.shape.Shape.TheVariants.{Point, Line, Area}
use Rattle.tb_types.specs.declared.tile.TileXyz.{TileXyz}
use Rattle.osm_elements.specs.declared.element.NodeEl.{NodeEl}
use Rattle.profile_rules.specs.declared.parts.Parts.{Parts}
use Rattle.profile_rules.specs.declared.spec.Spec.{Spec}
use Rattle.profile_rules.specs.Fields.{layers_of}
use Rattle.profile_rules.specs.Ranges.{fits_16, fits_64}
use Rattle.profile_rules.specs.Sound.{IsSound, IsSoundSpec, IsSoundAttr, IsSoundValue}
use Rattle.strip_clip.specs.CleanCuts.{IsCleanCut, points_of}
use Rattle.strip_clip.specs.Cuts.{corner_of, relative, IsBetween}
use Rattle.hilbert_ids.specs.Ids.{number_of}
use Rattle.hilbert_ids.proofs.Numbers.{two_mono}
use Rattle.hilbert_ids.proofs.Tiles.{below}
use Rattle.mvt_geom.specs.Commands.{command, move_to, has_form}
use Rattle.mvt_geom.specs.Geometry.{origin, cursor_after}
use Rattle.mvt_geom.specs.Text.{difference, differences, closing, path_ints, paths_ints, rings_of, ints_of, form_of, all_of, Fits32, IsStep, AreSteps, IsShort, IsDrawable}
use Rattle.mvt_geom.proofs.Steps.{zigzag_small, steps-first, steps-later}
use Rattle.mvt_codec.specs.Again.{FitsAttribute}
use Rattle.mvt_codec.specs.Items.{tiles_end, IsNamed}
use Rattle.mvt_codec.specs.Order.{FitsOrder}
use Rattle.mvt_codec.specs.Value.{IsWithin, IsWritable}
use Rattle.tile_model.specs.Items.{IsSoundItem, item_in}
use Rattle.tile_model.specs.Points.{node_origin, point_ints, IsOnGrid}
use Rattle.tile_model.specs.Rows.{feature_id, kind_digit}
use Rattle.tile_model.specs.declared.world.Origin.{Origin}
use Rattle.pass_shapes.specs.declared.pieces.Label.{Label}
use Rattle.pass_shapes.specs.Labels.{IsSoundLabel}
use Rattle.pass_shapes.specs.Pieces.{item_of, label_of}
use Rattle.pass_shapes.proofs.Drawable.{drawable, has-its-form}

abbrev Small : ℕ → Type 0
Small n = n < 2 ^ 32

-- attributes of specs
whole-within : (z : ℤ) → fits_64 z ≡ true → IsWithin z
whole-within (pos n) h = let small : n < 2 ^ 63 = ltb-true n (2 ^ 63) h in omega (arith, small)
whole-within (negsuc n) h = ltb-true n (2 ^ 63) h

value-writable : (v : AttrValue) → IsSoundValue v → IsWritable v
value-writable (values.Text text) k = tt
value-writable (values.Whole z) k = whole-within z k
value-writable (values.Truth b) k = tt
value-writable (values.Bits32 n) k = tt
value-writable (values.Bits64 n) k = tt

attr-named : (a : Attr) → IsSoundAttr a → IsNamed a
attr-named a h = (h.named, value-writable a.value h.value)

named : (attributes : List Attr) → All IsSoundAttr attributes → AllByRecursion IsNamed attributes
named attributes h = recursion_from_All IsNamed attributes (All-weaker IsSoundAttr IsNamed attr-named attributes h)

-- the numbers of a key and an id
order-fits : (z : ℤ) → fits_16 z ≡ true → FitsOrder z
order-fits (pos n) h = ltb-true n 32768 h
order-fits (negsuc n) h = ltb-true n 32768 h

small-or : (none large : Bool) (m : ℕ) → (large ≡ false → m < 2 ^ 64) → cond (none || large) 0 m < 2 ^ 64
small-or true large m h = omega arith
small-or false true m h = omega arith
small-or false false m h = h refl

id-small : (kind : Kind) (z : ℤ) → feature_id kind z < 2 ^ 64
id-small kind (pos n) = small-or (n == 0) (nat_lt (2 ^ 64 - 1) (10 * n + kind_digit kind)) (10 * n + kind_digit kind) (λ e. let few = ltb-false (2 ^ 64 - 1) (10 * n + kind_digit kind) e in omega (arith, few))
id-small kind (negsuc n) = omega arith

pub label-sound : (parts : Parts) (at : Origin) (spec : Spec) → IsSound parts → IsSoundSpec parts spec → at.place.block < 2 ^ 32 → at.place.index < 2 ^ 32 → IsSoundLabel (length (layers_of parts)) (label_of at spec)
label-sound parts at spec sound h block index =
    let rule = h.rule in
    let rules = sound.few_rules in
    record {
      layer = h.layer;
      few = sound.few_layers;
      order = h.order;
      block = block;
      index = index;
      rule = omega (arith, rule, rules);
      id = id-small at.kind at.id.0;
      attributes = h.attributes;
    }

-- an item with these integers
item-sound : (layers : ℕ) (label : Label) (tile form : ℕ) (ints : List ℕ) → IsSoundLabel layers label → tile < tiles_end → (1 ≤ form) × (form ≤ 3) → has_form form ints ≡ true → AllByRecursion Small ints → AllByRecursion FitsAttribute label.attributes
    → IsSoundItem layers (record { key = record label.key { tile = tile }; row = record { id = label.id; form = form; ints = ints; attributes = label.attributes } })
item-sound layers label tile form ints h within known has small texts =
    let layer = h.layer in
    let few = h.few in
    record {
      layer = h.layer;
      tile = within;
      known = known;
      form = has;
      attributes = named label.attributes h.attributes;
      types = record {
        key = record { tile = omega (arith, within); layer = omega (arith, layer, few); order = order-fits label.key.order h.order; block = h.block; index = h.index; rule = h.rule };
        id = h.id;
        ints = small;
        attributes = texts;
      };
    }

tile-within : (tile : TileXyz) → tile.z ≤ 14 → tile.x < 2 ^ tile.z → tile.y < 2 ^ tile.z → number_of tile < tiles_end
tile-within tile zoom column row = below tile (record { zoom = omega (arith, zoom); column = column; row = row })

-- the integers of a point of a zoom in a tile
way-fits : (zoom strip : ℕ) (z : ℤ) → zoom ≤ 14 → strip ≤ 16383 → IsBetween (pos 0) (pos (4096 * 2 ^ zoom)) z → Fits32 (z -ℤ pos (4096 * strip))
way-fits zoom strip z h low is =
    let most = two_mono zoom 14 h in
    let from = is.low in
    let to = is.high in
    (omega (arith, ints, most, from, to, low), omega (arith, ints, most, from, to, low))

point-form : (x y : ℕ) → has_form 1 (9 ∷ x ∷ y ∷ []) ≡ true
unfolding has_form
point-form x y = refl

pub point-sound : (layers block : ℕ) (n : NodeEl) (spec : Spec) (p : Grid) (tile : TileXyz) → IsSoundLabel layers (label_of (node_origin block n) spec) → tile.z ≤ 14 → IsOnGrid tile.z p → tile.x < 2 ^ tile.z → tile.y < 2 ^ tile.z
    → (tile.x ≤ 16383) × (tile.y ≤ 16383) → AllByRecursion FitsAttribute spec.attributes → IsSoundItem layers (item_in block n spec p tile)
point-sound layers block n spec p tile h zoom grid column row low texts =
    let at = relative (corner_of tile) p in
    item-sound layers (label_of (node_origin block n) spec) (number_of tile) 1 (point_ints at) h (tile-within tile zoom column row) (omega arith, omega arith) (point-form _ _)
    (omega arith, (zigzag_small at.x (way-fits tile.z tile.x p.x zoom low.0 grid.x), (zigzag_small at.y (way-fits tile.z tile.y p.y zoom low.1 grid.y), tt))) texts

-- the integers of a shape that can be written
both : (P : ℕ → Type 0) (xs ys : List ℕ) → AllByRecursion P xs → AllByRecursion P ys → AllByRecursion P (xs ++ ys)
both P [] ys h k = k
both P (x ∷ xs) ys h k = (h.0, both P xs ys h.1 k)

difference-small : (from p : Grid) → IsStep from p → AllByRecursion Small (difference from p)
difference-small from p h = (zigzag_small _ h.x, (zigzag_small _ h.y, tt))

differences-small : (from : Grid) (points : List Grid) → AreSteps from points → AllByRecursion Small (differences from points)
differences-small from [] h = tt
differences-small from (p ∷ points) h = both Small (difference from p) (differences p points) (difference-small from p h.0) (differences-small p points h.1)

closing-small : (closed : Bool) → AllByRecursion Small (closing closed)
closing-small false = tt
closing-small true = (omega arith, tt)

path-small : (closed : Bool) (from : Grid) (path : List Grid) → IsShort path → AreSteps from path → AllByRecursion Small (path_ints closed from path)
unfolding path_ints
path-small closed from [] short h = tt
path-small closed from (p ∷ points) short h =
    both Small ((command move_to 1 ∷ difference from p) ++ (command 2 (length points) ∷ differences p points)) (closing closed)
    (both Small (command move_to 1 ∷ difference from p) (command 2 (length points) ∷ differences p points) (omega arith, difference-small from p h.0) (omega (arith, short), differences-small p points h.1)) (closing-small closed)

paths-small : (closed : Bool) (from : Grid) (paths : List (List Grid)) → All IsShort paths → AreSteps from (all_of paths) → AllByRecursion Small (paths_ints closed from paths)
paths-small closed from [] short h = tt
paths-small closed from (path ∷ paths) short h =
    both Small (path_ints closed from path) (paths_ints closed (cursor_after from path) paths)
    (path-small closed from path (All-head IsShort path paths short) (steps-first from path (all_of paths) h))
    (paths-small closed (cursor_after from path) paths (All-tail IsShort path paths short) (steps-later from path (all_of paths) h))

shape-small : (shape : Shape) → IsDrawable shape → AllByRecursion Small (ints_of shape)
shape-small (Point p) d = (omega arith, difference-small origin p d.steps.0)
shape-small (Line paths) d = paths-small false origin paths d.short d.steps
shape-small (Area polygons) d = paths-small true origin (rings_of polygons) d.short d.steps

form-known : (shape : Shape) → (1 ≤ form_of shape) × (form_of shape ≤ 3)
form-known (Point p) = (omega arith, omega arith)
form-known (Line paths) = (omega arith, omega arith)
form-known (Area polygons) = (omega arith, omega arith)

pub piece-sound : (layers : ℕ) (label : Label) (tile : TileXyz) (piece : Shape) → IsSoundLabel layers label → tile.z ≤ 14 → tile.x < 2 ^ tile.z → tile.y < 2 ^ tile.z → IsCleanCut piece → points_of piece < 2 ^ 29
    → AllByRecursion FitsAttribute label.attributes → IsSoundItem layers (item_of label (tile, piece))
piece-sound layers label tile piece h zoom column row clean few texts =
    item-sound layers label (number_of tile) (form_of piece) (ints_of piece) h (tile-within tile zoom column row) (form-known piece) (has-its-form piece clean) (shape-small piece (drawable piece clean few)) texts
