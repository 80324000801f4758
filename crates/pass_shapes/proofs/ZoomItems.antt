-- The pieces of a shape at a zoom, each as an item, are the items of its feature there.
use Rattle.std.proofs.Common.{◌≡◌, ℕ, zero, suc, ◌+◌, ◌^◌, ◌≤◌, cond, true, nat_le, ◌&&◌, Option, None, Some, option_map, option_and_then, List, [], ◌∷◌, ◌++◌, map, flat_map, filter_map, refl, sym, ap, ◌∙◌, arith}
use Rattle.std.proofs.lemmas.Bool.Decides.{nat_tests}
use Rattle.std.proofs.lemmas.List.Elements.{filter_map-append}
use Rattle.std.specs.List.{cons_option, range_with_len}
use Rattle.tb_types.specs.Bags.{below}
use Rattle.tb_types.specs.declared.shape.Shape.{Shape}
use Rattle.tb_types.specs.declared.tile.TileXyz.{TileXyz}
use Rattle.profile_rules.specs.declared.parts.Parts.{Parts}
use Rattle.profile_rules.specs.declared.spec.Spec.{Spec}
use Rattle.strip_clip.specs.Cuts.{cut_of}
use Rattle.sorted_lists.proofs.NumberLists.{counting}
use Rattle.tile_clip.specs.Pieces.{tile_at, of_each, with_tile, pieces_of}
use Rattle.tile_model.specs.Features.{Feature, as_item, item_at}
use Rattle.tile_model.specs.Rows.{feature_id, row_of, shape_feature}
use Rattle.tile_model.specs.Tiles.{zoom_items}
use Rattle.tile_model.specs.World.{buffer_of, simple_shape, tolerance_at}
use Rattle.tile_model.specs.declared.world.Origin.{Origin}
use Rattle.tile_model.specs.declared.world.WorldShape.{WorldShape}
use Rattle.pass_shapes.specs.declared.pieces.Label.{Label}
use Rattle.pass_shapes.specs.Pieces.{item_of, label_of, pieces_if, pieces_at}
use Rattle.pass_shapes.proofs.Ranging.{map-flat}

of_each-range : {A : Type 0} (f : ℕ → List A) (first n : ℕ) → of_each f first n ≡ flat_map f (range_with_len first n)
of_each-range f first zero = refl
of_each-range f first (suc n) = ap (λ xs. f first ++ xs) (of_each-range f (first + 1) n)

of_each-below : {A : Type 0} (f : ℕ → List A) (n : ℕ) → of_each f 0 n ≡ flat_map f (below n)
of_each-below f n = of_each-range f 0 n ∙ ap (flat_map f) (sym (counting n))

flat-same : {A : Type 0} (f g : ℕ → List A) (ns : List ℕ) → ((n : ℕ) → f n ≡ g n) → flat_map f ns ≡ flat_map g ns
flat-same f g [] h = refl
flat-same f g (n ∷ ns) h = λ i. h n i ++ flat-same f g ns h i

flat-none : {A : Type 0} (f : ℕ → List A) (ns : List ℕ) → ((n : ℕ) → f n ≡ []) → flat_map f ns ≡ []
flat-none f [] h = refl
flat-none f (n ∷ ns) h = ap (λ xs. xs ++ flat_map f ns) (h n) ∙ flat-none f ns h

chosen-flat : {A B : Type 0} (g : A → Option B) (f : ℕ → List A) (ns : List ℕ) → filter_map g (flat_map f ns) ≡ flat_map (λ n. filter_map g (f n)) ns
chosen-flat g f [] = refl
chosen-flat g f (n ∷ ns) = filter_map-append g (f n) (flat_map f ns) ∙ ap (λ xs. filter_map g (f n) ++ xs) (chosen-flat g f ns)

abbrev as_list : {A : Type 0} → Option A → List A
as_list None = []
as_list (Some x) = x ∷ []

by-option : {A : Type 0} (o : Option A) (rest : List A) → cons_option o rest ≡ as_list o ++ rest
by-option None rest = refl
by-option (Some x) rest = refl

chosen-map : {A B : Type 0} (g : A → Option B) (t : ℕ → A) (ns : List ℕ) → filter_map g (map t ns) ≡ flat_map (λ n. as_list (g (t n))) ns
chosen-map g t [] = refl
chosen-map g t (n ∷ ns) = by-option (g (t n)) (filter_map g (map t ns)) ∙ ap (λ xs. as_list (g (t n)) ++ xs) (chosen-map g t ns)

module _ (parts : Parts) (origin : Origin) (shape : WorldShape) (spec : Spec) (z : ℕ) (low : spec.min ≤ z) (high : z ≤ spec.max) where
  abbrev f : Feature
  f = shape_feature parts origin shape spec

  abbrev label : Label
  label = label_of origin spec

  abbrev buffer : ℕ
  buffer = buffer_of parts spec.layer

  abbrev simple : Option Shape
  simple = simple_shape z (tolerance_at parts spec.layer z) shape

  in-zooms : (nat_le spec.min z && nat_le z spec.max) ≡ true
  in-zooms = grind (arith, nat_tests)

  -- what is left in a tile, with it
  abbrev piece_in : TileXyz → Option Shape → List (TileXyz × Shape)
  piece_in t None = []
  piece_in t (Some s) = with_tile t (cut_of t buffer s)

  one-piece : (t : TileXyz) (o : Option Shape) → as_list (option_map (as_item f t) (option_map (row_of (feature_id origin.kind origin.id.0) spec.attributes) o)) ≡ map (item_of label) (with_tile t o)
  one-piece t None = refl
  one-piece t (Some piece) = refl

  by-left : (t : TileXyz) (o : Option Shape)
      → as_list (option_map (as_item f t) (option_map (row_of (feature_id origin.kind origin.id.0) spec.attributes) (option_and_then (cut_of t buffer) o))) ≡ map (item_of label) (piece_in t o)
  by-left t None = refl
  by-left t (Some s) = one-piece t (cut_of t buffer s)

  at-tile : (x y : ℕ) (o : Option Shape) → simple ≡ o → as_list (item_at f (tile_at z x y)) ≡ map (item_of label) (piece_in (tile_at z x y) o)
  at-tile x y o e =
      let t = tile_at z x y in
      let row = row_of (feature_id origin.kind origin.id.0) spec.attributes in
      ap (λ b. as_list (cond b (option_map (as_item f t) (option_map row (option_and_then (cut_of t buffer) simple))) None)) in-zooms
      ∙ (ap (λ s. as_list (option_map (as_item f t) (option_map row (option_and_then (cut_of t buffer) s)))) e ∙ by-left t o)

  -- both walks over the columns and rows of the zoom
  walked : zoom_items f z ≡ flat_map (λ x. flat_map (λ y. as_list (item_at f (tile_at z x y))) (below (2 ^ z))) (below (2 ^ z))
  walked =
      chosen-flat (item_at f) (λ x. map (λ y. tile_at z x y) (below (2 ^ z))) (below (2 ^ z))
      ∙ flat-same _ _ (below (2 ^ z)) (λ x. chosen-map (item_at f) (λ y. tile_at z x y) (below (2 ^ z)))

  given : (s : Shape) → map (item_of label) (pieces_of z buffer s) ≡ flat_map (λ x. flat_map (λ y. map (item_of label) (with_tile (tile_at z x y) (cut_of (tile_at z x y) buffer s))) (below (2 ^ z))) (below (2 ^ z))
  unfolding pieces_of
  given s =
      let at = λ (x y : ℕ). with_tile (tile_at z x y) (cut_of (tile_at z x y) buffer s) in
      ap (map (item_of label)) (of_each-below (λ x. of_each (at x) 0 (2 ^ z)) (2 ^ z) ∙ flat-same (λ x. of_each (at x) 0 (2 ^ z)) (λ x. flat_map (at x) (below (2 ^ z))) (below (2 ^ z)) (λ x. of_each-below (at x) (2 ^ z)))
      ∙ (sym (map-flat (item_of label) (λ x. flat_map (at x) (below (2 ^ z))) (below (2 ^ z)))
      ∙ flat-same (λ x. map (item_of label) (flat_map (at x) (below (2 ^ z)))) (λ x. flat_map (λ y. map (item_of label) (at x y)) (below (2 ^ z))) (below (2 ^ z))
      (λ x. sym (map-flat (item_of label) (at x) (below (2 ^ z)))))

  zoom-by : (o : Option Shape) → simple ≡ o → zoom_items f z ≡ map (item_of label) (pieces_if z buffer o)
  zoom-by None e = walked ∙ flat-none _ (below (2 ^ z)) (λ x. flat-none _ (below (2 ^ z)) (λ y. at-tile x y None e))
  zoom-by (Some s) e = walked ∙ (flat-same _ _ (below (2 ^ z)) (λ x. flat-same _ _ (below (2 ^ z)) (λ y. at-tile x y (Some s) e)) ∙ sym (given s))

  pub zoom-pieces : zoom_items f z ≡ map (item_of label) (pieces_at z (tolerance_at parts spec.layer z) buffer shape)
  zoom-pieces = zoom-by simple refl
