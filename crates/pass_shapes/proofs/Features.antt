-- The items of a feature, zoom after zoom.
use Rattle.std.proofs.Common.{◌≡◌, ℕ, zero, suc, ◌+◌, ◌-◌, ◌<◌, ◌≤◌, None, List, [], ◌++◌, map, flat_map, refl, sym, ap, subst, arith}
use Rattle.std.specs.List.{range_with_len}
use Rattle.profile_rules.specs.declared.parts.Parts.{Parts}
use Rattle.profile_rules.specs.declared.spec.Spec.{Spec}
use Rattle.mvt_codec.specs.declared.item.RunItem.{RunItem}
use Rattle.tile_model.specs.Rows.{shape_feature}
use Rattle.tile_model.specs.Tiles.{zoom_items, feature_items}
use Rattle.tile_model.specs.World.{buffer_of, simple_shape, tolerance_at}
use Rattle.tile_model.specs.declared.world.Origin.{Origin}
use Rattle.tile_model.specs.declared.world.WorldShape.{WorldShape}
use Rattle.pass_shapes.specs.declared.pieces.Label.{Label}
use Rattle.pass_shapes.specs.Pieces.{item_of, label_of, pieces_at, pieces_if}
use Rattle.pass_shapes.proofs.Emitting.{State, Sends, sends-as, sends-none}
use Rattle.pass_shapes.proofs.Ranging.{from_to, Sent, sent-more, sent-all}
use Rattle.pass_shapes.proofs.ZoomItems.{zoom-pieces}

flat-within : (f g : ℕ → List RunItem) (a n : ℕ) → ((i : ℕ) → a ≤ i → i < a + n → f i ≡ g i) → flat_map f (range_with_len a n) ≡ flat_map g (range_with_len a n)
flat-within f g a zero h = refl
flat-within f g a (suc n) h = λ k. h a (omega arith) (omega arith) k ++ flat-within f g (a + 1) n (λ i low high. h i (omega (arith, low)) (omega (arith, high))) k

-- nothing of the shape is left on the grid
pub no-pieces : (parts : Parts) (label : Label) (z tolerance buffer : ℕ) (shape : WorldShape) (s : State) → simple_shape z tolerance shape ≡ None → Sends parts (map (item_of label) (pieces_at z tolerance buffer shape)) s s
no-pieces parts label z tolerance buffer shape s e = sends-as parts [] _ s s (sym (ap (λ o. map (item_of label) (pieces_if z buffer o)) e)) (sends-none parts s)

module _ (parts : Parts) (origin : Origin) (shape : WorldShape) (spec : Spec) where
  -- the items at a zoom
  abbrev pub made : ℕ → List RunItem
  made z = map (item_of (label_of origin spec)) (pieces_at z (tolerance_at parts spec.layer z) (buffer_of parts spec.layer) shape)

  -- the items of one more zoom
  pub sent-zoom : (z tolerance buffer : ℕ) (old now new : State) → z < spec.max + 1 → Sent parts made spec.min z (spec.max + 1) old now → tolerance ≡ tolerance_at parts spec.layer z → buffer ≡ buffer_of parts spec.layer
      → Sends parts (map (item_of (label_of origin spec)) (pieces_at z tolerance buffer shape)) now new → Sent parts made spec.min (z + 1) (spec.max + 1) old new
  sent-zoom z tolerance buffer old now new more d t b k = sent-more parts made spec.min z (spec.max + 1) old now new more d
      (subst (λ m. Sends parts (map (item_of (label_of origin spec)) (pieces_at z (tolerance_at parts spec.layer z) m shape)) now new) b
      (subst (λ m. Sends parts (map (item_of (label_of origin spec)) (pieces_at z m buffer shape)) now new) t k))

  all-zooms : feature_items (shape_feature parts origin shape spec) ≡ flat_map made (from_to spec.min (spec.max + 1))
  all-zooms = flat-within (zoom_items (shape_feature parts origin shape spec)) made spec.min (spec.max + 1 - spec.min) (λ z low high. zoom-pieces parts origin shape spec z low (omega (arith, low, high)))

  pub sent-zooms : (z : ℕ) (old now : State) → spec.max + 1 ≤ z → Sent parts made spec.min z (spec.max + 1) old now → Sends parts (feature_items (shape_feature parts origin shape spec)) old now
  sent-zooms z old now all d = sends-as parts _ _ old now (sym all-zooms) (sent-all parts made spec.min z (spec.max + 1) old now all d)
