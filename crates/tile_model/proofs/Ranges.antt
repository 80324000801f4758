-- The zooms of the features of a sound profile are among its own.
use Rattle.std.proofs.Common.{ℕ, Option, None, Some, IfSome, List, [], ◌∷◌, ◌++◌, filter_map, flat_map, All}
use Rattle.std.proofs.lemmas.List.Elements.{All-nil, All-append, All-map, All-weaker, All-from_recursion, recursion_from_All}
use Rattle.std.specs.List.{AllByRecursion}
use Rattle.tb_types.specs.declared.attribute.Tags.{Tags}
use Rattle.tb_types.specs.declared.element.Kind.{Kind}
use Rattle.tb_types.specs.declared.element.Kind.TheVariants as kinds
use Rattle.tb_types.specs.declared.location.World.{World}
use Rattle.osm_elements.specs.declared.element.Block.{Block}
use Rattle.osm_elements.specs.declared.element.NodeEl.{NodeEl}
use Rattle.profile_rules.specs.declared.parts.Form.{Form}
use Rattle.profile_rules.specs.declared.parts.Parts.{Parts}
use Rattle.profile_rules.specs.declared.spec.Spec.{Spec}
use Rattle.profile_rules.specs.Features.{specs_of}
use Rattle.profile_rules.specs.Sound.{IsSound, IsSoundSpec}
use Rattle.profile_rules.proofs.SoundSpecs.{specs-sound}
use Rattle.tile_model.specs.BuildLaws.{IsWithin}
use Rattle.tile_model.specs.Features.{Feature}
use Rattle.tile_model.specs.Points.{point_feature, point_of, if_placed, node_features, points_of}
use Rattle.tile_model.specs.Extract.{features_of, location_of, shape_of}
use Rattle.tile_model.specs.Relations.{way_ids, relation_shape, relation_origin, relation_features, relations_of}
use Rattle.tile_model.specs.Rows.{shape_feature, form_feature}
use Rattle.tile_model.specs.Ways.{way_shape, way_origin, way_features, ways_of}
use Rattle.tile_model.specs.declared.world.Origin.{Origin}
use Rattle.tile_model.specs.declared.world.WorldShape.{WorldShape}
use Rattle.tile_model.proofs.Names.{each-chosen, on-shape}

placed-within : (parts : Parts) (block : ℕ) (n : NodeEl) (point : Option World) → IsSound parts → All (IsWithin parts.min parts.max) (if_placed parts block n point)
placed-within parts block n None h = All-nil (IsWithin parts.min parts.max)
placed-within parts block n (Some w) h =
    All-map (IsWithin parts.min parts.max) (point_feature parts block n w) (specs_of parts n.tags kinds.Node)
    (All-weaker (IsSoundSpec parts) (λ spec. IsWithin parts.min parts.max (point_feature parts block n w spec)) (λ spec sound. record { first = sound.first; last = sound.last }) (specs_of parts n.tags kinds.Node) (specs-sound parts n.tags kinds.Node h))

-- what specs make of an element that has a shape in some forms
chosen-within : (parts : Parts) (origin : Origin) (shape_in : Form → Option WorldShape) (specs : List Spec) → AllByRecursion (IsSoundSpec parts) specs → AllByRecursion (λ s. IfSome (form_feature parts origin shape_in s) (IsWithin parts.min parts.max)) specs
chosen-within parts origin shape_in [] h = tt
chosen-within parts origin shape_in (s ∷ specs) h = (
  on-shape (λ shape. shape_feature parts origin shape s) (shape_in s.form) (IsWithin parts.min parts.max) (λ shape. record { first = h.0.first; last = h.0.last }),
  chosen-within parts origin shape_in specs h.1,
)

shape-within : (parts : Parts) (origin : Origin) (shape_in : Form → Option WorldShape) (tags : Tags) (kind : Kind) → IsSound parts → All (IsWithin parts.min parts.max) (filter_map (form_feature parts origin shape_in) (specs_of parts tags kind))
shape-within parts origin shape_in tags kind h =
    let specs = specs_of parts tags kind in
    All-from_recursion (IsWithin parts.min parts.max) (filter_map (form_feature parts origin shape_in) specs)
    (each-chosen (IsWithin parts.min parts.max) (form_feature parts origin shape_in) specs (chosen-within parts origin shape_in specs (recursion_from_All (IsSoundSpec parts) specs (specs-sound parts tags kind h))))

-- what each element of blocks gives
module _ {X : Type 0} (parts : Parts) (elements : Block → List X) (features : ℕ → X → List Feature) (each : (block : ℕ) (x : X) → All (IsWithin parts.min parts.max) (features block x)) where
  in-block : (block : ℕ) (xs : List X) → All (IsWithin parts.min parts.max) (flat_map (features block) xs)
  in-block block [] = All-nil (IsWithin parts.min parts.max)
  in-block block (x ∷ xs) = All-append (IsWithin parts.min parts.max) (features block x) _ (each block x) (in-block block xs)

  in-blocks : (blocks : List (ℕ × Block)) → All (IsWithin parts.min parts.max) (flat_map (λ (b : ℕ × Block). flat_map (features b.0) (elements b.1)) blocks)
  in-blocks [] = All-nil (IsWithin parts.min parts.max)
  in-blocks (b ∷ blocks) = All-append (IsWithin parts.min parts.max) (flat_map (features b.0) (elements b.1)) _ (in-block b.0 (elements b.1)) (in-blocks blocks)

pub all-within : (parts : Parts) (blocks : List (ℕ × Block)) → IsSound parts → All (IsWithin parts.min parts.max) (features_of parts blocks)
all-within parts blocks h =
    let locate = location_of blocks in
    let shape_at = shape_of blocks in
    All-append (IsWithin parts.min parts.max) (points_of parts blocks) (ways_of parts locate blocks ++ relations_of parts shape_at blocks)
    (in-blocks parts (λ b. b.nodes) (node_features parts) (λ block n. placed-within parts block n (point_of n) h) blocks)
    (All-append (IsWithin parts.min parts.max) (ways_of parts locate blocks) (relations_of parts shape_at blocks)
    (in-blocks parts (λ b. b.ways) (way_features parts locate) (λ block w. shape-within parts (way_origin block w) (way_shape locate w.refs) w.tags kinds.Way h) blocks)
    (in-blocks parts (λ b. b.relations) (relation_features parts shape_at) (λ block r. shape-within parts (relation_origin block r) (relation_shape shape_at (way_ids r.members)) r.tags kinds.Relation h) blocks))
