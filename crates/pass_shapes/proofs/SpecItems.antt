-- The items of an element that has a shape in some forms, spec after spec; ways and specs that have none.
use Rattle.std.proofs.Common.{◌≡◌, ℕ, ◌+◌, ◌<◌, Bool, true, false, cond, Option, None, Some, option_map, List, [], ◌∷◌, ◌++◌, map, filter_map, length, take, get_or, All, arith, refl, sym, ap, subst, ◌∙◌, append_assoc}
use Rattle.std.specs.List.{AllByRecursion, cons_option}
use Rattle.tb_types.specs.declared.element.OsmId.{OsmId}
use Rattle.tb_types.specs.declared.location.World.{World}
use Rattle.profile_rules.specs.declared.parts.Form.{Form}
use Rattle.profile_rules.specs.declared.parts.Form.TheVariants as forms
use Rattle.profile_rules.specs.declared.parts.Parts.{Parts}
use Rattle.profile_rules.specs.declared.spec.Spec.{Spec}
use Rattle.profile_rules.specs.Features.{specs_of}
use Rattle.profile_rules.specs.Sound.{IsSoundSpec}
use Rattle.osm_elements.specs.declared.element.NodeEl.{NodeEl}
use Rattle.tb_types.specs.declared.element.Kind.TheVariants as kinds
use Rattle.ring_assembly.specs.declared.polygon.Polygon.{Polygon}
use Rattle.ring_assembly.specs.declared.way.WayShape.{WayShape}
use Rattle.tile_model.specs.Features.{Feature}
use Rattle.tile_model.specs.Rows.{shape_feature, form_feature}
use Rattle.tile_model.specs.Points.{point_of, point_feature, if_placed, node_features}
use Rattle.tile_model.specs.Relations.{polygons_of, area_of, relation_shape}
use Rattle.tile_model.specs.Tiles.{feature_items, emitted_items}
use Rattle.tile_model.specs.Ways.{path_of, is_closed, ring_area, way_shape}
use Rattle.tile_model.specs.declared.world.Origin.{Origin}
use Rattle.tile_model.specs.declared.world.WorldShape.{WorldShape}
use Rattle.tile_model.specs.declared.world.WorldShape.TheVariants as worlds
use Rattle.std.proofs.lemmas.List.{append-nil, take_more}
use Rattle.std.proofs.lemmas.List.Elements.{filter_map-append, recursion_from_All}
use Rattle.std.proofs.lemmas.Grind.{flat_map-append}
use Rattle.pass_shapes.proofs.Emitting.{State, Sends, sends-none, sends-as, sends-both}

either-same : {X : Type 0} (b : Bool) (x : X) → cond b x x ≡ x
either-same true x = refl
either-same false x = refl

pub none-in : {X : Type 0} (xs : List X) → length xs ≡ 0 → xs ≡ []
none-in [] h = refl
none-in (x ∷ xs) h = absurd (omega (arith, h))

module _ (parts : Parts) (origin : Origin) (shape_in : Form → Option WorldShape) where
  abbrev pub of_specs : List Spec → List Feature
  of_specs specs = filter_map (form_feature parts origin shape_in) specs

  no-features : (s : State) (features : List Feature) → features ≡ [] → Sends parts (emitted_items features) s s
  no-features s features e = sends-as parts [] _ s s (ap emitted_items (sym e)) (sends-none parts s)

  none-chosen : (specs : List Spec) → ((s : Spec) → shape_in s.form ≡ None) → of_specs specs ≡ []
  none-chosen [] h = refl
  none-chosen (s ∷ specs) h = ap (λ shape. cons_option (option_map (λ x. shape_feature parts origin x s) shape) (of_specs specs)) (h s) ∙ none-chosen specs h

  -- where there are no specs, or no shape in any form, or none in that of one spec
  pub no-specs : (at : State) (specs : List Spec) → specs ≡ [] → Sends parts (emitted_items (of_specs specs)) at at
  no-specs at specs e = no-features at (of_specs specs) (ap of_specs e)

  pub no-shapes : (at : State) (specs : List Spec) → ((form : Form) → shape_in form ≡ None) → Sends parts (emitted_items (of_specs specs)) at at
  no-shapes at specs h = no-features at (of_specs specs) (none-chosen specs (λ s. h s.form))

  pub no-shape : (spec : Spec) (at : State) → shape_in spec.form ≡ None → Sends parts (emitted_items (of_specs (spec ∷ []))) at at
  no-shape spec at e = no-features at (of_specs (spec ∷ [])) (ap (λ shape. cons_option (option_map (λ x. shape_feature parts origin x spec) shape) []) e)

  -- the items of the first specs, behind which these are left
  pub record SpecsSent (specs rest : List Spec) (old now : State) : Type 0 where
    pub done : List Spec
    pub all : specs ≡ done ++ rest
    pub items : Sends parts (emitted_items (of_specs done)) old now

  pub specs-start : (specs : List Spec) (old : State) → SpecsSent specs specs old old
  specs-start specs old = record { done = []; all = refl; items = sends-none parts old }

  pub specs-next : (specs rest : List Spec) (s : Spec) (old now new : State) → SpecsSent specs (s ∷ rest) old now → Sends parts (emitted_items (of_specs (s ∷ []))) now new → SpecsSent specs rest old new
  specs-next specs rest s old now new d g = record {
    done = d.done ++ s ∷ [];
    all = d.all ∙ sym (append_assoc d.done (s ∷ []) rest);
    items = sends-as parts _ _ old new
        (sym (ap emitted_items (filter_map-append (form_feature parts origin shape_in) d.done (s ∷ [])) ∙ flat_map-append feature_items (of_specs d.done) (of_specs (s ∷ []))))
        (sends-both parts _ _ old now new d.items g);
  }

  pub specs-all : (specs : List Spec) (old now : State) → SpecsSent specs [] old now → Sends parts (emitted_items (of_specs specs)) old now
  specs-all specs old now d = sends-as parts _ _ old now (ap (λ xs. emitted_items (of_specs xs)) (sym (d.all ∙ append-nil d.done))) d.items

  -- each spec that is left is sound
  pub next-sound : (specs rest : List Spec) (s : Spec) (old now : State) → All (IsSoundSpec parts) specs → SpecsSent specs (s ∷ rest) old now → IsSoundSpec parts s
  next-sound specs rest s old now h d = back d.done (recursion_from_All (IsSoundSpec parts) (d.done ++ s ∷ rest) (subst (All (IsSoundSpec parts)) d.all h))
    where
      back : (done : List Spec) → AllByRecursion (IsSoundSpec parts) (done ++ s ∷ rest) → IsSoundSpec parts s
      back [] k = k.0
      back (x ∷ done) k = back done k.1

  -- the same by places in the list
  last-spec : (specs : List Spec) (i : ℕ) (d : Spec) → i < length specs → emitted_items (of_specs (take (i + 1) specs)) ≡ emitted_items (of_specs (take i specs)) ++ emitted_items (of_specs (get_or specs i d ∷ []))
  last-spec specs i d more =
      ap (λ xs. emitted_items (of_specs xs)) (take_more specs i d more)
      ∙ (ap emitted_items (filter_map-append (form_feature parts origin shape_in) (take i specs) (get_or specs i d ∷ [])) ∙ flat_map-append feature_items (of_specs (take i specs)) (of_specs (get_or specs i d ∷ [])))

  pub spec-next : (specs : List Spec) (i : ℕ) (s : Spec) (old now new : State) → i < length specs → s ≡ get_or specs i s → Sends parts (emitted_items (of_specs (take i specs))) old now → Sends parts (emitted_items (of_specs (s ∷ []))) now new
      → Sends parts (emitted_items (of_specs (take (i + 1) specs))) old new
  spec-next specs i s old now new more is g h =
      sends-as parts _ _ old new (sym (last-spec specs i s more)) (sends-both parts _ _ old now new g (subst (λ (x : Spec). Sends parts (emitted_items (of_specs (x ∷ []))) now new) is h))

-- a node without specs
pub no-points : (parts : Parts) (block : ℕ) (n : NodeEl) (at : State) → specs_of parts n.tags kinds.Node ≡ [] → Sends parts (emitted_items (node_features parts block n)) at at
no-points parts block n at e = sends-as parts [] _ at at (sym (ap emitted_items (none (point_of n)))) (sends-none parts at)
  where
    none : (place : Option World) → if_placed parts block n place ≡ []
    none None = refl
    none (Some w) = ap (map (point_feature parts block n w)) e

-- a node without a location
pub not-placed : (parts : Parts) (block : ℕ) (n : NodeEl) (at : State) → point_of n ≡ None → Sends parts (emitted_items (node_features parts block n)) at at
not-placed parts block n at e = sends-as parts [] _ at at (sym (ap (λ place. emitted_items (if_placed parts block n place)) e)) (sends-none parts at)

-- the forms of a way without points
module _ (locate : OsmId → Option World) (refs : List OsmId) where
  pub none-shaped : path_of locate refs ≡ None → (form : Form) → way_shape locate refs form ≡ None
  none-shaped e forms.Point = refl
  none-shaped e forms.Line = ap (option_map (λ path. worlds.Line path)) e
  none-shaped e forms.Area = ap (λ path. cond (is_closed refs) (option_map ring_area path) None) e ∙ either-same (is_closed refs) None

-- the forms of a relation without polygons
pub no-polygons : (shape_at : OsmId → Option WayShape) (ids : List OsmId) → polygons_of shape_at ids ≡ [] → (form : Form) → relation_shape shape_at ids form ≡ None
no-polygons shape_at ids e forms.Point = refl
no-polygons shape_at ids e forms.Line = refl
no-polygons shape_at ids e forms.Area = ap area_of e

pub some-polygons : (shape_at : OsmId → Option WayShape) (ids : List OsmId) (polygons : List Polygon) → polygons ≡ polygons_of shape_at ids → 0 < length polygons → relation_shape shape_at ids forms.Area ≡ Some (worlds.Area polygons)
some-polygons shape_at ids [] is h = absurd (omega (arith, h))
some-polygons shape_at ids (p ∷ polygons) is h = sym (ap area_of is)
