-- A store of the needed ways has them in the shapes of the extract, so the features of kept relations are those of the extract.
use Rattle.std.proofs.Common.{◌≡◌, ◌≢◌, ℕ, Bool, true, false, cond, ◌||◌, not, is_some, Option, None, Some, IfSome, option_map, option_and_then, List, length, [], ◌∷◌, ◌++◌, filter, filter_map, flat_map, refl, sym, ap, subst, ◌∙◌}
use Rattle.std.specs.Ordering.{is_lt}
use Rattle.std.specs.List.{AllByRecursion, cons_option}
use Rattle.tb_types.specs.Orders.{place_order}
use Rattle.tb_types.specs.declared.element.OsmId.{OsmId}
use Rattle.tb_types.specs.declared.element.Place.{Place}
use Rattle.tb_types.specs.declared.location.World.{World}
use Rattle.osm_elements.specs.declared.element.WayEl.{WayEl}
use Rattle.osm_elements.specs.declared.element.Block.{Block}
use Rattle.profile_rules.specs.declared.parts.Form.{Form}
use Rattle.profile_rules.specs.declared.parts.Form.TheVariants as forms
use Rattle.profile_rules.specs.declared.parts.Parts.{Parts}
use Rattle.profile_rules.specs.declared.spec.Spec.{Spec}
use Rattle.profile_rules.specs.Features.{specs_of}
use Rattle.tb_types.specs.declared.element.Kind.TheVariants as kinds
use Rattle.ring_assembly.specs.Chains.{same_node, assembled}
use Rattle.ring_assembly.specs.Nesting.{nested}
use Rattle.ring_assembly.specs.declared.way.WayShape.{WayShape}
use Rattle.shard_store.proofs.Joins.{same_id}
use Rattle.shard_store.specs.Join.{Entry, IsJoinOf}
use Rattle.member_sets.specs.Ids.{entries_of}
use Rattle.member_sets.specs.declared.kept.KeptRelation.{KeptRelation}
use Rattle.member_sets.specs.declared.unit.Unit.{Unit}
use Rattle.node_store.specs.declared.located.Located.{Located}
use Rattle.node_store.specs.declared.shaped.Shaped.{Shaped}
use Rattle.node_store.specs.Order.{located_join, shaped_join}
use Rattle.sorted_lists.proofs.Orders.{Pairs, each_weaker, each_filter, each_append}
use Rattle.tile_model.specs.Extract.{all_nodes, all_ways, all_refs, placed_ways, latest, later, location_of, shape_of, is_some_list, needed_refs}
use Rattle.tile_model.specs.Relations.{way_along, first_each, polygons_of, area_of, relation_shape}
use Rattle.tile_model.specs.Rows.{shape_feature, form_feature}
use Rattle.std.specs.Prelude.{sum_by}
use Rattle.tb_types.specs.Needs.{relation_need}
use Rattle.pass_shapes.specs.Kept.{kept_origin, kept_features, needs_of}
use Rattle.pass_shapes.specs.Stores.{locate_in, is_needed, located_in, shape_in, shaped_in}
use Rattle.pass_shapes.proofs.Locating.{needed-located, same-along, shaped, set-has, each-given}

-- what holds of each of some elements holds of the one at the greatest place
latest-each : {X : Type 0} (P : Place × X → Type 0) (xs : List (Place × X)) → AllByRecursion P xs → IfSome (latest xs) P
latest-each P [] h = tt
latest-each P (x ∷ xs) h = go (latest xs) (latest-each P xs h.1)
  where
    picked : (b : Bool) (y : Place × _) → P y → P (cond b y x)
    picked true y k = k
    picked false y k = h.0

    go : (found : Option (Place × _)) → IfSome found P → IfSome (later x found) P
    go None k = h.0
    go (Some y) k = picked (is_lt (place_order x.0 y.0)) y k

either-true : (b : Bool) → (b || true) ≡ true
either-true true = refl
either-true false = refl

module _ (parts : Parts) (ways : List (Entry Unit)) (one other : OsmId → Option World) where
  abbrev Same : OsmId → Type 0
  Same id = one id ≡ other id

  -- a needed way has one shape by both
  abbrev IsSame : WayEl → Type 0
  IsSame w = is_needed ways w.id ≡ true → way_along one w.refs ≡ way_along other w.refs

  way-same : (w : WayEl) → AllByRecursion Same (needed_refs parts (is_needed ways) w) → IsSame w
  way-same w h is =
      let some = is_some_list (specs_of parts w.tags kinds.Way) in
      same-along parts (is_needed ways) one other w.refs (subst (λ b. AllByRecursion Same (cond b w.refs [])) (ap (λ b. some || b) is ∙ either-true some) h)

  block-same : (block : ℕ) (ws : List WayEl) → AllByRecursion (λ w. AllByRecursion Same (needed_refs parts (is_needed ways) w)) ws → AllByRecursion (λ (w : Place × WayEl). IsSame w.1) (placed_ways (block, record { nodes = []; ways = ws; relations = [] }))
  block-same block [] h = tt
  block-same block (w ∷ ws) h = (way-same w h.0, block-same block ws h.1)

  all-same : (blocks : List (ℕ × Block)) → AllByRecursion (λ (b : ℕ × Block). AllByRecursion (λ w. AllByRecursion Same (needed_refs parts (is_needed ways) w)) b.1.ways) blocks → AllByRecursion (λ (w : Place × WayEl). IsSame w.1) (all_ways blocks)
  all-same [] h = tt
  all-same (b ∷ blocks) h = each_append (λ (w : Place × WayEl). IsSame w.1) (placed_ways b) (all_ways blocks) (block-same b.0 b.1.ways h.0) (all-same blocks h.1)

  -- of some ways those of an id have it
  of-id : (id : OsmId) (ws : List (Place × WayEl)) → AllByRecursion (λ (w : Place × WayEl). w.1.id ≡ id) (filter (λ w. same_node w.1.id id) ws)
  of-id id [] = tt
  of-id id (w ∷ ws) = go (same_node w.1.id id) refl (of-id id ws)
    where
      go : (b : Bool) → same_node w.1.id id ≡ b → AllByRecursion (λ (w : Place × WayEl). w.1.id ≡ id) (filter (λ w. same_node w.1.id id) ws) → AllByRecursion (λ (w : Place × WayEl). w.1.id ≡ id) (cond b (w ∷ filter (λ w. same_node w.1.id id) ws) (filter (λ w. same_node w.1.id id) ws))
      go true is h = (same_id w.1.id id is, h)
      go false is h = h

  both-each : (P Q R : Place × WayEl → Type 0) → ((w : Place × WayEl) → P w → Q w → R w) → (ws : List (Place × WayEl)) → AllByRecursion P ws → AllByRecursion Q ws → AllByRecursion R ws
  both-each P Q R f [] h k = tt
  both-each P Q R f (w ∷ ws) h k = (f w h.0 k.0, both-each P Q R f ws h.1 k.1)

  found-same : (found : Option (Place × WayEl)) → IfSome found (λ w. way_along one w.1.refs ≡ way_along other w.1.refs) → option_and_then (λ w. way_along one w.1.refs) found ≡ option_and_then (λ w. way_along other w.1.refs) found
  found-same None h = refl
  found-same (Some w) h = h

  -- the way of a needed id at the greatest place has one shape by both
  pub latest-same : (ws : List (Place × WayEl)) (id : OsmId) → AllByRecursion (λ (w : Place × WayEl). IsSame w.1) ws → is_needed ways id ≡ true
      → option_and_then (λ w. way_along one w.1.refs) (latest (filter (λ w. same_node w.1.id id) ws)) ≡ option_and_then (λ w. way_along other w.1.refs) (latest (filter (λ w. same_node w.1.id id) ws))
  latest-same ws id h is =
      let of = filter (λ (w : Place × WayEl). same_node w.1.id id) ws in
      found-same (latest of)
      (latest-each (λ w. way_along one w.1.refs ≡ way_along other w.1.refs) of
      (both-each (λ w. IsSame w.1) (λ w. w.1.id ≡ id) (λ w. way_along one w.1.refs ≡ way_along other w.1.refs) (λ w same e. same (ap (is_needed ways) e ∙ is)) of
      (each_filter (λ (w : Place × WayEl). IsSame w.1) (λ w. same_node w.1.id id) ws h) (of-id id ws)))

-- each id that stays has what all have
first-each : (P : OsmId → Type 0) (ids : List OsmId) → AllByRecursion P ids → AllByRecursion P (first_each ids)
first-each P [] h = tt
first-each P (id ∷ ids) h = (h.0, each_filter P (λ other. not (same_node id other)) (first_each ids) (first-each P ids h.1))

-- relations whose member ways have the same shapes have the same features
module _ (parts : Parts) (one other : OsmId → Option WayShape) where
  same-chosen : (ids : List OsmId) → AllByRecursion (λ id. one id ≡ other id) ids → filter_map one ids ≡ filter_map other ids
  same-chosen [] h = refl
  same-chosen (id ∷ ids) h = λ i. cons_option (h.0 i) (same-chosen ids h.1 i)

  same-polygons : (ids : List OsmId) → AllByRecursion (λ id. one id ≡ other id) ids → polygons_of one ids ≡ polygons_of other ids
  same-polygons ids h = ap (λ ws. nested (assembled ws)) (same-chosen (first_each ids) (first-each (λ id. one id ≡ other id) ids h))

  same-shape : (ids : List OsmId) → polygons_of one ids ≡ polygons_of other ids → (form : Form) → relation_shape one ids form ≡ relation_shape other ids form
  same-shape ids h forms.Point = refl
  same-shape ids h forms.Line = refl
  same-shape ids h forms.Area = ap area_of h

  same-specs : (k : KeptRelation) → polygons_of one k.members ≡ polygons_of other k.members → (specs : List Spec)
      → filter_map (form_feature parts (kept_origin k) (relation_shape one k.members)) specs ≡ filter_map (form_feature parts (kept_origin k) (relation_shape other k.members)) specs
  same-specs k h [] = refl
  same-specs k h (s ∷ specs) = λ i. cons_option (option_map (λ shape. shape_feature parts (kept_origin k) shape s) (same-shape k.members h s.form i)) (same-specs k h specs i)

  same-kept : (kept : List KeptRelation) → AllByRecursion (λ (k : KeptRelation). AllByRecursion (λ id. one id ≡ other id) k.members) kept → flat_map (kept_features parts one) kept ≡ flat_map (kept_features parts other) kept
  same-kept [] h = refl
  same-kept (k ∷ kept) h = λ i. same-specs k (same-polygons k.members h.0) k.specs i ++ same-kept kept h.1 i

  pub same-needs : (kept : List KeptRelation) → AllByRecursion (λ (k : KeptRelation). AllByRecursion (λ id. one id ≡ other id) k.members) kept → needs_of one kept ≡ needs_of other kept
  same-needs [] h = refl
  same-needs (k ∷ kept) h =
      λ i. relation_need (sum_by (λ (w : WayShape). length w.points) (same-chosen (first_each k.members) (first-each (λ id. one id ≡ other id) k.members h.0) i)) ∷ same-needs kept h.1 i

-- The member ways of kept relations have in a store of the needed ways, whose nodes a store of the needed nodes has, the shapes of the extract.
pub members-shaped : (parts : Parts) (set both : Unit → Unit → Unit) (blocks : List (ℕ × Block)) (kept : List KeptRelation) (ways needed : List (Entry Unit)) (store : List (Entry Located)) (shapes : List (Entry Shaped))
    → Pairs (λ m n. m.0 ≢ n.0) (all_nodes blocks) → Pairs (λ m n. m.0 ≢ n.0) (all_ways blocks) → IsJoinOf set (entries_of (flat_map (λ (k : KeptRelation). k.members) kept)) ways
    → IsJoinOf both (entries_of (all_refs parts (is_needed ways) blocks)) needed → IsJoinOf located_join (flat_map (λ b. located_in needed b.0 b.1.nodes) blocks) store
    → IsJoinOf shaped_join (flat_map (λ b. shaped_in ways (locate_in store) b.0 b.1.ways) blocks) shapes
    → AllByRecursion (λ (k : KeptRelation). AllByRecursion (λ id. shape_in shapes id ≡ shape_of blocks id) k.members) kept
members-shaped parts set both blocks kept ways needed store shapes nodes-apart ways-apart members nodes is put =
    let one = locate_in store in
    let other = location_of blocks in
    let same = all-same parts ways one other blocks (needed-located parts (is_needed ways) both blocks needed store nodes-apart nodes is) in
    let each : (id : OsmId) → is_needed ways id ≡ true → shape_in shapes id ≡ shape_of blocks id = λ id h. shaped ways one blocks shapes ways-apart put id h ∙ latest-same parts ways one other (all_ways blocks) id same h in
    each-given (λ id. shape_in shapes id ≡ shape_of blocks id) (λ (k : KeptRelation). k.members) kept
    (each_weaker (λ id. is_needed ways id ≡ true) (λ id. shape_in shapes id ≡ shape_of blocks id) each (flat_map (λ (k : KeptRelation). k.members) kept) (set-has set (flat_map (λ (k : KeptRelation). k.members) kept) ways members))

-- So the features of kept relations by the store are those by the shapes of the extract, and their needs likewise.
pub kept-shaped : (parts : Parts) (blocks : List (ℕ × Block)) (kept : List KeptRelation) (shapes : List (Entry Shaped))
    → AllByRecursion (λ (k : KeptRelation). AllByRecursion (λ id. shape_in shapes id ≡ shape_of blocks id) k.members) kept → flat_map (kept_features parts (shape_in shapes)) kept ≡ flat_map (kept_features parts (shape_of blocks)) kept
kept-shaped parts blocks kept shapes h = same-kept parts (shape_in shapes) (shape_of blocks) kept h
