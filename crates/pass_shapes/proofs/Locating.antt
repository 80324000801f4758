-- Stores of the needed nodes and ways have them as the extract does, so the features of ways and of kept relations are those of the extract.
use Rattle.std.proofs.Common.{◌≡◌, ◌≢◌, ℕ, Bool, true, cond, ◌||◌, is_some, Option, None, Some, option_map, option_and_then, List, [], ◌∷◌, ◌++◌, filter, filter_map, flat_map, length, nat_le, refl, ap, subst, ◌∙◌, append_assoc}
use Rattle.std.proofs.lemmas.Bool.Decides.{Decides-int_eq}
use Rattle.std.specs.Option.{option_cmp}
use Rattle.std.specs.List.{AllByRecursion, cons_option}
use Rattle.tb_types.specs.declared.element.OsmId.{OsmId}
use Rattle.tb_types.specs.declared.element.Place.{Place}
use Rattle.tb_types.specs.declared.location.World.{World}
use Rattle.osm_elements.specs.declared.element.NodeEl.{NodeEl}
use Rattle.osm_elements.specs.declared.element.WayEl.{WayEl}
use Rattle.osm_elements.specs.declared.element.Block.{Block}
use Rattle.profile_rules.specs.declared.parts.Form.{Form}
use Rattle.profile_rules.specs.declared.parts.Form.TheVariants as forms
use Rattle.profile_rules.specs.declared.parts.Parts.{Parts}
use Rattle.profile_rules.specs.declared.spec.Spec.{Spec}
use Rattle.profile_rules.specs.Features.{specs_of}
use Rattle.tb_types.specs.declared.element.Kind.TheVariants as kinds
use Rattle.ring_assembly.specs.Chains.{same_node}
use Rattle.member_sets.specs.Ids.{entry_of, entries_of}
use Rattle.shard_store.specs.Join.{Entry, join, under, join_all, IsJoinOf}
use Rattle.member_sets.specs.declared.unit.Unit.{Unit}
use Rattle.node_store.specs.declared.located.Located.{Located}
use Rattle.node_store.specs.declared.shaped.Shaped.{Shaped}
use Rattle.node_store.specs.Order.{located_order, located_join, world_order, shaped_order, shaped_join, way_order}
use Rattle.sorted_lists.proofs.Orders.{Pairs, each_weaker}
use Rattle.tile_model.specs.Extract.{all_nodes, all_ways, all_refs, latest, location_of, is_some_list, needed_refs}
use Rattle.tile_model.specs.Points.{point_of}
use Rattle.tile_model.specs.Relations.{way_along}
use Rattle.tile_model.specs.Rows.{shape_feature}
use Rattle.tile_model.specs.Ways.{all_located, path_of, is_closed, ring_area, way_shape, way_origin, way_feature, way_features, ways_of}
use Rattle.tile_model.specs.declared.world.WorldShape.TheVariants as worlds
use Rattle.pass_shapes.specs.Stores.{locate_in, is_needed, located_in, shape_in, shaped_in}
use Rattle.pass_shapes.proofs.Latest.{stored}

-- a node and a way with their places, as what a store keeps of them
abbrev as_located : Place × NodeEl → Located
as_located n = record { place = n.0; at = point_of n.1 }

abbrev as_shaped : (OsmId → Option World) → Place × WayEl → Shaped
as_shaped locate w = record { place = w.0; shape = way_along locate w.1.refs }

at-of : (found : Option (Place × NodeEl)) → option_and_then (λ (l : Located). l.at) (option_map as_located found) ≡ option_and_then (λ n. point_of n.1) found
at-of None = refl
at-of (Some n) = refl

-- A store of the needed nodes of an extract has each where the extract has it.
pub located : (needed : List (Entry Unit)) (blocks : List (ℕ × Block)) (store : List (Entry Located)) → Pairs (λ m n. m.0 ≢ n.0) (all_nodes blocks)
    → IsJoinOf located_join (flat_map (λ b. located_in needed b.0 b.1.nodes) blocks) store → (id : OsmId) → is_needed needed id ≡ true → locate_in store id ≡ location_of blocks id
located needed blocks store apart is id h =
    ap (option_and_then (λ (l : Located). l.at))
    (stored (λ (n : NodeEl). n.id) (λ (n : NodeEl). n.index) located_order (λ x y. option_cmp world_order x.at y.at) as_located (λ m n. refl) (λ b. b.nodes) needed blocks store apart is id h)
    ∙ at-of (latest (filter (λ n. same_node n.1.id id) (all_nodes blocks)))

shape-of : (locate : OsmId → Option World) (found : Option (Place × WayEl)) → option_and_then (λ (s : Shaped). s.shape) (option_map (as_shaped locate) found) ≡ option_and_then (λ w. way_along locate w.1.refs) found
shape-of locate None = refl
shape-of locate (Some w) = refl

-- A store of the needed ways has each in the shape that its nodes give it.
pub shaped : (needed : List (Entry Unit)) (locate : OsmId → Option World) (blocks : List (ℕ × Block)) (store : List (Entry Shaped)) → Pairs (λ m n. m.0 ≢ n.0) (all_ways blocks)
    → IsJoinOf shaped_join (flat_map (λ b. shaped_in needed locate b.0 b.1.ways) blocks) store → (id : OsmId) → is_needed needed id ≡ true
    → shape_in store id ≡ option_and_then (λ w. way_along locate w.1.refs) (latest (filter (λ w. same_node w.1.id id) (all_ways blocks)))
shaped needed locate blocks store apart is id h =
    ap (option_and_then (λ (s : Shaped). s.shape))
    (stored (λ (w : WayEl). w.id) (λ (w : WayEl). w.index) shaped_order (λ x y. option_cmp way_order x.shape y.shape) (as_shaped locate) (λ m n. refl) (λ b. b.ways) needed blocks store apart is id h)
    ∙ shape-of locate (latest (filter (λ w. same_node w.1.id id) (all_ways blocks)))

-- a set of ids has each of them
module _ (both : Unit → Unit → Unit) where
  some-either : (o p : Option Unit) → is_some p ≡ true → is_some (join both o p) ≡ true
  some-either None p h = h
  some-either (Some u) None h = refl
  some-either (Some u) (Some v) h = refl

  some-first : (u : Unit) (p : Option Unit) → is_some (join both (Some u) p) ≡ true
  some-first u None = refl
  some-first u (Some v) = refl

  some-at : (x : OsmId) (before after : List OsmId) → is_some (join_all both (entries_of (before ++ x ∷ after)) x) ≡ true
  some-at x [] after = ap (λ b. is_some (join both (cond b (Some (record {})) None) (join_all both (entries_of after) x))) ((Decides-int_eq x.0 x.0).1 refl) ∙ some-first (record {}) (join_all both (entries_of after) x)
  some-at x (y ∷ before) after = some-either (under x (entry_of y)) (join_all both (entries_of (before ++ x ∷ after)) x) (some-at x before after)

  each-there : (before ids : List OsmId) → AllByRecursion (λ id. is_some (join_all both (entries_of (before ++ ids)) id) ≡ true) ids
  each-there before [] = tt
  each-there before (x ∷ ids) =
      (some-at x before ids, subst (λ all. AllByRecursion (λ id. is_some (join_all both (entries_of all) id) ≡ true) ids) (append_assoc before (x ∷ []) ids) (each-there (before ++ x ∷ []) ids))

  pub set-has : (ids : List OsmId) (needed : List (Entry Unit)) → IsJoinOf both (entries_of ids) needed → AllByRecursion (λ id. is_needed needed id ≡ true) ids
  set-has ids needed is = each_weaker (λ id. is_some (join_all both (entries_of ids) id) ≡ true) (λ id. is_needed needed id ≡ true) (λ id h. ap is_some (is.values id) ∙ h) ids (each-there [] ids)

-- what holds of each of what is gathered holds of what each gives
module _ {B : Type 0} (P : B → Type 0) where
  each-front : (xs ys : List B) → AllByRecursion P (xs ++ ys) → AllByRecursion P xs
  each-front [] ys h = tt
  each-front (x ∷ xs) ys h = (h.0, each-front xs ys h.1)

  each-back : (xs ys : List B) → AllByRecursion P (xs ++ ys) → AllByRecursion P ys
  each-back [] ys h = h
  each-back (x ∷ xs) ys h = each-back xs ys h.1

module _ {A B : Type 0} (P : B → Type 0) where
  pub each-given : (g : A → List B) (xs : List A) → AllByRecursion P (flat_map g xs) → AllByRecursion (λ x. AllByRecursion P (g x)) xs
  each-given g [] h = tt
  each-given g (x ∷ xs) h = (each-front P (g x) (flat_map g xs) h, each-given g xs (each-back P (g x) (flat_map g xs) h))

-- ways whose needed nodes are at the same places have the same features
module _ (parts : Parts) (is_member : OsmId → Bool) (one other : OsmId → Option World) where
  abbrev Same : OsmId → Type 0
  Same id = one id ≡ other id

  same-points : (ids : List OsmId) → AllByRecursion Same ids → all_located one ids ≡ all_located other ids
  same-points [] h = refl
  same-points (id ∷ ids) h = λ i. option_and_then (λ w. option_map (λ points. w ∷ points) (same-points ids h.1 i)) (h.0 i)

  same-path : (refs : List OsmId) → AllByRecursion Same refs → path_of one refs ≡ path_of other refs
  same-path refs h = ap (λ points. cond (nat_le 2 (length refs)) points None) (same-points refs h)

  same-shape : (refs : List OsmId) (form : Form) → AllByRecursion Same refs → way_shape one refs form ≡ way_shape other refs form
  same-shape refs forms.Point h = refl
  same-shape refs forms.Line h = ap (option_map (λ path. worlds.Line path)) (same-path refs h)
  same-shape refs forms.Area h = ap (λ path. cond (is_closed refs) (option_map ring_area path) None) (same-path refs h)

  pub same-along : (refs : List OsmId) → AllByRecursion Same refs → way_along one refs ≡ way_along other refs
  same-along [] h = refl
  same-along (id ∷ refs) h = ap (option_map _) (same-path (id ∷ refs) h)

  same-specs : (block : ℕ) (w : WayEl) → AllByRecursion Same w.refs → (specs : List Spec) → filter_map (way_feature parts one block w) specs ≡ filter_map (way_feature parts other block w) specs
  same-specs block w h [] = refl
  same-specs block w h (s ∷ specs) = λ i. cons_option (option_map (λ shape. shape_feature parts (way_origin block w) shape s) (same-shape w.refs s.form h i)) (same-specs block w h specs i)

  same-way : (block : ℕ) (w : WayEl) → AllByRecursion Same (needed_refs parts is_member w) → way_features parts one block w ≡ way_features parts other block w
  same-way block w h = go (specs_of parts w.tags kinds.Way) h
    where
      go : (specs : List Spec) → AllByRecursion Same (cond (is_some_list specs || is_member w.id) w.refs []) → filter_map (way_feature parts one block w) specs ≡ filter_map (way_feature parts other block w) specs
      go [] k = refl
      go (s ∷ specs) k = same-specs block w k (s ∷ specs)

  same-block : (block : ℕ) (ways : List WayEl) → AllByRecursion (λ w. AllByRecursion Same (needed_refs parts is_member w)) ways → flat_map (way_features parts one block) ways ≡ flat_map (way_features parts other block) ways
  same-block block [] h = refl
  same-block block (w ∷ ways) h = λ i. same-way block w h.0 i ++ same-block block ways h.1 i

  same-blocks : (blocks : List (ℕ × Block)) → AllByRecursion (λ (b : ℕ × Block). AllByRecursion (λ w. AllByRecursion Same (needed_refs parts is_member w)) b.1.ways) blocks → ways_of parts one blocks ≡ ways_of parts other blocks
  same-blocks [] h = refl
  same-blocks (b ∷ blocks) h = λ i. same-block b.0 b.1.ways h.0 i ++ same-blocks blocks h.1 i

-- the nodes that ways need are where the extract has them
pub needed-located : (parts : Parts) (is_member : OsmId → Bool) (both : Unit → Unit → Unit) (blocks : List (ℕ × Block)) (needed : List (Entry Unit)) (store : List (Entry Located)) → Pairs (λ m n. m.0 ≢ n.0) (all_nodes blocks)
    → IsJoinOf both (entries_of (all_refs parts is_member blocks)) needed → IsJoinOf located_join (flat_map (λ b. located_in needed b.0 b.1.nodes) blocks) store
    → AllByRecursion (λ (b : ℕ × Block). AllByRecursion (λ w. AllByRecursion (λ id. locate_in store id ≡ location_of blocks id) (needed_refs parts is_member w)) b.1.ways) blocks
needed-located parts is_member both blocks needed store apart set is =
    let Same : OsmId → Type 0 = λ id. locate_in store id ≡ location_of blocks id in
    let each : AllByRecursion Same (all_refs parts is_member blocks) =
    each_weaker (λ id. is_needed needed id ≡ true) Same (λ id h. located needed blocks store apart is id h) (all_refs parts is_member blocks) (set-has both (all_refs parts is_member blocks) needed set) in
    each_weaker (λ (b : ℕ × Block). AllByRecursion Same (flat_map (needed_refs parts is_member) b.1.ways)) (λ (b : ℕ × Block). AllByRecursion (λ w. AllByRecursion Same (needed_refs parts is_member w)) b.1.ways)
    (λ b h. each-given Same (needed_refs parts is_member) b.1.ways h) blocks (each-given Same (λ (b : ℕ × Block). flat_map (needed_refs parts is_member) b.1.ways) blocks each)

-- The features of ways by a store of the needed nodes are those of the extract.
pub ways-located : (parts : Parts) (is_member : OsmId → Bool) (both : Unit → Unit → Unit) (blocks : List (ℕ × Block)) (needed : List (Entry Unit)) (store : List (Entry Located)) → Pairs (λ m n. m.0 ≢ n.0) (all_nodes blocks)
    → IsJoinOf both (entries_of (all_refs parts is_member blocks)) needed → IsJoinOf located_join (flat_map (λ b. located_in needed b.0 b.1.nodes) blocks) store
    → ways_of parts (locate_in store) blocks ≡ ways_of parts (location_of blocks) blocks
ways-located parts is_member both blocks needed store apart set is =
    same-blocks parts is_member (locate_in store) (location_of blocks) blocks (needed-located parts is_member both blocks needed store apart set is)
