-- No two features of an extract have one name: kinds tell nodes, ways and relations apart, and places and rules those of one kind.
use Rattle.std.proofs.Common.{◌≡◌, ◌≢◌, ℕ, ◌+◌, ◌<◌, Option, None, Some, IfSome, List, [], ◌∷◌, ◌++◌, map, filter, flat_map, filter_map, option_map, All, refl, sym, ap, ◌∙◌, arith}
use Rattle.std.proofs.lemmas.List.Elements.{recursion_from_All}
use Rattle.std.specs.List.{AllByRecursion, cons_option, enumerate_from}
use Rattle.tb_types.specs.declared.attribute.Tags.{Tags}
use Rattle.tb_types.specs.declared.element.Kind.{Kind}
use Rattle.tb_types.specs.declared.element.Kind.TheVariants as kinds
use Rattle.tb_types.specs.declared.element.OsmId.{OsmId}
use Rattle.tb_types.specs.declared.location.World.{World}
use Rattle.osm_elements.specs.declared.element.NodeEl.{NodeEl}
use Rattle.osm_elements.specs.declared.element.WayEl.{WayEl}
use Rattle.osm_elements.specs.declared.element.RelEl.{RelEl}
use Rattle.osm_elements.specs.declared.element.Block.{Block}
use Rattle.profile_rules.specs.declared.parts.Form.{Form}
use Rattle.profile_rules.specs.declared.parts.Parts.{Parts}
use Rattle.profile_rules.specs.declared.parts.Rule.{Rule}
use Rattle.profile_rules.specs.declared.spec.Spec.{Spec}
use Rattle.profile_rules.specs.Features.{specs_of, spec_of, applies}
use Rattle.sorted_lists.specs.Sorting.{KeysDiffer}
use Rattle.sorted_lists.proofs.Orders.{each_weaker, each_append, Pairs, pairs_weaker, pairs_from_AllPairs, AllPairs_from_pairs}
use Rattle.sorted_lists.proofs.Only.{pairs_filter}
use Rattle.sorted_lists.proofs.Told.{pairs_append}
use Rattle.ring_assembly.specs.declared.way.WayShape.{WayShape}
use Rattle.tile_model.specs.Extract.{features_of, location_of, shape_of}
use Rattle.tile_model.specs.ExtractLaws.{AreNumbered}
use Rattle.tile_model.specs.Features.{Feature, Name, name_of}
use Rattle.tile_model.specs.Points.{point_of, point_feature, if_placed, node_features, points_of}
use Rattle.tile_model.specs.Relations.{way_ids, relation_shape, relation_origin, relation_features, relations_of}
use Rattle.tile_model.specs.Rows.{shape_feature, form_feature}
use Rattle.tile_model.specs.Ways.{way_shape, way_origin, way_features, ways_of}
use Rattle.tile_model.specs.declared.world.Origin.{Origin}
use Rattle.tile_model.specs.declared.world.WorldShape.{WorldShape}
use Rattle.tile_model.proofs.Lists.{pairs_map}

-- a walk over elements whose marks differ, each with a list of names that tell its mark
module _ {A B N M : Type 0} (name : B → N) (mark : A → M) (of : N → M) (g : A → List B) where
  abbrev Marks : A → Type 0
  Marks a = AllByRecursion (λ u. of (name u) ≡ mark a) (g a)

  others : (a : A) (xs : List A) → AllByRecursion (λ b. mark a ≢ mark b) xs → AllByRecursion Marks xs → AllByRecursion (λ v. mark a ≢ of (name v)) (flat_map g xs)
  others a [] h k = tt
  others a (b ∷ xs) h k =
      each_append (λ v. mark a ≢ of (name v)) (g b) (flat_map g xs) (each_weaker (λ v. of (name v) ≡ mark b) (λ v. mark a ≢ of (name v)) (λ v e same. h.0 (same ∙ e)) (g b) k.0) (others a xs h.1 k.1)

  pub names-walked : (xs : List A) → Pairs (λ a b. mark a ≢ mark b) xs → AllByRecursion Marks xs → AllByRecursion (λ a. Pairs (λ u v. name u ≢ name v) (g a)) xs → Pairs (λ u v. name u ≢ name v) (flat_map g xs)
  names-walked [] h k l = tt
  names-walked (a ∷ xs) h k l =
      pairs_append (λ u v. name u ≢ name v) (g a) (flat_map g xs) l.0 (names-walked xs h.1 k.1 l.1)
      (each_weaker (λ u. of (name u) ≡ mark a) (λ u. AllByRecursion (λ v. name u ≢ name v) (flat_map g xs))
      (λ u e. each_weaker (λ v. mark a ≢ of (name v)) (λ v. name u ≢ name v) (λ v other same. other (sym e ∙ ap of same)) (flat_map g xs) (others a xs h.0 k.1)) (g a) k.0)

-- what is told of each value that is chosen, and of each two of them
module _ {B : Type 0} where
  each-option : (P : B → Type 0) (o : Option B) (rest : List B) → IfSome o P → AllByRecursion P rest → AllByRecursion P (cons_option o rest)
  each-option P None rest h k = k
  each-option P (Some x) rest h k = (h, k)

  pairs-option : (R : B → B → Type 0) (o : Option B) (rest : List B) → IfSome o (λ u. AllByRecursion (R u) rest) → Pairs R rest → Pairs R (cons_option o rest)
  pairs-option R None rest h k = k
  pairs-option R (Some x) rest h k = (h, k)

module _ {A B : Type 0} where
  pub each-chosen : (P : B → Type 0) (g : A → Option B) (xs : List A) → AllByRecursion (λ x. IfSome (g x) P) xs → AllByRecursion P (filter_map g xs)
  each-chosen P g [] h = tt
  each-chosen P g (x ∷ xs) h = each-option P (g x) (filter_map g xs) h.0 (each-chosen P g xs h.1)

  pub pairs-chosen : (R : B → B → Type 0) (g : A → Option B) (xs : List A) → Pairs (λ x y. IfSome (g x) (λ u. IfSome (g y) (R u))) xs → Pairs R (filter_map g xs)
  pairs-chosen R g [] h = tt
  pairs-chosen R g (x ∷ xs) h = pairs-option R (g x) (filter_map g xs) (against (g x) xs h.0) (pairs-chosen R g xs h.1)
    where
      each-of : (u : B) (ys : List A) → AllByRecursion (λ y. IfSome (g y) (R u)) ys → AllByRecursion (R u) (filter_map g ys)
      each-of u ys k = each-chosen (R u) g ys k

      against : (o : Option B) (ys : List A) → AllByRecursion (λ y. IfSome o (λ u. IfSome (g y) (R u))) ys → IfSome o (λ u. AllByRecursion (R u) (filter_map g ys))
      against None ys k = tt
      against (Some u) ys k = each-of u ys k

pub on-shape : {A : Type 0} (f : WorldShape → A) (o : Option WorldShape) (P : A → Type 0) → ((shape : WorldShape) → P (f shape)) → IfSome (option_map f o) P
on-shape f None P h = tt
on-shape f (Some shape) P h = h shape

-- rules have numbers that rise
rules-above : (m n : ℕ) (rules : List Rule) → m < n → AllByRecursion (λ r. m < r.0) (enumerate_from n rules)
rules-above m n [] h = tt
rules-above m n (r ∷ rules) h = (h, rules-above m (n + 1) rules (omega (arith, h)))

rules-rise : (n : ℕ) (rules : List Rule) → Pairs (λ r s. r.0 < s.0) (enumerate_from n rules)
rules-rise n [] = tt
rules-rise n (r ∷ rules) = (rules-above n (n + 1) rules (omega arith), rules-rise (n + 1) rules)

specs-differ : (parts : Parts) (tags : Tags) (kind : Kind) → Pairs (λ (s t : Spec). s.rule ≢ t.rule) (specs_of parts tags kind)
specs-differ parts tags kind =
    pairs_map (λ (s t : Spec). s.rule ≢ t.rule) (spec_of tags.pairs) (filter (λ r. applies tags.pairs kind r.1) (enumerate_from 0 parts.rules))
    (pairs_filter (λ r s. r.0 ≢ s.0) (λ r. applies tags.pairs kind r.1) (enumerate_from 0 parts.rules)
    (pairs_weaker (λ r s. r.0 < s.0) (λ r s. r.0 ≢ s.0) (λ r s h e. omega (arith, h, e)) (enumerate_from 0 parts.rules) (rules-rise 0 parts.rules)))

abbrev Differ : Feature → Feature → Type 0
Differ f g = name_of f ≢ name_of g

-- a feature is of an element of a kind, a block and a number
pub record IsOf (kind : Kind) (block index : ℕ) (f : Feature) : Type 0 where
  pub kind_is : f.kind ≡ kind
  pub block_is : f.place.block ≡ block
  pub index_is : f.place.index ≡ index

-- The features of the elements of one kind, element after element in block after block, where elements of a block have different numbers, each
-- has features of its own, and no two of these have one rule.
module _ {X : Type 0} (kind : Kind) (index : X → ℕ) (elements : Block → List X) (features : ℕ → X → List Feature)
    (own : (block : ℕ) (x : X) → AllByRecursion (IsOf kind block (index x)) (features block x)) (apart : (block : ℕ) (x : X) → Pairs Differ (features block x)) where
  abbrev in_block : ℕ × Block → List Feature
  in_block b = flat_map (features b.0) (elements b.1)

  indexes : (block : ℕ) (xs : List X) → AllByRecursion (λ x. AllByRecursion (λ f. f.place.index ≡ index x) (features block x)) xs
  indexes block [] = tt
  indexes block (x ∷ xs) = (each_weaker (IsOf kind block (index x)) (λ f. f.place.index ≡ index x) (λ f e. e.index_is) (features block x) (own block x), indexes block xs)

  all-apart : (block : ℕ) (xs : List X) → AllByRecursion (λ x. Pairs Differ (features block x)) xs
  all-apart block [] = tt
  all-apart block (x ∷ xs) = (apart block x, all-apart block xs)

  block-apart : (b : ℕ × Block) → Pairs (λ (x y : X). index x ≢ index y) (elements b.1) → Pairs Differ (in_block b)
  block-apart b h = names-walked name_of index (λ (m : Name). m.1.index) (features b.0) (elements b.1) h (indexes b.0 (elements b.1)) (all-apart b.0 (elements b.1))

  blocks : (block : ℕ) (xs : List X) → AllByRecursion (λ f. f.place.block ≡ block) (flat_map (features block) xs)
  blocks block [] = tt
  blocks block (x ∷ xs) =
      each_append (λ f. f.place.block ≡ block) (features block x) (flat_map (features block) xs)
      (each_weaker (IsOf kind block (index x)) (λ f. f.place.block ≡ block) (λ f e. e.block_is) (features block x) (own block x)) (blocks block xs)

  all-blocks : (bs : List (ℕ × Block)) → AllByRecursion (λ b. AllByRecursion (λ f. f.place.block ≡ b.0) (in_block b)) bs
  all-blocks [] = tt
  all-blocks (b ∷ bs) = (blocks b.0 (elements b.1), all-blocks bs)

  pub kind-apart : (bs : List (ℕ × Block)) → Pairs (λ (a b : ℕ × Block). a.0 ≢ b.0) bs → AllByRecursion (λ b. Pairs (λ (x y : X). index x ≢ index y) (elements b.1)) bs → Pairs Differ (flat_map in_block bs)
  kind-apart bs differ h =
      names-walked name_of (λ b. b.0) (λ (m : Name). m.1.block) in_block bs differ (all-blocks bs)
      (each_weaker (λ b. Pairs (λ (x y : X). index x ≢ index y) (elements b.1)) (λ b. Pairs Differ (in_block b)) block-apart bs h)

  kinds-of : (block : ℕ) (xs : List X) → AllByRecursion (λ f. f.kind ≡ kind) (flat_map (features block) xs)
  kinds-of block [] = tt
  kinds-of block (x ∷ xs) =
      each_append (λ f. f.kind ≡ kind) (features block x) (flat_map (features block) xs)
      (each_weaker (IsOf kind block (index x)) (λ f. f.kind ≡ kind) (λ f e. e.kind_is) (features block x) (own block x)) (kinds-of block xs)

  pub all-kinds : (bs : List (ℕ × Block)) → AllByRecursion (λ f. f.kind ≡ kind) (flat_map in_block bs)
  all-kinds [] = tt
  all-kinds (b ∷ bs) = each_append (λ f. f.kind ≡ kind) (in_block b) (flat_map in_block bs) (kinds-of b.0 (elements b.1)) (all-kinds bs)

-- the features of a node
module _ (parts : Parts) (block : ℕ) (n : NodeEl) where
  each-node : (w : World) (specs : List Spec) → AllByRecursion (IsOf kinds.Node block n.index) (map (point_feature parts block n w) specs)
  each-node w [] = tt
  each-node w (s ∷ specs) = (record { kind_is = refl; block_is = refl; index_is = refl }, each-node w specs)

  node-if : (r : Option World) → AllByRecursion (IsOf kinds.Node block n.index) (if_placed parts block n r)
  node-if None = tt
  node-if (Some w) = each-node w (specs_of parts n.tags kinds.Node)

  apart-if : (r : Option World) → Pairs Differ (if_placed parts block n r)
  apart-if None = tt
  apart-if (Some w) =
      pairs_map Differ (point_feature parts block n w) (specs_of parts n.tags kinds.Node)
      (pairs_weaker (λ (s t : Spec). s.rule ≢ t.rule) (λ s t. Differ (point_feature parts block n w s) (point_feature parts block n w t)) (λ s t h e. h (ap (λ (m : Name). m.2) e)) (specs_of parts n.tags kinds.Node) (specs-differ parts n.tags kinds.Node))

-- the features of an element that has a shape in some forms
module _ (parts : Parts) (origin : Origin) (shape_in : Form → Option WorldShape) where
  abbrev made : Spec → WorldShape → Feature
  made spec shape = shape_feature parts origin shape spec

  abbrev Own : Feature → Type 0
  Own = IsOf origin.kind origin.place.block origin.place.index

  each-own : (specs : List Spec) → AllByRecursion (λ s. IfSome (form_feature parts origin shape_in s) Own) specs
  each-own [] = tt
  each-own (s ∷ specs) = (on-shape (made s) (shape_in s.form) Own (λ shape. record { kind_is = refl; block_is = refl; index_is = refl }), each-own specs)

  pub shape-own : (specs : List Spec) → AllByRecursion Own (filter_map (form_feature parts origin shape_in) specs)
  shape-own specs = each-chosen Own (form_feature parts origin shape_in) specs (each-own specs)

  two-apart : (s t : Spec) → s.rule ≢ t.rule → IfSome (form_feature parts origin shape_in s) (λ f. IfSome (form_feature parts origin shape_in t) (Differ f))
  two-apart s t h =
      on-shape (made s) (shape_in s.form) (λ f. IfSome (form_feature parts origin shape_in t) (Differ f))
      (λ shape. on-shape (made t) (shape_in t.form) (Differ (made s shape)) (λ other e. h (ap (λ (m : Name). m.2) e)))

  pub shape-apart : (specs : List Spec) → Pairs (λ (s t : Spec). s.rule ≢ t.rule) specs → Pairs Differ (filter_map (form_feature parts origin shape_in) specs)
  shape-apart specs h =
      pairs-chosen Differ (form_feature parts origin shape_in) specs
      (pairs_weaker (λ (s t : Spec). s.rule ≢ t.rule) (λ s t. IfSome (form_feature parts origin shape_in s) (λ f. IfSome (form_feature parts origin shape_in t) (Differ f))) two-apart specs h)

-- the features of a way, and of a relation
way-own : (parts : Parts) (locate : OsmId → Option World) (block : ℕ) (w : WayEl) → AllByRecursion (IsOf kinds.Way block w.index) (way_features parts locate block w)
way-own parts locate block w = shape-own parts (way_origin block w) (way_shape locate w.refs) (specs_of parts w.tags kinds.Way)

way-apart : (parts : Parts) (locate : OsmId → Option World) (block : ℕ) (w : WayEl) → Pairs Differ (way_features parts locate block w)
way-apart parts locate block w = shape-apart parts (way_origin block w) (way_shape locate w.refs) (specs_of parts w.tags kinds.Way) (specs-differ parts w.tags kinds.Way)

relation-own : (parts : Parts) (shape_at : OsmId → Option WayShape) (block : ℕ) (r : RelEl) → AllByRecursion (IsOf kinds.Relation block r.index) (relation_features parts shape_at block r)
relation-own parts shape_at block r = shape-own parts (relation_origin block r) (relation_shape shape_at (way_ids r.members)) (specs_of parts r.tags kinds.Relation)

relation-apart : (parts : Parts) (shape_at : OsmId → Option WayShape) (block : ℕ) (r : RelEl) → Pairs Differ (relation_features parts shape_at block r)
relation-apart parts shape_at block r = shape-apart parts (relation_origin block r) (relation_shape shape_at (way_ids r.members)) (specs_of parts r.tags kinds.Relation) (specs-differ parts r.tags kinds.Relation)

-- features of different kinds have different names
module _ (one other : Kind) (apart : one ≢ other) where
  kinds-apart : (f g : Feature) → f.kind ≡ one → g.kind ≡ other → Differ f g
  kinds-apart f g h k e = apart (sym h ∙ (ap (λ (m : Name). m.0) e ∙ k))

  across : (fs gs : List Feature) → AllByRecursion (λ (f : Feature). f.kind ≡ one) fs → AllByRecursion (λ (g : Feature). g.kind ≡ other) gs → AllByRecursion (λ f. AllByRecursion (Differ f) gs) fs
  across [] gs h k = tt
  across (f ∷ fs) gs h k = (each_weaker (λ (g : Feature). g.kind ≡ other) (Differ f) (λ g e. kinds-apart f g h.0 e) gs k, across fs gs h.1 k)

-- what is told of each of one list against a second, and against a third, is told of it against both
across-both : (fs gs hs : List Feature) → AllByRecursion (λ f. AllByRecursion (Differ f) gs) fs → AllByRecursion (λ f. AllByRecursion (Differ f) hs) fs → AllByRecursion (λ f. AllByRecursion (Differ f) (gs ++ hs)) fs
across-both [] gs hs h k = tt
across-both (f ∷ fs) gs hs h k = (each_append (Differ f) gs hs h.0 k.0, across-both fs gs hs h.1 k.1)

pub names-differ : (parts : Parts) (bs : List (ℕ × Block)) → KeysDiffer (λ b. b.0) bs → All (λ b. AreNumbered b.1) bs → KeysDiffer name_of (features_of parts bs)
names-differ parts bs differ h =
    let locate = location_of bs in
    let shape_at = shape_of bs in
    let points = points_of parts bs in
    let ways = ways_of parts locate bs in
    let relations = relations_of parts shape_at bs in
    let apart = pairs_from_AllPairs (λ (a b : ℕ × Block). a.0 ≢ b.0) bs differ in
    let each = recursion_from_All (λ (b : ℕ × Block). AreNumbered b.1) bs h in
    let node-own : (block : ℕ) (n : NodeEl) → AllByRecursion (IsOf kinds.Node block n.index) (node_features parts block n) = λ block n. node-if parts block n (point_of n) in
    let node-apart : (block : ℕ) (n : NodeEl) → Pairs Differ (node_features parts block n) = λ block n. apart-if parts block n (point_of n) in
    let of-nodes = all-kinds kinds.Node (λ (n : NodeEl). n.index) (λ b. b.nodes) (node_features parts) node-own node-apart bs in
    let of-ways = all-kinds kinds.Way (λ (w : WayEl). w.index) (λ b. b.ways) (way_features parts locate) (way-own parts locate) (way-apart parts locate) bs in
    let of-relations = all-kinds kinds.Relation (λ (r : RelEl). r.index) (λ b. b.relations) (relation_features parts shape_at) (relation-own parts shape_at) (relation-apart parts shape_at) bs in
    AllPairs_from_pairs Differ (features_of parts bs)
    (pairs_append Differ points (ways ++ relations)
    (kind-apart kinds.Node (λ (n : NodeEl). n.index) (λ b. b.nodes) (node_features parts) node-own node-apart bs apart
    (each_weaker (λ (b : ℕ × Block). AreNumbered b.1) _ (λ b k. pairs_from_AllPairs (λ (m n : NodeEl). m.index ≢ n.index) b.1.nodes k.nodes) bs each))
    (pairs_append Differ ways relations
    (kind-apart kinds.Way (λ (w : WayEl). w.index) (λ b. b.ways) (way_features parts locate) (way-own parts locate) (way-apart parts locate) bs apart
    (each_weaker (λ (b : ℕ × Block). AreNumbered b.1) _ (λ b k. pairs_from_AllPairs (λ (m n : WayEl). m.index ≢ n.index) b.1.ways k.ways) bs each))
    (kind-apart kinds.Relation (λ (r : RelEl). r.index) (λ b. b.relations) (relation_features parts shape_at) (relation-own parts shape_at) (relation-apart parts shape_at) bs apart
    (each_weaker (λ (b : ℕ × Block). AreNumbered b.1) _ (λ b k. pairs_from_AllPairs (λ (m n : RelEl). m.index ≢ n.index) b.1.relations k.relations) bs each))
    (across kinds.Way kinds.Relation (λ e. absurd cc) ways relations of-ways of-relations))
    (across-both points ways relations (across kinds.Node kinds.Way (λ e. absurd cc) points ways of-nodes of-ways) (across kinds.Node kinds.Relation (λ e. absurd cc) points relations of-nodes of-relations)))
