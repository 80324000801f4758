-- What the passes gather, one after another, are the items of the features of the extract.
use Rattle.std.proofs.Common.{◌≡◌, ℕ, Bool, true, false, cond, Option, None, Some, IfSome, Result, Ok, List, [], ◌∷◌, ◌++◌, filter, filter_map, flat_map, map, length, true≢false, arith, refl, sym, ap, subst, ◌∙◌}
use Rattle.std.proofs.lemmas.Bool.{lt-ltb}
use Rattle.std.proofs.lemmas.Grind.{flat_map-append}
use Rattle.tb_types.specs.declared.damage.Damage.{Damage}
use Rattle.pbf_blobs.specs.declared.block.BlockAt.{BlockAt}
use Rattle.osm_elements.specs.declared.element.Block.{Block}
use Rattle.osm_elements.specs.declared.element.NodeEl.{NodeEl}
use Rattle.osm_elements.specs.declared.element.RelEl.{RelEl}
use Rattle.osm_elements.specs.declared.element.WayEl.{WayEl}
use Rattle.osm_elements.specs.Kinds.{has_any}
use Rattle.tb_types.specs.declared.element.Kind.TheVariants as kinds
use Rattle.tb_types.specs.declared.element.OsmId.{OsmId}
use Rattle.tb_types.specs.declared.location.World.{World}
use Rattle.ring_assembly.specs.declared.way.WayShape.{WayShape}
use Rattle.profile_rules.specs.declared.parts.Parts.{Parts}
use Rattle.profile_rules.specs.declared.spec.Spec.{Spec}
use Rattle.profile_rules.specs.Features.{specs_of}
use Rattle.sorted_lists.proofs.Orders.{pairs_from_AllPairs}
use Rattle.shard_store.specs.Join.{Entry, IsJoinOf}
use Rattle.member_sets.specs.Ids.{entries_of}
use Rattle.member_sets.specs.declared.unit.Unit as units
use Rattle.node_store.specs.declared.located.Located.{Located}
use Rattle.node_store.specs.Order.{located_join, shaped_join}
use Rattle.tile_model.specs.Contents.{Content, header, elements, unread, contents_at}
use Rattle.tile_model.specs.Extract.{all_nodes, all_ways, all_refs, features_of, is_kept, is_some_list, location_of, shape_of, needed_refs}
use Rattle.tile_model.specs.Loads.{has_nodes, has_ways}
use Rattle.tile_model.specs.Map.{block_in, blocks_in}
use Rattle.tile_model.specs.Points.{node_features, block_points, points_of}
use Rattle.tile_model.specs.Relations.{way_ids, relation_shape, relation_origin, relation_features, relations_of}
use Rattle.tile_model.specs.Rows.{form_feature}
use Rattle.tile_model.specs.Tiles.{feature_items, emitted_items}
use Rattle.tile_model.specs.Ways.{way_features, block_ways, ways_of}
use Rattle.pass_shapes.specs.Stores.{locate_in, is_needed, located_in, shape_in, shaped_in}
use Rattle.pass_shapes.proofs.Locating.{ways-located}
use Rattle.pass_shapes.proofs.Shaping.{kept-shaped, members-shaped, same-needs}
use Rattle.pass_shapes.specs.Kept.{kept_features, needs_of}
use Rattle.pass_survey.specs.Kept.{kept_of, kept_in, all_kept}
use Rattle.pass_survey.specs.declared.found.Found.{Found}
use Rattle.pass_survey.specs.Told.{HasSurveyed}
use Rattle.tb_types.specs.Needs.{relation_need}
use Rattle.member_sets.specs.declared.kept.KeptRelation.{KeptRelation}
use Rattle.node_store.specs.declared.shaped.Shaped.{Shaped}
use Rattle.tile_model.specs.Needs.{member_points, relation_needs}
use Rattle.std.specs.List.{AllByRecursion}
use Rattle.std.proofs.lemmas.List.{map-append}
use Rattle.build_one.specs.Passes.{as_content, AreMembers, AreNeeded, IsDamaged, needs_in, OfSurveyed}
use Rattle.build_one.specs.Survey.{IsApart}

-- blocks that were read are those of their contents
blocks-again : (read : List (ℕ × Block)) → blocks_in (map as_content read) ≡ read
blocks-again [] = refl
blocks-again (b ∷ read) = ap (λ bs. b ∷ bs) (blocks-again read)

same-contents : (extract : List ℕ) (blocks : List BlockAt) (read : List (ℕ × Block)) (contents : List Content) → contents_at extract blocks ≡ Ok contents → contents_at extract blocks ≡ Ok (map as_content read) → read ≡ blocks_in contents
same-contents extract blocks read contents h k =
    let same = sym k ∙ h in
    let lists : map as_content read ≡ contents = cc in
    sym (blocks-again read) ∙ ap blocks_in lists

-- blocks that have none of a kind give nothing of it
module _ {X : Type 0} (has : Content → Bool) (g : ℕ × Block → List X) where
  abbrev Skips : Type 0
  Skips = (number : ℕ) (block : Block) → has (elements number block) ≡ false → g (number, block) ≡ []

  -- what isn't a block of elements gives nothing, kept or not
  without : (b : Bool) (c : Content) (contents : List Content) → block_in c ≡ [] → flat_map g (blocks_in (filter has contents)) ≡ flat_map g (blocks_in contents)
      → flat_map g (blocks_in (cond b (c ∷ filter has contents) (filter has contents))) ≡ flat_map g (block_in c ++ blocks_in contents)
  without true c contents none rest = ap (λ bs. flat_map g (bs ++ blocks_in (filter has contents))) none ∙ (rest ∙ sym (ap (λ bs. flat_map g (bs ++ blocks_in contents)) none))
  without false c contents none rest = rest ∙ sym (ap (λ bs. flat_map g (bs ++ blocks_in contents)) none)

  pub skipped : Skips → (contents : List Content) → flat_map g (blocks_in (filter has contents)) ≡ flat_map g (blocks_in contents)
  skipped skips [] = refl
  skipped skips (header box ∷ contents) = without (has (header box)) (header box) contents refl (skipped skips contents)
  skipped skips (unread ∷ contents) = without (has unread) unread contents refl (skipped skips contents)
  skipped skips (elements number block ∷ contents) = go (has (elements number block)) refl (skipped skips contents)
    where
      go : (b : Bool) → has (elements number block) ≡ b → flat_map g (blocks_in (filter has contents)) ≡ flat_map g (blocks_in contents)
          → flat_map g (blocks_in (cond b (elements number block ∷ filter has contents) (filter has contents))) ≡ g (number, block) ++ flat_map g (blocks_in contents)
      go true is rest = ap (λ xs. g (number, block) ++ xs) rest
      go false is rest = rest ∙ sym (ap (λ xs. xs ++ flat_map g (blocks_in contents)) (skips number block is))

no-any : {A B : Type 0} (f : List A → List B) (xs : List A) → f [] ≡ [] → has_any xs ≡ false → f xs ≡ []
no-any f [] none h = none
no-any f (x ∷ xs) none h = absurd (true≢false (sym (lt-ltb 0 (length (x ∷ xs)) (omega arith)) ∙ h))

refs-skipped : (parts : Parts) (ways : List (Entry units.Unit)) (contents : List Content) → all_refs parts (is_needed ways) (blocks_in (filter has_ways contents)) ≡ all_refs parts (is_needed ways) (blocks_in contents)
refs-skipped parts ways contents =
    skipped has_ways (λ (b : ℕ × Block). flat_map (needed_refs parts (is_needed ways)) b.1.ways) (λ number block h. no-any (λ (ws : List WayEl). flat_map (needed_refs parts (is_needed ways)) ws) block.ways refl h) contents

located-skipped : (needed : List (Entry units.Unit)) (contents : List Content) → flat_map (λ (b : ℕ × Block). located_in needed b.0 b.1.nodes) (blocks_in (filter has_nodes contents)) ≡ flat_map (λ (b : ℕ × Block). located_in needed b.0 b.1.nodes) (blocks_in contents)
located-skipped needed contents =
    skipped has_nodes (λ (b : ℕ × Block). located_in needed b.0 b.1.nodes) (λ number block h. no-any (λ (nodes : List NodeEl). located_in needed number nodes) block.nodes refl h) contents

points-skipped : (parts : Parts) (contents : List Content) → points_of parts (blocks_in (filter has_nodes contents)) ≡ points_of parts (blocks_in contents)
points-skipped parts contents = skipped has_nodes (block_points parts) (λ number block h. no-any (λ (nodes : List NodeEl). flat_map (node_features parts number) nodes) block.nodes refl h) contents

shaped-skipped : (ways : List (Entry units.Unit)) (locate : OsmId → Option World) (contents : List Content)
    → flat_map (λ (b : ℕ × Block). shaped_in ways locate b.0 b.1.ways) (blocks_in (filter has_ways contents)) ≡ flat_map (λ (b : ℕ × Block). shaped_in ways locate b.0 b.1.ways) (blocks_in contents)
shaped-skipped ways locate contents = skipped has_ways (λ (b : ℕ × Block). shaped_in ways locate b.0 b.1.ways) (λ number block h. no-any (λ (ws : List WayEl). shaped_in ways locate number ws) block.ways refl h) contents

ways-skipped : (parts : Parts) (store : List (Entry Located)) (contents : List Content) → ways_of parts (locate_in store) (blocks_in (filter has_ways contents)) ≡ ways_of parts (locate_in store) (blocks_in contents)
ways-skipped parts store contents = skipped has_ways (block_ways parts (locate_in store)) (λ number block h. no-any (λ (ws : List WayEl). flat_map (way_features parts (locate_in store) number) ws) block.ways refl h) contents

-- the features of the relations that are kept are those of all
module _ (parts : Parts) (shape_at : OsmId → Option WayShape) where
  kept-block : (block : ℕ) (relations : List RelEl) → flat_map (kept_features parts shape_at) (kept_in parts block relations) ≡ flat_map (relation_features parts shape_at block) relations
  kept-block block [] = refl
  kept-block block (r ∷ relations) = go (specs_of parts r.tags kinds.Relation) refl (kept-block block relations)
    where
      go : (specs : List Spec) → specs_of parts r.tags kinds.Relation ≡ specs → flat_map (kept_features parts shape_at) (kept_in parts block relations) ≡ flat_map (relation_features parts shape_at block) relations
          → flat_map (kept_features parts shape_at) (map (kept_of parts block) (cond (is_some_list specs) (r ∷ filter (is_kept parts) relations) (filter (is_kept parts) relations)))
          ≡ filter_map (form_feature parts (relation_origin block r) (relation_shape shape_at (way_ids r.members))) specs ++ flat_map (relation_features parts shape_at block) relations
      go [] is rest = rest
      go (s ∷ specs) is rest = λ i. filter_map (form_feature parts (relation_origin block r) (relation_shape shape_at (way_ids r.members))) (is i) ++ rest i

  pub kept-all : (blocks : List (ℕ × Block)) → flat_map (kept_features parts shape_at) (all_kept parts blocks) ≡ relations_of parts shape_at blocks
  kept-all [] = refl
  kept-all (b ∷ blocks) = flat_map-append (kept_features parts shape_at) (kept_in parts b.0 b.1.relations) (all_kept parts blocks) ∙ (λ i. kept-block b.0 b.1.relations i ++ kept-all blocks i)

-- and so are their needs
module _ (parts : Parts) (shape_at : OsmId → Option WayShape) where
  abbrev of-relation : RelEl → ℕ
  of-relation r = relation_need (member_points shape_at (way_ids r.members))

  needs-in : (block : ℕ) (relations : List RelEl) → needs_of shape_at (map (kept_of parts block) relations) ≡ map of-relation relations
  needs-in block [] = refl
  needs-in block (r ∷ relations) = ap (λ ns. of-relation r ∷ ns) (needs-in block relations)

  pub needs-all : (blocks : List (ℕ × Block)) → needs_of shape_at (all_kept parts blocks) ≡ relation_needs parts shape_at blocks
  needs-all [] = refl
  needs-all (b ∷ blocks) = map-append (λ (k : KeptRelation). relation_need (member_points shape_at k.members)) (kept_in parts b.0 b.1.relations) (all_kept parts blocks)
      ∙ (λ i. needs-in b.0 (filter (is_kept parts) b.1.relations) i ++ needs-all blocks i)

-- By what the passes read, which are the blocks with ways, those with nodes, and those with ways again: the stores, the features and
-- the needs are those of the extract.
module _ (parts : Parts) (found : Found) (extract : List ℕ) (contents : List Content) (h : HasSurveyed parts extract found contents) (apart : IsApart parts contents) where
  module _ (ways needed : List (Entry units.Unit)) (store : List (Entry Located)) (shapes : List (Entry Shaped)) (one two three : List (ℕ × Block)) (m : AreMembers found.kept.items ways)
      (n : AreNeeded parts ways needed one) (n-told : contents_at extract found.ways.items ≡ Ok (map as_content one))
      (p : IsJoinOf located_join (flat_map (λ (b : ℕ × Block). located_in needed b.0 b.1.nodes) two) store) (p-told : contents_at extract found.nodes.items ≡ Ok (map as_content two))
      (d : IsJoinOf shaped_join (flat_map (λ (b : ℕ × Block). shaped_in ways (locate_in store) b.0 b.1.ways) three) shapes) (d-told : contents_at extract found.ways.items ≡ Ok (map as_content three)) where
    abbrev blocks : List (ℕ × Block)
    blocks = blocks_in contents

    two-is : two ≡ blocks_in (filter has_nodes contents)
    two-is = same-contents extract found.nodes.items two (filter has_nodes contents) h.nodes p-told

    three-is : three ≡ blocks_in (filter has_ways contents)
    three-is = same-contents extract found.ways.items three (filter has_ways contents) h.ways d-told

    set : IsJoinOf n.0 (entries_of (all_refs parts (is_needed ways) blocks)) needed
    set = subst (λ ids. IsJoinOf n.0 (entries_of ids) needed)
        (ap (all_refs parts (is_needed ways)) (same-contents extract found.ways.items one (filter has_ways contents) h.ways n-told) ∙ refs-skipped parts ways contents) n.1

    stored : IsJoinOf located_join (flat_map (λ (b : ℕ × Block). located_in needed b.0 b.1.nodes) blocks) store
    stored = subst (λ es. IsJoinOf located_join es store) (ap (flat_map (λ (b : ℕ × Block). located_in needed b.0 b.1.nodes)) two-is ∙ located-skipped needed contents) p

    shapes-put : IsJoinOf shaped_join (flat_map (λ (b : ℕ × Block). shaped_in ways (locate_in store) b.0 b.1.ways) blocks) shapes
    shapes-put = subst (λ es. IsJoinOf shaped_join es shapes) (ap (flat_map (λ (b : ℕ × Block). shaped_in ways (locate_in store) b.0 b.1.ways)) three-is ∙ shaped-skipped ways (locate_in store) contents) d

    members : AllByRecursion (λ (k : KeptRelation). AllByRecursion (λ id. shape_in shapes id ≡ shape_of blocks id) k.members) found.kept.items
    members = members-shaped parts m.0 n.0 blocks found.kept.items ways needed store shapes (pairs_from_AllPairs _ (all_nodes blocks) apart.places) (pairs_from_AllPairs _ (all_ways blocks) apart.ways) m.1 set stored shapes-put

    pub gathered-needs : needs_of (shape_in shapes) found.kept.items ≡ needs_in parts contents
    gathered-needs = same-needs parts (shape_in shapes) (shape_of blocks) found.kept.items members ∙ (ap (needs_of (shape_of blocks)) h.kept ∙ needs-all parts (shape_of blocks) blocks)

    points : points_of parts two ≡ points_of parts blocks
    points = ap (points_of parts) two-is ∙ points-skipped parts contents

    lines : ways_of parts (locate_in store) three ≡ ways_of parts (location_of blocks) blocks
    lines = ap (ways_of parts (locate_in store)) three-is ∙ (ways-skipped parts store contents ∙ ways-located parts (is_needed ways) n.0 blocks needed store (pairs_from_AllPairs _ (all_nodes blocks) apart.places) set stored)

    areas : flat_map (kept_features parts (shape_in shapes)) found.kept.items ≡ relations_of parts (shape_of blocks) blocks
    areas = kept-shaped parts blocks found.kept.items shapes members ∙ (ap (flat_map (kept_features parts (shape_of blocks))) h.kept ∙ kept-all parts (shape_of blocks) blocks)

    pub gathered-items : emitted_items (features_of parts blocks) ≡ emitted_items (points_of parts two) ++ (emitted_items (ways_of parts (locate_in store) three) ++ emitted_items (flat_map (kept_features parts (shape_in shapes)) found.kept.items))
    gathered-items = flat_map-append feature_items (points_of parts blocks) (ways_of parts (location_of blocks) blocks ++ relations_of parts (shape_of blocks) blocks)
        ∙ (ap (λ xs. emitted_items (points_of parts blocks) ++ xs) (flat_map-append feature_items (ways_of parts (location_of blocks) blocks) (relations_of parts (shape_of blocks) blocks))
        ∙ sym (λ i. emitted_items (points i) ++ (emitted_items (lines i) ++ emitted_items (areas i))))

-- a pass finds no damage where the survey found none
no-damage : (contents : List Content) (r : Result (List Content) Damage) → r ≡ Ok contents → IsDamaged r → ⊥
no-damage contents r h k = subst IsDamaged h k

pub damaged-ways : (parts : Parts) (found : Found) (told : Option (List ℕ)) → IfSome told (λ extract. IsDamaged (contents_at extract found.ways.items)) → OfSurveyed parts told found (λ contents. ⊥)
damaged-ways parts found None r = tt
damaged-ways parts found (Some extract) r = λ contents h apart. no-damage (filter has_ways contents) (contents_at extract found.ways.items) h.ways r

pub damaged-nodes : (parts : Parts) (found : Found) (told : Option (List ℕ)) → IfSome told (λ extract. IsDamaged (contents_at extract found.nodes.items)) → OfSurveyed parts told found (λ contents. ⊥)
damaged-nodes parts found None r = tt
damaged-nodes parts found (Some extract) r = λ contents h apart. no-damage (filter has_nodes contents) (contents_at extract found.nodes.items) h.nodes r
