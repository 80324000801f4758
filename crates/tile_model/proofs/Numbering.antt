-- The elements of one kind in a block have different numbers, and those of all blocks different places.
use Rattle.std.proofs.Common.{◌≡◌, ◌≢◌, ℕ, suc, ◌<◌, List, [], ◌∷◌, map, flat_map, All, refl, ap, arith}
use Rattle.std.proofs.lemmas.List.Elements.{recursion_from_All}
use Rattle.std.specs.List.{AllByRecursion}
use Rattle.tb_types.specs.declared.element.Place.{Place}
use Rattle.osm_elements.specs.declared.element.NodeEl.{NodeEl}
use Rattle.osm_elements.specs.declared.element.WayEl.{WayEl}
use Rattle.osm_elements.specs.declared.element.RelEl.{RelEl}
use Rattle.osm_elements.specs.declared.element.Block.{Block}
use Rattle.osm_elements.specs.Elements.{Element, node, way, relation}
use Rattle.osm_elements.specs.Block.{as_node, as_way, as_relation, numbered, block_in}
use Rattle.sorted_lists.specs.Sorting.{KeysDiffer}
use Rattle.sorted_lists.proofs.Orders.{each_weaker, each_append, Pairs, pairs_weaker, pairs_from_AllPairs, AllPairs_from_pairs}
use Rattle.sorted_lists.proofs.Told.{pairs_append}
use Rattle.tile_model.specs.Extract.{all_nodes, all_ways}
use Rattle.tile_model.specs.ExtractLaws.{AreNumbered}
use Rattle.tile_model.proofs.Lists.{pairs_map}
use Rattle.tile_model.proofs.Names.{names-walked}

-- elements of which each gives at most one of a kind, with its own number
module _ {A : Type 0} (index : A → ℕ) (kind : ℕ → Element → List A) (own : (n : ℕ) (x : Element) → AllByRecursion (λ u. index u ≡ n) (kind n x)) (few : (n : ℕ) (x : Element) → Pairs (λ u v. index u ≢ index v) (kind n x)) where
  above : (m n : ℕ) (elements : List Element) → m < n → AllByRecursion (λ u. m < index u) (numbered kind n elements)
  above m n [] h = tt
  above m n (x ∷ later) h =
      each_append (λ u. m < index u) (kind n x) (numbered kind (suc n) later)
      (each_weaker (λ u. index u ≡ n) (λ u. m < index u) (λ u e. omega (arith, h, e)) (kind n x) (own n x)) (above m (suc n) later (omega (arith, h)))

  behind : (n : ℕ) (later : List Element) (u : A) → index u ≡ n → AllByRecursion (λ v. index u ≢ index v) (numbered kind (suc n) later)
  behind n later u e = each_weaker (λ v. n < index v) (λ v. index u ≢ index v) (λ v more same. omega (arith, more, e, same)) (numbered kind (suc n) later) (above n (suc n) later (omega arith))

  rise : (n : ℕ) (elements : List Element) → Pairs (λ u v. index u ≢ index v) (numbered kind n elements)
  rise n [] = tt
  rise n (x ∷ later) =
      pairs_append (λ u v. index u ≢ index v) (kind n x) (numbered kind (suc n) later) (few n x) (rise (suc n) later)
      (each_weaker (λ u. index u ≡ n) (λ u. AllByRecursion (λ v. index u ≢ index v) (numbered kind (suc n) later)) (λ u e. behind n later u e) (kind n x) (own n x))

  pub apart : (elements : List Element) → KeysDiffer index (numbered kind 0 elements)
  apart elements = AllPairs_from_pairs (λ u v. index u ≢ index v) (numbered kind 0 elements) (rise 0 elements)

node-own : (n : ℕ) (x : Element) → AllByRecursion (λ (u : NodeEl). u.index ≡ n) (as_node n x)
node-own n (node id at tags) = (refl, tt)
node-own n (way id tags refs) = tt
node-own n (relation id tags members) = tt

node-few : (n : ℕ) (x : Element) → Pairs (λ (u v : NodeEl). u.index ≢ v.index) (as_node n x)
node-few n (node id at tags) = (tt, tt)
node-few n (way id tags refs) = tt
node-few n (relation id tags members) = tt

way-own : (n : ℕ) (x : Element) → AllByRecursion (λ (u : WayEl). u.index ≡ n) (as_way n x)
way-own n (node id at tags) = tt
way-own n (way id tags refs) = (refl, tt)
way-own n (relation id tags members) = tt

way-few : (n : ℕ) (x : Element) → Pairs (λ (u v : WayEl). u.index ≢ v.index) (as_way n x)
way-few n (node id at tags) = tt
way-few n (way id tags refs) = (tt, tt)
way-few n (relation id tags members) = tt

relation-own : (n : ℕ) (x : Element) → AllByRecursion (λ (u : RelEl). u.index ≡ n) (as_relation n x)
relation-own n (node id at tags) = tt
relation-own n (way id tags refs) = tt
relation-own n (relation id tags members) = (refl, tt)

relation-few : (n : ℕ) (x : Element) → Pairs (λ (u v : RelEl). u.index ≢ v.index) (as_relation n x)
relation-few n (node id at tags) = tt
relation-few n (way id tags refs) = tt
relation-few n (relation id tags members) = (tt, tt)

pub elements-numbered : (elements : List Element) → AreNumbered (block_in elements)
elements-numbered elements = record {
  nodes = apart (λ (u : NodeEl). u.index) as_node node-own node-few elements;
  ways = apart (λ (u : WayEl). u.index) as_way way-own way-few elements;
  relations = apart (λ (u : RelEl). u.index) as_relation relation-own relation-few elements;
}

-- all elements of a kind, each with its place
module _ {X : Type 0} (index : X → ℕ) (elements : Block → List X) where
  abbrev at_place : ℕ → X → Place × X
  at_place block x = (record { block = block; index = index x }, x)

  abbrev placed : ℕ × Block → List (Place × X)
  placed b = map (at_place b.0) (elements b.1)

  in-block : (block : ℕ) (xs : List X) → AllByRecursion (λ (n : Place × X). n.0.block ≡ block) (map (at_place block) xs)
  in-block block [] = tt
  in-block block (x ∷ xs) = (refl, in-block block xs)

  marks : (blocks : List (ℕ × Block)) → AllByRecursion (λ b. AllByRecursion (λ (n : Place × X). n.0.block ≡ b.0) (placed b)) blocks
  marks [] = tt
  marks (b ∷ blocks) = (in-block b.0 (elements b.1), marks blocks)

  block-places : (b : ℕ × Block) → Pairs (λ (m n : X). index m ≢ index n) (elements b.1) → Pairs (λ (m n : Place × X). m.0 ≢ n.0) (placed b)
  block-places b h =
      pairs_map (λ (m n : Place × X). m.0 ≢ n.0) (at_place b.0) (elements b.1)
      (pairs_weaker (λ (m n : X). index m ≢ index n) (λ (m n : X). (at_place b.0 m).0 ≢ (at_place b.0 n).0) (λ m n other e. other (ap (λ (p : Place). p.index) e)) (elements b.1) h)

  pub places : (bs : List (ℕ × Block)) → KeysDiffer (λ b. b.0) bs → AllByRecursion (λ b. Pairs (λ (m n : X). index m ≢ index n) (elements b.1)) bs → KeysDiffer (λ (n : Place × X). n.0) (flat_map placed bs)
  places bs differ h =
      AllPairs_from_pairs (λ (m n : Place × X). m.0 ≢ n.0) (flat_map placed bs)
      (names-walked (λ (n : Place × X). n.0) (λ (b : ℕ × Block). b.0) (λ (p : Place). p.block) placed bs (pairs_from_AllPairs (λ (a b : ℕ × Block). a.0 ≢ b.0) bs differ) (marks bs)
      (each_weaker (λ b. Pairs (λ (m n : X). index m ≢ index n) (elements b.1)) (λ b. Pairs (λ (m n : Place × X). m.0 ≢ n.0) (placed b)) block-places bs h))

pub nodes-placed : (bs : List (ℕ × Block)) → KeysDiffer (λ b. b.0) bs → All (λ b. AreNumbered b.1) bs → KeysDiffer (λ n. n.0) (all_nodes bs)
nodes-placed bs differ h =
    places (λ (n : NodeEl). n.index) (λ b. b.nodes) bs differ
    (each_weaker (λ (b : ℕ × Block). AreNumbered b.1) (λ b. Pairs (λ (m n : NodeEl). m.index ≢ n.index) b.1.nodes) (λ b k. pairs_from_AllPairs (λ (m n : NodeEl). m.index ≢ n.index) b.1.nodes k.nodes) bs (recursion_from_All (λ (b : ℕ × Block). AreNumbered b.1) bs h))

pub ways-placed : (bs : List (ℕ × Block)) → KeysDiffer (λ b. b.0) bs → All (λ b. AreNumbered b.1) bs → KeysDiffer (λ w. w.0) (all_ways bs)
ways-placed bs differ h =
    places (λ (w : WayEl). w.index) (λ b. b.ways) bs differ
    (each_weaker (λ (b : ℕ × Block). AreNumbered b.1) (λ b. Pairs (λ (m n : WayEl). m.index ≢ n.index) b.1.ways) (λ b k. pairs_from_AllPairs (λ (m n : WayEl). m.index ≢ n.index) b.1.ways k.ways) bs (recursion_from_All (λ (b : ℕ × Block). AreNumbered b.1) bs h))
