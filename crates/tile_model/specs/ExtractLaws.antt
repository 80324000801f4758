-- The laws of the features of an extract.
use Rattle.std.specs.Prelude.{ℕ, List, All}
use Rattle.osm_elements.specs.declared.element.NodeEl.{NodeEl}
use Rattle.osm_elements.specs.declared.element.RelEl.{RelEl}
use Rattle.osm_elements.specs.declared.element.WayEl.{WayEl}
use Rattle.osm_elements.specs.declared.element.Block.{Block}
use Rattle.osm_elements.specs.Elements.{Element}
use Rattle.osm_elements.specs.Block.{block_in}
use Rattle.profile_rules.specs.declared.parts.Parts.{Parts}
use Rattle.profile_rules.specs.Sound.{IsSound}
use Rattle.sorted_lists.specs.Sorting.{KeysDiffer}
use Rattle.tile_model.specs.BuildLaws.{IsWithin}
use Rattle.tile_model.specs.Extract.{all_nodes, all_ways, features_of}
use Rattle.tile_model.specs.Features.{name_of}

-- no two nodes, no two ways and no two relations of a block have one number
pub record AreNumbered (block : Block) : Type 0 where
  pub nodes : KeysDiffer (λ (n : NodeEl). n.index) block.nodes
  pub ways : KeysDiffer (λ (w : WayEl). w.index) block.ways
  pub relations : KeysDiffer (λ (r : RelEl). r.index) block.relations

pub record ExtractLaws : Type 0 where
  -- no two features have one name, where blocks differ by their numbers, and nodes, ways and relations of a block by theirs,
  pub differ : (parts : Parts) (blocks : List (ℕ × Block)) → KeysDiffer (λ b. b.0) blocks → All (λ b. AreNumbered b.1) blocks → KeysDiffer name_of (features_of parts blocks)
  -- as they do in each block that is read
  pub numbered : (elements : List Element) → AreNumbered (block_in elements)
  -- all nodes have different places, and all ways, likewise
  pub placed : (blocks : List (ℕ × Block)) → KeysDiffer (λ b. b.0) blocks → All (λ b. AreNumbered b.1) blocks → KeysDiffer (λ n. n.0) (all_nodes blocks)
  pub ways_placed : (blocks : List (ℕ × Block)) → KeysDiffer (λ b. b.0) blocks → All (λ b. AreNumbered b.1) blocks → KeysDiffer (λ w. w.0) (all_ways blocks)
  -- the zooms of the features of a sound profile are among its own
  pub within : (parts : Parts) (blocks : List (ℕ × Block)) → IsSound parts → All (IsWithin parts.min parts.max) (features_of parts blocks)
