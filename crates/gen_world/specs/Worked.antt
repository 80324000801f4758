-- Worked cases that the definitions were checked on.
use Rattle.std.specs.Prelude.{◌≡◌, ℕ, ◌-◌, ◌^◌, pos, negsuc, None, Some, [], ◌∷◌, ◌++◌, codes, length}
use Rattle.gen_world.specs.declared.counts.Counts.{Counts}
use Rattle.gen_world.specs.declared.node.Amenity.TheVariants.{Cafe}
use Rattle.gen_world.specs.declared.node.Node.{Node}
use Rattle.gen_world.specs.declared.way.Way.{Way}
use Rattle.gen_world.specs.declared.relation.Relation.{Relation}
use Rattle.gen_world.specs.Numbers.{number, draw, around}
use Rattle.gen_world.specs.Tables.{uses_of}
use Rattle.gen_world.specs.Elements.{counts_of, node_of, way_of, way_tags, refs_of, relation_of, relation_tags}
use Rattle.gen_world.specs.Blocks.{packed_text, steps_text, dense_tags, node_block}
use Rattle.gen_world.specs.Frames.{header_frame, frames_for, relation_frame, frames_of}

-- 89 nodes, of which the last nine have no whole cluster, 10 ways and a relation
abbrev pub least : Counts
least = counts_of 100

abbrev pub cafe : Node
cafe = record { id = pos 1; lat = pos 5; lon = negsuc 2; amenity = Some Cafe }

abbrev pub crossing : Node
crossing = record { id = pos 2; lat = pos 4; lon = pos 1; amenity = None }

abbrev pub way : ℕ → Way
way id = record { id = id; cluster = 3 }

abbrev pub area : Relation
area = record { id = 1; area = 0 }

pub record WorkedNumbers : Type 0 where
  -- the first number isn't the seed
  pub first : number 7 1 ≡ 9098160460397411210
  pub second : number 7 2 ≡ 17628806926561717905
  pub wraps : number (2 ^ 64 - 1) 1 ≡ 13525302890751722018
  pub upper_half : draw 7 1 160000001 ≡ 38330543
  pub signed : around 7 1 80000000 ≡ negsuc 41669456

pub record WorkedElements : Type 0 where
  pub least_counts : least ≡ record { nodes = 89; ways = 10; relations = 1 }
  pub rounded_down : counts_of 199 ≡ record { nodes = 179; ways = 19; relations = 1 }
  pub first_node : node_of 7 0 ≡ record { id = pos 1; lat = negsuc 41669456; lon = pos 24526438; amenity = None }
  -- the third way draws nothing, and the fourth draws again
  pub one_ring : (way_of 7 least 3).cluster ≡ (way_of 7 least 2).cluster
  pub building : refs_of (way 4) ≡ pos 31 ∷ pos 32 ∷ pos 33 ∷ pos 34 ∷ pos 35 ∷ pos 36 ∷ pos 31 ∷ []
  pub front : refs_of (way 6) ≡ pos 31 ∷ pos 32 ∷ pos 33 ∷ pos 34 ∷ []
  pub back : refs_of (way 7) ≡ pos 34 ∷ pos 35 ∷ pos 36 ∷ pos 31 ∷ []
  pub named : way_tags (way 5) ≡ (codes "highway", codes "residential") ∷ (codes "name", codes "Way 5") ∷ []
  pub ring_untagged : way_tags (way 2) ≡ []
  pub relation_area : (relation_of 7 least 1).area ≡ 1

pub record WorkedBytes : Type 0 where
  pub empty_list : packed_text 10 [] ≡ []
  pub differences : steps_text 8 (pos 34 ∷ pos 35 ∷ pos 31 ∷ []) ≡ 66 ∷ 3 ∷ 68 ∷ 2 ∷ 7 ∷ []
  -- in order of first use, each once
  pub table : uses_of (relation_tags area ++ way_tags (way 4) ++ relation_tags area)
      ≡ codes "type" ∷ codes "multipolygon" ∷ codes "landuse" ∷ codes "forest" ∷ codes "building" ∷ codes "yes" ∷ []
  pub untagged : dense_tags [] (crossing ∷ crossing ∷ []) ≡ []
  pub two_nodes : node_block (cafe ∷ crossing ∷ []) ≡
      10 ∷ 17 ∷ 10 ∷ 0 ∷ 10 ∷ 7 ∷ codes "amenity" ++ 10 ∷ 4 ∷ codes "cafe"
      ++ 18 ∷ 20 ∷ 18 ∷ 18 ∷ 10 ∷ 2 ∷ 2 ∷ 2 ∷ 66 ∷ 2 ∷ 10 ∷ 1 ∷ 74 ∷ 2 ∷ 5 ∷ 8 ∷ 82 ∷ 4 ∷ 1 ∷ 2 ∷ 0 ∷ 0 ∷ []
  pub header : header_frame ≡
      0 ∷ 0 ∷ 0 ∷ 13 ∷ 10 ∷ 9 ∷ codes "OSMHeader" ++ 24 ∷ 30 ∷ 10 ∷ 28 ∷ 34 ∷ 14 ∷ codes "OsmSchema-V0.6" ++ 34 ∷ 10 ∷ codes "DenseNodes"
  pub relations : relation_frame 7 least 0 ≡
      0 ∷ 0 ∷ 0 ∷ 11 ∷ 10 ∷ 7 ∷ codes "OSMData" ++ 24 ∷ 69 ∷ 10 ∷ 67 ∷ 10 ∷ 39 ∷ 10 ∷ 0 ∷ 10 ∷ 4 ∷ codes "type" ++ 10 ∷ 12 ∷ codes "multipolygon"
      ++ 10 ∷ 7 ∷ codes "landuse" ++ 10 ∷ 6 ∷ codes "forest" ++ 18 ∷ 24 ∷ 34 ∷ 22 ∷ 8 ∷ 1 ∷ 18 ∷ 2 ∷ 1 ∷ 3 ∷ 26 ∷ 2 ∷ 2 ∷ 4
      ∷ 66 ∷ 2 ∷ 0 ∷ 0 ∷ 74 ∷ 2 ∷ 12 ∷ 2 ∷ 82 ∷ 2 ∷ 1 ∷ 1 ∷ []
  -- 201 elements take two frames
  pub two_frames : frames_for 201 ≡ 2
  pub four_frames : length (frames_of 7 100) ≡ 4
