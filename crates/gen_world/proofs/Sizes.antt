-- How many frames an extract has at most, and how many bytes.
use Rattle.std.proofs.Common.{◌≡◌, ◌≤◌, ◌<◌, ℕ, zero, suc, ◌+◌, ◌*◌, ◌%◌, ◌^◌, ◌==◌, ℤ, pos, Bool, true, false, if◌then◌else◌, is_some, Option, None, Some, List, [], ◌∷◌, ◌++◌, map, flat_map, fold, length, length-append, codes, decimal, arith, lit≤, refl, ap, ◌∙◌}
use Rattle.std.specs.List.{range_with_len, concat, list_any}
use Rattle.std.specs.Str.{bytes_eq}
use Rattle.std.specs.Int.{w32, to_be_bytes}
use Rattle.std.proofs.lemmas.Fmt.{length-decimal-le}
use Rattle.std.proofs.lemmas.List.{length-map}
use Rattle.std.proofs.lemmas.List.Concat.{flat_map-append}
use Rattle.std.proofs.lemmas.List.Folds.{concat-append}
use Rattle.std.proofs.lemmas.List.FromFn.{length-map-range_with_len}
use Rattle.tb_wire.specs.Varint.{encoding}
use Rattle.tb_wire.specs.Message.{len_text}
use Rattle.gen_world.specs.declared.counts.Counts.{Counts}
use Rattle.gen_world.specs.declared.node.Node.{Node}
use Rattle.gen_world.specs.declared.node.Amenity.{Amenity}
use Rattle.gen_world.specs.declared.node.Amenity.TheVariants.{Cafe, Bench}
use Rattle.gen_world.specs.declared.way.Way.{Way}
use Rattle.gen_world.specs.declared.relation.Relation.{Relation}
use Rattle.gen_world.specs.Words.{Pair}
use Rattle.gen_world.specs.Tables.{with_text, texts_of, uses_of, place_in, keys_in, values_in, places_in}
use Rattle.gen_world.specs.Elements.{node_of, way_of, relation_of, amenity_tags, node_tags, street_tags, way_tags, relation_tags, corners_of, refs_of, members_of}
use Rattle.gen_world.specs.Blocks.{number_text, packed_text, steps_from, steps_text, dense_tags, dense_text, tagged_text, way_text, relation_text, block_text, node_block, way_block, relation_block}
use Rattle.gen_world.specs.Frames.{head_text, frame_text, header_frame, frames_for, size_of, node_frame, way_frame, relation_frame, frames_with}
use Rattle.gen_world.specs.Draws.{AreCounts}
use Rattle.gen_world.proofs.Heads.{encoding_short, head_short}
use Rattle.gen_world.proofs.FrameList.{frames_few}

-- a choice of two lists
either_few : (b : Bool) (one other : List ℕ) (most : ℕ) → length one ≤ most → length other ≤ most → length (if b then one else other) ≤ most
either_few true one other most h k = h
either_few false one other most h k = k

-- lists that are joined, each of which has at most so many elements
flat_few : {X : Type 0} (f : X → List ℕ) (most : ℕ) (xs : List X) → ((x : X) → length (f x) ≤ most) → length (flat_map f xs) ≤ length xs * most
flat_few f most [] h = omega arith
flat_few f most (x ∷ xs) h =
    let one = h x in
    let rest = flat_few f most xs h in
    simp length-append (omega arith)

-- the same of lists that are made by number
concat_few : (f : ℕ → List ℕ) (most last first n : ℕ) → ((k : ℕ) → k < last → length (f k) ≤ most) → first + n ≤ last → length (concat (map f (range_with_len first n))) ≤ n * most
concat_few f most last first zero h within = omega arith
concat_few f most last first (suc n) h within =
    let one = h first (omega arith) in
    let rest = concat_few f most last (first + 1) n h (omega arith) in
    simp length-append (omega arith)

-- fields
field_few : (number : ℕ) (body : List ℕ) → length (len_text number body) ≤ 20 + length body
unfolding len_text
field_few number body =
    let a = encoding_short (number * 8 + 2) in
    let b = encoding_short (length body) in
    simp length-append (omega arith)

number_few : (number n : ℕ) → length (number_text number n) ≤ 20
unfolding number_text
number_few number n =
    let a = encoding_short (number * 8) in
    let b = encoding_short n in
    simp length-append (omega arith)

packed_few : (number : ℕ) (ns : List ℕ) → length (packed_text number ns) ≤ 20 + length ns * 10
unfolding packed_text
packed_few number ns =
    let body = flat_few encoding 10 ns encoding_short in
    let field = field_few number (flat_map encoding ns) in
    either_few (length ns == 0) [] (len_text number (flat_map encoding ns)) (20 + length ns * 10) (omega arith) (omega arith)

length-steps : (last : ℤ) (zs : List ℤ) → length (steps_from last zs) ≡ length zs
length-steps last [] = refl
length-steps last (z ∷ zs) = ap (λ n. suc n) (length-steps z zs)

steps_few : (number : ℕ) (zs : List ℤ) → length (steps_text number zs) ≤ 20 + length zs * 10
unfolding steps_text
steps_few number zs =
    let steps = steps_from (pos 0) zs in
    let same = length-steps (pos 0) zs in
    let body = flat_few encoding 10 steps encoding_short in
    let field = field_few number (flat_map encoding steps) in
    either_few (length zs == 0) [] (len_text number (flat_map encoding steps)) (20 + length zs * 10) (omega arith) (omega arith)

-- a table of texts is no longer than the texts that it was made of
abbrev table : List (List ℕ) → ℕ
table texts = length (flat_map (len_text 1) texts)

abbrev weight : List (List ℕ) → ℕ
weight [] = 0
weight (text ∷ texts) = 20 + length text + weight texts

weight-append : (xs ys : List (List ℕ)) → weight (xs ++ ys) ≡ weight xs + weight ys
weight-append [] ys = omega arith
weight-append (x ∷ xs) ys = let rest = weight-append xs ys in omega arith

added : (b : Bool) (uses : List (List ℕ)) (text : List ℕ) → table (if b then uses else uses ++ text ∷ []) ≤ table uses + (20 + length text)
added true uses text = omega arith
added false uses text =
    let field = field_few 1 text in
    let joined = ap length (flat_map-append (len_text 1) uses (text ∷ [])) in
    let parts = length-append (flat_map (len_text 1) uses) (flat_map (len_text 1) (text ∷ [])) in
    let last = length-append (len_text 1 text) [] in
    omega arith

table_few : (texts uses : List (List ℕ)) → table (fold with_text uses texts) ≤ table uses + weight texts
unfolding with_text
table_few [] uses = omega arith
table_few (text ∷ texts) uses =
    let one = added (list_any (bytes_eq text) uses) uses text in
    let rest = table_few texts (with_text uses text) in
    omega arith

uses_few : (tags : List Pair) → table (uses_of tags) ≤ weight (texts_of tags)
unfolding uses_of
uses_few tags = let all = table_few (texts_of tags) [] in omega arith

-- the texts of elements that are made by number
tags_few : {X : Type 0} (tags : X → List Pair) (element : ℕ → X) (most last first n : ℕ) → ((k : ℕ) → k < last → weight (texts_of (tags (element k))) ≤ most) → first + n ≤ last
    → weight (texts_of (flat_map tags (map element (range_with_len first n)))) ≤ n * most
tags_few tags element most last first zero h within = omega arith
tags_few tags element most last first (suc n) h within =
    let one = h first (omega arith) in
    let rest = tags_few tags element most last (first + 1) n h (omega arith) in
    let pieces : Pair → List (List ℕ) = λ t. t.0 ∷ t.1 ∷ [] in
    let others = flat_map tags (map element (range_with_len (first + 1) n)) in
    let joined = ap weight (flat_map-append pieces (tags (element first)) others) ∙ weight-append (texts_of (tags (element first))) (texts_of others) in
    omega arith

-- what the tags of one element weigh
amenity_light : (a : Option Amenity) → weight (texts_of (amenity_tags a)) ≤ 150
unfolding amenity_tags
amenity_light None = lit≤ tt
amenity_light (Some Cafe) = lit≤ tt
amenity_light (Some Bench) = lit≤ tt

street_light : (id : ℕ) → id < 2 ^ 64 → weight (texts_of (street_tags id)) ≤ 150
unfolding street_tags
street_light id fits =
    let digits = length-decimal-le 20 id (lit≤ tt) (omega arith) fits in
    let name = length-append (codes "Way ") (decimal id) in
    omega arith

way_light : (w : Way) → w.id < 2 ^ 64 → weight (texts_of (way_tags w)) ≤ 150
unfolding way_tags
way_light w fits = go (w.id % 4 == 0) (w.id % 4 == 1) (street_light w.id fits)
  where
    go : (a b : Bool) → weight (texts_of (street_tags w.id)) ≤ 150
        → weight (texts_of (if a then (codes "building", codes "yes") ∷ [] else if b then street_tags w.id else [])) ≤ 150
    go true b h = lit≤ tt
    go false true h = h
    go false false h = lit≤ tt

relation_light : (r : Relation) → weight (texts_of (relation_tags r)) ≤ 150
unfolding relation_tags
relation_light r = lit≤ tt

-- blocks
block_few : (tags : List Pair) (group : List ℕ) → length (block_text (uses_of tags) group) ≤ 60 + weight (texts_of tags) + length group
unfolding block_text
block_few tags group =
    let uses = uses_of tags in
    let texts = uses_few tags in
    let empty = field_few 1 [] in
    let all = length-append (len_text 1 []) (flat_map (len_text 1) uses) in
    let strings = field_few 1 (flat_map (len_text 1) ([] ∷ uses)) in
    let elements = field_few 2 group in
    simp length-append (omega arith)

amenity_places : (uses : List (List ℕ)) (a : Option Amenity) → length (places_in uses (amenity_tags a) ++ 0 ∷ []) ≤ 3
unfolding amenity_tags
amenity_places uses None = lit≤ tt
amenity_places uses (Some Cafe) = lit≤ tt
amenity_places uses (Some Bench) = lit≤ tt

places_few : (uses : List (List ℕ)) (nodes : List Node) → length (dense_tags uses nodes) ≤ length nodes * 3
places_few uses nodes =
    either_few (list_any (λ n. is_some n.amenity) nodes) (flat_map (λ n. places_in uses (node_tags n) ++ 0 ∷ []) nodes) [] (length nodes * 3)
    (flat_few (λ n. places_in uses (node_tags n) ++ 0 ∷ []) 3 nodes (λ n. amenity_places uses n.amenity)) (omega arith)

dense_few : (uses : List (List ℕ)) (nodes : List Node) → length (dense_text uses nodes) ≤ 80 + length nodes * 60
unfolding dense_text
dense_few uses nodes =
    let ids = steps_few 1 (map (λ n. n.id) nodes) in
    let lats = steps_few 8 (map (λ n. n.lat) nodes) in
    let lons = steps_few 9 (map (λ n. n.lon) nodes) in
    let id_count = length-map nodes (λ n. n.id) in
    let lat_count = length-map nodes (λ n. n.lat) in
    let lon_count = length-map nodes (λ n. n.lon) in
    let places = places_few uses nodes in
    let tags = packed_few 10 (dense_tags uses nodes) in
    simp length-append (omega arith)

tagged_few : (uses : List (List ℕ)) (id : ℕ) (tags : List Pair) → length (tagged_text uses id tags) ≤ 60 + length tags * 20
unfolding tagged_text
tagged_few uses id tags =
    let number = number_few 1 id in
    let keys = packed_few 2 (keys_in uses tags) in
    let values = packed_few 3 (values_in uses tags) in
    let key_count = length-map tags (λ t. place_in uses t.0) in
    let value_count = length-map tags (λ t. place_in uses t.1) in
    simp length-append (omega arith)

corners_few : (id : ℕ) → length (corners_of id) ≤ 10
unfolding corners_of
corners_few id =
    either_few (id % 4 == 0) _ _ 10 (lit≤ tt) (either_few (id % 4 == 1) _ _ 10 (lit≤ tt) (either_few (id % 4 == 2) _ _ 10 (lit≤ tt) (lit≤ tt)))

way_tags_few : (w : Way) → length (way_tags w) ≤ 2
unfolding way_tags street_tags
way_tags_few w = go (w.id % 4 == 0) (w.id % 4 == 1)
  where
    go : (a b : Bool) → length (if a then (codes "building", codes "yes") ∷ [] else if b then street_tags w.id else []) ≤ 2
    go true b = lit≤ tt
    go false true = lit≤ tt
    go false false = lit≤ tt

way_few : (uses : List (List ℕ)) (w : Way) → length (len_text 3 (way_text uses w)) ≤ 300
unfolding way_text
way_few uses w =
    let tags = way_tags_few w in
    let corners = corners_few w.id in
    let tagged = tagged_few uses w.id (way_tags w) in
    let refs = steps_few 8 (refs_of w) in
    let ref_count = length-map (corners_of w.id) (λ corner. pos (10 * w.cluster + corner)) in
    let whole = length-append (tagged_text uses w.id (way_tags w)) (steps_text 8 (refs_of w)) in
    let field = field_few 3 (way_text uses w) in
    omega arith

relation_few : (uses : List (List ℕ)) (r : Relation) → length (len_text 4 (relation_text uses r)) ≤ 300
unfolding relation_text relation_tags
relation_few uses r =
    let tagged = tagged_few uses r.id (relation_tags r) in
    let roles = packed_few 8 (map (λ _. 0) (members_of r)) in
    let members = steps_few 9 (members_of r) in
    let kinds = packed_few 10 (map (λ _. 1) (members_of r)) in
    let field = field_few 4 (relation_text uses r) in
    let all = simp length-append at field in
    omega arith

-- frames
frame_few : (kind block : List ℕ) → length kind ≤ 16 → length (frame_text kind block) ≤ 100 + length block
unfolding frame_text
frame_few kind block h =
    let body = field_few 1 block in
    let head = head_short kind (length (len_text 1 block)) h in
    let size : length (to_be_bytes w32 (length (head_text kind (length (len_text 1 block))))) ≡ 4 = refl in
    simp length-append (omega arith)

header_few : length header_frame ≤ 1000000
unfolding header_frame
header_few =
    let first = field_few 4 (codes "OsmSchema-V0.6") in
    let second = field_few 4 (codes "DenseNodes") in
    let block = length-append (len_text 4 (codes "OsmSchema-V0.6")) (len_text 4 (codes "DenseNodes")) in
    let frame = frame_few (codes "OSMHeader") (len_text 4 (codes "OsmSchema-V0.6") ++ len_text 4 (codes "DenseNodes")) (lit≤ tt) in
    omega arith

node_frame_few : (seed : ℕ) (counts : Counts) (frame : ℕ) → length (node_frame seed counts frame) ≤ 1000000
unfolding node_frame node_block
node_frame_few seed counts frame =
    let first = 200 * frame in
    let n = size_of counts.nodes frame in
    let nodes = map (node_of seed) (range_with_len first n) in
    let count = length-map-range_with_len (node_of seed) first n in
    let tags = flat_map node_tags nodes in
    let light = tags_few node_tags (node_of seed) 150 (first + n) first n (λ k small. amenity_light (node_of seed k).amenity) (omega arith) in
    let dense = dense_few (uses_of tags) nodes in
    let group = field_few 2 (dense_text (uses_of tags) nodes) in
    let block = block_few tags (len_text 2 (dense_text (uses_of tags) nodes)) in
    let all = frame_few (codes "OSMData") (node_block nodes) (lit≤ tt) in
    omega arith

way_frame_few : (seed : ℕ) (counts : Counts) (frame : ℕ) → frame < 50000 → length (way_frame seed counts frame) ≤ 1000000
unfolding way_frame way_block way_of
way_frame_few seed counts frame h =
    let first = 200 * frame + 1 in
    let n = size_of counts.ways frame in
    let ways = map (way_of seed counts) (range_with_len first n) in
    let count = length-map-range_with_len (way_of seed counts) first n in
    let tags = flat_map way_tags ways in
    let light = tags_few way_tags (way_of seed counts) 150 (first + n) first n (λ k small. way_light (way_of seed counts k) (omega arith)) (omega arith) in
    let elements = flat_few (λ w. len_text 3 (way_text (uses_of tags) w)) 300 ways (way_few (uses_of tags)) in
    let block = block_few tags (flat_map (λ w. len_text 3 (way_text (uses_of tags) w)) ways) in
    let all = frame_few (codes "OSMData") (way_block ways) (lit≤ tt) in
    omega arith

relation_frame_few : (seed : ℕ) (counts : Counts) (frame : ℕ) → length (relation_frame seed counts frame) ≤ 1000000
unfolding relation_frame relation_block
relation_frame_few seed counts frame =
    let first = 200 * frame + 1 in
    let n = size_of counts.relations frame in
    let relations = map (relation_of seed counts) (range_with_len first n) in
    let count = length-map-range_with_len (relation_of seed counts) first n in
    let tags = flat_map relation_tags relations in
    let light = tags_few relation_tags (relation_of seed counts) 150 (first + n) first n (λ k small. relation_light (relation_of seed counts k)) (omega arith) in
    let elements = flat_few (λ r. len_text 4 (relation_text (uses_of tags) r)) 300 relations (relation_few (uses_of tags)) in
    let block = block_few tags (flat_map (λ r. len_text 4 (relation_text (uses_of tags) r)) relations) in
    let all = frame_few (codes "OSMData") (relation_block relations) (lit≤ tt) in
    omega arith

-- all frames
pub bytes_few : (seed : ℕ) (counts : Counts) → AreCounts counts → length (concat (frames_with seed counts)) < 2 ^ 40
unfolding frames_with
bytes_few seed counts are =
    let a = frames_few counts.nodes are.nodes in
    let b = frames_few counts.ways (omega (arith, are.ways)) in
    let c = frames_few counts.relations (omega (arith, are.relations)) in
    let nodes = concat_few (node_frame seed counts) 1000000 50000 0 (frames_for counts.nodes) (λ k small. node_frame_few seed counts k) (omega arith) in
    let ways = concat_few (way_frame seed counts) 1000000 50000 0 (frames_for counts.ways) (λ k small. way_frame_few seed counts k small) (omega arith) in
    let relations = concat_few (relation_frame seed counts) 1000000 50000 0 (frames_for counts.relations) (λ k small. relation_frame_few seed counts k) (omega arith) in
    let header = header_few in
    simp (concat-append, length-append) (omega arith)

pub blocks_few : (seed : ℕ) (counts : Counts) → AreCounts counts → length (frames_with seed counts) < 2 ^ 20
unfolding frames_with
blocks_few seed counts are =
    let a = frames_few counts.nodes are.nodes in
    let b = frames_few counts.ways (omega (arith, are.ways)) in
    let c = frames_few counts.relations (omega (arith, are.relations)) in
    let nodes = length-map-range_with_len (node_frame seed counts) 0 (frames_for counts.nodes) in
    let ways = length-map-range_with_len (way_frame seed counts) 0 (frames_for counts.ways) in
    let relations = length-map-range_with_len (relation_frame seed counts) 0 (frames_for counts.relations) in
    simp length-append (omega arith)
