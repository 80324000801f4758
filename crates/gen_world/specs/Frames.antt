-- The frames of the extract (fileformat.proto): a header, and then the nodes, the ways and the relations, 200 in a frame.
use Rattle.std.specs.Prelude.{ℕ, ◌+◌, ◌-◌, ◌*◌, ◌/◌, min, List, ◌∷◌, ◌++◌, map, length, codes}
use Rattle.std.specs.List.{range_with_len, concat}
use Rattle.std.specs.Int.{w32, to_be_bytes}
use Rattle.tb_wire.specs.Message.{len_text}
use Rattle.gen_world.specs.declared.counts.Counts.{Counts}
use Rattle.gen_world.specs.Elements.{counts_of, node_of, way_of, relation_of}
use Rattle.gen_world.specs.Blocks.{number_text, node_block, way_block, relation_block}

-- the header of a frame: its kind, and how long its body is
unfoldable pub head_text : List ℕ → ℕ → List ℕ
head_text kind size = len_text 1 kind ++ number_text 3 size

-- a frame whose body has a raw block: the header's length, the header, and the body
unfoldable pub frame_text : List ℕ → List ℕ → List ℕ
frame_text kind block =
    let body = len_text 1 block in
    let head = head_text kind (length body) in
    to_be_bytes w32 (length head) ++ head ++ body

-- the header of the extract: the features that its reader has to know
unfoldable pub header_frame : List ℕ
header_frame = frame_text (codes "OSMHeader") (len_text 4 (codes "OsmSchema-V0.6") ++ len_text 4 (codes "DenseNodes"))

abbrev pub data_frame : List ℕ → List ℕ
data_frame block = frame_text (codes "OSMData") block

-- how many frames so many elements take, how many of them come before a frame, and how many it has
unfoldable pub frames_for : ℕ → ℕ
frames_for elements = (elements + 199) / 200

abbrev pub size_of : ℕ → ℕ → ℕ
size_of elements frame = min 200 (elements - 200 * frame)

-- the frames of one kind of element
unfoldable pub node_frame : ℕ → Counts → ℕ → List ℕ
node_frame seed counts frame = data_frame (node_block (map (node_of seed) (range_with_len (200 * frame) (size_of counts.nodes frame))))

unfoldable pub way_frame : ℕ → Counts → ℕ → List ℕ
way_frame seed counts frame = data_frame (way_block (map (way_of seed counts) (range_with_len (200 * frame + 1) (size_of counts.ways frame))))

unfoldable pub relation_frame : ℕ → Counts → ℕ → List ℕ
relation_frame seed counts frame =
    data_frame (relation_block (map (relation_of seed counts) (range_with_len (200 * frame + 1) (size_of counts.relations frame))))

abbrev pub frames_by : (ℕ → List ℕ) → ℕ → List (List ℕ)
frames_by frame elements = map frame (range_with_len 0 (frames_for elements))

-- all frames of an extract of these elements
unfoldable pub frames_with : ℕ → Counts → List (List ℕ)
frames_with seed counts =
    header_frame ∷ (frames_by (node_frame seed counts) counts.nodes ++ (frames_by (way_frame seed counts) counts.ways
    ++ frames_by (relation_frame seed counts) counts.relations))

-- the frames of the extract of a seed and a number of elements, and its bytes
unfoldable pub frames_of : ℕ → ℕ → List (List ℕ)
frames_of seed count = frames_with seed (counts_of count)

unfoldable pub extract_of : ℕ → ℕ → List ℕ
extract_of seed count = concat (frames_of seed count)
