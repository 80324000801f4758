-- The worked cases, by computing.
use Rattle.std.proofs.Common.{◌≡◌, None, Ok, [], ◌∷◌, ◌++◌, codes, refl}
use Rattle.std.specs.Str.{is_utf8, chars}
use lib.Utf8.{encode}
use Rattle.tb_wire.specs.Varint.{varint, encoding}
use Rattle.tb_wire.specs.Field.{value_at, field_at}
use Rattle.tb_wire.specs.Message.{message_at, number_at, packed_at, len_text}
use Rattle.tb_types.specs.declared.damage.Why.TheVariants as reasons
use Rattle.pbf_blobs.specs.Blob.{raw_of}
use Rattle.pbf_blobs.specs.Header.{header_of as blob_header_of}
use Rattle.pbf_blobs.specs.Frames.{header_len_at, frame_at, block_at, frames_from, frames_before}
use Rattle.osm_elements.specs.Header.{header_of, is_accepted}
use Rattle.osm_elements.specs.Elements.{node_of, way_of, relation_of}
use Rattle.osm_elements.specs.Dense.{dense_of}
use Rattle.osm_elements.specs.Block.{group_of, elements_of, block_of}
use Rattle.int_mercator.specs.Cosine.{series, cosine_of}
use Rattle.int_mercator.specs.Quarter.{secant_of, height_of, entry_of, quarter}
use Rattle.int_mercator.specs.Places.{x_of, north_of, y_of, world_of, grid_of}
use Rattle.tile_model.specs.Contents.{header, contents_of}
use Rattle.profile_rules.specs.OneRule.{one_rule_of, nodes_id}
use Rattle.profile_rules.specs.Top.{usual_name}
use Rattle.strip_clip.specs.Cuts.{cut_of}
use Rattle.hilbert_ids.specs.Ids.{number_of}
use Rattle.mvt_codec.specs.Groups.{layers_of}
use Rattle.mvt_codec.specs.Tile.{feature_text, layer_text}
use Rattle.mvt_codec.specs.Value.{number_text, value_text}
use Rattle.tile_model.specs.Tiles.{tiles_between}
use Rattle.tile_model.specs.Map.{meta_of, tiles_of}
use Rattle.build_one.proofs.WorkedArchives.{without_tile, with_cafe, of_shops}
use Rattle.build_one.specs.Worked.{WorkedRows, header_frame, cafe_frame, compressed_header, cafe_contents, cafe_tiles, key_meta, damage_in}

header_alone : contents_of header_frame ≡ Ok (header None ∷ [])
unfolding contents_of frames_before frames_from block_at frame_at header_len_at blob_header_of raw_of header_of is_accepted message_at field_at value_at varint
header_alone = refl

one_cafe : contents_of (header_frame ++ cafe_frame) ≡ Ok cafe_contents
unfolding contents_of frames_before frames_from block_at frame_at header_len_at blob_header_of raw_of header_of is_accepted block_of elements_of group_of dense_of node_of way_of relation_of message_at number_at packed_at field_at value_at varint is_utf8 chars encode
one_cafe = refl

two_bytes_more : contents_of (header_frame ++ cafe_frame ++ 0 ∷ 0 ∷ []) ≡ damage_in 2 reasons.Cut
unfolding contents_of frames_before frames_from block_at frame_at header_len_at blob_header_of message_at field_at value_at varint
two_bytes_more = refl

nothing : contents_of [] ≡ damage_in 0 reasons.NoHeader
unfolding contents_of frames_before frames_from
nothing = refl

data_alone : contents_of cafe_frame ≡ damage_in 0 reasons.NoHeader
unfolding contents_of frames_before frames_from block_at frame_at header_len_at blob_header_of message_at field_at value_at varint
data_alone = refl

compressed : contents_of compressed_header ≡ damage_in 0 reasons.Compressed
unfolding contents_of frames_before frames_from block_at frame_at header_len_at blob_header_of raw_of message_at field_at value_at varint
compressed = refl

meta : meta_of (one_rule_of (codes "amenity")) None ≡ key_meta (codes "amenity")
unfolding nodes_id usual_name
meta = refl

cafe_map : tiles_of (one_rule_of (codes "amenity")) cafe_contents ≡ cafe_tiles
unfolding nodes_id usual_name tiles_between number_of cut_of layers_of layer_text feature_text number_text value_text len_text encoding world_of x_of y_of north_of quarter entry_of height_of secant_of cosine_of series grid_of
cafe_map = refl

no_shop : tiles_of (one_rule_of (codes "shop")) cafe_contents ≡ []
unfolding nodes_id usual_name tiles_between number_of cut_of layers_of world_of x_of y_of north_of quarter entry_of height_of secant_of cosine_of series grid_of
no_shop = refl

pub worked_rows : WorkedRows
worked_rows = record {
  header_alone = header_alone;
  one_cafe = one_cafe;
  two_bytes_more = two_bytes_more;
  nothing = nothing;
  data_alone = data_alone;
  compressed = compressed;
  meta = meta;
  without_tile = without_tile;
  with_cafe = with_cafe;
  of_shops = of_shops;
  cafe_map = cafe_map;
  no_shop = no_shop;
}
