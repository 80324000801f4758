-- The lengths of worked archives, by computing.
use Rattle.std.proofs.Common.{◌≡◌, [], length, codes, refl}
use Rattle.serde_json.proofs.OnLiterals.{serde_json_on_literals}
use Rattle.tb_wire.specs.Varint.{encoding}
use Rattle.pmtiles_dirs.specs.Archive.{archive_text, text_of_parts}
use Rattle.pmtiles_dirs.specs.Contents.{contents_of, continues, stretches_of, entries_of}
use Rattle.pmtiles_dirs.specs.Directory.{dir_text}
use Rattle.pmtiles_dirs.specs.Header.{longs_text, int_text, place_text, places_text, magic, header_text}
use Rattle.pmtiles_dirs.specs.Leaves.{parts, plan_by, split_plan, plan_of}
use Rattle.pmtiles_dirs.specs.Meta.{kind_text, layer_data, metadata_of, metadata_text}
use Rattle.build_one.specs.Worked.{key_meta, cafe_tiles}

pub without_tile : length (archive_text (key_meta (codes "amenity")) []) ≡ 205
unfolding archive_text text_of_parts header_text places_text place_text int_text longs_text magic plan_of plan_by split_plan parts dir_text entries_of stretches_of contents_of encoding metadata_text metadata_of layer_data kind_text serde_json_on_literals
without_tile = refl

pub with_cafe : length (archive_text (key_meta (codes "amenity")) cafe_tiles) ≡ 257
unfolding archive_text text_of_parts header_text places_text place_text int_text longs_text magic plan_of plan_by split_plan parts dir_text entries_of stretches_of contents_of continues encoding metadata_text metadata_of layer_data kind_text serde_json_on_literals
with_cafe = refl

pub of_shops : length (archive_text (key_meta (codes "shop")) []) ≡ 202
unfolding archive_text text_of_parts header_text places_text place_text int_text longs_text magic plan_of plan_by split_plan parts dir_text entries_of stretches_of contents_of encoding metadata_text metadata_of layer_data kind_text serde_json_on_literals
of_shops = refl
