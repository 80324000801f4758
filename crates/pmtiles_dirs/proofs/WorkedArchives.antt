use Rattle.std.proofs.Common.{refl}
use Rattle.tb_wire.specs.Varint.{varint, encoding}
use Rattle.tb_wire.specs.Message.{packed_at, number_at}
use Rattle.serde_json.proofs.OnLiterals.{serde_json_on_literals}
use Rattle.pmtiles_dirs.specs.Directory.{dir_text, read_entry, dir_of}
use Rattle.pmtiles_dirs.specs.Leaves.{parts, plan_by, plan_of}
use Rattle.pmtiles_dirs.specs.Header.{longs_text, int_text, place_text, places_text, magic, header_text, header_of}
use Rattle.pmtiles_dirs.specs.Contents.{contents_of, continues, stretches_of, entries_of}
use Rattle.pmtiles_dirs.specs.Meta.{kind_text, layer_data, metadata_of, metadata_text}
use Rattle.pmtiles_dirs.specs.Archive.{text_of_parts, archive_text}
use Rattle.pmtiles_dirs.specs.Fault.{checked_header, sections_within, opened}
use Rattle.pmtiles_dirs.specs.Back.{read_back}
use Rattle.pmtiles_dirs.specs.Worked.{WorkedArchives}

pub worked_archives : WorkedArchives
unfolding varint encoding packed_at number_at dir_text read_entry dir_of parts plan_by plan_of longs_text int_text place_text places_text magic header_text header_of contents_of continues stretches_of entries_of kind_text layer_data metadata_of metadata_text text_of_parts archive_text checked_header sections_within opened read_back serde_json_on_literals
worked_archives = record { root = refl; contents = refl; no_bytes = refl; empty = refl; one_entry = refl; first_follows = refl; no_len = refl; left_over = refl; without_tile = refl; with_one = refl; back = refl; whole = refl; short = refl; magic = refl; version = refl; tile_compressed = refl; tile_type = refl; one_byte_less = refl; directory = refl; order = refl; section = refl; both_compressed = refl; no_tile = refl; without_tile_back = refl; cut = refl; cut_between = refl; many = refl; same_id = refl; long_run = refl; last_id = refl; past_last_id = refl; past_last_place = refl; itself = refl; three_levels = refl; empty_leaf = refl; leaf_past_end = refl; no_leaf = refl; two_leaves = refl; overlap = refl; leaf_first = refl; split = refl; kinds = refl }
