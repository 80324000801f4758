-- Worked cases that the definitions were checked on.
use Rattle.std.specs.Prelude.{◌≡◌, ℕ, ℤ, pos, None, Some, Result, Ok, Err, List, [], ◌∷◌, ◌++◌, length, codes}
use Rattle.tb_types.specs.declared.damage.Why.{Why}
use Rattle.tb_types.specs.declared.damage.Why.TheVariants as reasons
use Rattle.tb_types.specs.declared.damage.Damage.{Damage}
use Rattle.osm_elements.specs.declared.element.NodeEl.{NodeEl}
use Rattle.tile_model.specs.Contents.{Content, header, elements, contents_of}
use Rattle.tb_types.specs.declared.attribute.FieldKind.TheVariants as field_kinds
use Rattle.pmtiles_dirs.specs.declared.meta.Meta.{Meta}
use Rattle.pmtiles_dirs.specs.Archive.{archive_text}
use Rattle.pmtiles_dirs.specs.Contents.{Tile}
use Rattle.profile_rules.specs.OneRule.{one_rule_of}
use Rattle.tile_model.specs.Map.{meta_of, tiles_of}

-- a header frame whose block has no fields
abbrev pub header_frame : List ℕ
header_frame = 0 ∷ 0 ∷ 0 ∷ 13 ∷ 10 ∷ 9 ∷ codes "OSMHeader" ++ 24 ∷ 2 ∷ 10 ∷ 0 ∷ []

-- the same with a compressed block
abbrev pub compressed_header : List ℕ
compressed_header = 0 ∷ 0 ∷ 0 ∷ 13 ∷ 10 ∷ 9 ∷ codes "OSMHeader" ++ 24 ∷ 2 ∷ 26 ∷ 0 ∷ []

-- a data frame with node 1 at latitude 0 and longitude 0, `amenity=cafe`
abbrev pub cafe_frame : List ℕ
cafe_frame =
    0 ∷ 0 ∷ 0 ∷ 11 ∷ 10 ∷ 7 ∷ codes "OSMData" ++ 24 ∷ 37 ∷ 10 ∷ 35 ∷ 10 ∷ 17 ∷ 10 ∷ 0 ∷ 10 ∷ 7 ∷ codes "amenity" ++ 10 ∷ 4 ∷ codes "cafe"
    ++ 18 ∷ 14 ∷ 10 ∷ 12 ∷ 8 ∷ 2 ∷ 18 ∷ 1 ∷ 1 ∷ 26 ∷ 1 ∷ 2 ∷ 64 ∷ 0 ∷ 72 ∷ 0 ∷ []

-- a cafe at a location
abbrev pub cafe_at : ℤ → ℤ → NodeEl
cafe_at lat lon = record { index = 0; id = record { 0 = pos 1 }; at = Some (record { lat = lat; lon = lon }); tags = record { pairs = (codes "amenity", codes "cafe") ∷ [] } }

abbrev pub cafe : NodeEl
cafe = cafe_at (pos 0) (pos 0)

abbrev pub cafe_contents : List Content
cafe_contents = header None ∷ elements 1 (record { nodes = cafe ∷ []; ways = []; relations = [] }) ∷ []

-- what is told of a map of a key, without a box
abbrev pub key_meta : List ℕ → Meta
key_meta key = record { name = codes "map"; layers = record { id = codes "nodes"; fields = (key, field_kinds.Text) ∷ [] } ∷ []; min = 0; max = 0; bounds = None }

-- the tile of the cafe: one layer with one point in the middle
abbrev pub cafe_tile : List ℕ
cafe_tile =
    26 ∷ 46 ∷ 10 ∷ 5 ∷ codes "nodes" ++ 18 ∷ 15 ∷ 8 ∷ 11 ∷ 18 ∷ 2 ∷ 0 ∷ 0 ∷ 24 ∷ 1 ∷ 34 ∷ 5 ∷ 9 ∷ 128 ∷ 32 ∷ 128 ∷ 32 ∷ 26 ∷ 7 ∷ codes "amenity"
    ++ 34 ∷ 6 ∷ 10 ∷ 4 ∷ codes "cafe" ++ 40 ∷ 128 ∷ 32 ∷ 120 ∷ 2 ∷ []

abbrev pub cafe_tiles : List Tile
cafe_tiles = record { id = 0; bytes = cafe_tile } ∷ []

abbrev pub damage_in : ℕ → Why → Result (List Content) Damage
damage_in block why = Err (record { block = block; why = why })

pub record WorkedRows : Type 0 where
  pub header_alone : contents_of header_frame ≡ Ok (header None ∷ [])
  pub one_cafe : contents_of (header_frame ++ cafe_frame) ≡ Ok cafe_contents
  pub two_bytes_more : contents_of (header_frame ++ cafe_frame ++ 0 ∷ 0 ∷ []) ≡ damage_in 2 reasons.Cut
  pub nothing : contents_of [] ≡ damage_in 0 reasons.NoHeader
  pub data_alone : contents_of cafe_frame ≡ damage_in 0 reasons.NoHeader
  pub compressed : contents_of compressed_header ≡ damage_in 0 reasons.Compressed
  -- the metadata, and the lengths of archives without a tile and with one
  pub meta : meta_of (one_rule_of (codes "amenity")) None ≡ key_meta (codes "amenity")
  pub without_tile : length (archive_text (key_meta (codes "amenity")) []) ≡ 205
  pub with_cafe : length (archive_text (key_meta (codes "amenity")) cafe_tiles) ≡ 257
  pub of_shops : length (archive_text (key_meta (codes "shop")) []) ≡ 202
  -- the cafe's tile, and what another key makes of it
  pub cafe_map : tiles_of (one_rule_of (codes "amenity")) cafe_contents ≡ cafe_tiles
  pub no_shop : tiles_of (one_rule_of (codes "shop")) cafe_contents ≡ []
