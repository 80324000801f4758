-- The contents of an archive, each once in the order of their first use, and the entries that name them.
use Rattle.std.specs.Prelude.{ℕ, ◌+◌, ◌-◌, ◌^◌, ◌<◌, ◌≤◌, ◌==◌, ◌&&◌, Bool, nat_lt, if◌then◌else◌, List, [], ◌∷◌, ◌++◌, map, length}
use Rattle.std.specs.List.{fold, list_any}
use Rattle.std.specs.Str.{bytes_eq}
use Rattle.pmtiles_dirs.specs.declared.entry.DirEntry.{DirEntry}

-- a tile: its id and its bytes
pub record Tile : Type 0 where
  pub id : ℕ
  pub bytes : List ℕ

-- a tile that an archive has room for
pub record IsTile (t : Tile) : Type 0 where
  pub id : t.id < 2 ^ 64
  pub some : 1 ≤ length t.bytes
  pub len : length t.bytes < 2 ^ 32

-- such tiles, whose ids ascend from a number on
abbrev pub AreTiles : ℕ → List Tile → Type 0
AreTiles next [] = Unit {0}
AreTiles next (t ∷ tiles) = IsTile t × (next ≤ t.id) × AreTiles (t.id + 1) tiles

-- contents with one more, if it isn't among them
abbrev pub with_content : List (List ℕ) → List ℕ → List (List ℕ)
with_content contents bytes = if list_any (bytes_eq bytes) contents then contents else contents ++ bytes ∷ []

-- the distinct contents of tiles
unfoldable pub contents_of : List Tile → List (List ℕ)
contents_of tiles = fold with_content [] (map (λ t. t.bytes) tiles)

-- where a content lies: behind all that stand before its first place
abbrev pub offset_in : List (List ℕ) → List ℕ → ℕ
offset_in [] bytes = 0
offset_in (content ∷ contents) bytes = if bytes_eq bytes content then 0 else length content + offset_in contents bytes

-- tiles of one content whose ids follow on each other: the first id, and how many they are
pub record Stretch : Type 0 where
  pub id : ℕ
  pub run : ℕ
  pub bytes : List ℕ

abbrev pub one_tile : Tile → Stretch
one_tile t = record { id = t.id; run = 1; bytes = t.bytes }

abbrev pub one_more : Stretch → Stretch
one_more s = record { id = s.id; run = s.run + 1; bytes = s.bytes }

-- the tile goes on where the stretch ends, and there is room for its run
unfoldable pub continues : Stretch → Tile → Bool
continues s t = (t.id == s.id + s.run) && (bytes_eq t.bytes s.bytes && nat_lt s.run (2 ^ 32 - 1))

-- stretches with a tile more, which continues the last of them or begins another
abbrev pub with_tile : List Stretch → Tile → List Stretch
with_tile [] t = one_tile t ∷ []
with_tile (s ∷ []) t = if continues s t then one_more s ∷ [] else s ∷ one_tile t ∷ []
with_tile (s ∷ next ∷ stretches) t = s ∷ with_tile (next ∷ stretches) t

-- the longest stretches of tiles
unfoldable pub stretches_of : List Tile → List Stretch
stretches_of tiles = fold with_tile [] tiles

-- the entry of a stretch
abbrev pub entry_for : List (List ℕ) → Stretch → DirEntry
entry_for contents s = record { id = s.id; run = s.run; len = length s.bytes; offset = offset_in contents s.bytes }

-- the entries of an archive's tiles
unfoldable pub entries_of : List Tile → List DirEntry
entries_of tiles = map (entry_for (contents_of tiles)) (stretches_of tiles)
