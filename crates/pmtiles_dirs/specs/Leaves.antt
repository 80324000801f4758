-- Root and leaves of an archive: how entries are split, so that the root is short (PMTiles 3, section 4).
use Rattle.std.specs.Prelude.{ℕ, zero, suc, ◌+◌, ◌*◌, ◌^◌, ◌<◌, ◌≡◌, Bool, true, false, nat_le, if◌then◌else◌, List, [], ◌∷◌, length, take, drop, flat_map}
use Rattle.pmtiles_dirs.specs.declared.entry.DirEntry.{DirEntry}
use Rattle.pmtiles_dirs.specs.declared.entry.Dirs.{Dirs}
use Rattle.pmtiles_dirs.specs.Directory.{dir_text}

-- a root directory has at most so many bytes: with the header it is within the first 16,384
abbrev pub root_limit : ℕ
root_limit = 16257

-- a leaf has so many entries, doubled until the root is short enough
abbrev pub least_leaf : ℕ
least_leaf = 4096

-- parts of so many entries each, the last of them with what is left; at most so many parts
abbrev pub parts_within : ℕ → ℕ → List DirEntry → List (List DirEntry)
parts_within zero size entries = []
parts_within (suc most) size [] = []
parts_within (suc most) size (e ∷ entries) = take size (e ∷ entries) ∷ parts_within most size (drop size (e ∷ entries))

unfoldable pub parts : ℕ → List DirEntry → List (List DirEntry)
parts size entries = parts_within (length entries) size entries

abbrev pub first_id : List DirEntry → ℕ
first_id [] = 0
first_id (e ∷ entries) = e.id

-- the entry of a leaf that lies at an offset
abbrev pub leaf_entry : ℕ → List DirEntry → DirEntry
leaf_entry at leaf = record { id = first_id leaf; run = 0; len = length (dir_text leaf); offset = at }

-- the entries of a root that name leaves, which lie one behind another
abbrev pub leaf_entries : ℕ → List (List DirEntry) → List DirEntry
leaf_entries at [] = []
leaf_entries at (leaf ∷ leaves) = leaf_entry at leaf ∷ leaf_entries (at + length (dir_text leaf)) leaves

-- a root, and the leaves that it names
pub record Plan : Type 0 where
  pub root : List ℕ
  pub leaves : List ℕ

abbrev pub plan_in : Dirs → Plan
plan_in dirs = record { root = dirs.root; leaves = dirs.leaves }

unfoldable pub plan_by : ℕ → List DirEntry → Plan
plan_by size entries = record { root = dir_text (leaf_entries 0 (parts size entries)); leaves = flat_map dir_text (parts size entries) }

abbrev pub is_short : List ℕ → Bool
is_short root = nat_le (length root) root_limit

-- the plan of the least size, of this one and its doubles, whose root is short; the last after so many doublings
abbrev pub plan_from : ℕ → ℕ → List DirEntry → Plan
plan_from zero size entries = plan_by size entries
plan_from (suc more) size entries = if is_short (plan_by size entries).root then plan_by size entries else plan_from more (size + size) entries

-- So many doublings of the least leaf give 2 ^ 63 entries, which hold any list of entries in memory.
abbrev pub doublings : ℕ
doublings = 51

-- leaves of the least size
unfoldable pub split_plan : List DirEntry → Plan
split_plan entries = plan_from doublings least_leaf entries

-- all entries in the root, and no leaves
abbrev pub whole_plan : List DirEntry → Plan
whole_plan entries = record { root = dir_text entries; leaves = [] }

-- all entries in the root where that is short, and else leaves
unfoldable pub plan_of : List DirEntry → Plan
plan_of entries = if is_short (dir_text entries) then whole_plan entries else split_plan entries

-- so many entries, doubled k times
abbrev pub leaf_size : ℕ → ℕ
leaf_size k = least_leaf * 2 ^ k

-- the plan has leaves of the least size whose root is short
pub record HasLeastLeaves (entries : List DirEntry) (plan : Plan) : Type 0 where
  pub k : ℕ
  pub is : plan ≡ plan_by (leaf_size k) entries
  pub short : is_short plan.root ≡ true
  pub least : (j : ℕ) → j < k → is_short (plan_by (leaf_size j) entries).root ≡ false

-- A plan of entries: all of them stand in the root where that is short, and else in leaves of the least size.
pub record IsPlan (entries : List DirEntry) (plan : Plan) : Type 0 where
  pub whole : is_short (dir_text entries) ≡ true → plan ≡ whole_plan entries
  pub split : is_short (dir_text entries) ≡ false → HasLeastLeaves entries plan
