-- Directories of an archive: their entries ascend by id (PMTiles 3, section 4). They are written as varints.
use Rattle.std.specs.Prelude.{ℕ, ◌+◌, ◌-◌, ◌^◌, ◌<◌, ◌≤◌, ◌==◌, ◌&&◌, Bool, nat_lt, if◌then◌else◌, Option, None, Some, option_map, Result, Ok, Err, List, [], ◌∷◌, ◌++◌, map, length, take, drop, flat_map}
use Rattle.std.specs.List.{zip}
use Rattle.tb_wire.specs.declared.varint.Wire.{Wire}
use Rattle.tb_wire.specs.Varint.{encoding}
use Rattle.tb_wire.specs.Message.{packed}
use Rattle.pmtiles_dirs.specs.declared.entry.DirEntry.{DirEntry}

-- The sizes of an entry's numbers. The last id that its run covers and the end of its bytes stay within 64 bits, and it
-- has bytes. A run of 0 names a leaf.
pub record IsEntry (e : DirEntry) : Type 0 where
  pub run : e.run < 2 ^ 32
  pub some : 1 ≤ e.len
  pub len : e.len < 2 ^ 32
  pub last : e.id + (e.run - 1) < 2 ^ 64
  pub end : e.offset + e.len < 2 ^ 64

-- its id is above that of the entry before it
abbrev pub IsBehind : Option DirEntry → DirEntry → Type 0
IsBehind None e = Unit {0}
IsBehind (Some before) e = before.id < e.id

-- entries that may stand in a directory, behind one that may be
abbrev pub AreEntries : Option DirEntry → List DirEntry → Type 0
AreEntries before [] = Unit {0}
AreEntries before (e ∷ entries) = IsEntry e × IsBehind before e × AreEntries (Some e) entries

abbrev pub IsDirectory : List DirEntry → Type 0
IsDirectory entries = AreEntries None entries

-- an id is written as what it is more than the one before it
abbrev pub step_behind : Option DirEntry → DirEntry → ℕ
step_behind None e = e.id
step_behind (Some before) e = e.id - before.id

-- an offset is written as 0 where the bytes follow on those of the entry before, and else as one more than it is
abbrev pub code_behind : Option DirEntry → DirEntry → ℕ
code_behind None e = e.offset + 1
code_behind (Some before) e = if e.offset == before.offset + before.len then 0 else e.offset + 1

-- what is written of each entry behind the one before it
abbrev pub column : (Option DirEntry → DirEntry → ℕ) → Option DirEntry → List DirEntry → List ℕ
column written before [] = []
column written before (e ∷ entries) = written before e ∷ column written (Some e) entries

-- the numbers of a directory: how many entries, and then the ids, the runs, the lengths and the offsets of all
abbrev pub dir_numbers : List DirEntry → List ℕ
dir_numbers entries =
    length entries ∷ column step_behind None entries ++ map (λ e. e.run) entries ++ map (λ e. e.len) entries ++ column code_behind None entries

unfoldable pub dir_text : List DirEntry → List ℕ
dir_text entries = flat_map encoding (dir_numbers entries)

-- what stands of one entry: its id's step, its run, its length and its offset's code
abbrev pub Row : Type 0
Row = (ℕ × ℕ) × (ℕ × ℕ)

-- the rows of so many entries, from their four columns
abbrev pub rows : ℕ → List ℕ → List Row
rows n numbers = zip (zip (take n numbers) (take n (drop n numbers))) (zip (take n (drop (n + n) numbers)) (drop (n + n + n) numbers))

abbrev pub id_behind : Option DirEntry → ℕ → ℕ
id_behind None step = step
id_behind (Some before) step = before.id + step

abbrev pub offset_behind : Option DirEntry → ℕ → ℕ
offset_behind None code = code - 1
offset_behind (Some before) code = if code == 0 then before.offset + before.len else code - 1

-- the first offset follows on none, and ids ascend
abbrev pub follows : Option DirEntry → ℕ → ℕ → Bool
follows None step code = nat_lt 0 code
follows (Some before) step code = nat_lt 0 step

abbrev pub is_entry : DirEntry → Bool
is_entry e = nat_lt e.run (2 ^ 32) && (nat_lt 0 e.len && (nat_lt e.len (2 ^ 32) && (nat_lt (e.id + (e.run - 1)) (2 ^ 64) && nat_lt (e.offset + e.len) (2 ^ 64))))

-- the entry of four numbers behind another, if they are one
abbrev pub entry_of : Option DirEntry → ℕ → ℕ → ℕ → ℕ → DirEntry
entry_of before step run len code = record { id = id_behind before step; run = run; len = len; offset = offset_behind before code }

unfoldable pub read_entry : Option DirEntry → ℕ → ℕ → ℕ → ℕ → Option DirEntry
read_entry before step run len code =
    if follows before step code && is_entry (entry_of before step run len code) then Some (entry_of before step run len code) else None

-- an entry before those that are read behind it
abbrev pub with_entries : Option DirEntry → (DirEntry → Option (List DirEntry)) → Option (List DirEntry)
with_entries None rest = None
with_entries (Some e) rest = option_map (λ entries. e ∷ entries) (rest e)

abbrev pub entries_behind : Option DirEntry → List Row → Option (List DirEntry)
entries_behind before [] = Some []
entries_behind before (row ∷ rest) = with_entries (read_entry before row.0.0 row.0.1 row.1.0 row.1.1) (λ e. entries_behind (Some e) rest)

-- the varints that bytes are, if they are varints
abbrev pub numbers_in : Result (List ℕ) Wire → Option (List ℕ)
numbers_in (Ok numbers) = Some numbers
numbers_in (Err e) = None

abbrev pub numbers_of : List ℕ → Option (List ℕ)
numbers_of bytes = numbers_in (packed bytes)

-- the entries of a directory's numbers, if there are four columns of so many numbers as the first says
abbrev pub dir_in : Option (List ℕ) → Option (List DirEntry)
dir_in (Some (n ∷ numbers)) = if length numbers == n + n + n + n then entries_behind None (rows n numbers) else None
dir_in (Some []) = None
dir_in None = None

-- four columns of so many numbers as the first says, or more
abbrev pub IsFull : List ℕ → Type 0
IsFull [] = ⊥
IsFull (n ∷ numbers) = n + n + n + n ≤ length numbers

-- the entries of a directory, or none where the bytes are no directory
unfoldable pub dir_of : List ℕ → Option (List DirEntry)
dir_of bytes = dir_in (numbers_of bytes)
