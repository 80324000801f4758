-- The entries of a writer.
use Rattle.std.specs.Prelude.{ℕ, ◌+◌, ◌-◌, ◌^◌, ◌≤◌, ◌==◌, ◌&&◌, ◌≡◌, Bool, nat_lt, if◌then◌else◌, Option, None, Some, List, [], ◌∷◌, ◌++◌}
use Rattle.pmtiles_dirs.specs.declared.entry.DirEntry.{DirEntry}
use Rattle.pmtiles_dirs.specs.Directory.{IsDirectory}
use Rattle.pmtiles_file.specs.declared.stored.Stored.{Stored}

-- the entries, and how many tiles they name
pub record ListedSeen : Type 0 where
  pub entries : List DirEntry
  pub tiles : ℕ

-- the least id behind entries
abbrev pub next_behind : ℕ → List DirEntry → ℕ
next_behind next [] = next
next_behind next (e ∷ entries) = next_behind (e.id + e.run) entries

-- the last entry, where there is one, ends a directory
abbrev pub IsListed : List DirEntry → Option DirEntry → Type 0
IsListed closed None = closed ≡ []
IsListed closed (Some last) = IsDirectory (closed ++ last ∷ []) × (1 ≤ last.run)

-- an entry of one tile
abbrev pub entry_at : ℕ → Stored → DirEntry
entry_at id s = record { id = id; run = 1; len = s.len; offset = s.offset }

-- an entry goes on with one of one tile: ids and content follow, and there is room for the run
unfoldable pub is_followed : DirEntry → DirEntry → Bool
is_followed last e = (e.id == last.id + last.run) && (e.offset == last.offset && nat_lt last.run (2 ^ 32 - 1))

abbrev pub one_longer : DirEntry → DirEntry
one_longer e = record { id = e.id; run = e.run + 1; len = e.len; offset = e.offset }

-- entries with one of one tile more: the last goes on with it, or it is another
abbrev pub with_entry : List DirEntry → DirEntry → List DirEntry
with_entry [] e = e ∷ []
with_entry (last ∷ []) e = if is_followed last e then one_longer last ∷ [] else last ∷ e ∷ []
with_entry (one ∷ next ∷ entries) e = one ∷ with_entry (next ∷ entries) e
