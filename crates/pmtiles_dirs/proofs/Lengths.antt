-- How long directories are.
use Rattle.std.proofs.Common.{◌≡◌, ℕ, zero, suc, ◌+◌, ◌*◌, ◌/◌, ◌%◌, ◌≤◌, Bool, true, false, if◌then◌else◌, nat_lt, None, List, [], ◌∷◌, ◌++◌, length, map, refl, ap, ◌∙◌, arith}
use Rattle.std.specs.Prelude.{flat_map}
use Rattle.std.proofs.lemmas.List.{length-append, length-map}
use Rattle.tb_wire.specs.Varint.{encoding, encoding_within}
use Rattle.tb_wire.proofs.Again.{encoding-some}
use Rattle.pmtiles_dirs.specs.declared.entry.DirEntry.{DirEntry}
use Rattle.pmtiles_dirs.specs.Directory.{column, step_behind, code_behind, dir_text}
use Rattle.pmtiles_dirs.specs.Leaves.{leaf_entries}
use Rattle.pmtiles_dirs.proofs.Columns.{flat_map_joined}
use Rattle.pmtiles_dirs.proofs.Reread.{length-column}

one-more : (b : Bool) (n m k : ℕ) (rest : List ℕ) → length rest ≤ k + 1 → length (if b then n ∷ [] else m ∷ rest) ≤ suc k + 1
one-more true n m k rest h = omega arith
one-more false n m k rest h = omega (arith, h)

within-most : (more n : ℕ) → length (encoding_within more n) ≤ more + 1
within-most zero n = omega arith
within-most (suc more) n = one-more (nat_lt n 128) n (n % 128 + 128) more (encoding_within more (n / 128)) (within-most more (n / 128))

encoding-most : (n : ℕ) → length (encoding n) ≤ 10
unfolding encoding
encoding-most n = within-most 9 n

-- so many bytes stand of numbers
abbrev pub bytes_of : List ℕ → ℕ
bytes_of numbers = length (flat_map encoding numbers)

pub bytes-most : (numbers : List ℕ) → bytes_of numbers ≤ 10 * length numbers
bytes-most [] = omega arith
bytes-most (n ∷ numbers) = omega (arith, length-append (encoding n) (flat_map encoding numbers), encoding-most n, bytes-most numbers)

bytes-least : (numbers : List ℕ) → length numbers ≤ bytes_of numbers
bytes-least [] = omega arith
bytes-least (n ∷ numbers) = omega (arith, length-append (encoding n) (flat_map encoding numbers), encoding-some n, bytes-least numbers)

bytes-joined : (xs ys : List ℕ) → bytes_of (xs ++ ys) ≡ bytes_of xs + bytes_of ys
bytes-joined xs ys = ap length (flat_map_joined encoding xs ys) ∙ length-append (flat_map encoding xs) (flat_map encoding ys)

abbrev pub ids_of : List DirEntry → List ℕ
ids_of entries = column step_behind None entries

abbrev pub runs_of : List DirEntry → List ℕ
runs_of entries = map (λ (e : DirEntry). e.run) entries

abbrev pub lens_of : List DirEntry → List ℕ
lens_of entries = map (λ (e : DirEntry). e.len) entries

abbrev pub codes_of : List DirEntry → List ℕ
codes_of entries = column code_behind None entries

pub dir-bytes : (entries : List DirEntry) → length (dir_text entries) ≡ length (encoding (length entries)) + (bytes_of (ids_of entries) + bytes_of (runs_of entries) + bytes_of (lens_of entries) + bytes_of (codes_of entries))
unfolding dir_text
dir-bytes entries =
    length-append (encoding (length entries)) (flat_map encoding (ids_of entries ++ runs_of entries ++ lens_of entries ++ codes_of entries))
    ∙ ap (λ n. length (encoding (length entries)) + n)
    (bytes-joined (ids_of entries ++ runs_of entries ++ lens_of entries) (codes_of entries)
    ∙ ap (λ n. n + bytes_of (codes_of entries)) (bytes-joined (ids_of entries ++ runs_of entries) (lens_of entries) ∙ ap (λ n. n + bytes_of (lens_of entries)) (bytes-joined (ids_of entries) (runs_of entries))))

pub dir-most : (entries : List DirEntry) → length (dir_text entries) ≤ 10 + 40 * length entries
dir-most entries =
    omega (
      arith,
      dir-bytes entries,
      encoding-most (length entries),
      bytes-most (ids_of entries),
      bytes-most (runs_of entries),
      bytes-most (lens_of entries),
      bytes-most (codes_of entries),
      length-column step_behind None entries,
      length-map entries (λ (e : DirEntry). e.run),
      length-map entries (λ (e : DirEntry). e.len),
      length-column code_behind None entries,
    )

pub dir-least : (entries : List DirEntry) → 1 + 4 * length entries ≤ length (dir_text entries)
dir-least entries =
    omega (
      arith,
      dir-bytes entries,
      encoding-some (length entries),
      bytes-least (ids_of entries),
      bytes-least (runs_of entries),
      bytes-least (lens_of entries),
      bytes-least (codes_of entries),
      length-column step_behind None entries,
      length-map entries (λ (e : DirEntry). e.run),
      length-map entries (λ (e : DirEntry). e.len),
      length-column code_behind None entries,
    )

zero-byte : length (encoding 0) ≡ 1
unfolding encoding
zero-byte = refl

pub length-leaf_entries : (at : ℕ) (leaves : List (List DirEntry)) → length (leaf_entries at leaves) ≡ length leaves
length-leaf_entries at [] = refl
length-leaf_entries at (leaf ∷ leaves) = ap suc (length-leaf_entries (at + length (dir_text leaf)) leaves)

runs-zero : (at : ℕ) (leaves : List (List DirEntry)) → bytes_of (runs_of (leaf_entries at leaves)) ≡ length leaves
runs-zero at [] = refl
runs-zero at (leaf ∷ leaves) = omega (arith, length-append (encoding 0) (flat_map encoding (runs_of (leaf_entries (at + length (dir_text leaf)) leaves))), zero-byte, runs-zero (at + length (dir_text leaf)) leaves)

-- the entries of leaves have runs of one byte
pub leaf_entries-most : (at : ℕ) (leaves : List (List DirEntry)) → length (dir_text (leaf_entries at leaves)) ≤ 10 + 31 * length leaves
leaf_entries-most at leaves =
    let entries : List DirEntry = leaf_entries at leaves in
    omega (
      arith,
      dir-bytes entries,
      encoding-most (length entries),
      bytes-most (ids_of entries),
      runs-zero at leaves,
      bytes-most (lens_of entries),
      bytes-most (codes_of entries),
      length-column step_behind None entries,
      length-map entries (λ (e : DirEntry). e.len),
      length-column code_behind None entries,
      length-leaf_entries at leaves,
    )
