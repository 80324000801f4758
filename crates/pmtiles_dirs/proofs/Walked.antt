-- Directories that were written are walked again, and their entries are found.
use Rattle.std.proofs.Common.{◌≡◌, ℕ, suc, ◌+◌, ◌^◌, ◌<◌, ◌≤◌, Bool, if◌then◌else◌, Some, Result, Ok, Err, List, [], ◌∷◌, ◌++◌, length, slice_range, refl, ap, sym, ◌∙◌, arith, append_assoc}
use Rattle.std.specs.Prelude.{flat_map}
use Rattle.std.proofs.lemmas.Bool.{ne_eqb, le-ltb}
use Rattle.std.proofs.lemmas.List.{append-nil, length-append}
use Rattle.pmtiles_dirs.specs.declared.entry.DirEntry.{DirEntry}
use Rattle.pmtiles_dirs.specs.declared.fault.ArcFault.{ArcFault}
use Rattle.pmtiles_dirs.specs.declared.fault.ArcWhy.TheVariants as reasons
use Rattle.pmtiles_dirs.specs.declared.header.Header.{Header}
use Rattle.pmtiles_dirs.specs.Directory.{IsDirectory, dir_text, dir_of}
use Rattle.pmtiles_dirs.specs.Leaves.{first_id, leaf_entry, leaf_entries}
use Rattle.pmtiles_dirs.specs.Fault.{◌>>=◌, Walk, fault, with_entry, walk_entries, walk_found, walk_dir}
use Rattle.pmtiles_dirs.proofs.Laid.{part-of}
use Rattle.pmtiles_dirs.proofs.Reread.{directories_are_read_again}

-- entries that name tiles, whose ids are apart and whose bytes are within so many
abbrev pub AreRuns : ℕ → ℕ → List DirEntry → Type 0
AreRuns next len [] = Unit {0}
AreRuns next len (e ∷ entries) = (1 ≤ e.run) × (next ≤ e.id) × (e.offset + e.len ≤ len) × AreRuns (e.id + e.run) len entries

-- the least id behind entries
abbrev pub next_behind : ℕ → List DirEntry → ℕ
next_behind next [] = next
next_behind next (e ∷ entries) = next_behind (e.id + e.run) entries

pub runs-first : (next len : ℕ) (prefix rest : List DirEntry) → AreRuns next len (prefix ++ rest) → AreRuns next len prefix
runs-first next len [] rest are = tt
runs-first next len (e ∷ prefix) rest are = (are.0, are.1, are.2, runs-first (e.id + e.run) len prefix rest are.3)

pub runs-rest : (next len : ℕ) (prefix rest : List DirEntry) → AreRuns next len (prefix ++ rest) → AreRuns (next_behind next prefix) len rest
runs-rest next len [] rest are = are
runs-rest next len (e ∷ prefix) rest are = runs-rest (e.id + e.run) len prefix rest are.3

abbrev Leaf : Type 0
Leaf = ℕ → ℕ → Walk → Result Walk ArcFault

run-taken : (leaf : Leaf) (h : Header) (e : DirEntry) (walk : Walk) → 1 ≤ e.run → walk.next ≤ e.id → e.offset + e.len ≤ h.tiles_len → with_entry leaf h e walk ≡ Ok (record { found = walk.found ++ e ∷ []; next = e.id + e.run })
run-taken leaf h e walk some next within =
    rw (ne_eqb e.run 0 (λ same. absurd (omega (arith, same, some))), le-ltb e.id walk.next next, le-ltb h.tiles_len (e.offset + e.len) within) refl

pub runs-walked : (leaf : Leaf) (h : Header) (entries : List DirEntry) (walk : Walk) → AreRuns walk.next h.tiles_len entries
    → walk_entries leaf h entries walk ≡ Ok (record { found = walk.found ++ entries; next = next_behind walk.next entries })
runs-walked leaf h [] walk are = ap (λ found. Ok (record { found = found; next = walk.next })) (sym (append-nil walk.found))
runs-walked leaf h (e ∷ entries) walk are =
    ap (λ r. r >>= walk_entries leaf h entries) (run-taken leaf h e walk are.0 are.1 are.2)
    ∙ (runs-walked leaf h entries (record { found = walk.found ++ e ∷ []; next = e.id + e.run }) are.3
    ∙ ap (λ found. Ok (record { found = found; next = next_behind (e.id + e.run) entries })) (append_assoc walk.found (e ∷ []) entries))

-- leaves that stand where they are named
abbrev pub Stand : List ℕ → Header → ℕ → List (List DirEntry) → Type 0
Stand archive h at [] = Unit {0}
Stand archive h at (leaf ∷ leaves) =
    (dir_of (slice_range archive (h.leaves_at + at) (h.leaves_at + at + length (dir_text leaf))) ≡ Some leaf) × (at + length (dir_text leaf) ≤ h.leaves_len) × Stand archive h (at + length (dir_text leaf)) leaves

-- one leaf is walked
leaf-walked : (archive : List ℕ) (h : Header) (levels at : ℕ) (leaf : List DirEntry) (walk : Walk) → dir_of (slice_range archive (h.leaves_at + at) (h.leaves_at + at + length (dir_text leaf))) ≡ Some leaf
    → at + length (dir_text leaf) ≤ h.leaves_len → AreRuns walk.next h.tiles_len leaf
    → with_entry (walk_dir archive h (suc levels)) h (leaf_entry at leaf) walk ≡ Ok (record { found = walk.found ++ leaf; next = next_behind walk.next leaf })
leaf-walked archive h levels at leaf walk read within are =
    ap (λ (b : Bool). if b then Err (fault (first_id leaf) reasons.Section) else walk_dir archive h (suc levels) (h.leaves_at + at) (length (dir_text leaf)) walk) (le-ltb h.leaves_len (at + length (dir_text leaf)) within)
    ∙ (ap (λ found. walk_found (walk_dir archive h levels) h (h.leaves_at + at) found walk) read ∙ runs-walked (walk_dir archive h levels) h leaf walk are)

-- the entries of all leaves
abbrev pub all_entries : List (List DirEntry) → List DirEntry
all_entries [] = []
all_entries (leaf ∷ leaves) = leaf ++ all_entries leaves

next-joined : (next : ℕ) (prefix rest : List DirEntry) → next_behind (next_behind next prefix) rest ≡ next_behind next (prefix ++ rest)
next-joined next [] rest = refl
next-joined next (e ∷ prefix) rest = next-joined (e.id + e.run) prefix rest

found_joined : (found prefix rest : List DirEntry) (next : ℕ)
    → ◌≡◌ {A = Result Walk ArcFault} (Ok (record { found = (found ++ prefix) ++ rest; next = next_behind (next_behind next prefix) rest })) (Ok (record { found = found ++ (prefix ++ rest); next = next_behind next (prefix ++ rest) }))
found_joined found prefix rest next = rw (append_assoc found prefix rest, next-joined next prefix rest) refl

pub leaves-walked : (archive : List ℕ) (h : Header) (levels at : ℕ) (leaves : List (List DirEntry)) (walk : Walk) → Stand archive h at leaves → AreRuns walk.next h.tiles_len (all_entries leaves)
    → walk_entries (walk_dir archive h (suc levels)) h (leaf_entries at leaves) walk ≡ Ok (record { found = walk.found ++ all_entries leaves; next = next_behind walk.next (all_entries leaves) })
leaves-walked archive h levels at [] walk stand are = ap (λ found. Ok (record { found = found; next = walk.next })) (sym (append-nil walk.found))
leaves-walked archive h levels at (leaf ∷ leaves) walk stand are =
    let one = leaf-walked archive h levels at leaf walk stand.0 stand.1 (runs-first walk.next h.tiles_len leaf (all_entries leaves) are) in
    let later = leaves-walked archive h levels (at + length (dir_text leaf)) leaves (record { found = walk.found ++ leaf; next = next_behind walk.next leaf }) stand.2 (runs-rest walk.next h.tiles_len leaf (all_entries leaves) are) in
    ap (λ r. r >>= walk_entries (walk_dir archive h (suc levels)) h (leaf_entries (at + length (dir_text leaf)) leaves)) one ∙ (later ∙ found_joined walk.found leaf (all_entries leaves) walk.next)

-- leaves that can be written
abbrev pub AllDirectories : List (List DirEntry) → Type 0
AllDirectories [] = Unit {0}
AllDirectories (leaf ∷ leaves) = IsDirectory leaf × (length leaf < 2 ^ 64) × AllDirectories leaves

pub leaves-stand : (prefix before behind archive : List ℕ) (h : Header) (leaves : List (List DirEntry)) → AllDirectories leaves → h.leaves_at ≡ length prefix → length (before ++ flat_map dir_text leaves) ≤ h.leaves_len
    → archive ≡ prefix ++ ((before ++ flat_map dir_text leaves) ++ behind) → Stand archive h (length before) leaves
leaves-stand prefix before behind archive h [] are place len is = tt
leaves-stand prefix before behind archive h (leaf ∷ leaves) are place len is =
    let text : List ℕ = dir_text leaf in
    let rest : List ℕ = flat_map dir_text leaves in
    let size : length (before ++ (text ++ rest)) ≡ length before + (length text + length rest) = length-append before (text ++ rest) ∙ ap (λ n. length before + n) (length-append text rest) in
    let at : h.leaves_at + length before ≡ length (prefix ++ before) = omega (arith, place, length-append prefix before) in
    let split : archive ≡ (prefix ++ before) ++ (text ++ (rest ++ behind)) =
    is ∙ (ap (λ xs. prefix ++ xs) (append_assoc before (text ++ rest) behind ∙ ap (λ xs. before ++ xs) (append_assoc text rest behind)) ∙ sym (append_assoc prefix before (text ++ (rest ++ behind)))) in
    let part : slice_range archive (h.leaves_at + length before) (h.leaves_at + length before + length text) ≡ text = rw split (part-of (prefix ++ before) text (rest ++ behind) (h.leaves_at + length before) (length text) at refl) in
    let place_after : length (before ++ text) ≡ length before + length text = length-append before text in
    let same : (before ++ text) ++ rest ≡ before ++ (text ++ rest) = append_assoc before text rest in
    let later : Stand archive h (length (before ++ text)) leaves = leaves-stand prefix (before ++ text) behind archive h leaves are.2 place (rw same len) (rw same is) in
    (ap dir_of part ∙ directories_are_read_again leaf are.0 are.1, omega (arith, len, size), rw place_after at later)
