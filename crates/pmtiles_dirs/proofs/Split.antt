-- Entries that are split into leaves: each leaf is a directory, and so are the entries that name them.
use Rattle.std.proofs.Common.{◌≡◌, ℕ, zero, suc, ◌+◌, ◌*◌, ◌^◌, ◌<◌, ◌≤◌, Bool, true, false, nat_lt, Option, None, Some, List, [], ◌∷◌, ◌++◌, length, take, drop, refl, ap, ◌∙◌, arith}
use Rattle.std.specs.Prelude.{flat_map}
use Rattle.std.proofs.Math.Nat.{suc-mul}
use Rattle.std.proofs.Math.Pow.{pow_mono}
use Rattle.std.proofs.lemmas.Bool.{ltb-true, ltb-false, leb-false}
use Rattle.std.proofs.lemmas.List.{drop_all, length-take, length-drop, length-append, take-append-drop}
use Rattle.pmtiles_dirs.specs.declared.entry.DirEntry.{DirEntry}
use Rattle.pmtiles_dirs.specs.Directory.{AreEntries, IsDirectory, dir_text}
use Rattle.pmtiles_dirs.specs.Leaves.{Plan, parts_within, parts, leaf_entry, leaf_entries, leaf_size, plan_by, is_short, HasLeastLeaves}
use Rattle.pmtiles_dirs.proofs.Lengths.{dir-most, leaf_entries-most}
use Rattle.pmtiles_dirs.proofs.Parts.{dir_text-some, behind-none, prefix-are, behind-part, named-behind}
use Rattle.pmtiles_dirs.proofs.Walked.{all_entries, AllDirectories}

pub parts-all : (most size : ℕ) (entries : List DirEntry) → 0 < size → length entries ≤ most → all_entries (parts_within most size entries) ≡ entries
parts-all zero size [] some h = refl
parts-all zero size (e ∷ entries) some h = absurd (omega (arith, h))
parts-all (suc most) size [] some h = refl
parts-all (suc most) size (e ∷ entries) some h =
    ap (λ rest. take size (e ∷ entries) ++ rest) (parts-all most size (drop size (e ∷ entries)) some (omega (arith, h, some, length-drop size (e ∷ entries)))) ∙ take-append-drop size (e ∷ entries)

pub parts-few : (most size : ℕ) (entries : List DirEntry) → length (parts_within most size entries) ≤ most
parts-few zero size entries = omega arith
parts-few (suc most) size [] = omega arith
parts-few (suc most) size (e ∷ entries) = omega (arith, parts-few most size (drop size (e ∷ entries)))

drop-are : (n : ℕ) (before : Option DirEntry) (entries : List DirEntry) → AreEntries before entries → AreEntries None (drop n entries)
drop-are zero before entries are = behind-none before entries are
drop-are (suc n) before [] are = tt
drop-are (suc n) before (e ∷ entries) are = drop-are n (Some e) entries are.2

pub parts-directories : (most size : ℕ) (entries : List DirEntry) → IsDirectory entries → length entries < 2 ^ 64 → AllDirectories (parts_within most size entries)
parts-directories zero size entries are few = tt
parts-directories (suc most) size [] are few = tt
parts-directories (suc most) size (e ∷ entries) are few =
    (prefix-are size None (e ∷ entries) are, omega (arith, few, length-take size (e ∷ entries)), parts-directories most size (drop size (e ∷ entries)) (drop-are size None (e ∷ entries) are) (omega (arith, few, length-drop size (e ∷ entries))))

-- leaves that an entry has room for
abbrev pub AllShort : List (List DirEntry) → Type 0
AllShort [] = Unit {0}
AllShort (leaf ∷ leaves) = (length (dir_text leaf) < 2 ^ 32) × AllShort leaves

parts-short : (most size : ℕ) (entries : List DirEntry) → 10 + 40 * size < 2 ^ 32 → AllShort (parts_within most size entries)
parts-short zero size entries h = tt
parts-short (suc most) size [] h = tt
parts-short (suc most) size (e ∷ entries) h = (omega (arith, h, dir-most (take size (e ∷ entries)), length-take size (e ∷ entries)), parts-short most size (drop size (e ∷ entries)) h)

pub named-are : (most size : ℕ) (before : Option DirEntry) (entries : List DirEntry) (at : ℕ) → 0 < size → AreEntries before entries → AllShort (parts_within most size entries)
    → at + length (flat_map dir_text (parts_within most size entries)) < 2 ^ 64 → AreEntries before (leaf_entries at (parts_within most size entries))
named-are zero size before entries at some are short fits = tt
named-are (suc most) size before [] at some are short fits = tt
named-are (suc most) zero before (e ∷ entries) at some are short fits = absurd (omega (arith, some))
named-are (suc most) (suc size) before (e ∷ entries) at some are short fits =
    let leaf : List DirEntry = e ∷ take size entries in
    let named : DirEntry = leaf_entry at leaf in
    let rest : List (List DirEntry) = parts_within most (suc size) (drop size entries) in
    let split : length (dir_text leaf ++ flat_map dir_text rest) ≡ length (dir_text leaf) + length (flat_map dir_text rest) = length-append (dir_text leaf) (flat_map dir_text rest) in (
      record { run = omega arith; some = omega (arith, dir_text-some leaf); len = short.0; last = omega (arith, are.0.last); end = omega (arith, fits, split) },
      named-behind (suc size) before named (e ∷ entries) some (omega arith) refl are,
      named-are most (suc size) (Some named) (drop size entries) (at + length (dir_text leaf)) some (behind-part (suc size) before named (e ∷ entries) some (omega arith) refl are) short.1 (omega (arith, fits, split)),
    )

parts-none : (most size : ℕ) → parts_within most size [] ≡ []
parts-none zero size = refl
parts-none (suc most) size = refl

one-part : (most size : ℕ) (entries : List DirEntry) (b : Bool) → nat_lt (length entries) size ≡ b → length (parts_within most size (drop size entries)) * size ≤ length (drop size entries) + size
    → suc (length (parts_within most size (drop size entries))) * size ≤ length entries + size
one-part most size entries true t h =
    let none : drop size entries ≡ [] = drop_all size entries (omega (arith, ltb-true (length entries) size t)) in
    let nothing : length (parts_within most size (drop size entries)) ≡ 0 = ap (λ es. length (parts_within most size es)) none ∙ ap length (parts-none most size) in
    rw nothing (omega arith)
one-part most size entries false t h =
    rw (suc-mul (length (parts_within most size (drop size entries))) size) (omega (arith, h, length-drop size entries, ltb-false (length entries) size t))

-- all parts but one are full
parts-count : (most size : ℕ) (entries : List DirEntry) → 0 < size → length (parts_within most size entries) * size ≤ length entries + size
parts-count zero size entries some = omega arith
parts-count (suc most) size [] some = omega arith
parts-count (suc most) size (e ∷ entries) some = one-part most size (e ∷ entries) (nat_lt (length (e ∷ entries)) size) refl (parts-count most size (drop size (e ∷ entries)) some)

-- a root of leaves of 67,108,864 entries is short, where there are fewer than 2 ^ 35
long-many : (entries : List DirEntry) → length entries < 2 ^ 35 → 16257 < length (plan_by (leaf_size 14) entries).root → ⊥
unfolding plan_by parts
long-many entries few long =
    let leaves : List (List DirEntry) = parts_within (length entries) 67108864 entries in
    let many : 525 ≤ length leaves = omega (arith, long, leaf_entries-most 0 leaves) in
    let full : length leaves * 67108864 ≤ length entries + 67108864 = parts-count (length entries) 67108864 entries (omega arith) in
    absurd (omega (arith, few, full, many))

few-doublings : (entries : List DirEntry) (k : ℕ) (b : Bool) → nat_lt 14 k ≡ b → length entries < 2 ^ 35 → ((j : ℕ) → j < k → is_short (plan_by (leaf_size j) entries).root ≡ false) → k ≤ 14
few-doublings entries k true t few long = absurd (long-many entries few (leb-false _ _ (long 14 (ltb-true 14 k t))))
few-doublings entries k false t few long = ltb-false 14 k t

-- so each of the least leaves has fewer than 2 ^ 32 bytes
pub leaves-short : (entries : List DirEntry) (plan : Plan) (least : HasLeastLeaves entries plan) → length entries < 2 ^ 35 → AllShort (parts (leaf_size least.k) entries)
unfolding parts
leaves-short entries plan least few =
    let some : least.k ≤ 14 = few-doublings entries least.k (nat_lt 14 least.k) refl few least.least in
    let size : 2 ^ least.k ≤ 2 ^ 14 = pow_mono some in
    parts-short (length entries) (leaf_size least.k) entries (omega (arith, size))
