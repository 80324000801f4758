-- Parts of a directory's entries, and the entries that name them.
use Rattle.std.proofs.Common.{◌≡◌, ℕ, zero, suc, ◌+◌, ◌-◌, ◌^◌, ◌<◌, ◌≤◌, Option, None, Some, List, [], ◌∷◌, ◌++◌, length, take, drop, min, refl, ap, sym, ◌∙◌, arith, append_assoc}
use Rattle.std.specs.Prelude.{flat_map, slice_index_or, slice_range}
use Rattle.std.proofs.lemmas.List.{drop_all, drop_min, take_min, drop-drop, length-drop, length-append, append-nil}
use Rattle.tb_wire.specs.Varint.{encoding}
use Rattle.tb_wire.proofs.Again.{encoding-some}
use Rattle.pmtiles_dirs.specs.declared.entry.DirEntry.{DirEntry}
use Rattle.pmtiles_dirs.specs.Directory.{IsEntry, IsBehind, AreEntries, IsDirectory, dir_text, dir_numbers}
use Rattle.pmtiles_dirs.specs.Leaves.{parts_within, parts, first_id, leaf_entry, leaf_entries}

-- a directory has bytes
pub dir_text-some : (entries : List DirEntry) → 0 < length (dir_text entries)
unfolding dir_text
dir_text-some entries = omega (arith, encoding-some (length entries), length-append (encoding (length entries)) (flat_map encoding (drop 1 (dir_numbers entries))))

pub first-fits : (entries : List DirEntry) (d : DirEntry) → 0 < length entries → IsDirectory entries → (slice_index_or entries 0 d).id < 2 ^ 64
first-fits [] d h are = absurd (omega (arith, h))
first-fits (e ∷ entries) d h are = omega (arith, are.0.last)

-- entries without those before them, and without those behind them
pub behind-lower : (one other : DirEntry) (entries : List DirEntry) → one.id ≤ other.id → AreEntries (Some other) entries → AreEntries (Some one) entries
behind-lower one other [] h are = tt
behind-lower one other (e ∷ entries) h are = (are.0, omega (arith, h, are.1), are.2)

pub behind-none : (before : Option DirEntry) (entries : List DirEntry) → AreEntries before entries → AreEntries None entries
behind-none before [] are = tt
behind-none before (e ∷ entries) are = (are.0, tt, are.2)

pub prefix-are : (n : ℕ) (before : Option DirEntry) (entries : List DirEntry) → AreEntries before entries → AreEntries before (take n entries)
prefix-are zero before entries are = tt
prefix-are (suc n) before [] are = tt
prefix-are (suc n) before (e ∷ entries) are = (are.0, are.1, prefix-are n (Some e) entries are.2)

-- what stands behind a part comes behind the entry that has the id of the part's first
rest-are : (n : ℕ) (one : DirEntry) (entries : List DirEntry) → AreEntries (Some one) entries → AreEntries (Some one) (drop n entries)
rest-are zero one entries are = are
rest-are (suc n) one [] are = tt
rest-are (suc n) one (e ∷ entries) are = rest-are n one entries (behind-lower one e entries (omega (arith, are.1)) are.2)

pub behind-part : (size : ℕ) (before : Option DirEntry) (named : DirEntry) (entries : List DirEntry) → 0 < size → 0 < length entries → named.id ≡ first_id (take size entries) → AreEntries before entries → AreEntries (Some named) (drop size entries)
behind-part size before named [] some h same are = absurd (omega (arith, h))
behind-part zero before named (e ∷ entries) some h same are = absurd (omega (arith, some))
behind-part (suc size) before named (e ∷ entries) some h same are = rest-are size named entries (behind-lower named e entries (omega (arith, same)) are.2)

-- and the entry itself behind the one before the part
pub named-behind : (size : ℕ) (before : Option DirEntry) (named : DirEntry) (entries : List DirEntry) → 0 < size → 0 < length entries → named.id ≡ first_id (take size entries) → AreEntries before entries → IsBehind before named
named-behind size before named [] some h same are = absurd (omega (arith, h))
named-behind zero before named (e ∷ entries) some h same are = absurd (omega (arith, some))
named-behind (suc size) None named (e ∷ entries) some h same are = tt
named-behind (suc size) (Some before) named (e ∷ entries) some h same are = omega (arith, same, are.1)

-- where there is room for all parts, more room changes nothing
parts-enough : (t u size : ℕ) (entries : List DirEntry) → 0 < size → length entries ≤ t → length entries ≤ u → parts_within t size entries ≡ parts_within u size entries
parts-enough zero zero size entries some h k = refl
parts-enough zero (suc u) size [] some h k = refl
parts-enough zero (suc u) size (e ∷ entries) some h k = absurd (omega (arith, h))
parts-enough (suc t) zero size [] some h k = refl
parts-enough (suc t) zero size (e ∷ entries) some h k = absurd (omega (arith, k))
parts-enough (suc t) (suc u) size [] some h k = refl
parts-enough (suc t) (suc u) size (e ∷ entries) some h k =
    ap (λ rest. take size (e ∷ entries) ∷ rest) (parts-enough t u size (drop size (e ∷ entries)) some (omega (arith, h, length-drop size (e ∷ entries))) (omega (arith, k, length-drop size (e ∷ entries))))

pub parts-step : (size : ℕ) (entries : List DirEntry) → 0 < size → 0 < length entries → parts size entries ≡ take size entries ∷ parts size (drop size entries)
unfolding parts
parts-step size [] some h = absurd (omega (arith, h))
parts-step size (e ∷ entries) some h =
    ap (λ rest. take size (e ∷ entries) ∷ rest) (parts-enough (length entries) (length (drop size (e ∷ entries))) size (drop size (e ∷ entries)) some (omega (arith, length-drop size (e ∷ entries))) (omega arith))

pub parts-end : (size : ℕ) → parts size [] ≡ []
unfolding parts
parts-end size = refl

-- the entry of a leaf may stand in a directory
pub leaf-fits : (entries : List DirEntry) (d : DirEntry) (n at : ℕ) → 0 < length entries → IsDirectory entries → 0 < n → n < 2 ^ 32 → at + n < 2 ^ 64
    → IsEntry (record { id = (slice_index_or entries 0 d).id; run = 0; len = n; offset = at })
leaf-fits entries d n at h are some short end = let id : (slice_index_or entries 0 d).id < 2 ^ 64 = first-fits entries d h are in record { run = omega arith; some = some; len = short; last = omega (arith, id); end = end }

-- what stands of leaves and of the entries that name them, up to a place
pub record Parted (size : ℕ) (entries : List DirEntry) (at : ℕ) (leaves : List ℕ) (named : List DirEntry) : Type 0 where
  pub within : at ≤ length entries
  pub leaves_told : leaves ++ flat_map dir_text (parts size (drop at entries)) ≡ flat_map dir_text (parts size entries)
  pub named_told : named ++ leaf_entries (length leaves) (parts size (drop at entries)) ≡ leaf_entries 0 (parts size entries)
  pub last : Option DirEntry
  pub are : AreEntries last (drop at entries)
  pub goes_on : (rest : List DirEntry) → AreEntries last rest → IsDirectory (named ++ rest)

pub parted-none : (size : ℕ) (entries : List DirEntry) → IsDirectory entries → Parted size entries 0 [] []
parted-none size entries are = record { within = omega arith; leaves_told = refl; named_told = refl; last = None; are = are; goes_on = λ rest h. h }

-- a part of the entries from a place on
part-is : (size : ℕ) (entries : List DirEntry) (at count : ℕ) → count ≡ min size (length entries - at) → slice_range entries at (at + count) ≡ take size (drop at entries)
part-is size entries at count same =
    let n : at + count - at ≡ min size (length (drop at entries)) = omega (arith, same, length-drop at entries) in
    rw n (take_min size (drop at entries))

behind-is : (size : ℕ) (entries : List DirEntry) (at count : ℕ) → count ≡ min size (length entries - at) → drop (at + count) entries ≡ drop size (drop at entries)
behind-is size entries at count same =
    let n : count ≡ min size (length (drop at entries)) = omega (arith, same, length-drop at entries) in
    sym (drop-drop count at entries) ∙ (ap (λ k. drop k (drop at entries)) n ∙ drop_min size (drop at entries))

pub part-directory : (size : ℕ) (entries : List DirEntry) (at count : ℕ) (leaves : List ℕ) (named : List DirEntry) → count ≡ min size (length entries - at) → Parted size entries at leaves named
    → IsDirectory (slice_range entries at (at + count))
part-directory size entries at count leaves named same p = rw (part-is size entries at count same) (prefix-are size None (drop at entries) (behind-none p.last (drop at entries) p.are))

pub parted-next : (size : ℕ) (entries : List DirEntry) (at count : ℕ) (leaves : List ℕ) (named : List DirEntry) (e : DirEntry) → 0 < size → at < length entries → count ≡ min size (length entries - at)
    → e ≡ leaf_entry (length leaves) (slice_range entries at (at + count)) → IsEntry e → Parted size entries at leaves named
    → Parted size entries (at + count) (leaves ++ dir_text (slice_range entries at (at + count))) (named ++ e ∷ [])
parted-next size entries at count leaves named e some more same is fits p =
    let rest : List DirEntry = drop at entries in
    let part : slice_range entries at (at + count) ≡ take size rest = part-is size entries at count same in
    let behind : drop (at + count) entries ≡ drop size rest = behind-is size entries at count same in
    let left : 0 < length rest = omega (arith, more, length-drop at entries) in
    let step : parts size rest ≡ take size rest ∷ parts size (drop size rest) = parts-step size rest some left in
    let named_is : e ≡ leaf_entry (length leaves) (take size rest) = rw part at is in
    let id : e.id ≡ first_id (take size rest) = ap (λ (x : DirEntry). x.id) named_is in
    record {
      within = omega (arith, same, more);
      leaves_told = rw (part, behind) (append_assoc leaves (dir_text (take size rest)) (flat_map dir_text (parts size (drop size rest))) ∙ (ap (λ ps. leaves ++ flat_map dir_text ps) (sym step) ∙ p.leaves_told));
      named_told = rw (part, behind, length-append leaves (dir_text (take size rest)))
          (append_assoc named (e ∷ []) (leaf_entries (length leaves + length (dir_text (take size rest))) (parts size (drop size rest)))
          ∙ (ap (λ x. named ++ x ∷ leaf_entries (length leaves + length (dir_text (take size rest))) (parts size (drop size rest))) named_is
          ∙ (ap (λ ps. named ++ leaf_entries (length leaves) ps) (sym step) ∙ p.named_told)));
      last = Some e;
      are = rw behind (behind-part size p.last e rest some left id p.are);
      goes_on = λ more_of h. rw (append_assoc named (e ∷ []) more_of) (p.goes_on (e ∷ more_of) (fits, named-behind size p.last e rest some left id p.are, h));
    }

-- all entries stand in leaves
pub parted-all : (size : ℕ) (entries : List DirEntry) (at : ℕ) (leaves : List ℕ) (named : List DirEntry) → length entries ≤ at → Parted size entries at leaves named
    → (leaves ≡ flat_map dir_text (parts size entries)) × (named ≡ leaf_entries 0 (parts size entries)) × IsDirectory named
parted-all size entries at leaves named done p =
    let none : drop at entries ≡ [] = drop_all at entries done in
    let nothing : parts size (drop at entries) ≡ [] = ap (parts size) none ∙ parts-end size in (
      sym (append-nil leaves) ∙ (ap (λ ps. leaves ++ flat_map dir_text ps) (sym nothing) ∙ p.leaves_told),
      sym (append-nil named) ∙ (ap (λ ps. named ++ leaf_entries (length leaves) ps) (sym nothing) ∙ p.named_told),
      rw append-nil at (p.goes_on [] tt),
    )
