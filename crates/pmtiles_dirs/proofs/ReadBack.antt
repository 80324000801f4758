-- An archive that is written is read back as its tiles.
use Rattle.std.proofs.Common.{◌≡◌, ℕ, ◌+◌, ◌^◌, ◌<◌, Bool, true, false, Option, None, Some, Result, Ok, List, [], ◌∷◌, ◌++◌, length, map, slice_range, refl, ap, sym, subst, ◌∙◌, arith, append_assoc}
use Rattle.std.specs.Prelude.{flat_map}
use Rattle.std.specs.List.{concat}
use Rattle.std.proofs.lemmas.List.{length-append}
use Rattle.pmtiles_dirs.specs.declared.entry.DirEntry.{DirEntry}
use Rattle.pmtiles_dirs.specs.declared.fault.ArcFault.{ArcFault}
use Rattle.pmtiles_dirs.specs.declared.header.Header.{Header}
use Rattle.pmtiles_dirs.specs.declared.sizes.Sizes.{Sizes}
use Rattle.pmtiles_dirs.specs.Directory.{AreEntries, IsDirectory, dir_text, dir_of}
use Rattle.pmtiles_dirs.specs.Leaves.{Plan, parts, leaf_size, leaf_entries, plan_by, plan_of, is_short, HasLeastLeaves, IsPlan}
use Rattle.pmtiles_dirs.specs.Header.{header_text, header_of}
use Rattle.pmtiles_dirs.specs.Bounds.{bounds_of}
use Rattle.pmtiles_dirs.specs.Meta.{metadata_text}
use Rattle.pmtiles_dirs.specs.Contents.{Stretch, contents_of, stretches_of, entry_for, entries_of, offset_in}
use Rattle.pmtiles_dirs.specs.Archive.{header_in, map_header, sizes_of, length_of, text_of_parts, archive_text}
use Rattle.pmtiles_dirs.specs.Fault.{◌>>=◌, Walk, no_walk, walk_entries, walk_found, walk_dir, walk_root, read_header, Opened, opened_from, opened}
use Rattle.pmtiles_dirs.specs.Back.{tiles_from, tiles_in, back_of, read_back}
use Rattle.pmtiles_dirs.specs.Again.{ArchivesAreReadBack}
use Rattle.std.proofs.Math.Pow.{pow_pos}
use Rattle.pmtiles_dirs.specs.declared.bounds.MapBounds.{MapBounds}
use Rattle.pmtiles_dirs.proofs.Least.{plan-least}
use Rattle.pmtiles_dirs.proofs.Lengths.{length-leaf_entries}
use Rattle.pmtiles_dirs.proofs.Reread.{directories_are_read_again}
use Rattle.pmtiles_dirs.proofs.Stretches.{Apart, fold-apart, all_tiles, fold-tiles, Among, AllAmong, tiles-among, bytes_of, fold-among}
use Rattle.pmtiles_dirs.proofs.Laid.{part-of, part-behind, laid-at, laid-within}
use Rattle.pmtiles_dirs.proofs.Walked.{AreRuns, next_behind, runs-walked, all_entries, leaves-walked, leaves-stand}
use Rattle.pmtiles_dirs.proofs.Split.{AllShort, parts-all, parts-few, parts-directories, named-are, leaves-short}
use Rattle.pmtiles_dirs.proofs.Sections.{HasSections, sections-read, header-length, header-again}

-- the entry before, where there is one, is below a number
abbrev IsAbove : Option DirEntry → ℕ → Type 0
IsAbove None next = Unit {0}
IsAbove (Some before) next = before.id < next

-- entries of stretches make a directory
entries-are : (contents : List (List ℕ)) (before : Option DirEntry) (next : ℕ) (stretches : List Stretch) (end : ℕ) → length (concat contents) < 2 ^ 64 → IsAbove before next
    → Apart next stretches end → AllAmong (bytes_of stretches) contents → AreEntries before (map (entry_for contents) stretches)
entries-are contents before next [] end fits above h among = tt
entries-are contents None next (s ∷ stretches) end fits above h among = (
  record { run = h.0.run; some = h.0.bytes; len = h.0.len; last = omega (arith, h.0.last, h.0.some); end = omega (arith, fits, laid-within contents s.bytes among.0) },
  tt,
  entries-are contents (Some (entry_for contents s)) (s.id + s.run) stretches end fits (omega (arith, h.0.some)) h.2 among.1,
)
entries-are contents (Some before) next (s ∷ stretches) end fits above h among = (
  record { run = h.0.run; some = h.0.bytes; len = h.0.len; last = omega (arith, h.0.last, h.0.some); end = omega (arith, fits, laid-within contents s.bytes among.0) },
  omega (arith, above, h.1),
  entries-are contents (Some (entry_for contents s)) (s.id + s.run) stretches end fits (omega (arith, h.0.some)) h.2 among.1,
)

entries-run : (contents : List (List ℕ)) (next : ℕ) (stretches : List Stretch) (end : ℕ) → Apart next stretches end → AllAmong (bytes_of stretches) contents
    → AreRuns next (length (concat contents)) (map (entry_for contents) stretches)
entries-run contents next [] end h among = tt
entries-run contents next (s ∷ stretches) end h among = (h.0.some, h.1, laid-within contents s.bytes among.0, entries-run contents (s.id + s.run) stretches end h.2 among.1)

-- the tiles of the entries are those of the stretches
tiles-found : (archive : List ℕ) (o : Opened) (contents : List (List ℕ)) (stretches : List Stretch)
    → ((bytes : List ℕ) → Among bytes contents → slice_range archive (o.tiles_at + offset_in contents bytes) (o.tiles_at + offset_in contents bytes + length bytes) ≡ bytes)
    → AllAmong (bytes_of stretches) contents → flat_map (tiles_in archive o) (map (entry_for contents) stretches) ≡ all_tiles stretches
tiles-found archive o contents [] stand among = refl
tiles-found archive o contents (s ∷ stretches) stand among =
    ap (λ bytes. tiles_from s.id s.run bytes ++ flat_map (tiles_in archive o) (map (entry_for contents) stretches)) (stand s.bytes among.0)
    ∙ ap (λ rest. tiles_from s.id s.run s.bytes ++ rest) (tiles-found archive o contents stretches stand among.1)

-- an archive of five parts
module _ (head root metadata leaves contents : List ℕ) where
  abbrev five : List ℕ
  five = head ++ (root ++ (metadata ++ (leaves ++ contents)))

  four-and-one : five ≡ (head ++ (root ++ (metadata ++ leaves))) ++ contents
  four-and-one =
      ap (λ xs. head ++ (root ++ xs)) (sym (append_assoc metadata leaves contents))
      ∙ (ap (λ xs. head ++ xs) (sym (append_assoc root (metadata ++ leaves) contents)) ∙ sym (append_assoc head (root ++ (metadata ++ leaves)) contents))

  three-and-two : five ≡ (head ++ (root ++ metadata)) ++ (leaves ++ contents)
  three-and-two = ap (λ xs. head ++ xs) (sym (append_assoc root metadata (leaves ++ contents))) ∙ sym (append_assoc head (root ++ metadata) (leaves ++ contents))

  length-four : length (head ++ (root ++ (metadata ++ leaves))) ≡ length head + length root + length metadata + length leaves
  length-four = omega (arith, length-append head (root ++ (metadata ++ leaves)), length-append root (metadata ++ leaves), length-append metadata leaves)

  length-three : length (head ++ (root ++ metadata)) ≡ length head + length root + length metadata
  length-three = omega (arith, length-append head (root ++ metadata), length-append root metadata)

  length-five : length five ≡ length head + length root + length metadata + length leaves + length contents
  length-five = ap length four-and-one ∙ omega (arith, length-append (head ++ (root ++ (metadata ++ leaves))) contents, length-four)

-- the root is read, and then its entries are walked
root-walked : (archive : List ℕ) (h : Header) (entries : List DirEntry) (r : Result Walk ArcFault) → dir_of (slice_range archive h.root_at (h.root_at + h.root_len)) ≡ Some entries
    → walk_entries (walk_dir archive h 3) h entries no_walk ≡ r → walk_root archive h ≡ r
root-walked archive h entries r read walked = ap (λ found. walk_found (walk_dir archive h 3) h h.root_at found no_walk) read ∙ walked

abbrev Finds : List ℕ → Header → List DirEntry → Type 0
Finds archive h entries = walk_root archive h ≡ Ok (record { found = entries; next = next_behind 0 entries })

found-whole : (archive : List ℕ) (h : Header) (entries : List DirEntry) → IsDirectory entries → length entries < 2 ^ 64 → slice_range archive h.root_at (h.root_at + h.root_len) ≡ dir_text entries → AreRuns 0 h.tiles_len entries → Finds archive h entries
found-whole archive h entries are few root runs =
    root-walked archive h entries (Ok (record { found = entries; next = next_behind 0 entries })) (ap dir_of root ∙ directories_are_read_again entries are few) (runs-walked (walk_dir archive h 3) h entries no_walk runs)

found-split : (archive prefix behind : List ℕ) (h : Header) (entries : List DirEntry) (size : ℕ) → 0 < size → IsDirectory entries → length entries < 2 ^ 35 → AllShort (parts size entries)
    → slice_range archive h.root_at (h.root_at + h.root_len) ≡ dir_text (leaf_entries 0 (parts size entries)) → h.leaves_at ≡ length prefix → h.leaves_len ≡ length (flat_map dir_text (parts size entries)) → h.leaves_len < 2 ^ 64
    → archive ≡ prefix ++ (flat_map dir_text (parts size entries) ++ behind) → length (leaf_entries 0 (parts size entries)) < 2 ^ 64 → AreRuns 0 h.tiles_len entries → Finds archive h entries
unfolding parts
found-split archive prefix behind h entries size some are few short root place len fits is named_few runs =
    let leaves : List (List DirEntry) = parts size entries in
    let all : all_entries leaves ≡ entries = parts-all (length entries) size entries some (omega arith) in
    let named : IsDirectory (leaf_entries 0 leaves) = named-are (length entries) size None entries 0 some are short (omega (arith, len, fits)) in
    let stand = leaves-stand prefix [] behind archive h leaves (parts-directories (length entries) size entries are (omega (arith, few))) place (omega (arith, len)) is in
    let walked = leaves-walked archive h 2 0 leaves no_walk stand (subst (AreRuns 0 h.tiles_len) (sym all) runs) in
    root-walked archive h (leaf_entries 0 leaves) (Ok (record { found = entries; next = next_behind 0 entries })) (ap dir_of root ∙ directories_are_read_again (leaf_entries 0 leaves) named named_few)
    (walked ∙ ap (λ es. Ok (record { found = es; next = next_behind 0 es })) all)

back-again : (archive : List ℕ) (h : Header) (walk : Walk) → read_header archive ≡ Ok h → walk_root archive h ≡ Ok walk → read_back archive ≡ Some (flat_map (tiles_in archive (opened_from h walk)) walk.found)
unfolding read_back opened
back-again archive h walk head walked =
    ap (back_of archive) (ap (λ r. r >>= λ one. walk_root archive one >>= λ w. Ok (opened_from one w)) head ∙ ap (λ r. r >>= λ w. Ok (opened_from h w)) walked)

-- the parts of an archive have the sizes that its header tells
record AreSizes (s : Sizes) (plan : Plan) (metadata contents : List ℕ) : Type 0 where
  root : s.root_len ≡ length plan.root
  metadata_len : s.meta_len ≡ length metadata
  leaves : s.leaves_len ≡ length plan.leaves
  tiles : s.tiles_len ≡ length contents

archive-length : (h : Header) (s : Sizes) (plan : Plan) (metadata contents : List ℕ) → AreSizes s plan metadata contents → length (five (header_text h) plan.root metadata plan.leaves contents) ≡ length_of s
archive-length h s plan metadata contents sizes =
    length-five (header_text h) plan.root metadata plan.leaves contents ∙ omega (arith, header-length h, sizes.root, sizes.metadata_len, sizes.leaves, sizes.tiles)

-- the entries are found, whether they stand in the root or in leaves
plan-found : (b : Bool) (head metadata contents : List ℕ) (plan : Plan) (h : Header) (s : Sizes) (entries : List DirEntry) → is_short (dir_text entries) ≡ b → length head ≡ 127 → HasSections h s → AreSizes s plan metadata contents → length_of s < 2 ^ 64
    → IsPlan entries plan → IsDirectory entries → length entries < 2 ^ 35 → AreRuns 0 h.tiles_len entries → Finds (five head plan.root metadata plan.leaves contents) h entries
unfolding plan_by parts
plan-found true head metadata contents plan h s entries test size sec sizes fits is are few runs =
    let root = part-of head plan.root (metadata ++ (plan.leaves ++ contents)) h.root_at h.root_len (omega (arith, sec.root_at, size)) (omega (arith, sec.root_len, sizes.root)) in
    found-whole (five head plan.root metadata plan.leaves contents) h entries are (omega (arith, few)) (root ∙ ap (λ (p : Plan). p.root) (is.whole test)) runs
plan-found false head metadata contents plan h s entries test size sec sizes fits is are few runs =
    let root = part-of head plan.root (metadata ++ (plan.leaves ++ contents)) h.root_at h.root_len (omega (arith, sec.root_at, size)) (omega (arith, sec.root_len, sizes.root)) in
    let least : HasLeastLeaves entries plan = is.split test in
    let leaf : ℕ = leaf_size least.k in
    let some : 0 < leaf = omega (arith, pow_pos least.k) in
    let root_is : plan.root ≡ dir_text (leaf_entries 0 (parts leaf entries)) = ap (λ (p : Plan). p.root) least.is in
    let leaves_are : plan.leaves ≡ flat_map dir_text (parts leaf entries) = ap (λ (p : Plan). p.leaves) least.is in
    let few_named : length (leaf_entries 0 (parts leaf entries)) < 2 ^ 64 = omega (arith, few, length-leaf_entries 0 (parts leaf entries), parts-few (length entries) leaf entries) in
    let whole : five head plan.root metadata plan.leaves contents ≡ (head ++ (plan.root ++ metadata)) ++ (flat_map dir_text (parts leaf entries) ++ contents) =
    three-and-two head plan.root metadata plan.leaves contents ∙ ap (λ xs. (head ++ (plan.root ++ metadata)) ++ (xs ++ contents)) leaves_are in
    found-split (five head plan.root metadata plan.leaves contents) (head ++ (plan.root ++ metadata)) contents h entries leaf some are few (leaves-short entries plan least few) (root ∙ root_is)
    (omega (arith, sec.leaves_at, sizes.root, sizes.metadata_len, size, length-three head plan.root metadata plan.leaves contents)) (omega (arith, sec.leaves_len, sizes.leaves, ap length leaves_are)) (omega (arith, sec.leaves_len, fits)) whole few_named runs

parts-again : (b : MapBounds) (min max : ℕ) (s : Sizes) (contents : List (List ℕ)) (stretches : List Stretch) (end : ℕ) (plan : Plan) (metadata : List ℕ) → Apart 0 stretches end → AllAmong (bytes_of stretches) contents
    → IsPlan (map (entry_for contents) stretches) plan → AreSizes s plan metadata (concat contents) → length (map (entry_for contents) stretches) < 2 ^ 35 → length_of s < 2 ^ 64
    → read_back (five (header_text (header_in b min max s)) plan.root metadata plan.leaves (concat contents)) ≡ Some (all_tiles stretches)
parts-again b min max s contents stretches end plan metadata apart among is sizes few fits =
    let head : List ℕ = header_text (header_in b min max s) in
    let h : Header = header_of head in
    let entries : List DirEntry = map (entry_for contents) stretches in
    let archive : List ℕ = five head plan.root metadata plan.leaves (concat contents) in
    let size : length archive ≡ length_of s = archive-length (header_in b min max s) s plan metadata (concat contents) sizes in
    let sec : HasSections h s = sections-read b min max s fits in
    let read : read_header archive ≡ Ok h = header-again b min max s (plan.root ++ (metadata ++ (plan.leaves ++ concat contents))) fits size in
    let are : IsDirectory entries = entries-are contents None 0 stretches end (omega (arith, fits, sizes.tiles)) tt apart among in
    let tiles_len : length (concat contents) ≡ h.tiles_len = sym (sec.tiles_len ∙ sizes.tiles) in
    let runs : AreRuns 0 h.tiles_len entries = subst (λ n. AreRuns 0 n entries) tiles_len (entries-run contents 0 stretches end apart among) in
    let walk : Walk = record { found = entries; next = next_behind 0 entries } in
    let found : walk_root archive h ≡ Ok walk = plan-found (is_short (dir_text entries)) head metadata (concat contents) plan h s entries refl (header-length (header_in b min max s)) sec sizes fits is are few runs in
    let place : h.tiles_at ≡ length (head ++ (plan.root ++ (metadata ++ plan.leaves))) =
    omega (arith, sec.tiles_at, sizes.root, sizes.metadata_len, sizes.leaves, header-length (header_in b min max s), length-four head plan.root metadata plan.leaves (concat contents)) in
    let stand : (bytes : List ℕ) → Among bytes contents → slice_range archive (h.tiles_at + offset_in contents bytes) (h.tiles_at + offset_in contents bytes + length bytes) ≡ bytes =
    λ bytes one. ap (λ xs. slice_range xs (h.tiles_at + offset_in contents bytes) (h.tiles_at + offset_in contents bytes + length bytes)) (four-and-one head plan.root metadata plan.leaves (concat contents))
    ∙ (part-behind (head ++ (plan.root ++ (metadata ++ plan.leaves))) (concat contents) h.tiles_at (offset_in contents bytes) (length bytes) place ∙ laid-at contents bytes one) in
    back-again archive h walk read found ∙ ap Some (tiles-found archive (opened_from h walk) contents stretches stand among)

pub archives_are_read_back : ArchivesAreReadBack
unfolding archive_text text_of_parts entries_of stretches_of
archives_are_read_back meta tiles are few small =
    let contents : List (List ℕ) = contents_of tiles in
    let stretches : List Stretch = stretches_of tiles in
    let entries : List DirEntry = entries_of tiles in
    let apart = fold-apart tiles [] 0 (omega arith) are in
    let among : AllAmong (bytes_of stretches) contents = fold-among contents tiles [] tt (tiles-among tiles) in
    let sizes : AreSizes (sizes_of meta tiles) (plan_of entries) (metadata_text meta.name meta.layers) (concat contents) = record { root = refl; metadata_len = refl; leaves = refl; tiles = refl } in
    let fits : length_of (sizes_of meta tiles) < 2 ^ 64 = omega (arith, small, archive-length (map_header meta (sizes_of meta tiles)) (sizes_of meta tiles) (plan_of entries) (metadata_text meta.name meta.layers) (concat contents) sizes) in
    parts-again (bounds_of meta.bounds) meta.min meta.max (sizes_of meta tiles) contents stretches apart.0 (plan_of entries) (metadata_text meta.name meta.layers) apart.1 among (plan-least entries (omega (arith, few))) sizes few fits
    ∙ ap Some (fold-tiles tiles [])
