-- The bytes of each entry of an open archive lie within the archive.
use Rattle.std.proofs.Common.{◌≡◌, ℕ, zero, suc, ◌+◌, ◌^◌, ◌<◌, ◌≤◌, ◌==◌, Bool, true, false, if◌then◌else◌, nat_lt, nat_le, Option, None, Some, Result, Ok, Err, List, [], ◌∷◌, ◌++◌, length, get_or, take, slice_range, refl, subst, arith}
use Rattle.std.specs.Prelude.{IfOk, IfSome, Contains}
use Rattle.std.specs.Str.{bytes_eq}
use Rattle.std.proofs.lemmas.Bool.{ltb-false, leb-true}
use Rattle.pmtiles_dirs.specs.declared.entry.DirEntry.{DirEntry}
use Rattle.pmtiles_dirs.specs.declared.fault.ArcFault.{ArcFault}
use Rattle.pmtiles_dirs.specs.declared.fault.ArcWhy.TheVariants as reasons
use Rattle.pmtiles_dirs.specs.declared.header.Header.{Header}
use Rattle.pmtiles_dirs.specs.Header.{header_len, header_of, byte_at, magic}
use Rattle.pmtiles_dirs.specs.Directory.{dir_of}
use Rattle.pmtiles_dirs.specs.Fault.{Walk, Opened, ◌>>=◌, ensured, section_within, sections_within, checked_header, read_header, with_tiles, with_leaf, with_entry, walk_entries, walk_found, walk_dir, walk_root, most_levels, no_walk, opened}
use Rattle.pmtiles_read.specs.Tiles.{IsSound, covers, covering_entry}
use Rattle.pmtiles_read.proofs.Halving.{found-holds, tiles-end}

either : {A : Type 0} (P : A → Type 0) (b : Bool) (x y : Result A ArcFault) → (b ≡ true → IfOk x P) → (b ≡ false → IfOk y P) → IfOk (if b then x else y) P
either P true x y h k = h refl
either P false x y h k = k refl

next : {A B : Type 0} (P : A → Type 0) (Q : B → Type 0) (r : Result A ArcFault) (f : A → Result B ArcFault) → IfOk r P → ((x : A) → P x → IfOk (f x) Q) → IfOk (r >>= f) Q
next P Q (Ok x) f h k = k x h
next P Q (Err e) f h k = tt

-- whatever was found before
after : {A B : Type 0} (Q : B → Type 0) (r : Result A ArcFault) (f : A → Result B ArcFault) → ((x : A) → IfOk (f x) Q) → IfOk (r >>= f) Q
after Q (Ok x) f k = k x
after Q (Err e) f k = tt

-- entries whose bytes end within a section of so many bytes
abbrev AreIn : ℕ → List DirEntry → Type 0
AreIn n entries = (k : ℕ) (d : DirEntry) → k < length entries → (get_or entries k d).offset + (get_or entries k d).len ≤ n

in-push : (n : ℕ) (entries : List DirEntry) (e : DirEntry) → AreIn n entries → e.offset + e.len ≤ n → AreIn n (entries ++ e ∷ [])
in-push n [] e h end zero d l = end
in-push n [] e h end (suc k) d l = absurd (omega (arith, l))
in-push n (x ∷ entries) e h end zero d l = h 0 d (omega arith)
in-push n (x ∷ entries) e h end (suc k) d l = in-push n entries e (λ j f m. h (suc j) f (omega (arith, m))) end k d (omega (arith, l))

module _ (h : Header) where
  abbrev Kept : Walk → Type 0
  Kept walk = AreIn h.tiles_len walk.found

  abbrev Leaf : (ℕ → ℕ → Walk → Result Walk ArcFault) → Type 0
  Leaf leaf = (at len : ℕ) (walk : Walk) → Kept walk → IfOk (leaf at len walk) Kept

  tiles-kept : (e : DirEntry) (walk : Walk) → Kept walk → IfOk (with_tiles h e walk) Kept
  tiles-kept e walk k =
      either Kept (nat_lt e.id walk.next) _ _ (λ _. tt)
      (λ _. either Kept (nat_lt h.tiles_len (e.offset + e.len)) _ _ (λ _. tt) (λ t. in-push h.tiles_len walk.found e k (ltb-false h.tiles_len (e.offset + e.len) t)))

  leaf-kept : (leaf : ℕ → ℕ → Walk → Result Walk ArcFault) → Leaf leaf → (e : DirEntry) (walk : Walk) → Kept walk → IfOk (with_leaf leaf h e walk) Kept
  leaf-kept leaf keeps e walk k = either Kept (nat_lt h.leaves_len (e.offset + e.len)) _ _ (λ _. tt) (λ _. keeps (h.leaves_at + e.offset) e.len walk k)

  entry-kept : (leaf : ℕ → ℕ → Walk → Result Walk ArcFault) → Leaf leaf → (e : DirEntry) (walk : Walk) → Kept walk → IfOk (with_entry leaf h e walk) Kept
  entry-kept leaf keeps e walk k = either Kept (e.run == 0) _ _ (λ _. leaf-kept leaf keeps e walk k) (λ _. tiles-kept e walk k)

  entries-kept : (leaf : ℕ → ℕ → Walk → Result Walk ArcFault) → Leaf leaf → (entries : List DirEntry) (walk : Walk) → Kept walk → IfOk (walk_entries leaf h entries walk) Kept
  entries-kept leaf keeps [] walk k = k
  entries-kept leaf keeps (e ∷ entries) walk k = next Kept Kept (with_entry leaf h e walk) (walk_entries leaf h entries) (entry-kept leaf keeps e walk k) (λ one o. entries-kept leaf keeps entries one o)

  found-kept : (leaf : ℕ → ℕ → Walk → Result Walk ArcFault) → Leaf leaf → (at : ℕ) (dir : Option (List DirEntry)) (walk : Walk) → Kept walk → IfOk (walk_found leaf h at dir walk) Kept
  found-kept leaf keeps at None walk k = tt
  found-kept leaf keeps at (Some entries) walk k = entries-kept leaf keeps entries walk k

  dir-kept : (archive : List ℕ) (levels : ℕ) → Leaf (walk_dir archive h levels)
  dir-kept archive zero at len walk k = tt
  dir-kept archive (suc levels) at len walk k = found-kept (walk_dir archive h levels) (dir-kept archive levels) at (dir_of (slice_range archive at (at + len))) walk k

-- the tile section of a header ends within the archive
abbrev EndsIn : ℕ → Header → Type 0
EndsIn size h = h.tiles_at + h.tiles_len ≤ size

sections-end : (size : ℕ) (h : Header) → IfOk (sections_within size h) (λ _. EndsIn size h)
unfolding sections_within
sections-end size h =
    let Q : ℕ → Type 0 = λ _. EndsIn size h in
    after Q (section_within size 8 h.root_at h.root_len) _
    (λ _. after Q (section_within size 24 h.meta_at h.meta_len) _
    (λ _. after Q (section_within size 40 h.leaves_at h.leaves_len) _
    (λ _. either Q (nat_le (h.tiles_at + h.tiles_len) size) _ _ (λ t. leb-true (h.tiles_at + h.tiles_len) size t) (λ _. tt))))

checked-ends : (bytes : List ℕ) (size : ℕ) → IfOk (checked_header bytes size) (EndsIn size)
unfolding checked_header
checked-ends bytes size =
    after (EndsIn size) (ensured (bytes_eq (take 7 bytes) magic) 0 reasons.Magic) _
    (λ _. after (EndsIn size) (ensured (byte_at bytes 7 == 3) 7 reasons.Version) _
    (λ _. after (EndsIn size) (ensured (byte_at bytes 97 == 1) 97 reasons.Compressed) _
    (λ _. after (EndsIn size) (ensured (byte_at bytes 98 == 1) 98 reasons.Compressed) _
    (λ _. after (EndsIn size) (ensured (byte_at bytes 99 == 1) 99 reasons.TileType) _
    (λ _. next (λ _. EndsIn size (header_of bytes)) (EndsIn size) (sections_within size (header_of bytes)) _ (sections-end size (header_of bytes)) (λ _ e. e))))))

header-ends : (archive : List ℕ) → IfOk (read_header archive) (EndsIn (length archive))
header-ends archive = either (EndsIn (length archive)) (nat_lt (length archive) header_len) _ _ (λ _. tt) (λ _. checked-ends (take header_len archive) (length archive))

-- the bytes of each entry lie within the archive
abbrev LieWithin : List ℕ → Opened → Type 0
LieWithin archive o = (k : ℕ) (d : DirEntry) → k < length o.entries → o.tiles_at + (get_or o.entries k d).offset + (get_or o.entries k d).len ≤ length archive

opened-within : (archive : List ℕ) → IfOk (opened archive) (LieWithin archive)
unfolding opened
opened-within archive =
    next (EndsIn (length archive)) (LieWithin archive) (read_header archive) _ (header-ends archive)
    (λ h ends. next (Kept h) (LieWithin archive) (walk_root archive h) _ (dir-kept h archive most_levels h.root_at h.root_len no_walk (λ k d l. absurd (omega (arith, l))))
    (λ walk kept k d l. let end = kept k d l in omega (arith, end, ends)))

pub lies-within : (archive : List ℕ) (o : Opened) (k : ℕ) (d : DirEntry) → opened archive ≡ Ok o → k < length o.entries → o.tiles_at + (get_or o.entries k d).offset + (get_or o.entries k d).len ≤ length archive
lies-within archive o k d is l = (subst (λ r. IfOk r (LieWithin archive)) is (opened-within archive)) k d l

pub tile-within : (archive : List ℕ) (o : Opened) (id : ℕ) (e : DirEntry) → opened archive ≡ Ok o → Some e ≡ covering_entry o.entries id → o.tiles_at + e.offset + e.len ≤ length archive
tile-within archive o id e is found = found-holds (λ (x : DirEntry). o.tiles_at + x.offset + x.len ≤ length archive) (covers id) o.entries e (λ k l. lies-within archive o k e is l) found

-- the bytes of an entry that the archive has
pub entry-within : (archive : List ℕ) (o : Opened) (e : DirEntry) → opened archive ≡ Ok o → Contains o.entries e → o.tiles_at + e.offset + e.len ≤ length archive
entry-within archive o e is (k, l, same) = subst (λ (x : DirEntry). o.tiles_at + x.offset + x.len ≤ length archive) same (lies-within archive o k e is l)

pub entry-end : (o : Opened) (e : DirEntry) → IsSound o → Contains o.entries e → o.tiles_at + e.offset + e.len < 2 ^ 64
entry-end o e sound (k, l, same) = subst (λ (x : DirEntry). o.tiles_at + x.offset + x.len < 2 ^ 64) same (tiles-end o.tiles_at 0 o.entries k e sound l)

pub if-some : {A : Type 0} (P Q : A → Type 0) (x : Option A) → ((a : A) → P a → Q a) → IfSome x P → IfSome x Q
if-some P Q None f h = tt
if-some P Q (Some a) f h = f a h
