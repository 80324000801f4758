-- Rows of a directory are read one by one, and what is read may stand in a directory.
use Rattle.std.proofs.Common.{◌≡◌, ℕ, ◌+◌, ◌-◌, ◌^◌, ◌<◌, ◌≤◌, ◌&&◌, Bool, true, false, if◌then◌else◌, nat_lt, Option, None, Some, option_map, IfSome, List, [], ◌∷◌, ◌++◌, length, take, drop, get_or, refl, ap, sym, subst, ◌∙◌, arith, append_assoc}
use Rattle.std.proofs.lemmas.Bool.{ltb-true}
use Rattle.std.proofs.lemmas.List.{drop_more, drop_all, get_or-take, get_or-drop, length-take, length-drop, append-nil}
use Rattle.std.proofs.lemmas.Slice.Zip.{get_or-zip, length-zip}
use Rattle.std.specs.List.{zip}
use Rattle.pmtiles_dirs.specs.declared.entry.DirEntry.{DirEntry}
use Rattle.pmtiles_dirs.specs.Directory.{IsEntry, IsBehind, AreEntries, Row, rows, read_entry, entry_of, follows, is_entry, with_entries, entries_behind}

-- entries that were read, before those that are read behind them
abbrev pub with_prefix : List DirEntry → Option (List DirEntry) → Option (List DirEntry)
with_prefix prefix None = None
with_prefix prefix (Some entries) = Some (prefix ++ entries)

with_prefix-one : (prefix : List DirEntry) (e : DirEntry) (rest : Option (List DirEntry)) → with_prefix prefix (option_map (λ entries. e ∷ entries) rest) ≡ with_prefix (prefix ++ e ∷ []) rest
with_prefix-one prefix e None = refl
with_prefix-one prefix e (Some entries) = ap Some (sym (append_assoc prefix (e ∷ []) entries))

pub with_prefix-nil : (rest : Option (List DirEntry)) → with_prefix [] rest ≡ rest
with_prefix-nil None = refl
with_prefix-nil (Some entries) = refl

-- the row of an entry, by the places of its numbers
abbrev pub row_at : ℕ → List ℕ → ℕ → Row
row_at n numbers i = ((get_or numbers i 0, get_or numbers (n + i) 0), (get_or numbers (n + n + i) 0, get_or numbers (n + n + n + i) 0))

rows-length : (n : ℕ) (numbers : List ℕ) → length numbers ≡ n + n + n + n → length (rows n numbers) ≡ n
rows-length n numbers four =
    let a : length (take n numbers) ≡ n = length-take n numbers ∙ omega (arith, four) in
    let b : length (take n (drop n numbers)) ≡ n = length-take n (drop n numbers) ∙ omega (arith, four, length-drop n numbers) in
    let c : length (take n (drop (n + n) numbers)) ≡ n = length-take n (drop (n + n) numbers) ∙ omega (arith, four, length-drop (n + n) numbers) in
    let d : length (drop (n + n + n) numbers) ≡ n = length-drop (n + n + n) numbers ∙ omega (arith, four) in
    length-zip (zip (take n numbers) (take n (drop n numbers))) (zip (take n (drop (n + n) numbers)) (drop (n + n + n) numbers))
    ∙ omega (arith, a, b, c, d, length-zip (take n numbers) (take n (drop n numbers)), length-zip (take n (drop (n + n) numbers)) (drop (n + n + n) numbers))

rows-at : (n : ℕ) (numbers : List ℕ) (i : ℕ) → length numbers ≡ n + n + n + n → i < n → get_or (rows n numbers) i ((0, 0), (0, 0)) ≡ row_at n numbers i
rows-at n numbers i four h =
    let a : length (take n numbers) ≡ n = length-take n numbers ∙ omega (arith, four) in
    let b : length (take n (drop n numbers)) ≡ n = length-take n (drop n numbers) ∙ omega (arith, four, length-drop n numbers) in
    let c : length (take n (drop (n + n) numbers)) ≡ n = length-take n (drop (n + n) numbers) ∙ omega (arith, four, length-drop (n + n) numbers) in
    let d : length (drop (n + n + n) numbers) ≡ n = length-drop (n + n + n) numbers ∙ omega (arith, four) in
    let ab = length-zip (take n numbers) (take n (drop n numbers)) in
    let cd = length-zip (take n (drop (n + n) numbers)) (drop (n + n + n) numbers) in
    let first = get_or-zip (take n numbers) (take n (drop n numbers)) i (0, 0) (omega (arith, a)) (omega (arith, b)) in
    let second = get_or-zip (take n (drop (n + n) numbers)) (drop (n + n + n) numbers) i (0, 0) (omega (arith, c)) (omega (arith, d)) in
    get_or-zip (zip (take n numbers) (take n (drop n numbers))) (zip (take n (drop (n + n) numbers)) (drop (n + n + n) numbers)) i ((0, 0), (0, 0)) (omega (arith, ab, a, b)) (omega (arith, cd, c, d))
    ∙ rw (first, second, get_or-take n numbers i 0 h, get_or-take n (drop n numbers) i 0 h, get_or-take n (drop (n + n) numbers) i 0 h, get_or-drop n numbers i 0, get_or-drop (n + n) numbers i 0, get_or-drop (n + n + n) numbers i 0) refl

-- what is left of the rows is a row, and what is left behind it
rows-step : (before : Option DirEntry) (n : ℕ) (numbers : List ℕ) (i : ℕ) → length numbers ≡ n + n + n + n → i < n
    → entries_behind before (drop i (rows n numbers)) ≡ with_entries (read_entry before (get_or numbers i 0) (get_or numbers (n + i) 0) (get_or numbers (n + n + i) 0) (get_or numbers (n + n + n + i) 0)) (λ e. entries_behind (Some e) (drop (i + 1) (rows n numbers)))
rows-step before n numbers i four h =
    ap (entries_behind before) (drop_more (rows n numbers) i ((0, 0), (0, 0)) (rw (rows-length n numbers four) h))
    ∙ ap (λ row. entries_behind before (row ∷ drop (i + 1) (rows n numbers))) (rows-at n numbers i four h)

-- an entry was read
pub row-read : (before : Option DirEntry) (n : ℕ) (numbers : List ℕ) (i : ℕ) (prefix : List DirEntry) (total : Option (List DirEntry)) (e : DirEntry) → length numbers ≡ n + n + n + n → i < n
    → Some e ≡ read_entry before (get_or numbers i 0) (get_or numbers (n + i) 0) (get_or numbers (n + n + i) 0) (get_or numbers (n + n + n + i) 0)
    → with_prefix prefix (entries_behind before (drop i (rows n numbers))) ≡ total → with_prefix (prefix ++ e ∷ []) (entries_behind (Some e) (drop (i + 1) (rows n numbers))) ≡ total
row-read before n numbers i prefix total e four h read told =
    let step = rows-step before n numbers i four h ∙ ap (λ r. with_entries r (λ e. entries_behind (Some e) (drop (i + 1) (rows n numbers)))) (sym read) in
    sym (with_prefix-one prefix e (entries_behind (Some e) (drop (i + 1) (rows n numbers)))) ∙ (ap (with_prefix prefix) (sym step) ∙ told)

-- there was none
pub row-refused : (before : Option DirEntry) (n : ℕ) (numbers : List ℕ) (i : ℕ) (prefix : List DirEntry) (total : Option (List DirEntry)) → length numbers ≡ n + n + n + n → i < n
    → None ≡ read_entry before (get_or numbers i 0) (get_or numbers (n + i) 0) (get_or numbers (n + n + i) 0) (get_or numbers (n + n + n + i) 0)
    → with_prefix prefix (entries_behind before (drop i (rows n numbers))) ≡ total → None ≡ total
row-refused before n numbers i prefix total four h read told =
    let step = rows-step before n numbers i four h ∙ ap (λ r. with_entries r (λ e. entries_behind (Some e) (drop (i + 1) (rows n numbers)))) (sym read) in
    ap (with_prefix prefix) (sym step) ∙ told

-- all rows were read
pub rows-read : (before : Option DirEntry) (n : ℕ) (numbers : List ℕ) (i : ℕ) (prefix : List DirEntry) (total : Option (List DirEntry)) → length numbers ≡ n + n + n + n → n ≤ i
    → with_prefix prefix (entries_behind before (drop i (rows n numbers))) ≡ total → Some prefix ≡ total
rows-read before n numbers i prefix total four h told =
    let done : drop i (rows n numbers) ≡ [] = drop_all i (rows n numbers) (rw (rows-length n numbers four) h) in
    ap Some (sym (append-nil prefix)) ∙ (ap (λ rest. with_prefix prefix (entries_behind before rest)) (sym done) ∙ told)

-- what is read of rows may stand in a directory
both : (a b : Bool) → (a && b) ≡ true → (a ≡ true) × (b ≡ true)
both true b h = (refl, h)
both false b h = let no : false ≡ true = h in absurd cc

is_entry-fits : (e : DirEntry) → is_entry e ≡ true → IsEntry e
is_entry-fits e h =
    let run = both (nat_lt e.run (2 ^ 32)) (nat_lt 0 e.len && (nat_lt e.len (2 ^ 32) && (nat_lt (e.id + (e.run - 1)) (2 ^ 64) && nat_lt (e.offset + e.len) (2 ^ 64)))) h in
    let some = both (nat_lt 0 e.len) (nat_lt e.len (2 ^ 32) && (nat_lt (e.id + (e.run - 1)) (2 ^ 64) && nat_lt (e.offset + e.len) (2 ^ 64))) run.1 in
    let len = both (nat_lt e.len (2 ^ 32)) (nat_lt (e.id + (e.run - 1)) (2 ^ 64) && nat_lt (e.offset + e.len) (2 ^ 64)) some.1 in
    let last = both (nat_lt (e.id + (e.run - 1)) (2 ^ 64)) (nat_lt (e.offset + e.len) (2 ^ 64)) len.1 in
    record { run = ltb-true _ _ run.0; some = ltb-true _ _ some.0; len = ltb-true _ _ len.0; last = ltb-true _ _ last.0; end = ltb-true _ _ last.1 }

follows-behind : (before : Option DirEntry) (step run len code : ℕ) → follows before step code ≡ true → IsBehind before (entry_of before step run len code)
follows-behind None step run len code h = tt
follows-behind (Some before) step run len code h = let some : 0 < step = ltb-true 0 step h in omega (arith, some)

read_entry-fits : (before : Option DirEntry) (step run len code : ℕ) → IfSome (read_entry before step run len code) (λ e. IsEntry e × IsBehind before e)
unfolding read_entry
read_entry-fits before step run len code = by_test (follows before step code && is_entry (entry_of before step run len code)) refl
  where
    by_test : (b : Bool) → (follows before step code && is_entry (entry_of before step run len code)) ≡ b → IfSome (if b then Some (entry_of before step run len code) else None) (λ e. IsEntry e × IsBehind before e)
    by_test true h = let two = both _ _ h in (is_entry-fits _ two.1, follows-behind before step run len code two.0)
    by_test false h = tt

with_entries-are : (before : Option DirEntry) (r : Option DirEntry) (rest : DirEntry → Option (List DirEntry)) → IfSome r (λ e. IsEntry e × IsBehind before e) → ((e : DirEntry) → IfSome (rest e) (AreEntries (Some e))) → IfSome (with_entries r rest) (AreEntries before)
with_entries-are before None rest h k = tt
with_entries-are before (Some e) rest h k = one (rest e) (k e)
  where
    one : (more : Option (List DirEntry)) → IfSome more (AreEntries (Some e)) → IfSome (option_map (λ entries. e ∷ entries) more) (AreEntries before)
    one None k = tt
    one (Some entries) k = (h.0, h.1, k)

pub entries_behind-are : (before : Option DirEntry) (rest : List Row) → IfSome (entries_behind before rest) (AreEntries before)
entries_behind-are before [] = tt
entries_behind-are before (row ∷ rest) = with_entries-are before (read_entry before row.0.0 row.0.1 row.1.0 row.1.1) (λ e. entries_behind (Some e) rest) (read_entry-fits before row.0.0 row.0.1 row.1.0 row.1.1) (λ e. entries_behind-are (Some e) rest)

-- what was read is a directory
pub read-is_directory : (n : ℕ) (numbers : List ℕ) (entries : List DirEntry) → Some entries ≡ entries_behind None (rows n numbers) → AreEntries None entries
read-is_directory n numbers entries e = subst (λ found. IfSome found (AreEntries None)) (sym e) (entries_behind-are None (rows n numbers))
