-- A directory that is written is read again as the same entries.
use Rattle.std.proofs.Common.{◌≡◌, ℕ, suc, ◌+◌, ◌-◌, ◌^◌, ◌<◌, ◌==◌, ◌&&◌, Bool, true, false, if◌then◌else◌, nat_eq, Option, None, Some, Ok, List, [], ◌∷◌, ◌++◌, length, take, drop, map, refl, ap, sym, subst, ◌∙◌, arith, append_assoc}
use Rattle.std.specs.Prelude.{flat_map}
use Rattle.std.specs.List.{zip}
use Rattle.std.proofs.lemmas.Bool.{lt-ltb, ne_eqb, eq-eqb, eqb-true}
use Rattle.std.proofs.lemmas.List.{append-nil, length-append, length-map, take_at, drop_at}
use Rattle.tb_wire.specs.Items.{◌>>=◌, with_rest}
use Rattle.tb_wire.specs.Varint.{encoding}
use Rattle.tb_wire.specs.Message.{packed_at}
use Rattle.tb_wire.proofs.Again.{read_between, encoding-some}
use Rattle.tb_wire.proofs.Messages.{packed_at-step, number_at-end}
use Rattle.pmtiles_dirs.specs.declared.entry.DirEntry.{DirEntry}
use Rattle.pmtiles_dirs.specs.Directory.{IsEntry, IsBehind, AreEntries, step_behind, code_behind, column, dir_numbers, dir_text, rows, entry_of, id_behind, offset_behind, follows, is_entry, read_entry, entries_behind, dir_in, dir_of}
use Rattle.pmtiles_dirs.specs.Again.{DirectoriesAreReadAgain}
use Rattle.pmtiles_dirs.proofs.Varints.{number_at-read}

-- numbers of 64 bits
abbrev AreSmall : List ℕ → Type 0
AreSmall [] = Unit {0}
AreSmall (n ∷ numbers) = (n < 2 ^ 64) × AreSmall numbers

small-append : (xs ys : List ℕ) → AreSmall xs → AreSmall ys → AreSmall (xs ++ ys)
small-append [] ys h k = k
small-append (x ∷ xs) ys h k = (h.0, small-append xs ys h.1 k)

-- numbers that are spelled one behind another are read again
spelled-again : (before numbers : List ℕ) → AreSmall numbers → packed_at (before ++ flat_map encoding numbers) (length before) ≡ Ok numbers
spelled-again before [] h =
    let whole : length (before ++ []) ≡ length before = ap length (append-nil before) in
    packed_at-step (before ++ []) (length before) (omega (arith, whole)) ∙ ap (λ r. r >>= with_rest (packed_at (before ++ []))) (number_at-end (before ++ []) (length before) whole)
spelled-again before (n ∷ numbers) h =
    let rest : List ℕ = flat_map encoding numbers in
    let bytes : List ℕ = before ++ (encoding n ++ rest) in
    let size : length bytes ≡ length before + (length (encoding n) + length rest) = length-append before (encoding n ++ rest) ∙ ap (λ k. length before + k) (length-append (encoding n) rest) in
    let more : length before < length bytes = omega (arith, size, encoding-some n) in
    let read = number_at-read bytes (length before) (Ok (n, length before + length (encoding n))) more (sym (read_between before rest n h.0)) in
    let whole : bytes ≡ (before ++ encoding n) ++ rest = sym (append_assoc before (encoding n) rest) in
    let place : length before + length (encoding n) ≡ length (before ++ encoding n) = sym (length-append before (encoding n)) in
    let later : packed_at bytes (length before + length (encoding n)) ≡ Ok numbers = rw (whole, place) (spelled-again (before ++ encoding n) numbers h.1) in
    packed_at-step bytes (length before) (omega (arith, more)) ∙ (ap (λ r. r >>= with_rest (packed_at bytes)) read ∙ ap (λ r. r >>= λ tail. Ok (n ∷ tail)) later)

-- the numbers of a directory
steps-small : (before : Option DirEntry) (entries : List DirEntry) → AreEntries before entries → AreSmall (column step_behind before entries)
steps-small before [] are = tt
steps-small None (e ∷ entries) are = (omega (arith, are.0.last), steps-small (Some e) entries are.2)
steps-small (Some one) (e ∷ entries) are = (omega (arith, are.0.last), steps-small (Some e) entries are.2)

code-small : (before : Option DirEntry) (e : DirEntry) → IsEntry e → code_behind before e < 2 ^ 64
code-small None e is = omega (arith, is.some, is.end)
code-small (Some one) e is = by_test (e.offset == one.offset + one.len)
  where
    by_test : (b : Bool) → (if b then 0 else e.offset + 1) < 2 ^ 64
    by_test true = omega arith
    by_test false = omega (arith, is.some, is.end)

codes-small : (before : Option DirEntry) (entries : List DirEntry) → AreEntries before entries → AreSmall (column code_behind before entries)
codes-small before [] are = tt
codes-small before (e ∷ entries) are = (code-small before e are.0, codes-small (Some e) entries are.2)

runs-small : (before : Option DirEntry) (entries : List DirEntry) → AreEntries before entries → AreSmall (map (λ e. e.run) entries)
runs-small before [] are = tt
runs-small before (e ∷ entries) are = (omega (arith, are.0.run), runs-small (Some e) entries are.2)

lens-small : (before : Option DirEntry) (entries : List DirEntry) → AreEntries before entries → AreSmall (map (λ e. e.len) entries)
lens-small before [] are = tt
lens-small before (e ∷ entries) are = (omega (arith, are.0.len), lens-small (Some e) entries are.2)

pub length-column : (written : Option DirEntry → DirEntry → ℕ) (before : Option DirEntry) (entries : List DirEntry) → length (column written before entries) ≡ length entries
length-column written before [] = refl
length-column written before (e ∷ entries) = ap suc (length-column written (Some e) entries)

-- an entry from its own numbers
id-again : (before : Option DirEntry) (e : DirEntry) → IsBehind before e → id_behind before (step_behind before e) ≡ e.id
id-again None e h = refl
id-again (Some one) e h = omega (arith, h)

offset-again : (before : Option DirEntry) (e : DirEntry) → offset_behind before (code_behind before e) ≡ e.offset
offset-again None e = omega arith
offset-again (Some one) e = by_test (e.offset == one.offset + one.len) refl
  where
    by_test : (b : Bool) → (e.offset == one.offset + one.len) ≡ b → offset_behind (Some one) (if b then 0 else e.offset + 1) ≡ e.offset
    by_test true h = sym (eqb-true e.offset (one.offset + one.len) h)
    by_test false h = rw (ne_eqb (e.offset + 1) 0 (λ same. absurd (omega (arith, same)))) (omega arith)

follows-again : (before : Option DirEntry) (e : DirEntry) → IsBehind before e → follows before (step_behind before e) (code_behind before e) ≡ true
follows-again None e h = lt-ltb 0 (e.offset + 1) (omega arith)
follows-again (Some one) e h = lt-ltb 0 (e.id - one.id) (omega (arith, h))

is_entry-again : (e : DirEntry) → IsEntry e → is_entry e ≡ true
is_entry-again e is = rw (lt-ltb e.run (2 ^ 32) is.run, lt-ltb 0 e.len is.some, lt-ltb e.len (2 ^ 32) is.len, lt-ltb (e.id + (e.run - 1)) (2 ^ 64) is.last, lt-ltb (e.offset + e.len) (2 ^ 64) is.end) refl

entry-again : (before : Option DirEntry) (e : DirEntry) → IsBehind before e → entry_of before (step_behind before e) e.run e.len (code_behind before e) ≡ e
entry-again before e h = rw (id-again before e h, offset-again before e) refl

read_entry-again : (before : Option DirEntry) (e : DirEntry) → IsEntry e → IsBehind before e → read_entry before (step_behind before e) e.run e.len (code_behind before e) ≡ Some e
unfolding read_entry
read_entry-again before e is h =
    subst (λ x. (if follows before (step_behind before e) (code_behind before e) && is_entry x then Some x else None) ≡ Some e) (sym (entry-again before e h))
    (rw (follows-again before e h) (chosen (is_entry e) (is_entry-again e is)))
  where
    chosen : (b : Bool) → b ≡ true → (if b then Some e else None) ≡ Some e
    chosen true h = refl
    chosen false h = let no : false ≡ true = h in absurd cc

entries-again : (before : Option DirEntry) (entries : List DirEntry) → AreEntries before entries
    → entries_behind before (zip (zip (column step_behind before entries) (map (λ e. e.run) entries)) (zip (map (λ e. e.len) entries) (column code_behind before entries))) ≡ Some entries
entries-again before [] are = refl
entries-again before (e ∷ entries) are = rw (read_entry-again before e are.0 are.1, entries-again (Some e) entries are.2) refl

-- four columns of n numbers
rows-of : (n : ℕ) (a b c d : List ℕ) → length a ≡ n → length b ≡ n → length c ≡ n → length d ≡ n → rows n (a ++ b ++ c ++ d) ≡ zip (zip a b) (zip c d)
rows-of n a b c d ha hb hc hd =
    let whole : a ++ b ++ c ++ d ≡ a ++ (b ++ (c ++ d)) = append_assoc (a ++ b) c d ∙ append_assoc a b (c ++ d) in
    let two : length (a ++ b) ≡ n + n = omega (arith, ha, hb, length-append a b) in
    let three : length (a ++ b ++ c) ≡ n + n + n = omega (arith, two, hc, length-append (a ++ b) c) in
    let first : take n (a ++ b ++ c ++ d) ≡ a = rw whole (take_at a (b ++ (c ++ d)) n ha) in
    let second : take n (drop n (a ++ b ++ c ++ d)) ≡ b = rw (whole, drop_at a (b ++ (c ++ d)) n ha) (take_at b (c ++ d) n hb) in
    let third : take n (drop (n + n) (a ++ b ++ c ++ d)) ≡ c = rw (append_assoc (a ++ b) c d, drop_at (a ++ b) (c ++ d) (n + n) two) (take_at c d n hc) in
    let last : drop (n + n + n) (a ++ b ++ c ++ d) ≡ d = drop_at (a ++ b ++ c) d (n + n + n) three in
    rw (first, second, third, last) refl

numbers-again : (entries : List DirEntry) → AreEntries None entries → dir_in (Some (dir_numbers entries)) ≡ Some entries
numbers-again entries are =
    let n : ℕ = length entries in
    let a = column step_behind None entries in
    let b = map (λ (e : DirEntry). e.run) entries in
    let c = map (λ (e : DirEntry). e.len) entries in
    let d = column code_behind None entries in
    let ha : length a ≡ n = length-column step_behind None entries in
    let hb : length b ≡ n = length-map entries (λ e. e.run) in
    let hc : length c ≡ n = length-map entries (λ e. e.len) in
    let hd : length d ≡ n = length-column code_behind None entries in
    let four : length (a ++ b ++ c ++ d) ≡ n + n + n + n = omega (arith, ha, hb, hc, hd, length-append (a ++ b ++ c) d, length-append (a ++ b) c, length-append a b) in
    let test : nat_eq (length (a ++ b ++ c ++ d)) (n + n + n + n) ≡ true = eq-eqb (length (a ++ b ++ c ++ d)) (n + n + n + n) four in
    rw (test, rows-of n a b c d ha hb hc hd) (entries-again None entries are)

numbers-small : (entries : List DirEntry) → AreEntries None entries → length entries < 2 ^ 64 → AreSmall (dir_numbers entries)
numbers-small entries are few =
    (few, small-append _ _ (small-append _ _ (small-append _ _ (steps-small None entries are) (runs-small None entries are)) (lens-small None entries are)) (codes-small None entries are))

pub directories_are_read_again : DirectoriesAreReadAgain
unfolding dir_of dir_text
directories_are_read_again entries are few = rw (spelled-again [] (dir_numbers entries) (numbers-small entries are few)) (numbers-again entries are)
