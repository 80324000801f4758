-- Runs that are opened, and merged into fewer.
use Rattle.std.proofs.Common.{◌≡◌, ℕ, ◌+◌, ◌-◌, ◌<◌, ◌≤◌, Option, None, Some, IfSome, List, [], ◌∷◌, ◌++◌, length, map, get_or, take, drop, All, Contains, refl, sym, ap, subst, ◌∙◌, append_assoc, arith, inl, inr}
use Rattle.std.specs.List.{AllByRecursion}
use Rattle.std.proofs.lemmas.List.{append-nil, length-map, length-take, map-append, take-append-drop, take_more, drop_at}
use Rattle.std.proofs.lemmas.List.Concat.{flat_map-append}
use Rattle.std.proofs.lemmas.List.Elements.{All-nil, All-cons, All-append, All-push, All-map, All-weaker, All-take, All-drop, All-get_or, All-contains_itself, All-from_recursion, recursion_from_All, Contains-append_left, Contains-append_right, Contains-get_or}
use Rattle.std.proofs.lemmas.List.Sums.{sum_by_push, sum_by-append}
use Rattle.sorted_lists.specs.Sorting.{by_rank, sorted_by}
use Rattle.sorted_lists.specs.Grouping.{grouped_by}
use Rattle.sorted_lists.specs.Merging.{concatenated}
use Rattle.sorted_lists.proofs.Orders.{ascends_from_sorted}
use Rattle.sorted_lists.proofs.Sorts.{sorted-ascends, stable}
use Rattle.sorted_lists.proofs.Only.{alike}
use Rattle.sorted_lists.proofs.Merges.{stable_append, sorted-append_sorted}
use Rattle.tb_outside.specs.declared.spill.RunAt.{RunAt}
use Rattle.tb_outside.specs.Spill.{Runs}
use Rattle.mvt_codec.specs.declared.item.RunItem.{RunItem}
use Rattle.run_merge.specs.declared.cursor.Cursor.{Cursor}
use Rattle.run_merge.specs.declared.named_run.Store.TheVariants as stores
use Rattle.run_merge.specs.declared.named_run.NamedRun.{NamedRun}
use Rattle.run_merge.specs.declared.run_reader.RunReader.{RunReader}
use Rattle.run_merge.specs.Items.{item_rank, item_tile, merged_runs}
use Rattle.run_merge.specs.Objects.{Objects, told_of, IsThere, AllTell, Keeps, NoneRose}
use Rattle.run_merge.specs.Cursors.{IsRun, IsSound, left_if, left_of, cursors_of, runs_of, AreThere, IsTold}
use Rattle.run_merge.specs.Steps.{IsReadable, AreReadable, RunsAreThere, items_of, bytes_named, bytes_left, IsOneOf, IsMadeOf, Opens, HaveAll}
use Rattle.run_merge.specs.Answers.{Starts, named, named_from}
use Rattle.run_merge.proofs.RunItems.{order}
use Rattle.run_merge.proofs.ObjectSteps.{tell_still, there_one, readable_one, items_still, wider_all}

-- ---- the listed runs

named-append : (lane : ℕ) (xs ys : List (List RunAt)) → named_from lane (xs ++ ys) ≡ named_from lane xs ++ named_from (lane + length xs) ys
named-append lane [] ys = ap (λ (n : ℕ). named_from n ys) (omega arith)
named-append lane (x ∷ xs) ys =
    ap (λ (l : List NamedRun). map (named (stores.Lane lane)) x ++ l) (named-append (lane + 1) xs ys ∙ ap (λ (n : ℕ). named_from (lane + 1) xs ++ named_from n ys) (omega arith))
    ∙ sym (append_assoc (map (named (stores.Lane lane)) x) (named_from (lane + 1) xs) (named_from (lane + length (x ∷ xs)) ys))

-- one lane more
pub named_more : (lists : List (List RunAt)) (n : ℕ) (d : List RunAt) → n < length lists → named_from 0 (take (n + 1) lists) ≡ named_from 0 (take n lists) ++ map (named (stores.Lane n)) (get_or lists n d)
named_more lists n d lt =
    let count : 0 + length (take n lists) ≡ n = omega (arith, length-take n lists, lt) in
    ap (named_from 0) (take_more lists n d lt)
    ∙ named-append 0 (take n lists) (get_or lists n d ∷ [])
    ∙ ap (λ (k : ℕ). named_from 0 (take n lists) ++ (map (named (stores.Lane k)) (get_or lists n d) ++ [])) count
    ∙ ap (λ (l : List NamedRun). named_from 0 (take n lists) ++ l) (append-nil (map (named (stores.Lane n)) (get_or lists n d)))

-- each lane is there
pub named_there : {R : Type 0} (o : Objects R) (lane : ℕ) (lists : List (List RunAt)) → lane + length lists ≤ length o.spills → RunsAreThere o (named_from lane lists)
named_there o lane [] le = All-nil (λ (run : NamedRun). IsThere o run.store)
named_there o lane (runs ∷ lists) le =
    let P : NamedRun → Type 0 = λ run. IsThere o run.store in
    All-append P (map (named (stores.Lane lane)) runs) (named_from (lane + 1) lists)
    (All-map P (named (stores.Lane lane)) runs (λ k d lt. omega (arith, le)))
    (named_there o (lane + 1) lists (omega (arith, le)))

-- ---- readers that are opened

pub opens_none : {R : Type 0} (o : Objects R) (layers : ℕ) → Opens o layers [] []
opens_none o layers = record { runs_are = refl; sound = All-nil IsSound; told_are = All-nil (IsTold o layers); bytes = refl; items = refl }

pub opens_more : {R : Type 0} (o : Objects R) (layers : ℕ) (runs : List NamedRun) (readers : List RunReader) (run : NamedRun) (reader : RunReader) → Opens o layers runs readers → reader.cursor.run ≡ run → reader.cursor.at ≡ 0 → IsSound reader → IsTold o layers reader
    → Opens o layers (runs ++ run ∷ []) (readers ++ reader ∷ [])
opens_more o layers runs readers run reader opens is at sound told =
    let cursors : cursors_of (readers ++ reader ∷ []) ≡ cursors_of readers ++ reader.cursor ∷ [] = map-append (λ (r : RunReader). r.cursor) readers (reader ∷ []) in
    let left : left_of o reader.cursor ≡ items_of o run = (λ i. left_if (is i) (at i) (told_of o (is i))) in
    let size : reader.cursor.run.run.len ≡ run.run.len = ap (λ (r : NamedRun). r.run.len) is in
    record {
      runs_are = ap runs_of cursors ∙ map-append (λ (c : Cursor). c.run) (cursors_of readers) (reader.cursor ∷ []) ∙ (λ i. opens.runs_are i ++ is i ∷ []);
      sound = All-push IsSound readers reader opens.sound sound;
      told_are = All-push (IsTold o layers) readers reader opens.told_are told;
      bytes = omega (arith, ap bytes_left cursors, sum_by_push (λ (c : Cursor). c.run.run.len - c.at) (cursors_of readers) reader.cursor, opens.bytes, at, size, sum_by_push (λ (r : NamedRun). r.run.len) runs run);
      items =
          ap (map (left_of o)) cursors
          ∙ map-append (left_of o) (cursors_of readers) (reader.cursor ∷ [])
          ∙ (λ i. opens.items i ++ left i ∷ [])
          ∙ sym (map-append (items_of o) runs (run ∷ []));
    }

each_map_back : {A B : Type 0} (f : A → B) (P : B → Type 0) (xs : List A) → AllByRecursion P (map f xs) → AllByRecursion (λ x. P (f x)) xs
each_map_back f P [] h = tt
each_map_back f P (x ∷ xs) h = (h.0, each_map_back f P xs h.1)

-- their runs are there
pub opened_there : {R : Type 0} (o : Objects R) (runs : List NamedRun) (readers : List RunReader) → runs_of (cursors_of readers) ≡ runs → RunsAreThere o runs → AreThere o readers
opened_there o runs readers e there =
    let P : NamedRun → Type 0 = λ run. IsThere o run.store in
    let names : AllByRecursion P (runs_of (cursors_of readers)) = subst (AllByRecursion P) (sym e) (recursion_from_All P runs there) in
    All-from_recursion (λ (reader : RunReader). P reader.cursor.run) readers (each_map_back (λ (reader : RunReader). reader.cursor) (λ (c : Cursor). P c.run) readers (each_map_back (λ (c : Cursor). c.run) P (cursors_of readers) names))

-- ---- one run of some

items_sorted : (layers : ℕ) (run : NamedRun) (told : Option Runs) → IfSome told (λ runs. IsRun layers runs run) → sorted_by (by_rank item_rank) (left_if run 0 told) ≡ left_if run 0 told
items_sorted layers run None is = refl
items_sorted layers run (Some runs) is = sorted-ascends (by_rank item_rank) (left_if run 0 (Some runs)) (ascends_from_sorted (by_rank item_rank) order (left_if run 0 (Some runs)) is.items.sorted)

single : (runs : List NamedRun) (d : NamedRun) → length runs ≡ 1 → runs ≡ get_or runs 0 d ∷ []
single [] d e = absurd (omega (arith, e))
single (x ∷ []) d e = refl
single (x ∷ y ∷ xs) d e = absurd (omega (arith, e))

pub one_made : {R : Type 0} (o : Objects R) (layers : ℕ) (runs : List NamedRun) (d : NamedRun) → length runs ≡ 1 → RunsAreThere o runs → AreReadable o layers runs → IsMadeOf o o layers (bytes_named runs) (map (items_of o) runs) (get_or runs 0 d)
one_made o layers runs d e there readable =
    let run = get_or runs 0 d in
    let lt : 0 < length runs = omega (arith, e) in
    let whole = single runs d e in
    let is : IsReadable o layers run = All-get_or (IsReadable o layers) runs 0 d lt readable in
    record {
      there = All-get_or (λ (r : NamedRun). IsThere o r.store) runs 0 d lt there;
      readable = is;
      bytes_are = omega (arith, ap bytes_named whole);
      items = λ tell.
          sym (items_sorted layers run (told_of o run) is)
          ∙ ap (sorted_by (by_rank item_rank)) (sym (append-nil (items_of o run)))
          ∙ ap (λ (l : List NamedRun). merged_runs (map (items_of o) l)) (sym whole);
    }

-- the run that was made of what readers have left, which are those of some runs
pub made_from : {R : Type 0} (o mid new : Objects R) (layers : ℕ) (runs : List NamedRun) (readers : List RunReader) (run : NamedRun) → mid ≡ o → Opens o layers runs readers → IsMadeOf mid new layers (bytes_left (cursors_of readers)) (map (left_of mid) (cursors_of readers)) run
    → IsMadeOf o new layers (bytes_named runs) (map (items_of o) runs) run
made_from o mid new layers runs readers run same opens made = record {
  there = made.there;
  readable = made.readable;
  bytes_are = made.bytes_are ∙ opens.bytes;
  items = λ tell.
      made.items (subst (λ (ob : Objects _). AllTell ob) (sym same) tell)
      ∙ ap (λ (ob : Objects _). merged_runs (map (left_of ob) (cursors_of readers))) same
      ∙ ap merged_runs opens.items;
}

-- ---- fewer runs

sorted-front : (xs zs : List RunItem) → sorted_by (by_rank item_rank) (sorted_by (by_rank item_rank) xs ++ zs) ≡ sorted_by (by_rank item_rank) (xs ++ zs)
sorted-front xs zs =
    sym (alike (by_rank item_rank) order (xs ++ zs) (sorted_by (by_rank item_rank) xs ++ zs) (stable_append (by_rank item_rank) xs (sorted_by (by_rank item_rank) xs) zs zs (stable (by_rank item_rank) order xs) (λ z. refl)))

-- lists in order behind others, one of which was merged of some
merged_behind : (us bs cs : List (List RunItem)) → merged_runs us ≡ merged_runs bs → merged_runs (us ++ merged_runs cs ∷ []) ≡ merged_runs (bs ++ cs)
merged_behind us bs cs e =
    let lt = by_rank item_rank in
    let xs = concatenated us in
    let ys = concatenated bs in
    let zs = concatenated cs in
    ap (sorted_by lt) (flat_map-append (λ (l : List RunItem). l) us (sorted_by lt zs ∷ []) ∙ ap (λ (l : List RunItem). xs ++ l) (append-nil (sorted_by lt zs)))
    ∙ sorted-append_sorted lt order xs zs
    ∙ sym (sorted-front xs zs)
    ∙ ap (λ (l : List RunItem). sorted_by lt (l ++ zs)) e
    ∙ sorted-front ys zs
    ∙ ap (sorted_by lt) (sym (flat_map-append (λ (l : List RunItem). l) bs cs))

pub have_none : {R : Type 0} (o : Objects R) (layers : ℕ) → HaveAll o o layers [] []
have_none o layers = record { there = All-nil (λ (run : NamedRun). IsThere o run.store); readable = All-nil (IsReadable o layers); names = All-nil (IsOneOf []); bytes = refl; items = λ tell. refl }

pub have_same : {R : Type 0} (o : Objects R) (layers : ℕ) (runs : List NamedRun) → RunsAreThere o runs → AreReadable o layers runs → HaveAll o o layers runs runs
have_same o layers runs there readable = record {
  there = there;
  readable = readable;
  names = All-weaker (Contains runs) (IsOneOf runs) (λ run c. inl c) runs (All-contains_itself runs);
  bytes = refl;
  items = λ tell. refl;
}

one_of_left : (runs more : List NamedRun) (run : NamedRun) → IsOneOf runs run → IsOneOf (runs ++ more) run
one_of_left runs more run (inl c) = inl (Contains-append_left runs more run c)
one_of_left runs more run (inr s) = inr s

one_of_right : (runs more : List NamedRun) (run : NamedRun) → IsOneOf more run → IsOneOf (runs ++ more) run
one_of_right runs more run (inl c) = inl (Contains-append_right runs more run c)
one_of_right runs more run (inr s) = inr s

module _ {R : Type 0} (o now next : Objects R) (layers : ℕ) (keeps : Keeps o now) (keeps' : Keeps now next) where
  -- one run more is made of some
  pub have_more : (done merged chunk : List NamedRun) (one : NamedRun) → HaveAll o now layers done merged → AreReadable o layers chunk → IsMadeOf now next layers (bytes_named chunk) (map (items_of now) chunk) one → IsOneOf chunk one → HaveAll o next layers (done ++ chunk) (merged ++ one ∷ [])
  have_more done merged chunk one all readable made name =
      let There : NamedRun → Type 0 = λ run. IsThere next run.store in
      record {
        there = All-push There merged one (All-weaker (λ (run : NamedRun). IsThere now run.store) There (λ run is. there_one now next keeps' run.store is) merged all.there) made.there;
        readable = All-push (IsReadable next layers) merged one (All-weaker (IsReadable now layers) (IsReadable next layers) (λ run is. readable_one now next keeps' layers run is) merged all.readable) made.readable;
        names = All-push (IsOneOf (done ++ chunk)) merged one (All-weaker (IsOneOf done) (IsOneOf (done ++ chunk)) (λ run is. one_of_left done chunk run is) merged all.names) (one_of_right done chunk one name);
        bytes = omega (arith, sum_by_push (λ (r : NamedRun). r.run.len) merged one, made.bytes_are, all.bytes, sum_by-append (λ (r : NamedRun). r.run.len) done chunk);
        items = λ tell.
            let made_items : items_of next one ≡ merged_runs (map (items_of o) chunk) =
            made.items (tell_still o now keeps tell) ∙ ap merged_runs (items_still o now keeps layers chunk (recursion_from_All (IsReadable o layers) chunk readable)) in
            ap merged_runs (map-append (items_of next) merged (one ∷ []))
            ∙ ap (λ (l : List (List RunItem)). merged_runs (l ++ items_of next one ∷ [])) (items_still now next keeps' layers merged (recursion_from_All (IsReadable now layers) merged all.readable))
            ∙ ap (λ (l : List RunItem). merged_runs (map (items_of now) merged ++ l ∷ [])) made_items
            ∙ merged_behind (map (items_of now) merged) (map (items_of o) done) (map (items_of o) chunk) (all.items tell)
            ∙ ap merged_runs (sym (map-append (items_of o) done chunk));
      }

  -- one pass behind another
  pub have_then : (listed waiting merged : List NamedRun) → HaveAll o now layers listed waiting → HaveAll now next layers waiting merged → HaveAll o next layers listed merged
  have_then listed waiting merged all more = record {
    there = more.there;
    readable = more.readable;
    names = wider_all waiting listed merged all.names more.names;
    bytes = more.bytes ∙ all.bytes;
    items = λ tell. more.items (tell_still o now keeps tell) ∙ all.items tell;
  }

-- a part of runs that are there and can be read
pub part_there : {R : Type 0} (o now : Objects R) (keeps : Keeps o now) (waiting done rest : List NamedRun) (n : ℕ) → waiting ≡ done ++ rest → RunsAreThere o waiting → RunsAreThere now (take n rest)
part_there o now keeps waiting done rest n e there =
    let P : NamedRun → Type 0 = λ run. IsThere o run.store in
    let Q : NamedRun → Type 0 = λ run. IsThere now run.store in
    All-weaker P Q (λ run is. there_one o now keeps run.store is) (take n rest) (All-take P n rest (rest_of P done rest (subst (All P) e there)))
  where
    rest_of : (P : NamedRun → Type 0) (xs ys : List NamedRun) → All P (xs ++ ys) → All P ys
    rest_of P xs ys h = subst (All P) (drop_at xs ys (length xs) refl) (All-drop P (length xs) (xs ++ ys) h)

pub part_readable : {R : Type 0} (o : Objects R) (layers : ℕ) (waiting done rest : List NamedRun) (n : ℕ) → waiting ≡ done ++ rest → AreReadable o layers waiting → AreReadable o layers (take n rest)
part_readable o layers waiting done rest n e readable =
    All-take (IsReadable o layers) n rest (subst (All (IsReadable o layers)) (drop_at done rest (length done) refl) (All-drop (IsReadable o layers) (length done) (done ++ rest) (subst (All (IsReadable o layers)) e readable)))

pub readable_now : {R : Type 0} (o now : Objects R) (keeps : Keeps o now) (layers : ℕ) (runs : List NamedRun) → AreReadable o layers runs → AreReadable now layers runs
readable_now o now keeps layers runs h = All-weaker (IsReadable o layers) (IsReadable now layers) (λ run is. readable_one o now keeps layers run is) runs h

-- ---- the merge that is begun

pub starts : {R : Type 0} (o now : Objects R) (layers : ℕ) (listed waiting : List NamedRun) (readers : List RunReader) → NoneRose o now → HaveAll o now layers listed waiting → Opens now layers waiting readers → length waiting ≤ 64
    → Starts o now layers listed (record { layers = layers; readers = readers })
starts o now layers listed waiting readers none all opens few =
    let count : length readers ≡ length waiting = sym (length-map readers (λ (r : RunReader). r.cursor)) ∙ sym (length-map (cursors_of readers) (λ (c : Cursor). c.run)) ∙ ap length opens.runs_are in
    record {
      counts = none;
      layers_are = refl;
      few = omega (arith, count, few);
      there = opened_there now waiting readers opens.runs_are all.there;
      told_are = opens.told_are;
      bytes = opens.bytes ∙ all.bytes;
      groups = λ tell. ap (grouped_by item_tile) (ap merged_runs opens.items ∙ all.items tell);
    }

-- a run that is read where there is none
abbrev pub no_run : NamedRun
no_run = record { store = stores.Lane 0; run = record { run = 0; len = 0 } }

pub named_of : (runs : List NamedRun) (i : ℕ) (d : NamedRun) → i < length runs → All (Contains runs) (get_or runs i d ∷ [])
named_of runs i d lt = All-cons (Contains runs) (get_or runs i d) [] (Contains-get_or runs i d lt) (All-nil (Contains runs))

-- a part of some runs
pub part_all : (P : NamedRun → Type 0) (waiting done rest : List NamedRun) (n : ℕ) → waiting ≡ done ++ rest → All P waiting → All P (take n rest)
part_all P waiting done rest n e all = All-take P n rest (subst (All P) (drop_at done rest (length done) refl) (All-drop P (length done) (done ++ rest) (subst (All P) e all)))

pub part_named : (waiting done rest : List NamedRun) (n : ℕ) → waiting ≡ done ++ rest → All (IsOneOf waiting) (take n rest)
part_named waiting done rest n e = part_all (IsOneOf waiting) waiting done rest n e (All-weaker (Contains waiting) (IsOneOf waiting) (λ run c. inl c) waiting (All-contains_itself waiting))

pub part_parts : (waiting done rest front back : List NamedRun) (n : ℕ) → waiting ≡ done ++ rest → front ≡ take n rest → back ≡ drop n rest → waiting ≡ (done ++ front) ++ back
part_parts waiting done rest front back n e f b =
    e ∙ ap (λ (l : List NamedRun). done ++ l) (sym (take-append-drop n rest) ∙ (λ i. sym f i ++ sym b i)) ∙ sym (append_assoc done front back)
