-- What is read of a run: bytes ahead, heads and whole items.
use Rattle.std.specs.Prelude.{slice_range}
use Rattle.std.proofs.Common.{◌≡◌, ℕ, ◌+◌, ◌-◌, ◌<◌, ◌≤◌, nat_lt, true, false, Option, None, Some, IfSome, List, [], ◌∷◌, ◌++◌, length, take, drop, ◌⊎◌, inl, inr, refl, sym, ap, subst, ◌∙◌, arith, true≢false}
use Rattle.std.specs.List.{AllByRecursion}
use Rattle.std.proofs.lemmas.List.{append-nil, length-append, length-take, length-drop, take_at, take-take, drop-take, drop-drop, drop_all, drop_at, append_assoc, take-append-drop, take-append-le, nil_from_length}
use Rattle.sorted_lists.specs.Sorting.{by_rank}
use Rattle.tb_outside.specs.Spill.{Runs}
use Rattle.mvt_codec.specs.declared.item.RunItem.{RunItem}
use Rattle.mvt_codec.specs.declared.item.ItemKey.{ItemKey}
use Rattle.mvt_codec.specs.Items.{item_text, items_bytes, row_text, IsItem, Fits, StandsAt}
use Rattle.mvt_codec.specs.Order.{prefix_number, suffix_number}
use Rattle.mvt_codec.proofs.ItemLengths.{item_len}
use Rattle.run_merge.specs.declared.cursor.Head.{Head}
use Rattle.run_merge.specs.declared.named_run.NamedRun.{NamedRun}
use Rattle.run_merge.specs.declared.window.Window.{Window}
use Rattle.run_merge.specs.declared.run_reader.RunReader.{RunReader}
use Rattle.run_merge.specs.Items.{items_in, item_rank, AreItems}
use Rattle.run_merge.specs.Objects.{Objects, told_of, whom_of}
use Rattle.run_merge.specs.Cursors.{head_rank, rank_at, item_head, first_head, bytes_of_run, Stands, IsAhead, Reads, left_in, left_if}
use Rattle.run_merge.specs.Steps.{OutsideIn}
use Rattle.run_merge.proofs.RunItems.{Front, front_is, none_left, dropped}
use Rattle.run_merge.proofs.Heads.{rank_of_item, head_of_item, len_of_item}
use Rattle.run_merge.proofs.Merged.{none_is_some, some_same}

-- ---- where nothing is told

pub untold_if : (told : Option Runs) → IfSome told (λ runs. ⊥) → told ≡ None
untold_if None h = refl
untold_if (Some runs) h = absurd h

pub outside_in : {R : Type 0} (old new : Objects R) (run : NamedRun) (at : ℕ) → at ≤ run.run.len → IfSome (told_of old run) (λ runs. ⊥) → new ≡ old → OutsideIn old new (run ∷ []) (whom_of run.store) run.run.run at
outside_in old new run at within told same = record {
  run = run;
  named = (0, omega arith, refl);
  whom_is = refl;
  number_is = refl;
  within = within;
  untold = untold_if (told_of old run) told;
  same = same;
}

-- ---- bytes ahead

slice-is : (bytes : List ℕ) (at n : ℕ) → slice_range bytes at (at + n) ≡ take n (drop at bytes)
slice-is bytes at n = ap (λ (k : ℕ). take k (drop at bytes)) (omega arith)

-- a part of what was read ahead is that part of the run
pub ahead_part : (runs : Runs) (run : NamedRun) (w : Window) (at n : ℕ) → IsAhead runs run w → w.from ≤ at → at + n ≤ w.from + length w.bytes.items → slice_range w.bytes.items (at - w.from) (at - w.from + n) ≡ take n (drop at (bytes_of_run runs run))
ahead_part runs run w at n ahead begin end =
    let bytes = bytes_of_run runs run in
    let size = length w.bytes.items in
    let k : ℕ = at - w.from in
    let whole : w.bytes.items ≡ take size (drop w.from bytes) = ahead ∙ slice-is bytes w.from size in
    let count : size ≡ k + (size - k) = omega (arith, begin, end) in
    let place : w.from + k ≡ at = omega (arith, begin) in
    slice-is w.bytes.items k n
    ∙ ap (λ (l : List ℕ). take n (drop k l)) (whole ∙ ap (λ (m : ℕ). take m (drop w.from bytes)) count)
    ∙ ap (take n) (drop-take k (size - k) (drop w.from bytes))
    ∙ take-take n (size - k) (drop k (drop w.from bytes)) (omega (arith, begin, end))
    ∙ ap (take n) (drop-drop k w.from bytes ∙ ap (λ (m : ℕ). drop m bytes) place)

-- ---- the first of told items

pub record First (layers : ℕ) (bytes : List ℕ) : Type 0 where
  pub item : RunItem
  pub items : List RunItem
  pub all : items_in bytes ≡ item ∷ items
  pub front : Front layers bytes item items

first_of : (layers : ℕ) (bytes : List ℕ) (items : List RunItem) → AreItems layers bytes → items_in bytes ≡ items → 0 < length bytes → First layers bytes
first_of layers bytes [] are e some = absurd (omega (arith, some, ap length (none_left layers bytes are e)))
first_of layers bytes (x ∷ xs) are e some = record { item = x; items = xs; all = e; front = front_is layers bytes x xs are e }

pub first : (layers : ℕ) (bytes : List ℕ) → AreItems layers bytes → 0 < length bytes → First layers bytes
first layers bytes are some = first_of layers bytes (items_in bytes) are refl some

-- it ends within the bytes
pub first_within : (layers : ℕ) (bytes : List ℕ) (f : First layers bytes) → (30 ≤ length (item_text f.item)) × (length (item_text f.item) ≤ length bytes)
first_within layers bytes f = (omega (arith, item_len f.item), omega (arith, ap length f.front.parts, length-append (item_text f.item) (items_bytes f.items)))

-- no bytes are no items
pub no_items : (bytes : List ℕ) (at : ℕ) → length bytes ≤ at → first_head (items_in (drop at bytes)) ≡ None
unfolding items_in
no_items bytes at past = ap (λ (l : List ℕ). first_head (items_in l)) (drop_all at bytes past)

-- ---- heads

-- 30 bytes at the front of an item, and those behind them
pub head_bytes : (layers : ℕ) (bytes : List ℕ) (f : First layers bytes) → take 30 bytes ++ drop 30 (item_text f.item) ≡ item_text f.item
head_bytes layers bytes f =
    let long = (first_within layers bytes f).0 in
    ap (λ (l : List ℕ). l ++ drop 30 (item_text f.item)) (ap (take 30) f.front.parts ∙ take-append-le 30 (item_text f.item) (items_bytes f.items) long)
    ∙ take-append-drop 30 (item_text f.item)

-- the head that is made of a key and a length
pub head_made : (x : RunItem) (prefix suffix len : ℕ) → prefix ≡ prefix_number x.key → suffix ≡ suffix_number x.key → len ≡ length (row_text x.row) → ◌≡◌ {A = Head} (record { prefix = prefix; suffix = suffix; len = 30 + len }) (item_head x)
head_made x prefix suffix len p s l = head_of_item x (record { prefix = prefix; suffix = suffix; len = 30 + len }) p s (omega (arith, l, item_len x))

-- ---- whole items

-- the text that stands behind what was there
pub text_behind : (old new : List ℕ) (item : RunItem) (end : ℕ) → StandsAt new (length old) item end → end ≡ length new → new ≡ old ++ drop (length old) new → new ≡ old ++ item_text item
text_behind old new item end (before, behind, parts, at, next) is_end front =
    let same : before ≡ old = sym (take_at before (item_text item ++ behind) (length old) (sym at)) ∙ ap (take (length old)) (sym parts ∙ front) ∙ take_at old (drop (length old) new) (length old) refl in
    let sizes : length behind ≡ 0 = omega (arith, is_end, next, at, ap length parts, length-append before (item_text item ++ behind), length-append (item_text item) behind) in
    parts ∙ (λ i. same i ++ (item_text item ++ nil_from_length behind sizes i)) ∙ ap (λ (l : List ℕ). old ++ l) (append-nil (item_text item))

-- the text of the first item is what was put
pub first_text : (layers : ℕ) (runs : Runs) (run : NamedRun) (at len : ℕ) (f : First layers (drop at (bytes_of_run runs run))) → len ≡ length (item_text f.item) → slice_range (bytes_of_run runs run) at (at + len) ≡ item_text f.item
first_text layers runs run at len f size =
    slice-is (bytes_of_run runs run) at len ∙ ap (take len) f.front.parts ∙ take_at (item_text f.item) (items_bytes f.items) len (sym size)

-- and stands there
pub stands_behind : (old new : List ℕ) (item : RunItem) → new ≡ old ++ item_text item → StandsAt new (length old) item (length new)
stands_behind old new item e = (
  old,
  [],
  e ∙ ap (λ (l : List ℕ). old ++ l) (sym (append-nil (item_text item))),
  refl,
  ap length e ∙ length-append old (item_text item),
)

-- what a reader has next, where its run is told
pub record Next (layers : ℕ) (reader : RunReader) (head : Head) (runs : Runs) : Type 0 where
  pub first_is : First layers (drop reader.cursor.at (bytes_of_run runs reader.cursor.run))
  pub head_is : head ≡ item_head first_is.item
  pub len_is : head.len ≡ length (item_text first_is.item)
  -- what is left behind it
  pub behind : drop (reader.cursor.at + head.len) (bytes_of_run runs reader.cursor.run) ≡ items_bytes first_is.items
  pub rest : AreItems layers (drop (reader.cursor.at + head.len) (bytes_of_run runs reader.cursor.run))
  pub left : left_in runs reader.cursor.run (reader.cursor.at + head.len) ≡ first_is.items

next_of : (layers : ℕ) (reader : RunReader) (head : Head) (runs : Runs) (items : List RunItem) → reader.cursor.head ≡ Some head → Reads layers reader runs → left_in runs reader.cursor.run reader.cursor.at ≡ items → Next layers reader head runs
next_of layers reader head runs [] e is all = absurd (none_is_some head (sym e ∙ is.head ∙ ap first_head all))
next_of layers reader head runs (x ∷ xs) e is all =
    let bytes = bytes_of_run runs reader.cursor.run in
    let front = front_is layers (drop reader.cursor.at bytes) x xs is.items all in
    let same : head ≡ item_head x = some_same head (item_head x) (sym e ∙ is.head ∙ ap first_head all) in
    let size : head.len ≡ length (item_text x) = ap (λ (h : Head). h.len) same ∙ len_of_item x in
    let behind : drop (reader.cursor.at + head.len) bytes ≡ items_bytes xs = dropped bytes reader.cursor.at head.len x xs front.parts size in
    record {
      first_is = record { item = x; items = xs; all = all; front = front };
      head_is = same;
      len_is = size;
      behind = behind;
      rest = subst (AreItems layers) (sym behind) front.rest;
      left = ap items_in behind ∙ front.again;
    }

pub next : (layers : ℕ) (reader : RunReader) (head : Head) (runs : Runs) → reader.cursor.head ≡ Some head → Reads layers reader runs → Next layers reader head runs
next layers reader head runs e is = next_of layers reader head runs (left_in runs reader.cursor.run reader.cursor.at) e is refl

-- the rank of what is behind isn't below
behind_rank : (x : RunItem) (xs : List RunItem) → AllByRecursion (λ y. by_rank item_rank y x ≡ false) xs → nat_lt (rank_at (first_head xs)) (head_rank (item_head x)) ≡ false ⊎ (xs ≡ [])
behind_rank x [] above = inr refl
behind_rank x (y ∷ ys) above = inl ((λ i. nat_lt (rank_of_item y i) (rank_of_item x i)) ∙ above.0)

-- ---- what is told of a place, for whoever reads there

pub none_first : (told : Option Runs) (run : NamedRun) (at : ℕ) → IfSome told (λ runs. Stands runs run) → run.run.len ≤ at → IfSome told (λ runs. None ≡ first_head (left_in runs run at))
none_first None run at stands past = tt
none_first (Some runs) run at stands past = sym (no_items (bytes_of_run runs run) at (omega (arith, stands.len, past)))

pub no_short : (layers : ℕ) (told : Option Runs) (run : NamedRun) (at : ℕ) → IfSome told (λ runs. Stands runs run) → IfSome told (λ runs. AreItems layers (drop at (bytes_of_run runs run))) → 0 < run.run.len - at → run.run.len - at < 30 → IfSome told (λ runs. ⊥)
no_short layers None run at stands are some short = tt
no_short layers (Some runs) run at stands are some short =
    let size : length (drop at (bytes_of_run runs run)) ≡ run.run.len - at = omega (arith, length-drop at (bytes_of_run runs run), stands.len) in
    let f = first layers (drop at (bytes_of_run runs run)) are (omega (arith, some, size)) in
    let within = first_within layers (drop at (bytes_of_run runs run)) f in
    omega (arith, within.0, within.1, size, short)

-- the first item at a place, and what was read of its head
pub record Sees (layers : ℕ) (runs : Runs) (run : NamedRun) (at : ℕ) (head : Option (ItemKey × ℕ)) : Type 0 where
  pub first_is : First layers (drop at (bytes_of_run runs run))
  pub head_is : head ≡ Some (first_is.item.key, length (row_text first_is.item.row))
  pub size : length (drop at (bytes_of_run runs run)) ≡ run.run.len - at

-- what a reader of heads answers of 30 bytes
abbrev pub ReadsHead : List ℕ → Option (ItemKey × ℕ) → Type 0
ReadsHead part head = (item : RunItem) (rest : List ℕ) → IsItem item → Fits item → part ++ rest ≡ item_text item → length part ≡ 30 → head ≡ Some (item.key, length (row_text item.row))

pub sees : (layers : ℕ) (told : Option Runs) (run : NamedRun) (at : ℕ) (w : Window) (part : List ℕ) (head : Option (ItemKey × ℕ)) → IfSome told (λ runs. Stands runs run) → IfSome told (λ runs. AreItems layers (drop at (bytes_of_run runs run)))
    → IfSome told (λ runs. IsAhead runs run w) → w.from ≤ at → at + 30 ≤ w.from + length w.bytes.items → part ≡ slice_range w.bytes.items (at - w.from) (at - w.from + 30) → 30 ≤ run.run.len - at → ReadsHead part head
    → IfSome told (λ runs. Sees layers runs run at head)
sees layers None run at w part head stands are ahead begin end part_is some read = tt
sees layers (Some runs) run at w part head stands are ahead begin end part_is some read =
    let bytes = drop at (bytes_of_run runs run) in
    let size : length bytes ≡ run.run.len - at = omega (arith, length-drop at (bytes_of_run runs run), stands.len) in
    let f = first layers bytes are (omega (arith, some, size)) in
    let here : part ≡ take 30 bytes = part_is ∙ ahead_part runs run w at 30 ahead begin end in
    let text : part ++ drop 30 (item_text f.item) ≡ item_text f.item = ap (λ (l : List ℕ). l ++ drop 30 (item_text f.item)) here ∙ head_bytes layers bytes f in
    let thirty : length part ≡ 30 = omega (arith, ap length here, length-take 30 bytes, size, some) in
    record { first_is = f; head_is = read f.item (drop 30 (item_text f.item)) f.front.item.is f.front.item.types text thirty; size = size }

pub sees_none : (layers : ℕ) (told : Option Runs) (run : NamedRun) (at : ℕ) (head : Option (ItemKey × ℕ)) → head ≡ None → IfSome told (λ runs. Sees layers runs run at head) → IfSome told (λ runs. ⊥)
sees_none layers None run at head e s = tt
sees_none layers (Some runs) run at head e s = none_is_some (s.first_is.item.key, length (row_text s.first_is.item.row)) (sym s.head_is ∙ e)

abbrev pub Pair : Type 0
Pair = ItemKey × ℕ

pub sees_bad : (layers : ℕ) (told : Option Runs) (run : NamedRun) (at : ℕ) (head : Option (ItemKey × ℕ)) (key : ItemKey) (len : ℕ) → head ≡ Some (key, len) → (layers ≤ key.layer) ⊎ (run.run.len - at - 30 < len) → IfSome told (λ runs. Sees layers runs run at head) → IfSome told (λ runs. ⊥)
sees_bad layers None run at head key len e bad s = tt
sees_bad layers (Some runs) run at head key len e bad s =
    let item = s.first_is.item in
    let same = some_same {A = Pair} (item.key, length (row_text item.row)) (key, len) (sym s.head_is ∙ e) in
    let layer : item.key.layer ≡ key.layer = ap (λ (p : Pair). p.0.layer) same in
    let size : length (row_text item.row) ≡ len = ap (λ (p : Pair). p.1) same in
    let within = first_within layers (drop at (bytes_of_run runs run)) s.first_is in
    elim bad [ inl up ↦ omega (arith, up, layer, s.first_is.front.item.layer) | inr long ↦ omega (arith, long, size, within.0, within.1, item_len item, s.size) ]

pub sees_good : (layers : ℕ) (told : Option Runs) (run : NamedRun) (at : ℕ) (head : Option (ItemKey × ℕ)) (key : ItemKey) (prefix suffix len : ℕ) → head ≡ Some (key, len) → prefix ≡ prefix_number key → suffix ≡ suffix_number key → IfSome told (λ runs. Sees layers runs run at head)
    → IfSome told (λ runs. Some (record { prefix = prefix; suffix = suffix; len = 30 + len }) ≡ first_head (left_in runs run at))
sees_good layers None run at head key prefix suffix len e p q s = tt
sees_good layers (Some runs) run at head key prefix suffix len e p q s =
    let item = s.first_is.item in
    let same = some_same {A = Pair} (item.key, length (row_text item.row)) (key, len) (sym s.head_is ∙ e) in
    let key_is : key ≡ item.key = sym (ap (λ (p : Pair). p.0) same) in
    let size : len ≡ length (row_text item.row) = sym (ap (λ (p : Pair). p.1) same) in
    ap Some (head_made item prefix suffix len (p ∙ ap prefix_number key_is) (q ∙ ap suffix_number key_is) size) ∙ ap first_head (sym s.first_is.all)

-- ---- what is told of a reader, when its item is taken

pub rest_is : (layers : ℕ) (told : Option Runs) (reader : RunReader) (head : Head) → reader.cursor.head ≡ Some head → IfSome told (Reads layers reader) → IfSome told (λ runs. AreItems layers (drop (reader.cursor.at + head.len) (bytes_of_run runs reader.cursor.run)))
rest_is layers None reader head e is = tt
rest_is layers (Some runs) reader head e is = (next layers reader head runs e is).rest

pub not_below : (layers : ℕ) (told : Option Runs) (reader : RunReader) (head after : Head) → reader.cursor.head ≡ Some head → IfSome told (Reads layers reader) → IfSome told (λ runs. Some after ≡ first_head (left_in runs reader.cursor.run (reader.cursor.at + head.len)))
    → nat_lt (head_rank after) (head_rank head) ≡ true → IfSome told (λ runs. ⊥)
not_below layers None reader head after e is first_is below = tt
not_below layers (Some runs) reader head after e is first_is below =
    let n = next layers reader head runs e is in
    let after_is : Some after ≡ first_head n.first_is.items = first_is ∙ ap first_head n.left in
    elim (behind_rank n.first_is.item n.first_is.items n.first_is.front.above) [
      | inl above ↦
          true≢false (sym below ∙ ap (λ (h : Head). nat_lt (head_rank after) (head_rank h)) n.head_is ∙ ap (λ (o : Option Head). nat_lt (rank_at o) (head_rank (item_head n.first_is.item))) after_is ∙ above)
      | inr none ↦ none_is_some after (after_is ∙ ap first_head none)
    ]

pub reads_made : (layers : ℕ) (told : Option Runs) (reader : RunReader) → IfSome told (λ runs. Stands runs reader.cursor.run) → IfSome told (λ runs. AreItems layers (drop reader.cursor.at (bytes_of_run runs reader.cursor.run)))
    → IfSome told (λ runs. reader.cursor.head ≡ first_head (left_in runs reader.cursor.run reader.cursor.at)) → IfSome told (λ runs. IsAhead runs reader.cursor.run reader.window) → IfSome told (Reads layers reader)
reads_made layers None reader stands items head ahead = tt
reads_made layers (Some runs) reader stands items head ahead = record { stands = stands; items = items; head = head; ahead = ahead }

pub reads_window : (layers : ℕ) (told : Option Runs) (reader : RunReader) (window : Window) → IfSome told (Reads layers reader) → IfSome told (λ runs. IsAhead runs reader.cursor.run window) → IfSome told (Reads layers (record { cursor = reader.cursor; window = window }))
reads_window layers None reader window is ahead = tt
reads_window layers (Some runs) reader window is ahead = record { stands = is.stands; items = is.items; head = is.head; ahead = ahead }

pub stands_of : (layers : ℕ) (told : Option Runs) (reader : RunReader) → IfSome told (Reads layers reader) → IfSome told (λ runs. Stands runs reader.cursor.run)
stands_of layers None reader is = tt
stands_of layers (Some runs) reader is = is.stands

pub left_behind : (layers : ℕ) (told : Option Runs) (reader : RunReader) (head : Head) → reader.cursor.head ≡ Some head → IfSome told (Reads layers reader) → left_if reader.cursor.run (reader.cursor.at + head.len) told ≡ drop 1 (left_if reader.cursor.run reader.cursor.at told)
left_behind layers None reader head e is = refl
left_behind layers (Some runs) reader head e is = let n = next layers reader head runs e is in n.left ∙ ap (drop 1) (sym n.first_is.all)

-- ---- what is told of a reader, when its item is read

-- what was put behind `old` is the text of the item that is next
pub record Whole (layers : ℕ) (reader : RunReader) (head : Head) (old new : List ℕ) (runs : Runs) : Type 0 where
  pub next_is : Next layers reader head runs
  pub text : new ≡ old ++ item_text next_is.first_is.item

pub whole : (layers : ℕ) (told : Option Runs) (reader : RunReader) (head : Head) (old new : List ℕ) → reader.cursor.head ≡ Some head → IfSome told (Reads layers reader)
    → IfSome told (λ runs. new ≡ old ++ slice_range (bytes_of_run runs reader.cursor.run) reader.cursor.at (reader.cursor.at + head.len)) → IfSome told (Whole layers reader head old new)
whole layers None reader head old new e is text = tt
whole layers (Some runs) reader head old new e is text =
    let n = next layers reader head runs e is in
    record { next_is = n; text = text ∙ ap (λ (l : List ℕ). old ++ l) (first_text layers runs reader.cursor.run reader.cursor.at head.len n.first_is n.len_is) }

-- what a reader of items answers at a place
abbrev pub Read : Type 0
Read = RunItem × ℕ

abbrev pub ReadsItem : List ℕ → ℕ → Option Read → Type 0
ReadsItem bytes at read = (item : RunItem) (end : ℕ) → IsItem item → Fits item → StandsAt bytes at item end → read ≡ Some (item, end)

read_is : (layers : ℕ) (reader : RunReader) (head : Head) (old new : List ℕ) (read : Option Read) (runs : Runs) → (w : Whole layers reader head old new runs) → ReadsItem new (length old) read → read ≡ Some (w.next_is.first_is.item, length new)
read_is layers reader head old new read runs w reads =
    let item = w.next_is.first_is.item in
    let is = w.next_is.first_is.front.item in
    reads item (length new) is.is is.types (stands_behind old new item w.text)

pub read_none : (layers : ℕ) (told : Option Runs) (reader : RunReader) (head : Head) (old new : List ℕ) (read : Option Read) → IfSome told (Whole layers reader head old new) → ReadsItem new (length old) read → read ≡ None → IfSome told (λ runs. ⊥)
read_none layers None reader head old new read w reads e = tt
read_none layers (Some runs) reader head old new read w reads e = none_is_some (w.next_is.first_is.item, length new) (sym (read_is layers reader head old new read runs w reads) ∙ e)

-- the item that was read is the one that is next
pub record IsFirst (layers : ℕ) (reader : RunReader) (head : Head) (item : RunItem) (end size : ℕ) (runs : Runs) : Type 0 where
  pub end_is : end ≡ size
  pub prefix : head.prefix ≡ prefix_number item.key
  pub suffix : head.suffix ≡ suffix_number item.key
  pub layer : item.key.layer < layers
  pub front : left_in runs reader.cursor.run reader.cursor.at ≡ item ∷ drop 1 (left_in runs reader.cursor.run reader.cursor.at)

pub read_first : (layers : ℕ) (told : Option Runs) (reader : RunReader) (head : Head) (old new : List ℕ) (read : Option Read) (item : RunItem) (end : ℕ) → IfSome told (Whole layers reader head old new) → ReadsItem new (length old) read → read ≡ Some (item, end)
    → IfSome told (IsFirst layers reader head item end (length new))
unfolding item_head
read_first layers None reader head old new read item end w reads e = tt
read_first layers (Some runs) reader head old new read item end w reads e =
    let x = w.next_is.first_is.item in
    let same = some_same {A = Read} (x, length new) (item, end) (sym (read_is layers reader head old new read runs w reads) ∙ e) in
    let item_is : x ≡ item = ap (λ (p : Read). p.0) same in
    let left = left_in runs reader.cursor.run reader.cursor.at in
    record {
      end_is = sym (ap (λ (p : Read). p.1) same);
      prefix = ap (λ (h : Head). h.prefix) w.next_is.head_is ∙ ap (λ (y : RunItem). prefix_number y.key) item_is;
      suffix = ap (λ (h : Head). h.suffix) w.next_is.head_is ∙ ap (λ (y : RunItem). suffix_number y.key) item_is;
      layer = subst (λ (y : RunItem). y.key.layer < layers) item_is w.next_is.first_is.front.item.layer;
      front = w.next_is.first_is.all ∙ (λ i. item_is i ∷ drop 1 (sym w.next_is.first_is.all i));
    }

pub first_not : (layers : ℕ) (told : Option Runs) (reader : RunReader) (head : Head) (item : RunItem) (end size : ℕ) → IfSome told (IsFirst layers reader head item end size)
    → ((end ≡ size) → (head.prefix ≡ prefix_number item.key) → (head.suffix ≡ suffix_number item.key) → item.key.layer < layers → ⊥) → IfSome told (λ runs. ⊥)
first_not layers None reader head item end size is wrong = tt
first_not layers (Some runs) reader head item end size is wrong = wrong is.end_is is.prefix is.suffix is.layer

pub front_of : (layers : ℕ) (told : Option Runs) (reader : RunReader) (head : Head) (item : RunItem) (end size : ℕ) → IfSome told (IsFirst layers reader head item end size)
    → IfSome told (λ runs. left_in runs reader.cursor.run reader.cursor.at ≡ item ∷ drop 1 (left_in runs reader.cursor.run reader.cursor.at))
front_of layers None reader head item end size is = tt
front_of layers (Some runs) reader head item end size is = is.front

-- ---- bytes that are put piece by piece

take-more : (bytes : List ℕ) (m n : ℕ) → take (m + n) bytes ≡ take m bytes ++ take n (drop m bytes)
take-more bytes m n = sym (take-append-drop m (take (m + n) bytes)) ∙ (λ i. take-take m (m + n) bytes (omega arith) i ++ drop-take m n bytes i)

pub front_more : (old out new part : List ℕ) → out ≡ old ++ drop (length old) out → new ≡ out ++ part → new ≡ old ++ drop (length old) new
front_more old out new part e f =
    let whole : new ≡ old ++ (drop (length old) out ++ part) = f ∙ ap (λ (l : List ℕ). l ++ part) e ∙ append_assoc old (drop (length old) out) part in
    whole ∙ ap (λ (l : List ℕ). old ++ l) (sym (ap (drop (length old)) whole ∙ drop_at old (drop (length old) out ++ part) (length old) refl))

pub put_more : (told : Option Runs) (run : NamedRun) (at put size : ℕ) (w : Window) (old out new part : List ℕ) → IfSome told (λ runs. out ≡ old ++ slice_range (bytes_of_run runs run) at (at + put)) → IfSome told (λ runs. IsAhead runs run w)
    → w.from ≤ at + put → at + put + size ≤ w.from + length w.bytes.items → part ≡ slice_range w.bytes.items (at + put - w.from) (at + put - w.from + size) → new ≡ out ++ part
    → IfSome told (λ runs. new ≡ old ++ slice_range (bytes_of_run runs run) at (at + (put + size)))
put_more None run at put size w old out new part text ahead begin end part_is new_is = tt
put_more (Some runs) run at put size w old out new part text ahead begin end part_is new_is =
    let bytes = bytes_of_run runs run in
    let piece : part ≡ take size (drop put (drop at bytes)) = part_is ∙ ahead_part runs run w (at + put) size ahead begin end ∙ ap (take size) (sym (drop-drop put at bytes)) in
    new_is
    ∙ (λ i. text i ++ piece i)
    ∙ ap (λ (l : List ℕ). old ++ l ++ take size (drop put (drop at bytes))) (slice-is bytes at put)
    ∙ append_assoc old (take put (drop at bytes)) (take size (drop put (drop at bytes)))
    ∙ ap (λ (l : List ℕ). old ++ l) (sym (take-more (drop at bytes) put size) ∙ sym (slice-is bytes at (put + size)))
