-- The runs that the passes wrote are such as a merge may begin with, and their groups are the rows of the tiles.
use Rattle.std.proofs.Common.{◌≡◌, ℕ, ◌+◌, ◌<◌, ◌≤◌, nat_lt, Option, None, Some, IfSome, IsSome, List, [], ◌∷◌, ◌++◌, length, get_or, map, filter_map, option_map, All, refl, sym, ap, subst, ◌∙◌, arith, true≢false}
use Rattle.std.specs.List.{AllByRecursion, cons_option}
use Rattle.std.specs.List.Sorted.{IsPermutation}
use Rattle.std.proofs.lemmas.List.{append-nil, length-map, get_or-map}
use Rattle.std.proofs.lemmas.Bool.{lt-ltb, le-ltb}
use Rattle.std.proofs.lemmas.List.Elements.{All-from_recursion, recursion_from_All, filter_map-append}
use Rattle.std.proofs.lemmas.List.Sorted.{All-permutation, IsPermutation-trans, IsPermutation-refl}
use Rattle.tb_outside.specs.Spill.{Runs, SpillSeen}
use Rattle.tb_outside.specs.declared.spill.RunAt.{RunAt}
use Rattle.sorted_lists.specs.Sorting.{by_rank, sorted_by, KeysDiffer}
use Rattle.sorted_lists.specs.Grouping.{grouped_by}
use Rattle.sorted_lists.specs.Merging.{concatenated}
use Rattle.sorted_lists.proofs.Orders.{Pairs, AllPairs_from_pairs, each_weaker}
use Rattle.sorted_lists.proofs.Proved as lists
use Rattle.profile_rules.specs.declared.parts.Parts.{Parts}
use Rattle.profile_rules.specs.Fields.{layers_of}
use Rattle.profile_rules.specs.Sound.{IsSound}
use Rattle.mvt_codec.specs.declared.item.RunItem.{RunItem}
use Rattle.mvt_codec.specs.Items.{item_text, items_bytes, IsItem, Fits}
use Rattle.mvt_codec.specs.Order.{rank_of, kind_number, key_cmp, FitsKey}
use Rattle.mvt_codec.specs.declared.item.ItemKey.{ItemKey}
use Rattle.mvt_codec.proofs.KeyOrder.{key_laws}
use Rattle.std.specs.Cmp.{ranks}
use Rattle.std.specs.Ordering.{MatchOrdering}
use Rattle.std.specs.declared.cmp.Ordering.{Ordering}
use Rattle.std.specs.declared.cmp.Ordering.TheVariants.{Less, Equal, Greater}
use Rattle.std.specs.Ordering.{nat_cmp, int_cmp, ordering_then, is_lt}
use Rattle.tb_types.specs.Orders.{place_order}
use Rattle.tb_types.specs.declared.element.Kind.{Kind}
use Rattle.tb_types.specs.declared.element.Kind.TheVariants as kinds
use Rattle.tile_model.specs.Keys.{kind_rank, item_less, tile_of}
use Rattle.tile_model.specs.Keys as keys
use Rattle.tile_model.specs.BuildLaws.{IsWithin}
use Rattle.tile_model.specs.Features.{Feature, name_of}
use Rattle.tile_model.specs.Tiles.{built_tiles, built_items, emitted_items}
use Rattle.tile_model.proofs.Proved as laws
use Rattle.feature_runs.specs.Entry.{Entry, entry_of, bytes_of, nothing, AreSorted}
use Rattle.feature_runs.specs.Added.{IsListed, AreListed, joined, AreThere}
use Rattle.feature_runs.specs.ItemReading.{item_at}
use Rattle.feature_runs.specs.Writing as buffers
use Rattle.feature_runs.proofs.ItemWhole.{item_again}
use Rattle.run_merge.specs.Answers.{named, named_runs}
use Rattle.run_merge.specs.Items.{IsItemOf, AreItems, AreInOrder, item_rank, item_tile, items_in, groups_in}
use Rattle.run_merge.specs.Cursors.{IsRun, left_if}
use Rattle.run_merge.specs.Objects.{Objects}
use Rattle.run_merge.specs.Steps.{AreReadable, IsReadable, items_of}
use Rattle.run_merge.specs.declared.named_run.NamedRun.{NamedRun}
use Rattle.run_merge.specs.declared.named_run.Store.TheVariants as stores
use Rattle.run_merge.proofs.RunItems.{items_again, run_made}
use Rattle.tile_model.specs.Items.{IsSoundItem}
use Rattle.build_one.specs.Passes.{Ran}
use Rattle.build_one.specs.Answers.{IfTold}
use Rattle.build_one.proofs.MapDue.{seen_by, told_of, tell-if}

-- ---- entries are items

-- the item that an entry's bytes say
abbrev pub read_of : Entry → Option RunItem
read_of e = option_map (λ (x : RunItem × List ℕ). x.0) (item_at e.text)

read-good : (item : RunItem) → IsItem item → Fits item → read_of (entry_of item) ≡ Some item
read-good item is types =
    ap (λ bytes. option_map (λ (x : RunItem × List ℕ). x.0) (item_at bytes)) (sym (append-nil (item_text item))) ∙ ap (option_map (λ (x : RunItem × List ℕ). x.0)) (item_again item [] is types)

module _ (layers : ℕ) where
  -- an entry is that of an item of so many layers
  pub record IsGood (e : Entry) : Type 0 where
    pub item : RunItem
    pub each : IsItemOf layers item
    pub is : e ≡ entry_of item

  abbrev pub taken : List Entry → List RunItem
  taken es = filter_map read_of es

  pub good-items : (items : List RunItem) → AllByRecursion (IsItemOf layers) items → AllByRecursion IsGood (map entry_of items)
  good-items [] h = tt
  good-items (x ∷ xs) h = (record { item = x; each = h.0; is = refl }, good-items xs h.1)

  read-is : (e : Entry) (g : IsGood e) → read_of e ≡ Some g.item
  read-is e g = ap read_of g.is ∙ read-good g.item g.each.is g.each.types

  -- the items of good entries have these entries
  pub again : (es : List Entry) → AllByRecursion IsGood es → map entry_of (taken es) ≡ es
  again [] h = refl
  again (e ∷ es) h = ap (λ o. map entry_of (cons_option o (taken es))) (read-is e h.0) ∙ (λ i. sym h.0.is i ∷ again es h.1 i)

  pub good-taken : (es : List Entry) → AllByRecursion IsGood es → AllByRecursion (IsItemOf layers) (taken es)
  good-taken [] h = tt
  good-taken (e ∷ es) h = subst (λ o. AllByRecursion (IsItemOf layers) (cons_option o (taken es))) (sym (read-is e h.0)) (h.0.each, good-taken es h.1)

  pub taken-again : (items : List RunItem) → AllByRecursion (IsItemOf layers) items → taken (map entry_of items) ≡ items
  taken-again [] h = refl
  taken-again (x ∷ xs) h = ap (λ o. cons_option o (taken (map entry_of xs))) (read-good x h.0.is h.0.types) ∙ ap (λ ys. x ∷ ys) (taken-again xs h.1)

  bytes-of : (xs : List RunItem) → bytes_of (map entry_of xs) ≡ items_bytes xs
  bytes-of [] = refl
  bytes-of (x ∷ xs) = ap (λ bytes. item_text x ++ bytes) (bytes-of xs)

  pub bytes-taken : (es : List Entry) → AllByRecursion IsGood es → bytes_of es ≡ items_bytes (taken es)
  bytes-taken es h = ap bytes_of (sym (again es h)) ∙ bytes-of (taken es)

  -- entries in order are items in order
  pub in-order : (xs : List RunItem) → AreSorted (map entry_of xs) → AreInOrder xs
  unfolding item_rank
  in-order xs up = λ k d low le.
      let count = length-map xs entry_of in
      let one = get_or-map entry_of xs k d nothing (omega (arith, le)) in
      let two = get_or-map entry_of xs (k + 1) d nothing le in
      let rises = up k (omega (arith, le, count)) in
      le-ltb (item_rank (get_or xs (k + 1) d)) (item_rank (get_or xs k d)) (subst (λ (e : Entry). e.rank ≤ (entry_of (get_or xs (k + 1) d)).rank) one (subst (λ (e : Entry). (get_or (map entry_of xs) k nothing).rank ≤ e.rank) two rises))

  -- ---- a listed run is one of a merge

  listed-run : (limit : ℕ) (runs : Runs) (run : RunAt) (es : List Entry) → IsListed limit runs.ended run es → AllByRecursion IsGood es
      → IsRun layers runs (named (stores.Lane 0) run) × (items_in (get_or runs.ended run.run []) ≡ taken es)
  listed-run limit runs run es l good =
      let each = good-taken es good in
      let bytes : get_or runs.ended run.run [] ≡ items_bytes (taken es) = l.bytes ∙ bytes-taken es good in
      let up : AreInOrder (taken es) = in-order (taken es) (subst AreSorted (sym (again es good)) l.sorted) in (
        record {
          stands = record { ended = l.stands; len = l.len ∙ ap length (sym l.bytes) };
          items = subst (AreItems layers) (sym bytes) (run_made layers (taken es) each up);
        },
        ap items_in bytes ∙ items_again layers (taken es) each,
      )

  module _ {R : Type 0} (readers : List R) (s o : SpillSeen) (runs : Runs) (told : s.runs ≡ Some runs) where
    abbrev objects : Objects R
    objects = seen_by readers s o

    abbrev of-lane : List RunAt → List NamedRun
    of-lane listed = map (named (stores.Lane 0)) listed

    readable-each : (limit : ℕ) (listed : List RunAt) (entries : List (List Entry)) → AreListed limit runs.ended listed entries → AllByRecursion IsGood (joined entries) → AllByRecursion (IsReadable objects layers) (of-lane listed)
    readable-each limit [] [] l good = tt
    readable-each limit [] (es ∷ entries) l good = absurd l
    readable-each limit (run ∷ listed) [] l good = absurd l
    readable-each limit (run ∷ listed) (es ∷ entries) l good = (
      subst (λ (r : Option Runs). IfSome r (λ rs. IsRun layers rs (named (stores.Lane 0) run))) (sym told) (listed-run limit runs run es l.0 (front es (joined entries) good)).0,
      readable-each limit listed entries l.1 (behind es (joined entries) good),
    )
      where
        front : (xs ys : List Entry) → AllByRecursion IsGood (xs ++ ys) → AllByRecursion IsGood xs
        front [] ys h = tt
        front (x ∷ xs) ys h = (h.0, front xs ys h.1)

        behind : (xs ys : List Entry) → AllByRecursion IsGood (xs ++ ys) → AllByRecursion IsGood ys
        behind [] ys h = h
        behind (x ∷ xs) ys h = behind xs ys h.1

    items-each : (limit : ℕ) (listed : List RunAt) (entries : List (List Entry)) → AreListed limit runs.ended listed entries → AllByRecursion IsGood (joined entries)
        → concatenated (map (items_of objects) (of-lane listed)) ≡ taken (joined entries)
    items-each limit [] [] l good = refl
    items-each limit [] (es ∷ entries) l good = absurd l
    items-each limit (run ∷ listed) [] l good = absurd l
    items-each limit (run ∷ listed) (es ∷ entries) l good =
        (λ i. one i ++ items-each limit listed entries l.1 (behind es (joined entries) good) i) ∙ sym (filter_map-append read_of es (joined entries))
      where
        front : (xs ys : List Entry) → AllByRecursion IsGood (xs ++ ys) → AllByRecursion IsGood xs
        front [] ys h = tt
        front (x ∷ xs) ys h = (h.0, front xs ys h.1)

        behind : (xs ys : List Entry) → AllByRecursion IsGood (xs ++ ys) → AllByRecursion IsGood ys
        behind [] ys h = h
        behind (x ∷ xs) ys h = behind xs ys h.1

        one : items_of objects (named (stores.Lane 0) run) ≡ taken es
        one = ap (λ (r : Option Runs). left_if (named (stores.Lane 0) run) 0 r) told ∙ (listed-run limit runs run es l.0 (front es (joined entries) good)).1

-- ---- the order of ranks is that of keys

kind-same : (k : Kind) → kind_rank k ≡ kind_number k
kind-same kinds.Node = refl
kind-same kinds.Way = refl
kind-same kinds.Relation = refl

keys-same : (a b : ItemKey) → keys.key_cmp a b ≡ key_cmp a b
keys-same a b =
    λ i. ordering_then (nat_cmp a.tile b.tile) (ordering_then (nat_cmp a.layer b.layer) (ordering_then (int_cmp a.order b.order) (ordering_then (nat_cmp (kind-same a.kind i) (kind-same b.kind i)) (ordering_then (place_order a.place b.place) (nat_cmp a.rule b.rule)))))

less-is : (x y : ℕ) (o : Ordering) → MatchOrdering o (x < y) (x ≡ y) (y < x) → is_lt o ≡ nat_lt x y
less-is x y Less h = sym (lt-ltb x y h)
less-is x y Equal h = sym (le-ltb x y (omega (arith, h)))
less-is x y Greater h = sym (le-ltb x y (omega (arith, h)))

rank-less : (a b : RunItem) → FitsKey a.key → FitsKey b.key → by_rank item_rank a b ≡ item_less a b
unfolding item_rank
rank-less a b fa fb = sym (ap is_lt (keys-same a.key b.key ∙ key_laws.ranks a.key b.key fa fb) ∙ less-is (rank_of a.key) (rank_of b.key) (nat_cmp (rank_of a.key) (rank_of b.key)) (ranks (rank_of a.key) (rank_of b.key)))

less-pairs : (layers : ℕ) (xs : List RunItem) → AllByRecursion (IsItemOf layers) xs → Pairs (λ x y. by_rank item_rank y x ≡ item_less y x) xs
less-pairs layers [] h = tt
less-pairs layers (x ∷ xs) h = (each_weaker (IsItemOf layers) (λ y. by_rank item_rank y x ≡ item_less y x) (λ y g. rank-less y x g.types.key h.0.types.key) xs h.1, less-pairs layers xs h.1)

-- ---- what the passes ran

module _ {R : Type 0} (parts : Parts) (limit : ℕ) (readers : List R) (s t o : SpillSeen) (runs : List RunAt) (sound : IsSound parts) (ran : Ran parts limit s t runs) (kept : buffers.KeepsEnded s.runs t.runs) where
  abbrev layers : ℕ
  layers = length (layers_of parts)

  abbrev seen : Objects R
  seen = seen_by readers t o

  pub each-item : AllByRecursion (IsItemOf layers) ran.items
  each-item = both ran.items (recursion_from_All (IsSoundItem layers) ran.items ran.sound) (recursion_from_All IsItem ran.items ran.whole)
    where
      both : (xs : List RunItem) → AllByRecursion (IsSoundItem layers) xs → AllByRecursion IsItem xs → AllByRecursion (IsItemOf layers) xs
      both [] h k = tt
      both (x ∷ xs) h k = (record { is = k.0; types = h.0.types; layer = h.0.layer }, both xs h.1 k.1)

  all-named : named_runs (runs ∷ []) ≡ map (named (stores.Lane 0)) runs
  all-named = append-nil (map (named (stores.Lane 0)) runs)

  -- what stands in the runs, where the spill tells them
  module _ (there : AreThere (record { limit = limit; runs = runs; entries = [] }) t (map entry_of ran.items)) where
    abbrev entries : List Entry
    entries = joined there.added_are.lists

    same : IsPermutation (map entry_of ran.items) entries
    same = subst (IsPermutation (map entry_of ran.items)) (append-nil entries) there.added_are.same

    good : AllByRecursion (IsGood layers) entries
    good = recursion_from_All (IsGood layers) entries (All-permutation (IsGood layers) (map entry_of ran.items) entries same (All-from_recursion (IsGood layers) (map entry_of ran.items) (good-items layers ran.items each-item)))

    told-readable : AreReadable seen layers (named_runs (runs ∷ []))
    told-readable = subst (AreReadable seen layers) (sym all-named) (All-from_recursion (IsReadable seen layers) (map (named (stores.Lane 0)) runs)
        (readable-each layers readers t o there.runs there.told limit runs there.added_are.lists there.added_are.listed good))

    abbrev found : List RunItem
    found = taken layers entries

    moved : IsPermutation ran.items found
    moved = subst (λ xs. IsPermutation xs found) (taken-again layers ran.items each-item) ((lists.bags Entry Entry RunItem).valued read_of (map entry_of ran.items) entries same)

    all-items : concatenated (map (items_of seen) (named_runs (runs ∷ []))) ≡ found
    all-items = ap (λ ns. concatenated (map (items_of seen) ns)) all-named ∙ items-each layers readers t o there.runs there.told limit runs there.added_are.lists there.added_are.listed good

    in-keys : sorted_by (by_rank item_rank) found ≡ sorted_by item_less found
    in-keys = (lists.sorting RunItem).agreed (by_rank item_rank) item_less found (AllPairs_from_pairs (λ x y. by_rank item_rank y x ≡ item_less y x) found (less-pairs layers found (good-taken layers entries good)))

    told-grouped : (features : List Feature) → All (IsWithin parts.min parts.max) features → KeysDiffer name_of features → IsPermutation (emitted_items features) ran.items
        → groups_in (map (items_of seen) (named_runs (runs ∷ []))) ≡ built_tiles features parts.min parts.max
    told-grouped features within differ has =
        let few : parts.max ≤ 26 = let last = sound.last in omega (arith, last) in
        let built : IsPermutation (built_items features parts.min parts.max) (emitted_items features) = laws.build.emitted features features parts.min parts.max few within (IsPermutation-refl features) in
        ap (λ xs. grouped_by item_tile (sorted_by (by_rank item_rank) xs)) all-items ∙ (ap (grouped_by tile_of) in-keys
        ∙ laws.build.sorted features parts.min parts.max found few differ (IsPermutation-trans _ _ _ built (IsPermutation-trans _ _ _ has moved)))

  none-readable : t.runs ≡ None → AreReadable seen layers (named_runs (runs ∷ []))
  none-readable is = subst (AreReadable seen layers) (sym all-named) (All-from_recursion (IsReadable seen layers) (map (named (stores.Lane 0)) runs) (each runs))
    where
      each : (rs : List RunAt) → AllByRecursion (IsReadable seen layers) (map (named (stores.Lane 0)) rs)
      each [] = tt
      each (r ∷ rs) = (subst (λ (x : Option Runs). IfSome x (λ told. IsRun layers told (named (stores.Lane 0) r))) (sym is) tt, each rs)

  pub runs-readable : AreReadable seen layers (named_runs (runs ∷ []))
  runs-readable = by s.runs refl
    where
      by : (x : Option Runs) → s.runs ≡ x → AreReadable seen layers (named_runs (runs ∷ []))
      by None is = none-readable (subst (λ (x : Option Runs). buffers.KeepsEnded x t.runs) is kept)
      by (Some told) is = told-readable (ran.listed told is)

  pub runs-grouped : (features : List Feature) → All (IsWithin parts.min parts.max) features → KeysDiffer name_of features → IsPermutation (emitted_items features) ran.items
      → IfTold (told_of t o) (groups_in (map (items_of seen) (named_runs (runs ∷ []))) ≡ built_tiles features parts.min parts.max)
  runs-grouped features within differ has = tell-if readers t o _ (λ tell rs is. by s.runs refl (tell (stores.Lane 0)))
    where
      by : (x : Option Runs) → s.runs ≡ x → IsSome t.runs → groups_in (map (items_of seen) (named_runs (runs ∷ []))) ≡ built_tiles features parts.min parts.max
      by None is some = absurd (true≢false (sym (subst (λ (x : Option Runs). IsSome x) (subst (λ (x : Option Runs). buffers.KeepsEnded x t.runs) is kept) some)))
      by (Some told) is some = told-grouped (ran.listed told is) features within differ has
