-- All tiles of zooms, each once, by ascending id.
use Rattle.std.proofs.Common.{◌≡◌, ◌≢◌, ◌↔◌, ℕ, ◌+◌, ◌-◌, ◌^◌, ◌<◌, ◌≤◌, false, inl, inr, List, [], ◌∷◌, map, flat_map, Contains, AllPairs, refl, sym, ap, subst, ltb-false, arith}
use Rattle.std.proofs.lemmas.Bool.{cases_lt}
use Rattle.std.specs.List.{AllByRecursion, range_with_len}
use Rattle.std.specs.List.Sorted.{IsStrictlyIncreasing, IsPermutation}
use Rattle.std.proofs.lemmas.List.Sorted.{Contains-permutation, IsPermutation-sym}
use Rattle.tb_types.specs.Bags.{below}
use Rattle.tb_types.specs.declared.tile.TileXyz.{TileXyz}
use Rattle.sorted_lists.specs.Sorting.{by_rank, KeysDiffer}
use Rattle.sorted_lists.proofs.Orders.{Pairs, pairs_weaker, pairs_from_AllPairs, AllPairs_from_pairs, Ascends}
use Rattle.sorted_lists.proofs.Sorts.{keeps, sorted_ascends}
use Rattle.sorted_lists.proofs.Groups.{Climbs, climbs_from_increasing, increasing_from_climbs}
use Rattle.sorted_lists.proofs.Kept.{contains-flat_map}
use Rattle.sorted_lists.proofs.Keys.{ranked_order}
use Rattle.sorted_lists.proofs.Moved.{keys-moved}
use Rattle.sorted_lists.proofs.Climbing.{climbing-one}
use Rattle.hilbert_ids.specs.Ids.{number_of, first_id_of, last_zoom, IsTile}
use Rattle.hilbert_ids.proofs.Numbers.{first_id_mono}
use Rattle.hilbert_ids.proofs.Tiles.{one_to_one, in_zoom, number_is}
use Rattle.tile_model.specs.Tiles.{IsTileAt, zooms, tiles_in, tiles_at, tiles_between}
use Rattle.tile_model.proofs.Lists.{contains-range, contains-below, below-climbs, range-climbs, contains-map, pairs_both, pairs_map, once-walked, each_contained}

abbrev xyz : ℕ → ℕ → ℕ → TileXyz
xyz z x y = record { z = z; x = x; y = y }

abbrev column : ℕ → List ℕ → ℕ → List TileXyz
column z rows x = map (λ y. xyz z x y) rows

in-column : (z : ℕ) (rows : List ℕ) (x : ℕ) (t : TileXyz) → Contains (column z rows x) t → (t.z ≡ z) × (t.x ≡ x) × Contains rows t.y
in-column z rows x t c =
    let r = (contains-map (λ y. xyz z x y) rows t).0 c in
    (sym (ap (λ (s : TileXyz). s.z) r.2), sym (ap (λ (s : TileXyz). s.x) r.2), subst (Contains rows) (ap (λ (s : TileXyz). s.y) r.2) r.1)

-- the tiles in columns and rows
pub contains-tiles_in : (z : ℕ) (columns rows : List ℕ) (t : TileXyz) → Contains (tiles_in z columns rows) t ↔ ((t.z ≡ z) × Contains columns t.x × Contains rows t.y)
contains-tiles_in z columns rows t = (there, back)
  where
    there : Contains (tiles_in z columns rows) t → (t.z ≡ z) × Contains columns t.x × Contains rows t.y
    there c =
        let r = (contains-flat_map (column z rows) columns t).0 c in
        let at = in-column z rows r.0 t r.2 in
        (at.0, subst (Contains columns) (sym at.1) r.1, at.2)

    back : (t.z ≡ z) × Contains columns t.x × Contains rows t.y → Contains (tiles_in z columns rows) t
    back h =
        let e : xyz z t.x t.y ≡ t = ap (λ n. xyz n t.x t.y) (sym h.0) in
        (contains-flat_map (column z rows) columns t).1 (t.x, h.1, (contains-map (λ y. xyz z t.x y) rows t).1 (t.y, h.2, e))

column-once : (z : ℕ) (rows : List ℕ) (x : ℕ) → Climbs rows → Pairs (λ s t. s ≢ t) (column z rows x)
column-once z rows x up = pairs_map (λ s t. s ≢ t) (λ y. xyz z x y) rows (pairs_weaker (λ m n. m < n) (λ m n. xyz z x m ≢ xyz z x n) (λ m n h e. omega (arith, h, ap (λ (t : TileXyz). t.y) e)) rows up)

pub tiles_in-once : (z : ℕ) (columns rows : List ℕ) → Climbs columns → Climbs rows → Pairs (λ s t. s ≢ t) (tiles_in z columns rows)
tiles_in-once z columns rows up up' =
    once-walked (λ (t : TileXyz). t.x) (column z rows) columns up
    (each_contained _ columns (λ x c. each_contained (λ (t : TileXyz). t.x ≡ x) (column z rows x) (λ t d. (in-column z rows x t d).1)))
    (each_contained _ columns (λ x c. column-once z rows x up'))

-- the tiles of a zoom
pub contains-tiles_at : (z : ℕ) (t : TileXyz) → Contains (tiles_at z) t ↔ IsTileAt z t
contains-tiles_at z t = (
  λ c. let h = (contains-tiles_in z (below (2 ^ z)) (below (2 ^ z)) t).0 c in
      record { zoom = h.0; column = (contains-below (2 ^ z) t.x).0 h.1; row = (contains-below (2 ^ z) t.y).0 h.2 },
  λ is. (contains-tiles_in z (below (2 ^ z)) (below (2 ^ z)) t).1 (is.zoom, (contains-below (2 ^ z) t.x).1 is.column, (contains-below (2 ^ z) t.y).1 is.row),
)

pub tiles_at-once : (z : ℕ) → Pairs (λ s t. s ≢ t) (tiles_at z)
tiles_at-once z = tiles_in-once z (below (2 ^ z)) (below (2 ^ z)) (below-climbs (2 ^ z)) (below-climbs (2 ^ z))

-- the tiles of zooms, in any order
abbrev all_tiles : ℕ → ℕ → List TileXyz
all_tiles min max = flat_map tiles_at (zooms min max)

pub contains-zooms : (min max z : ℕ) → Contains (zooms min max) z ↔ ((min ≤ z) × (z ≤ max))
contains-zooms min max z = (
  λ c. let h = (contains-range min (max + 1 - min) z).0 c in (h.0, omega (arith, h.0, h.1)),
  λ h. (contains-range min (max + 1 - min) z).1 (h.0, omega (arith, h.0, h.1)),
)

contains-all : (min max : ℕ) (t : TileXyz) → Contains (all_tiles min max) t ↔ ((min ≤ t.z) × (t.z ≤ max) × IsTileAt t.z t)
contains-all min max t = (
  λ c. let r = (contains-flat_map tiles_at (zooms min max) t).0 c in
      let z = (contains-zooms min max r.0).0 r.1 in
      let is = (contains-tiles_at r.0 t).0 r.2 in
      (subst (λ n. min ≤ n) (sym is.zoom) z.0, subst (λ n. n ≤ max) (sym is.zoom) z.1, subst (λ n. IsTileAt n t) (sym is.zoom) is),
  λ h. (contains-flat_map tiles_at (zooms min max) t).1 (t.z, (contains-zooms min max t.z).1 (h.0, h.1), (contains-tiles_at t.z t).1 h.2),
)

all-once : (min max : ℕ) → Pairs (λ s t. s ≢ t) (all_tiles min max)
all-once min max =
    once-walked (λ (t : TileXyz). t.z) tiles_at (zooms min max) (range-climbs min (max + 1 - min))
    (each_contained _ (zooms min max) (λ z c. each_contained (λ (t : TileXyz). t.z ≡ z) (tiles_at z) (λ t d. ((contains-tiles_at z t).0 d).zoom)))
    (each_contained _ (zooms min max) (λ z c. tiles_at-once z))

is-tile : (max : ℕ) (t : TileXyz) → max ≤ last_zoom → t.z ≤ max → IsTileAt t.z t → IsTile t
is-tile max t h k is = record { zoom = omega (arith, h, k); column = is.column; row = is.row }

all-numbers : (min max : ℕ) → max ≤ last_zoom → KeysDiffer number_of (all_tiles min max)
all-numbers min max h =
    AllPairs_from_pairs (λ s t. number_of s ≢ number_of t) (all_tiles min max)
    (pairs_both IsTile (λ s t. s ≢ t) (λ s t. number_of s ≢ number_of t) (λ s t p q differ same. differ (one_to_one.apart s t p q same)) (all_tiles min max)
    (each_contained IsTile (all_tiles min max) (λ t c. let a = (contains-all min max t).0 c in is-tile max t h a.1 a.2)) (all-once min max))

moved : (min max : ℕ) → IsPermutation (all_tiles min max) (tiles_between min max)
unfolding tiles_between
moved min max = keeps (by_rank number_of) (all_tiles min max)

-- the tiles by ascending id
pub contains-tiles : (min max : ℕ) (t : TileXyz) → Contains (tiles_between min max) t ↔ ((min ≤ t.z) × (t.z ≤ max) × IsTileAt t.z t)
contains-tiles min max t = (
  λ c. (contains-all min max t).0 (Contains-permutation (tiles_between min max) (all_tiles min max) t (IsPermutation-sym _ _ (moved min max)) c),
  λ h. Contains-permutation (all_tiles min max) (tiles_between min max) t (moved min max) ((contains-all min max t).1 h),
)

pub numbers-differ : (min max : ℕ) → max ≤ last_zoom → KeysDiffer number_of (tiles_between min max)
numbers-differ min max h = keys-moved number_of (all_tiles min max) (tiles_between min max) (all-numbers min max h) (moved min max)

pub tiles-once : (min max : ℕ) → AllPairs (λ s t. s ≢ t) (tiles_between min max)
tiles-once min max = keys-moved (λ t. t) (all_tiles min max) (tiles_between min max) (AllPairs_from_pairs (λ s t. s ≢ t) (all_tiles min max) (all-once min max)) (moved min max)

tiles-ascend : (min max : ℕ) → Ascends (by_rank number_of) (tiles_between min max)
unfolding tiles_between
tiles-ascend min max = sorted_ascends (by_rank number_of) (ranked_order number_of) (all_tiles min max)

pub ascend : (min max : ℕ) → max ≤ last_zoom → IsStrictlyIncreasing (map number_of (tiles_between min max))
ascend min max h =
    increasing_from_climbs (map number_of (tiles_between min max))
    (pairs_map (λ m n. m < n) number_of (tiles_between min max)
    (pairs-and (tiles_between min max) (tiles-ascend min max) (pairs_from_AllPairs (λ s t. number_of s ≢ number_of t) (tiles_between min max) (numbers-differ min max h))))
  where
    each-and : (s : TileXyz) (ts : List TileXyz) → AllByRecursion (λ t. by_rank number_of t s ≡ false) ts → AllByRecursion (λ t. number_of s ≢ number_of t) ts → AllByRecursion (λ t. number_of s < number_of t) ts
    each-and s [] a b = tt
    each-and s (t ∷ ts) a b = let le = ltb-false (number_of t) (number_of s) a.0 in (omega (arith, le, b.0), each-and s ts a.1 b.1)

    pairs-and : (ts : List TileXyz) → Ascends (by_rank number_of) ts → Pairs (λ s t. number_of s ≢ number_of t) ts → Pairs (λ s t. number_of s < number_of t) ts
    pairs-and [] a b = tt
    pairs-and (t ∷ ts) a b = (each-and t ts a.0 b.0, pairs-and ts a.1 b.1)

-- their ids are all from the first of the lowest zoom on
in-zooms : (min max : ℕ) (t : TileXyz) → (min ≤ t.z) × (t.z ≤ max) × IsTileAt t.z t → (first_id_of min ≤ number_of t) × (number_of t < first_id_of (max + 1))
in-zooms min max t h =
    let low = first_id_mono min t.z h.0 in
    let high = first_id_mono (t.z + 1) (max + 1) (omega (arith, h.1)) in
    let at = in_zoom t.z t.x t.y h.2.column h.2.row in
    (omega (arith, number_is t, low), omega (arith, number_is t, at, high))

zoom-of : (min max : ℕ) (t : TileXyz) → IsTile t → first_id_of min ≤ number_of t → number_of t < first_id_of (max + 1) → (min ≤ t.z) × (t.z ≤ max)
zoom-of min max t is low high =
    let at = in_zoom t.z t.x t.y is.column is.row in
    let n = number_is t in (
      elim (cases_lt t.z min) [ inl h ↦ absurd (omega (arith, at, n, low, first_id_mono (t.z + 1) min (omega (arith, h)))) | inr h ↦ h ],
      elim (cases_lt max t.z) [ inl h ↦ absurd (omega (arith, n, high, first_id_mono (max + 1) t.z (omega (arith, h)))) | inr h ↦ h ],
    )

pub ids : (min max : ℕ) → min ≤ max → max ≤ last_zoom → map number_of (tiles_between min max) ≡ range_with_len (first_id_of min) (first_id_of (max + 1) - first_id_of min)
ids min max le h =
    let a = first_id_of min in
    let b = first_id_of (max + 1) in
    let ns = map number_of (tiles_between min max) in
    let up = first_id_mono min (max + 1) (omega (arith, le)) in
    let there : (n : ℕ) → Contains ns n → Contains (range_with_len a (b - a)) n =
    λ n c.
    (let r = (contains-map number_of (tiles_between min max) n).0 c in
    let at = in-zooms min max r.0 ((contains-tiles min max r.0).0 r.1) in
    (contains-range a (b - a) n).1 (subst (λ m. a ≤ m) r.2 at.0, omega (arith, up, subst (λ m. m < b) r.2 at.1))) in
    let back : (n : ℕ) → Contains (range_with_len a (b - a)) n → Contains ns n =
    λ n c.
    (let r = (contains-range a (b - a) n).0 c in
    let t = one_to_one.all n (omega (arith, up, r.1, first_id_mono (max + 1) 27 (omega (arith, h)))) in
    let z = zoom-of min max t.0 t.1 (subst (λ m. a ≤ m) (sym t.2) r.0) (subst (λ m. m < b) (sym t.2) (omega (arith, up, r.1))) in
    (contains-map number_of (tiles_between min max) n).1 (t.0, (contains-tiles min max t.0).1 (z.0, z.1, record { zoom = refl; column = t.1.column; row = t.1.row }), t.2)) in
    climbing-one ns (range_with_len a (b - a)) (climbs_from_increasing ns (ascend min max h)) (range-climbs a (b - a)) (λ n. (there n, back n))
