-- The items of a build, emitted feature after feature, are its tiles once they are in order.
use Rattle.std.proofs.Common.{◌≡◌, ◌≢◌, ◌↔◌, ℕ, ◌≤◌, nat_le, ◌&&◌, Bool, true, false, cond, Option, Some, None, IfSome, is_some, option_map, List, [], ◌∷◌, get_or, filter, filter_map, flat_map, All, AllPairs, Contains, refl, sym, ap, subst, ◌∙◌, true≢false, arith}
use Rattle.std.proofs.lemmas.Bool.Decides.{nat_tests}
use Rattle.std.proofs.lemmas.List.Elements.{recursion_from_All, All-from_recursion, All-contains}
use Rattle.std.proofs.lemmas.List.Kept.{AllPairs-filter}
use Rattle.std.specs.List.{AllByRecursion}
use Rattle.std.specs.List.Sorted.{IsSortedBy, IsPermutation}
use Rattle.tb_types.specs.declared.tile.TileXyz.{TileXyz}
use Rattle.hilbert_ids.specs.Ids.{number_of, last_zoom}
use Rattle.mvt_codec.specs.declared.row.TileRow.{TileRow}
use Rattle.mvt_codec.specs.declared.item.ItemKey.{ItemKey}
use Rattle.mvt_codec.specs.declared.item.RunItem.{RunItem}
use Rattle.sorted_lists.specs.Sorting.{sorted_by, KeysDiffer, TiesAreEqual}
use Rattle.sorted_lists.specs.Grouping.{grouped_by, elements_of, AreGroups}
use Rattle.sorted_lists.proofs.Orders.{each_weaker, Pairs, pairs_from_AllPairs, AllPairs_from_pairs}
use Rattle.sorted_lists.proofs.Kept.{contains-flat_map, contains-filter}
use Rattle.sorted_lists.proofs.Members.{members}
use Rattle.sorted_lists.proofs.Shuffles.{choice-some, choice-permutation}
use Rattle.sorted_lists.proofs.Keys
use Rattle.tile_model.specs.Walks.{by_feature, Reaches, AreTiles}
use Rattle.tile_model.specs.Keys.{key_cmp, item_less, tile_of}
use Rattle.tile_model.specs.Features.{Feature, Name, name_of, as_item, item_at}
use Rattle.tile_model.specs.Tiles.{IsTileAt, zooms, tiles_between, built_tiles, built_items, IsTold, tiles_at, zoom_items, emitted_items}
use Rattle.tile_model.specs.BuildLaws.{IsWithin}
use Rattle.tile_model.proofs.Walking.{walked}
use Rattle.tile_model.proofs.Tiled
use Rattle.tile_model.proofs.Differing
use Rattle.tile_model.proofs.Lists.{choice-over, once-walked, range-climbs, each_contained}
use Rattle.tile_model.proofs.TileLists.{contains-tiles_at, tiles_at-once, contains-zooms, contains-tiles, tiles-once, ascend}
use Rattle.tile_model.proofs.KeyOrder.{total, exact, item_order, tile_first}

-- what an item is made of
own-if : (b : Bool) (f : Feature) (t : TileXyz) (r : Option TileRow) → IfSome (cond b (option_map (as_item f t) r) None) (λ x. tile_of x ≡ number_of t)
own-if true f t (Some row) = refl
own-if true f t None = tt
own-if false f t r = tt

own : (f : Feature) (t : TileXyz) → IfSome (item_at f t) (λ x. tile_of x ≡ number_of t)
own f t = own-if (nat_le f.min t.z && nat_le t.z f.max) f t (f.row t)

abbrev item_name : RunItem → Name
item_name x = (x.key.kind, x.key.place, x.key.rule)

name-if : (b : Bool) (f : Feature) (t : TileXyz) (r : Option TileRow) → IfSome (cond b (option_map (as_item f t) r) None) (λ x. item_name x ≡ name_of f)
name-if true f t (Some row) = refl
name-if true f t None = tt
name-if false f t r = tt

name-own : (f : Feature) (t : TileXyz) → IfSome (item_at f t) (λ x. item_name x ≡ name_of f)
name-own f t = name-if (nat_le f.min t.z && nat_le t.z f.max) f t (f.row t)

some-if : (b : Bool) (f : Feature) (t : TileXyz) (r : Option TileRow) → is_some (cond b (option_map (as_item f t) r) None) ≡ true ↔ ((b ≡ true) × (is_some r ≡ true))
some-if true f t (Some row) = (λ e. (refl, refl), λ e. refl)
some-if true f t None = (λ e. (refl, e), λ e. e.1)
some-if false f t r = (λ e. (e, absurd (true≢false (sym e))), λ e. e.0)

has-zoom : (f : Feature) (t : TileXyz) → (nat_le f.min t.z && nat_le t.z f.max) ≡ true ↔ ((f.min ≤ t.z) × (t.z ≤ f.max))
has-zoom f t = (λ e. (grind (arith, nat_tests), grind (arith, nat_tests)), λ h. grind (arith, nat_tests))

pub are-tiles : (features : List Feature) (min max : ℕ) → max ≤ last_zoom → AreTiles item_less tile_of number_of item_at features (tiles_between min max)
are-tiles features min max h = record {
  order = item_order;
  class_first = tile_first;
  ascend = ascend min max h;
  own = λ i t le j f lt. own (get_or features j f) (get_or (tiles_between min max) i t);
}

-- a feature reaches the tiles that are told of it
module _ (min max : ℕ) (told : Feature → ℕ → List TileXyz) (f : Feature) (within : IsWithin min max f) (is : AllByRecursion (λ z. IsTold f z (told f z)) (zooms f.min f.max)) where
  is-at : (z : ℕ) → Contains (zooms f.min f.max) z → IsTold f z (told f z)
  is-at z c = All-contains (λ z. IsTold f z (told f z)) (zooms f.min f.max) z (All-from_recursion _ (zooms f.min f.max) is) c

  abbrev reach : List TileXyz
  reach = flat_map (told f) (zooms f.min f.max)

  once : Pairs (λ s t. s ≢ t) reach
  once =
      once-walked (λ (t : TileXyz). t.z) (told f) (zooms f.min f.max) (range-climbs f.min _)
      (each_contained _ (zooms f.min f.max) (λ z c. each_contained (λ (t : TileXyz). t.z ≡ z) (told f z) (λ t d. (((is-at z c).just t).0 d).0.zoom)))
      (each_weaker (λ z. IsTold f z (told f z)) _ (λ z h. pairs_from_AllPairs (λ s t. s ≢ t) (told f z) h.once) (zooms f.min f.max) is)

  pub reaches : Reaches item_at (tiles_between min max) f reach
  reaches = record { once = AllPairs_from_pairs (λ s t. s ≢ t) reach once; just = λ t. (there t, back t) }
    where
      there : (t : TileXyz) → Contains reach t → Contains (tiles_between min max) t × (is_some (item_at f t) ≡ true)
      there t c =
          let r = (contains-flat_map (told f) (zooms f.min f.max) t).0 c in
          let z = (contains-zooms f.min f.max r.0).0 r.1 in
          let h = ((is-at r.0 r.1).just t).0 r.2 in
          let same : t.z ≡ r.0 = h.0.zoom in
          let at : IsTileAt t.z t = subst (λ n. IsTileAt n t) (sym same) h.0 in (
            (contains-tiles min max t).1 (omega (arith, z.0, same, within.first), omega (arith, z.1, same, within.last), at),
            (some-if (nat_le f.min t.z && nat_le t.z f.max) f t (f.row t)).1 ((has-zoom f t).1 (omega (arith, z.0, same), omega (arith, z.1, same)), h.1),
          )

      back : (t : TileXyz) → Contains (tiles_between min max) t × (is_some (item_at f t) ≡ true) → Contains reach t
      back t h =
          let s = (some-if (nat_le f.min t.z && nat_le t.z f.max) f t (f.row t)).0 h.1 in
          let z = (contains-zooms f.min f.max t.z).1 ((has-zoom f t).0 s.0) in
          let at = (contains-tiles min max t).0 h.0 in
          (contains-flat_map (told f) (zooms f.min f.max) t).1 (t.z, z, ((is-at t.z z).just t).1 (at.2, s.1))

-- the tiles of a zoom that a feature has an item in
abbrev has : Feature → TileXyz → Bool
has f t = is_some (item_at f t)

abbrev found : Feature → ℕ → List TileXyz
found f z = filter (has f) (tiles_at z)

found-at : (f : Feature) (z : ℕ) (t : TileXyz) → f.min ≤ z → z ≤ f.max → Contains (found f z) t ↔ (IsTileAt z t × (is_some (f.row t) ≡ true))
found-at f z t low high = (there, back)
  where
    there : Contains (found f z) t → IsTileAt z t × (is_some (f.row t) ≡ true)
    there c =
        let h = (contains-filter (has f) (tiles_at z) t).0 c in
        ((contains-tiles_at z t).0 h.0, ((some-if (nat_le f.min t.z && nat_le t.z f.max) f t (f.row t)).0 h.1).1)

    back : IsTileAt z t × (is_some (f.row t) ≡ true) → Contains (found f z) t
    back h =
        let same = h.0.zoom in
        (contains-filter (has f) (tiles_at z) t).1
        ((contains-tiles_at z t).1 h.0, (some-if (nat_le f.min t.z && nat_le t.z f.max) f t (f.row t)).1 ((has-zoom f t).1 (omega (arith, low, same), omega (arith, high, same)), h.1))

found-once : (f : Feature) (z : ℕ) → AllPairs (λ s t. s ≢ t) (found f z)
found-once f z = AllPairs-filter (λ s t. s ≢ t) (has f) (tiles_at z) (AllPairs_from_pairs (λ s t. s ≢ t) (tiles_at z) (tiles_at-once z))

is-found : (f : Feature) → AllByRecursion (λ z. IsTold f z (found f z)) (zooms f.min f.max)
is-found f =
    each_contained (λ z. IsTold f z (found f z)) (zooms f.min f.max)
    (λ z c. let h = (contains-zooms f.min f.max z).0 c in record { once = found-once f z; just = λ t. found-at f z t h.0 h.1 })

pub told-zoom : (f : Feature) (z : ℕ) (tiles : List TileXyz) → f.min ≤ z → z ≤ f.max → IsTold f z tiles → IsPermutation (zoom_items f z) (filter_map (item_at f) tiles)
told-zoom f z tiles low high is =
    let m = members (found f z) tiles (found-once f z) is.once (λ t. (λ c. (is.just t).1 ((found-at f z t low high).0 c), λ c. (found-at f z t low high).1 ((is.just t).0 c))) in
    subst (λ l. IsPermutation l (filter_map (item_at f) tiles)) (choice-some (item_at f) (tiles_at z)) (choice-permutation (item_at f) (found f z) tiles m)

emitted-is : (features : List Feature) → by_feature item_at (λ f. flat_map (found f) (zooms f.min f.max)) features ≡ emitted_items features
emitted-is features =
    (λ i. flat_map (λ f. choice-over (item_at f) (found f) (zooms f.min f.max) i) features)
    ∙ (λ i. flat_map (λ f. flat_map (λ z. choice-some (item_at f) (tiles_at z) i) (zooms f.min f.max)) features)

each-reach : (min max : ℕ) (features : List Feature) → AllByRecursion (IsWithin min max) features
    → AllByRecursion (λ f. Reaches item_at (tiles_between min max) f (flat_map (found f) (zooms f.min f.max))) features
each-reach min max [] h = tt
each-reach min max (f ∷ features) h = (reaches min max found f h.0 (is-found f), each-reach min max features h.1)

pub all-emitted : (features met : List Feature) (min max : ℕ) → All (IsWithin min max) features → IsPermutation features met → IsPermutation (built_items features min max) (emitted_items met)
all-emitted features met min max h m =
    subst (IsPermutation (built_items features min max)) (emitted-is met)
    (walked item_at features met (tiles_between min max) (λ f. flat_map (found f) (zooms f.min f.max)) (tiles-once min max) m
    (All-from_recursion _ features (each-reach min max features (recursion_from_All _ features h))))

pub keys-differ : (features : List Feature) (min max : ℕ) → max ≤ last_zoom → KeysDiffer name_of features → KeysDiffer (λ (item : RunItem). item.key) (built_items features min max)
keys-differ features min max h differ =
    Differing.differ (λ (item : RunItem). item.key) item_name name_of tile_of number_of item_at
    (λ x y e. (ap (λ (k : ItemKey). k.tile) e, ap (λ (k : ItemKey). (k.kind, k.place, k.rule)) e))
    item_less features (tiles_between min max) (are-tiles features min max h) (λ i t le j f lt. name-own (get_or features j f) (get_or (tiles_between min max) i t)) differ

pub ties : (features : List Feature) (min max : ℕ) → max ≤ last_zoom → KeysDiffer name_of features → TiesAreEqual item_less (built_items features min max)
ties features min max h differ =
    Keys.differ (λ (item : RunItem). item.key) key_cmp (built_items features min max) total exact (keys-differ features min max h differ)

pub kept : (features : List Feature) (min max : ℕ) → max ≤ last_zoom → IsPermutation (built_items features min max) (elements_of (built_tiles features min max))
kept features min max h = (Tiled.tells item_less tile_of number_of item_at features (tiles_between min max) (are-tiles features min max h)).same

module _ (features : List Feature) (min max : ℕ) (items : List RunItem) (h : max ≤ last_zoom) (differ : KeysDiffer name_of features) (m : IsPermutation (built_items features min max) items) where
  pub grouped : IsSortedBy item_less items → grouped_by tile_of items ≡ built_tiles features min max
  grouped up =
      Tiled.grouped item_less tile_of number_of item_at features (tiles_between min max) (are-tiles features min max h) (ties features min max h differ) items m up

  pub sorted : grouped_by tile_of (sorted_by item_less items) ≡ built_tiles features min max
  sorted = Tiled.sorted item_less tile_of number_of item_at features (tiles_between min max) (are-tiles features min max h) (ties features min max h differ) items m

  pub told : (groups : List (ℕ × List RunItem)) → AreGroups item_less tile_of items groups → groups ≡ built_tiles features min max
  told groups are =
      Tiled.told item_less tile_of number_of item_at features (tiles_between min max) (are-tiles features min max h) (ties features min max h differ) items m groups are
