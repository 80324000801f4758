-- A build has far fewer entries than can be read back.
use Rattle.std.proofs.Common.{◌≡◌, ℕ, ◌+◌, ◌-◌, ◌^◌, ◌<◌, ◌≤◌, Bool, true, false, cond, Option, None, Some, List, [], ◌∷◌, length, map, filter_map, ap, ◌∙◌, arith}
use Rattle.std.proofs.lemmas.List.{length-map}
use Rattle.std.proofs.lemmas.List.FromFn.{length-range_with_len}
use Rattle.std.specs.List.{fold, cons_option}
use Rattle.mvt_codec.specs.declared.item.RunItem.{RunItem}
use Rattle.pmtiles_dirs.specs.Contents.{Tile, Stretch, with_tile, one_tile, one_more, continues, contents_of, stretches_of, entry_for, entries_of}
use Rattle.hilbert_ids.specs.Ids.{number_of, first_id_of}
use Rattle.hilbert_ids.proofs.Numbers.{first_id_mono}
use Rattle.sorted_lists.specs.Grouping.{group_of}
use Rattle.tile_model.specs.Features.{Feature, item_at}
use Rattle.tile_model.specs.Keys.{item_less}
use Rattle.tile_model.specs.Walks.{rows_in}
use Rattle.tile_model.specs.Tiles.{tiles_between, built_tiles}
use Rattle.tile_model.proofs.Proved as laws

-- a tile makes at most one stretch more
one-if : (b : Bool) (s : Stretch) (t : Tile) → length (cond b (one_more s ∷ []) (s ∷ one_tile t ∷ [])) ≤ 2
one-if true s t = omega arith
one-if false s t = omega arith

more-stretches : (stretches : List Stretch) (t : Tile) → length (with_tile stretches t) ≤ length stretches + 1
more-stretches [] t = omega arith
more-stretches (s ∷ []) t = one-if (continues s t) s t
more-stretches (s ∷ next ∷ stretches) t = let h = more-stretches (next ∷ stretches) t in omega (arith, h)

few-stretches : (stretches : List Stretch) (tiles : List Tile) → length (fold with_tile stretches tiles) ≤ length stretches + length tiles
few-stretches stretches [] = omega arith
few-stretches stretches (t ∷ tiles) =
    let h = few-stretches (with_tile stretches t) tiles in
    let k = more-stretches stretches t in
    omega (arith, h, k)

few-entries : (tiles : List Tile) → length (entries_of tiles) ≤ length tiles
unfolding entries_of stretches_of
few-entries tiles =
    let same = length-map (stretches_of tiles) (entry_for (contents_of tiles)) in
    let h = few-stretches [] tiles in
    omega (arith, same, h)

module _ {A B : Type 0} (f : A → Option B) where
  fewer-if : (o : Option B) (ys : List B) (n : ℕ) → length ys ≤ n → length (cons_option o ys) ≤ n + 1
  fewer-if None ys n h = omega (arith, h)
  fewer-if (Some y) ys n h = omega (arith, h)

  fewer : (xs : List A) → length (filter_map f xs) ≤ length xs
  fewer [] = omega arith
  fewer (x ∷ xs) = let h = fewer-if (f x) (filter_map f xs) (length xs) (fewer xs) in omega (arith, h)

few-ids : (min max : ℕ) → min ≤ max → max ≤ 14 → length (tiles_between min max) < 2 ^ 35
few-ids min max h k =
    let same : length (map number_of (tiles_between min max)) ≡ first_id_of (max + 1) - first_id_of min =
    ap length (laws.build.ids min max h (omega (arith, k))) ∙ length-range_with_len (first_id_of min) (first_id_of (max + 1) - first_id_of min) in
    let mapped = length-map (tiles_between min max) number_of in
    let most = first_id_mono (max + 1) 15 (omega (arith, k)) in
    let last : first_id_of 15 ≤ 2 ^ 34 = omega arith in
    omega (arith, same, mapped, most, last)

pub few-built : (features : List Feature) (min max : ℕ) (f : ℕ × List RunItem → Tile) → min ≤ max → max ≤ 14 → length (entries_of (map f (built_tiles features min max))) < 2 ^ 35
few-built features min max f h k =
    let entries = few-entries (map f (built_tiles features min max)) in
    let same = length-map (built_tiles features min max) f in
    let few = fewer (λ t. group_of (number_of t) (rows_in item_less item_at features t)) (tiles_between min max) in
    let ids = few-ids min max h k in
    omega (arith, entries, same, few, ids)
