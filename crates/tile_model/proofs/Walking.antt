-- Features walked one by one, and tiles walked one by one.
use Rattle.std.proofs.Common.{◌≡◌, ◌≢◌, Bool, List, filter, filter_map, flat_map, Option, is_some, All, AllPairs, sym, subst}
use Rattle.std.proofs.lemmas.List.Elements.{recursion_from_All}
use Rattle.std.proofs.lemmas.List.Kept.{AllPairs-filter}
use Rattle.std.proofs.lemmas.List.Sorted.{IsPermutation-trans}
use Rattle.std.specs.List.Sorted.{IsPermutation}
use Rattle.std.specs.Option.{option_to_list}
use Rattle.sorted_lists.proofs.Orders.{each_weaker}
use Rattle.sorted_lists.proofs.Shuffles.{exchanged, flat_map-permutation, flat_map-alike, choice-walk, choice-permutation, choice-some}
use Rattle.sorted_lists.proofs.Members.{members}
use Rattle.sorted_lists.proofs.Kept.{contains-filter}
use Rattle.tile_model.specs.Walks.{by_tile, by_feature, Reaches}

module _ {F T X : Type 0} (item : F → T → Option X) where
  by_tile-walk : (features : List F) (tiles : List T) → by_tile item features tiles ≡ flat_map (λ t. flat_map (λ f. option_to_list (item f t)) features) tiles
  by_tile-walk features tiles = λ i. flat_map (λ t. choice-walk (λ f. item f t) features i) tiles

  whole-walk : (features : List F) (tiles : List T) → by_feature item (λ f. tiles) features ≡ flat_map (λ f. flat_map (λ t. option_to_list (item f t)) tiles) features
  whole-walk features tiles = λ i. flat_map (λ f. choice-walk (λ t. item f t) tiles i) features

  -- all tiles are walked for each feature
  walks : (features : List F) (tiles : List T) → IsPermutation (by_tile item features tiles) (by_feature item (λ f. tiles) features)
  walks features tiles =
      subst (λ l. IsPermutation l (by_feature item (λ f. tiles) features)) (sym (by_tile-walk features tiles))
      (subst (IsPermutation (flat_map (λ t. flat_map (λ f. option_to_list (item f t)) features) tiles)) (sym (whole-walk features tiles))
      (exchanged (λ t f. option_to_list (item f t)) tiles features))

  -- what a feature reaches is what is left of all tiles
  reached : (tiles : List T) (f : F) (ts : List T) → AllPairs (λ s t. s ≢ t) tiles → Reaches item tiles f ts → IsPermutation (filter_map (λ t. item f t) tiles) (filter_map (λ t. item f t) ts)
  reached tiles f ts apart r =
      let has : T → Bool = λ t. is_some (item f t) in
      let m = members (filter has tiles) ts (AllPairs-filter (λ s t. s ≢ t) has tiles apart) r.once
      (λ t. (λ c. (r.just t).1 ((contains-filter has tiles t).0 c), λ c. (contains-filter has tiles t).1 ((r.just t).0 c))) in
      subst (λ l. IsPermutation l (filter_map (λ t. item f t) ts)) (choice-some (λ t. item f t) tiles)
      (choice-permutation (λ t. item f t) (filter has tiles) ts m)

  pub walked : (features met : List F) (tiles : List T) (reach : F → List T) → AllPairs (λ s t. s ≢ t) tiles → IsPermutation features met
      → All (λ f. Reaches item tiles f (reach f)) features → IsPermutation (by_tile item features tiles) (by_feature item reach met)
  walked features met tiles reach apart m r =
      IsPermutation-trans _ _ _ (walks features tiles)
      (IsPermutation-trans _ _ _
      (flat_map-alike (λ f. filter_map (λ t. item f t) tiles) (λ f. filter_map (λ t. item f t) (reach f)) features
      (each_weaker _ _ (λ f h. reached tiles f (reach f) apart h) features (recursion_from_All _ features r)))
      (flat_map-permutation (λ f. filter_map (λ t. item f t) (reach f)) features met m))
