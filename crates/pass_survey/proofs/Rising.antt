-- What ascending blocks have ascends too, and lists in order of one bag are one.
use Rattle.std.proofs.Common.{◌≡◌, ◌≢◌, ℕ, suc, ◌<◌, Bool, true, false, true≢false, cond, ◌==◌, Option, Result, Ok, Err, List, [], ◌∷◌, ◌++◌, map, filter, flat_map, refl, sym, ap, subst, ◌∙◌, arith, inl, inr}
use Rattle.std.proofs.lemmas.Bool.{lt-ltb, le-ltb, eq-eqb}
use Rattle.std.proofs.lemmas.Cmp.{on_total, then_total, nat_cmp_total}
use Rattle.std.specs.Cmp.{IsTotalOrder, nat_cmp_is}
use Rattle.std.specs.List.{AllByRecursion}
use Rattle.std.specs.List.Sorted.{IsPermutation, IsSortedBy}
use Rattle.std.specs.Ordering.{is_lt, nat_cmp, ordering_then}
use Rattle.std.specs.declared.cmp.Ordering.{Ordering}
use Rattle.std.specs.declared.cmp.Ordering.TheVariants.{Less, Equal, Greater}
use Rattle.tb_types.specs.Orders.{place_order}
use Rattle.tb_types.specs.Results.{◌>>=◌}
use Rattle.tb_types.specs.declared.damage.Damage.{Damage}
use Rattle.tb_types.specs.declared.damage.Why.{Why}
use Rattle.tb_types.specs.declared.element.Place.{Place}
use Rattle.tb_types.specs.declared.location.Bounds.{Bounds}
use Rattle.pbf_blobs.specs.Blob.{raw_of}
use Rattle.pbf_blobs.specs.declared.block.BlockAt.{BlockAt}
use Rattle.pbf_blobs.specs.declared.block.BlockKind.{BlockKind}
use Rattle.pbf_blobs.specs.declared.block.BlockKind.TheVariants as kinds
use Rattle.osm_elements.specs.Block as osm
use Rattle.osm_elements.specs.Block.{block_of, elements_of, as_relation, numbered}
use Rattle.osm_elements.specs.Elements.{Element, node, way, relation}
use Rattle.osm_elements.specs.declared.element.Block.{Block}
use Rattle.osm_elements.specs.declared.element.RelEl.{RelEl}
use Rattle.profile_rules.specs.declared.parts.Parts.{Parts}
use Rattle.member_sets.specs.declared.kept.KeptRelation.{KeptRelation}
use Rattle.sorted_lists.specs.KeyLaws.{IsExact}
use Rattle.sorted_lists.specs.Sorting.{by_key}
use Rattle.sorted_lists.proofs.Orders.{each_weaker, each_append, each_filter, Pairs, pairs_weaker, AllPairs_from_pairs, sorted_from_ascends, not_below_itself}
use Rattle.sorted_lists.proofs.Proved as lists
use Rattle.sorted_lists.proofs.Told.{pairs_append}
use Rattle.tile_model.specs.Contents.{Content, header, elements, unread, header_in, block_in, content_of, in_block}
use Rattle.tile_model.specs.Extract.{is_kept}
use Rattle.tile_model.proofs.Lists.{pairs_map}
use Rattle.pass_survey.specs.declared.header.HeaderAt.{HeaderAt}
use Rattle.pass_survey.specs.Kept.{kept_of, kept_in}
use Rattle.pass_survey.specs.Taken.{Taken, IsHeld, number_of, damage_of, header_of, kept_held}

-- blocks whose numbers ascend
abbrev pub Ascend : List Taken → Type 0
Ascend taken = Pairs (λ t u. number_of t < number_of u) taken

-- a walk over them, where elements are marked by the numbers of their blocks
module _ {X : Type 0} (R : X → X → Type 0) (mark : X → ℕ) (f : Taken → List X) (cross : (x y : X) → mark x < mark y → R x y) where
  abbrev Own : Taken → Type 0
  Own t = AllByRecursion (λ x. mark x ≡ number_of t) (f t)

  across : (t : Taken) (us : List Taken) (x : X) → mark x ≡ number_of t → AllByRecursion (λ u. number_of t < number_of u) us → AllByRecursion Own us → AllByRecursion (R x) (flat_map f us)
  across t [] x p up own = tt
  across t (u ∷ us) x p up own =
      let less = up.0 in
      each_append (R x) (f u) (flat_map f us) (each_weaker (λ y. mark y ≡ number_of u) (R x) (λ y q. cross x y (omega (arith, p, q, less))) (f u) own.0) (across t us x p up.1 own.1)

  pub walked : (ts : List Taken) → Ascend ts → AllByRecursion Own ts → AllByRecursion (λ t. Pairs R (f t)) ts → Pairs R (flat_map f ts)
  walked [] up own each = tt
  walked (t ∷ ts) up own each =
      pairs_append R (f t) (flat_map f ts) each.0 (walked ts up.1 own.1 each.1)
      (each_weaker (λ x. mark x ≡ number_of t) (λ x. AllByRecursion (R x) (flat_map f ts)) (λ x p. across t ts x p up.0 own.1) (f t) own.0)

-- keys that ascend
module _ {X K : Type 0} (key : X → K) (cmp : K → K → Ordering) (total : IsTotalOrder cmp) (exact : IsExact cmp) where
  abbrev Before : X → X → Type 0
  Before x y = by_key key cmp x y ≡ true

  apart : (x y : X) → Before x y → key x ≢ key y
  apart x y h e = true≢false (sym h ∙ ap (λ k. is_lt (cmp k (key y))) e ∙ not_below_itself (by_key key cmp) ((lists.keys X K).order key cmp total) y)

  pub arranged : (xs ys : List X) → Pairs (λ x y. by_key key cmp x y ≡ true) xs → IsPermutation xs ys → IsSortedBy (by_key key cmp) ys → ys ≡ xs
  arranged xs ys up m sorted =
      let order = (lists.keys X K).order key cmp total in
      sym ((lists.keys X K).one key cmp xs ys total exact (AllPairs_from_pairs (λ x y. key x ≢ key y) xs (pairs_weaker Before (λ x y. key x ≢ key y) apart xs up))
      (sorted_from_ascends (by_key key cmp) xs (pairs_weaker Before (λ x y. by_key key cmp y x ≡ false) (λ x y h. order.one_way x y h) xs up)) sorted m)

number-less : (m n : ℕ) → m < n → is_lt (nat_cmp m n) ≡ true
number-less m n h = ap (λ b. is_lt (cond b Less (cond (m == n) Equal Greater))) (lt-ltb m n h)

-- damages, headers, blocks
in-block-own : (n : ℕ) (r : Result Content Why) → AllByRecursion (λ (d : Damage). d.block ≡ n) (damage_of (in_block n r))
in-block-own n (Ok c) = tt
in-block-own n (Err why) = (refl, tt)

pub damage-own : (t : Taken) → IsHeld t → AllByRecursion (λ (d : Damage). d.block ≡ number_of t) (damage_of t.held)
damage-own t h = subst (λ r. AllByRecursion (λ (d : Damage). d.block ≡ number_of t) (damage_of r)) (sym h.1) (in-block-own t.block.no (content_of t.block.no t.block.kind h.0))

pub damage-few : (R : Damage → Damage → Type 0) (r : Result Content Damage) → Pairs R (damage_of r)
damage-few R (Ok c) = tt
damage-few R (Err d) = (tt, tt)

pub header-own : (n : ℕ) (r : Result Content Damage) → AllByRecursion (λ (h : HeaderAt). h.no ≡ n) (header_of n r)
header-own n (Ok (header box)) = (refl, tt)
header-own n (Ok (elements m block)) = tt
header-own n (Ok unread) = tt
header-own n (Err d) = tt

pub header-few : (R : HeaderAt → HeaderAt → Type 0) (n : ℕ) (r : Result Content Damage) → Pairs R (header_of n r)
header-few R n (Ok (header box)) = (tt, tt)
header-few R n (Ok (elements m block)) = tt
header-few R n (Ok unread) = tt
header-few R n (Err d) = tt

pub block-own : (b : BlockAt) (has : Bool) → AllByRecursion (λ (x : BlockAt). x.no ≡ b.no) (cond has (b ∷ []) [])
block-own b true = (refl, tt)
block-own b false = tt

pub block-few : (R : BlockAt → BlockAt → Type 0) (b : BlockAt) (has : Bool) → Pairs R (cond has (b ∷ []) [])
block-few R b true = (tt, tt)
block-few R b false = tt

-- the relations of a block ascend by their numbers
later-relations : (m n : ℕ) (es : List Element) → m < n → AllByRecursion (λ (r : RelEl). m < r.index) (numbered as_relation n es)
later-relations m n [] h = tt
later-relations m n (node id at tags ∷ es) h = later-relations m (suc n) es (omega (arith, h))
later-relations m n (way id tags refs ∷ es) h = later-relations m (suc n) es (omega (arith, h))
later-relations m n (relation id tags members ∷ es) h = (h, later-relations m (suc n) es (omega (arith, h)))

abbrev Rise : List RelEl → Type 0
Rise rs = Pairs (λ (r s : RelEl). r.index < s.index) rs

relations-rise : (n : ℕ) (es : List Element) → Rise (numbered as_relation n es)
relations-rise n [] = tt
relations-rise n (node id at tags ∷ es) = relations-rise (suc n) es
relations-rise n (way id tags refs ∷ es) = relations-rise (suc n) es
relations-rise n (relation id tags members ∷ es) = (later-relations n (suc n) es (omega arith), relations-rise (suc n) es)

abbrev Rises : Result Block Why → Type 0
Rises (Ok block) = Rise block.relations
Rises (Err why) = Unit {0}

rises-if : (es : osm.Found) → Rises (osm.block_if es)
rises-if (Ok es) = relations-rise 0 es
rises-if (Err why) = tt

rises-raw : (raw : List ℕ) → Rises (block_of raw)
unfolding block_of
rises-raw raw = rises-if (elements_of raw)

rises-body : (raw : Result (List ℕ) Why) → Rises (raw >>= block_of)
rises-body (Ok raw) = rises-raw raw
rises-body (Err why) = tt

-- and so do those that are kept, by their places
abbrev pub PlacedBefore : KeptRelation → KeptRelation → Type 0
PlacedBefore j k = is_lt (place_order j.place k.place) ≡ true

pairs-if : (R : RelEl → RelEl → Type 0) (b : Bool) (x : RelEl) (xs : List RelEl) → AllByRecursion (R x) xs → Pairs R xs → Pairs R (cond b (x ∷ xs) xs)
pairs-if R true x xs h k = (h, k)
pairs-if R false x xs h k = k

pairs-filter : (R : RelEl → RelEl → Type 0) (p : RelEl → Bool) (xs : List RelEl) → Pairs R xs → Pairs R (filter p xs)
pairs-filter R p [] h = tt
pairs-filter R p (x ∷ xs) h = pairs-if R (p x) x (filter p xs) (each_filter (R x) p xs h.0) (pairs-filter R p xs h.1)

pub number_same : (n : ℕ) → nat_cmp n n ≡ Equal
number_same n = ap (λ b. cond b Less (cond (n == n) Equal Greater)) (le-ltb n n (omega arith)) ∙ ap (λ b. cond b Equal Greater) (eq-eqb n n refl)

place-next : (n i j : ℕ) → i < j → is_lt (place_order (record { block = n; index = i }) (record { block = n; index = j })) ≡ true
place-next n i j h = ap (λ o. is_lt (ordering_then o (nat_cmp i j))) (number_same n) ∙ number-less i j h

pub place-first : (j k : KeptRelation) → j.place.block < k.place.block → PlacedBefore j k
place-first j k h = (lists.keys KeptRelation Place).first (λ (r : KeptRelation). r.place) (λ (p : Place). p.block) (λ (p q : Place). nat_cmp p.index q.index) j k h

kept-placed : (parts : Parts) (n : ℕ) (rs : List RelEl) → Rise rs → Pairs PlacedBefore (kept_in parts n rs)
kept-placed parts n rs h =
    pairs_map PlacedBefore (kept_of parts n) (filter (is_kept parts) rs)
    (pairs_weaker (λ (r s : RelEl). r.index < s.index) (λ r s. PlacedBefore (kept_of parts n r) (kept_of parts n s)) (λ r s less. place-next n r.index s.index less) (filter (is_kept parts) rs)
    (pairs-filter (λ (r s : RelEl). r.index < s.index) (is_kept parts) rs h))

kept-there : (parts : Parts) (n : ℕ) (rs : List RelEl) → AllByRecursion (λ (k : KeptRelation). k.place.block ≡ n) (map (kept_of parts n) rs)
kept-there parts n [] = tt
kept-there parts n (r ∷ rs) = (refl, kept-there parts n rs)

-- what a body says
abbrev IsPlaced : Parts → ℕ → Result Content Damage → Type 0
IsPlaced parts n r = AllByRecursion (λ (k : KeptRelation). k.place.block ≡ n) (kept_held parts r) × Pairs PlacedBefore (kept_held parts r)

header-placed : (parts : Parts) (n : ℕ) (found : Result (Option Bounds) Why) → IsPlaced parts n (in_block n (found >>= λ box. Ok (header box)))
header-placed parts n (Ok box) = (tt, tt)
header-placed parts n (Err why) = (tt, tt)

block-placed : (parts : Parts) (n : ℕ) (found : Result Block Why) → Rises found → IsPlaced parts n (in_block n (found >>= λ block. Ok (elements n block)))
block-placed parts n (Ok block) h = (kept-there parts n (filter (is_kept parts) block.relations), kept-placed parts n block.relations h)
block-placed parts n (Err why) h = (tt, tt)

content-placed : (parts : Parts) (n : ℕ) (kind : BlockKind) (body : List ℕ) → IsPlaced parts n (in_block n (content_of n kind body))
content-placed parts n kinds.Header body = header-placed parts n (header_in body)
content-placed parts n kinds.Elements body = block-placed parts n (block_in body) (rises-body (raw_of body))
content-placed parts n kinds.Other body = (tt, tt)

pub kept-own : (parts : Parts) (t : Taken) → IsHeld t → AllByRecursion (λ (k : KeptRelation). k.place.block ≡ number_of t) (kept_held parts t.held) × Pairs PlacedBefore (kept_held parts t.held)
kept-own parts t h = subst (IsPlaced parts t.block.no) (sym h.1) (content-placed parts t.block.no t.block.kind h.0)

-- the order of places
pub place_total : IsTotalOrder place_order
place_total = then_total (on_total (λ (p : Place). p.block) nat_cmp_total) (on_total (λ (p : Place). p.index) nat_cmp_total)

pub place_exact : IsExact place_order
place_exact p q e =
    let both = (lists.keys Place Place).parts (nat_cmp p.block q.block) (nat_cmp p.index q.index) e in
    let block = (lists.keys Place Place).number p.block q.block both.0 in
    let index = (lists.keys Place Place).number p.index q.index both.1 in
    λ i. record { block = block i; index = index i }

pub number_first : (a b : BlockAt) → a.no < b.no → is_lt (nat_cmp a.no b.no) ≡ true
number_first a b h = number-less a.no b.no h
