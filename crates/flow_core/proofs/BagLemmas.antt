-- Weights of lists: entries by lane, one lane changed, and what stands at a list's front.
use Rattle.std.proofs.Common.{◌≡◌, ℕ, zero, suc, ◌+◌, Some, List, [], ◌∷◌, ◌++◌, length, map, set, drop, slice_get, ap, refl, ◌∙◌, arith}
use Rattle.std.specs.List.{sum_by}
use Rattle.std.proofs.lemmas.List.Sums.{sum_by-cons, sum_by-append, sum_by-set}
use Rattle.std.proofs.lemmas.List.{map_push}
use Rattle.std.proofs.lemmas.Option.{none-some, same_Some, slice_get_within, get_or_from_slice_get}
use Rattle.tb_types.specs.Bags.{below}
use Rattle.flow_core.specs.declared.lane.LaneState.{LaneState}
use Rattle.flow_core.specs.declared.lane.Entry.{Entry}
use Rattle.flow_core.specs.Events.{entry_of}
use Rattle.flow_core.specs.Kept.{units, each_lane}

-- where each weighs 1, the weight is the length
pub sum_one : {A : Type 0} (xs : List A) → sum_by (λ _. 1) xs ≡ length xs
sum_one [] = refl
sum_one (x ∷ xs) = let a = sum_by-cons (λ _. 1) x xs in let r = sum_one xs in omega arith

-- a list that is mapped
pub sum_by-map : {A B : Type 0} (w : B → ℕ) (f : A → B) (xs : List A) → sum_by w (map f xs) ≡ sum_by (λ x. w (f x)) xs
sum_by-map w f [] = refl
sum_by-map w f (x ∷ xs) =
    let a = sum_by-cons w (f x) (map f xs) in
    let b = sum_by-cons (λ y. w (f y)) x xs in
    let r = sum_by-map w f xs in omega arith

-- one entry more
pub units_push : (entries : List Entry) (lane unit : ℕ) → units (entries ++ entry_of lane unit ∷ []) ≡ units entries ++ unit ∷ []
units_push entries lane unit = map_push (λ (entry : Entry). entry.unit) entries (entry_of lane unit)

pub length-below : (n : ℕ) → length (below n) ≡ n
length-below zero = refl
length-below (suc n) = let r = length-below n in length_more (below n) n ∙ ap suc r
  where
    length_more : (xs : List ℕ) (x : ℕ) → length (xs ++ x ∷ []) ≡ suc (length xs)
    length_more [] x = refl
    length_more (y ∷ ys) x = ap suc (length_more ys x)

-- the unit at a queue's front, and the rest
pub front_sum : (w : ℕ → ℕ) (queue : List ℕ) (unit : ℕ) → slice_get queue 0 ≡ Some unit → sum_by w queue ≡ w unit + sum_by w (drop 1 queue)
front_sum w [] unit at = absurd (none-some unit at)
front_sum w (x ∷ queue) unit at =
    let same = ap w (same_Some x unit at) in
    let a = sum_by-cons w x queue in omega arith

pub front_length : (queue : List ℕ) (unit : ℕ) → slice_get queue 0 ≡ Some unit → length queue ≡ length (drop 1 queue) + 1
front_length [] unit at = absurd (none-some unit at)
front_length (x ∷ queue) unit at = omega arith

-- one lane changes: the sum over all lanes, and the entries that lanes have, by weight
pub sum_at : (f : LaneState → ℕ) (lanes : List LaneState) (k : ℕ) (l l' : LaneState) → slice_get lanes k ≡ Some l → sum_by f (set lanes k l') + f l ≡ sum_by f lanes + f l'
sum_at f lanes k l l' at =
    let same = ap f (get_or_from_slice_get lanes k l l at) in
    let s = sum_by-set f lanes k l' l (slice_get_within lanes k l at) in omega arith

pub each_lane_set : (w : Entry → ℕ) (f : ℕ → LaneState → List Entry) (lanes : List LaneState) (j k m : ℕ) (l l' : LaneState) → slice_get lanes k ≡ Some l → m ≡ j + k → sum_by w (each_lane f j (set lanes k l')) + sum_by w (f m l) ≡ sum_by w (each_lane f j lanes) + sum_by w (f m l')
each_lane_set w f [] j k m l l' at e = absurd (none-some l at)
each_lane_set w f (x ∷ lanes) j zero m l l' at e =
    let here : m ≡ j = omega arith in
    let a = sum_by-append w (f j l') (each_lane f (suc j) lanes) in
    let b = sum_by-append w (f j x) (each_lane f (suc j) lanes) in
    let new = ap (λ i. sum_by w (f i l')) here in
    let old = ap (λ i. sum_by w (f i l)) here in
    let same = ap (λ y. sum_by w (f j y)) (same_Some x l at) in omega arith
each_lane_set w f (x ∷ lanes) j (suc k) m l l' at e =
    let a = sum_by-append w (f j x) (each_lane f (suc j) (set lanes k l')) in
    let b = sum_by-append w (f j x) (each_lane f (suc j) lanes) in
    let further : m ≡ suc j + k = omega arith in
    let r = each_lane_set w f lanes (suc j) k m l l' at further in omega arith
