-- Lists of all lanes: elements side by side, sums, and what belongs to one lane.
use Rattle.std.proofs.Common.{◌≡◌, ◌∙◌, ⊎_elim, ℕ, zero, suc, ◌+◌, ◌<◌, ◌≤◌, Bool, true, false, cond, List, [], ◌∷◌, ◌++◌, length, map, take, ap, sym, refl, arith}
use Rattle.std.specs.Prelude.{slice_index_or}
use Rattle.std.specs.Bool.{◌==◌}
use Rattle.std.specs.List.{sum_by, flat_map, filter, concat}
use Rattle.std.proofs.lemmas.Bool.{eq-eqb, ne_eqb}
use Rattle.std.proofs.lemmas.List.{map-append, take_more, append-nil}
use Rattle.std.proofs.lemmas.List.Elements.{filter-append}
use Rattle.std.proofs.lemmas.List.Sums.{sum_by-cons}
use mathlib.Core.Option.{some, some-injective, some-ne-none}
use lib.ListN.{get_elem?}
use Rattle.tb_types.specs.Bags.{below, IsSameBag}
use Rattle.work_topology.specs.Lists.{Each, Paired}
use Rattle.work_topology.proofs.Starts.{at_end}
use Rattle.work_topology.proofs.Working.{paired_append}

-- where each weighs 1, the weight is the length
pub sum_one : {A : Type 0} (xs : List A) → sum_by (λ _. 1) xs ≡ length xs
sum_one [] = refl
sum_one (x ∷ xs) = let a = sum_by-cons (λ _. 1) x xs in let r = sum_one xs in omega arith

pub sum_map : {A B : Type 0} (w : B → ℕ) (f : A → B) (xs : List A) → sum_by w (map f xs) ≡ sum_by (λ x. w (f x)) xs
sum_map w f [] = refl
sum_map w f (x ∷ xs) =
    let a = sum_by-cons w (f x) (map f xs) in
    let b = sum_by-cons (λ y. w (f y)) x xs in
    let r = sum_map w f xs in omega arith

pub same_length : {A : Type 0} (xs ys : List A) → IsSameBag xs ys → length xs ≡ length ys
same_length xs ys same = let a = same (λ _. 1) in let b = sum_one xs in let c = sum_one ys in omega arith

pub length-below : (n : ℕ) → length (below n) ≡ n
length-below zero = refl
length-below (suc n) = longer (below n) n ∙ ap suc (length-below n)
  where
    longer : (xs : List ℕ) (x : ℕ) → length (xs ++ x ∷ []) ≡ suc (length xs)
    longer [] x = refl
    longer (y ∷ ys) x = ap suc (longer ys x)

-- lists that agree in each place
pub lists_same : {A : Type 0} (xs ys : List A) → length ys ≡ length xs → ((k : ℕ) (x y : A) → get_elem? xs k ≡ some x → get_elem? ys k ≡ some y → x ≡ y) → xs ≡ ys
lists_same [] [] len same = refl
lists_same [] (y ∷ ys) len same = absurd (omega arith)
lists_same (x ∷ xs) [] len same = absurd (omega arith)
lists_same (x ∷ xs) (y ∷ ys) len same = λ i. same 0 x y refl refl i ∷ lists_same xs ys (omega arith) (λ k a b e f. same (suc k) a b e f) i

pub maps_same : {X Y A : Type 0} (f : X → A) (g : Y → A) (xs : List X) (ys : List Y) → length ys ≡ length xs → ((k : ℕ) (x : X) (y : Y) → get_elem? xs k ≡ some x → get_elem? ys k ≡ some y → f x ≡ g y) → map f xs ≡ map g ys
maps_same f g [] [] len same = refl
maps_same f g [] (y ∷ ys) len same = absurd (omega arith)
maps_same f g (x ∷ xs) [] len same = absurd (omega arith)
maps_same f g (x ∷ xs) (y ∷ ys) len same = λ i. same 0 x y refl refl i ∷ maps_same f g xs ys (omega arith) (λ k a b e h. same (suc k) a b e h) i

-- pairs that agree
pub paired_map : {X Y A : Type 0} (P : X → Y → Type 0) (f : X → A) (g : Y → A) (xs : List X) (ys : List Y) → ((x : X) (y : Y) → P x y → f x ≡ g y) → Paired P xs ys → map f xs ≡ map g ys
paired_map P f g [] [] same p = refl
paired_map P f g [] (y ∷ ys) same p = absurd p
paired_map P f g (x ∷ xs) [] same p = absurd p
paired_map P f g (x ∷ xs) (y ∷ ys) same p = λ i. same x y p.0 i ∷ paired_map P f g xs ys same p.1 i

pub map_itself : {A : Type 0} (xs : List A) → map (λ x. x) xs ≡ xs
map_itself [] = refl
map_itself (x ∷ xs) = ap (λ l. x ∷ l) (map_itself xs)

-- lists of lists, mapped and joined
pub concat_map : {A : Type 0} (f : A → ℕ) (xss : List (List A)) → concat (map (map f) xss) ≡ map f (flat_map (λ xs. xs) xss)
concat_map f [] = refl
concat_map f (xs ∷ xss) = ap (λ l. map f xs ++ l) (concat_map f xss) ∙ sym (map-append f xs (flat_map (λ ys. ys) xss))

pub concat_flat : {A : Type 0} (f : A → List ℕ) (xs : List A) → concat (map f xs) ≡ flat_map f xs
concat_flat f [] = refl
concat_flat f (x ∷ xs) = ap (λ l. f x ++ l) (concat_flat f xs)

pub map_each : {A B : Type 0} (f g : A → B) (xs : List A) → Each (λ x. f x ≡ g x) xs → map f xs ≡ map g xs
map_each f g [] same = refl
map_each f g (x ∷ xs) same = λ i. same 0 x refl i ∷ map_each f g xs (λ k y at. same (suc k) y at) i

pub map_map : {A B C : Type 0} (f : B → C) (g : A → B) (xs : List A) → map f (map g xs) ≡ map (λ x. f (g x)) xs
map_map f g [] = refl
map_map f g (x ∷ xs) = ap (λ l. f (g x) ∷ l) (map_map f g xs)

-- the numbers below n stand at their own places
pub at_below : (n k x : ℕ) → get_elem? (below n) k ≡ some x → k ≡ x
at_below zero k x at = absurd (some-ne-none x (sym at))
at_below (suc n) k x at = ⊎_elim (λ was. at_below n k x was) (λ (s : (k ≡ length (below n)) × (n ≡ x)). s.0 ∙ length-below n ∙ s.1) (at_end (below n) n x k at)

-- the elements at the first places are the first elements
pub map_below : {A : Type 0} (xs : List A) (d : A) (n : ℕ) → n ≤ length xs → map (λ k. slice_index_or xs k d) (below n) ≡ take n xs
map_below xs d zero few = refl
map_below xs d (suc n) few =
    map-append (λ k. slice_index_or xs k d) (below n) (n ∷ []) ∙ ap (λ l. l ++ slice_index_or xs n d ∷ []) (map_below xs d n (omega arith))
    ∙ sym (ap (λ j. take j xs) (let z : suc n ≡ n + 1 = omega arith in z) ∙ take_more xs n d (omega arith))

module _ {A : Type 0} (p : A → Bool) where
  filter_all : (xs : List A) → Each (λ x. p x ≡ true) xs → filter p xs ≡ xs
  filter_all [] all = refl
  filter_all (x ∷ xs) all = ap (λ b. cond b (x ∷ filter p xs) (filter p xs)) (all 0 x refl) ∙ ap (λ l. x ∷ l) (filter_all xs (λ k y at. all (suc k) y at))

  filter_none : (xs : List A) → Each (λ x. p x ≡ false) xs → filter p xs ≡ []
  filter_none [] all = refl
  filter_none (x ∷ xs) all = ap (λ b. cond b (x ∷ filter p xs) (filter p xs)) (all 0 x refl) ∙ filter_none xs (λ k y at. all (suc k) y at)

-- what has a lane's number, of lists that have those of their lanes
module _ {X D : Type 0} (list : X → List D) (lane : D → ℕ) where
  abbrev pub Own : ℕ → List X → Type 0
  Own first xs = (j : ℕ) (x : X) → get_elem? xs j ≡ some x → Each (λ d. lane d ≡ first + j) (list x)

  behind_own : (first : ℕ) (x : X) (xs : List X) → Own first (x ∷ xs) → Own (first + 1) xs
  behind_own first x xs own j y at k d here = let e = own (suc j) y at k d here in let z : first + suc j ≡ first + 1 + j = omega arith in e ∙ z

  none_behind : (n first : ℕ) (xs : List X) → n < first → Own first xs → filter (λ d. lane d == n) (flat_map list xs) ≡ []
  none_behind n first [] less own = refl
  none_behind n first (x ∷ xs) less own =
      filter-append (λ d. lane d == n) (list x) (flat_map list xs)
      ∙ (λ i. filter_none (λ d. lane d == n) (list x) (λ k d here. ne_eqb (lane d) n (λ same. absurd (let e = own 0 x refl k d here in omega arith))) i
      ++ none_behind n (first + 1) xs (omega arith) (behind_own first x xs own) i)

  pub filter_own : (n first k : ℕ) (xs : List X) (x : X) → n ≡ first + k → Own first xs → get_elem? xs k ≡ some x → filter (λ d. lane d == n) (flat_map list xs) ≡ list x
  filter_own n first k [] x is own at = absurd (some-ne-none x (sym at))
  filter_own n first zero (y ∷ ys) x is own at =
      let same : y ≡ x = some-injective y x at in
      filter-append (λ d. lane d == n) (list y) (flat_map list ys)
      ∙ (λ i. filter_all (λ d. lane d == n) (list y) (λ k d here. eq-eqb (lane d) n (let e = own 0 y refl k d here in omega arith)) i
      ++ none_behind n (first + 1) ys (omega arith) (behind_own first y ys own) i)
      ∙ append-nil (list y) ∙ ap list same
  filter_own n first (suc k) (y ∷ ys) x is own at =
      filter-append (λ d. lane d == n) (list y) (flat_map list ys)
      ∙ ap (λ l. l ++ filter (λ d. lane d == n) (flat_map list ys)) (filter_none (λ d. lane d == n) (list y) (λ j d here. ne_eqb (lane d) n (λ same. absurd (let e = own 0 y refl j d here in omega arith))))
      ∙ filter_own n (first + 1) k ys x (omega arith) (behind_own first y ys own) at

-- lists of lists, side by side, all joined
pub paired_flat : {X Y A B : Type 0} (P : A → B → Type 0) (f : X → List A) (g : Y → List B) (xs : List X) (ys : List Y) → length ys ≡ length xs → ((k : ℕ) (x : X) (y : Y) → get_elem? xs k ≡ some x → get_elem? ys k ≡ some y → Paired P (f x) (g y)) → Paired P (flat_map f xs) (flat_map g ys)
paired_flat P f g [] [] len all = tt
paired_flat P f g [] (y ∷ ys) len all = absurd (omega arith)
paired_flat P f g (x ∷ xs) [] len all = absurd (omega arith)
paired_flat P f g (x ∷ xs) (y ∷ ys) len all = paired_append P (f x) (flat_map f xs) (g y) (flat_map g ys) (all 0 x y refl refl) (paired_flat P f g xs ys (omega arith) (λ k a b e h. all (suc k) a b e h))
