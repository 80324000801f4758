-- Walks over the numbers of a list.
use Rattle.std.proofs.Common.{◌≡◌, ℕ, zero, suc, ◌+◌, ◌-◌, ◌<◌, ◌≤◌, Bool, true, false, cond, Option, Some, None, List, [], ◌∷◌, ◌++◌, map, length, get_or, count_by, refl, sym, ap, ◌∙◌, arith}
use Rattle.std.specs.List.{range_with_len, filter, filter_map, find, cons_option}
use Rattle.std.proofs.lemmas.List.{append_assoc}
use Rattle.std.proofs.lemmas.List.Sums.{sum_by-cons}
use Rattle.std.proofs.lemmas.Bool.{cond-true, cond-false}

-- the numbers that are left from one on
abbrev pub left_from : ℕ → ℕ → List ℕ
left_from i n = range_with_len i (n - i)

pub left_step : (i n : ℕ) → i < n → left_from i n ≡ i ∷ left_from (i + 1) n
left_step i n h = let e : n - i ≡ suc (n - (i + 1)) = omega arith in ap (range_with_len i) e

pub left_none : (i n : ℕ) → n ≤ i → left_from i n ≡ []
left_none i n h = let e : n - i ≡ 0 = omega arith in ap (range_with_len i) e

-- counting
pub count_step : (p : ℕ → Bool) (i n : ℕ) (b : Bool) → i < n → p i ≡ b → count_by p (left_from i n) ≡ cond b 1 0 + count_by p (left_from (i + 1) n)
count_step p i n b h e = ap (count_by p) (left_step i n h) ∙ sum_by-cons (λ x. cond (p x) 1 0) i (left_from (i + 1) n) ∙ ap (λ t. cond t 1 0 + count_by p (left_from (i + 1) n)) e

pub count_none : (p : ℕ → Bool) (i n : ℕ) → n ≤ i → count_by p (left_from i n) ≡ 0
count_none p i n h = ap (count_by p) (left_none i n h)

-- looking for a number
pub find_here : (p : ℕ → Bool) (i n : ℕ) → i < n → p i ≡ true → find p (left_from i n) ≡ Some i
find_here p i n h e = ap (find p) (left_step i n h) ∙ cond-true (p i) (Some i) (find p (left_from (i + 1) n)) e

pub find_later : (p : ℕ → Bool) (i n : ℕ) → i < n → p i ≡ false → find p (left_from i n) ≡ find p (left_from (i + 1) n)
find_later p i n h e = ap (find p) (left_step i n h) ∙ cond-false (p i) (Some i) (find p (left_from (i + 1) n)) e

pub find_none : (p : ℕ → Bool) (i n : ℕ) → n ≤ i → find p (left_from i n) ≡ None
find_none p i n h = ap (find p) (left_none i n h)

module _ {A : Type 0} where
  -- a value for each number
  pub map_step : (f : ℕ → A) (so_far : List A) (i n : ℕ) → i < n → so_far ++ map f (left_from i n) ≡ (so_far ++ f i ∷ []) ++ map f (left_from (i + 1) n)
  map_step f so_far i n h = ap (λ l. so_far ++ map f l) (left_step i n h) ∙ sym (append_assoc so_far (f i ∷ []) (map f (left_from (i + 1) n)))

  pub map_none : (f : ℕ → A) (so_far : List A) (i n : ℕ) → n ≤ i → so_far ++ map f (left_from i n) ≡ so_far ++ []
  map_none f so_far i n h = ap (λ l. so_far ++ map f l) (left_none i n h)

  map_range : (f : ℕ → A) (a n k : ℕ) (d : A) → k < n → get_or (map f (range_with_len a n)) k d ≡ f (a + k)
  map_range f a zero k d h = absurd (omega arith)
  map_range f a (suc n) zero d h = let e : a ≡ a + 0 = omega arith in ap f e
  map_range f a (suc n) (suc k) d h = let e : a + 1 + k ≡ a + suc k = omega arith in map_range f (a + 1) n k d (omega arith) ∙ ap f e

  pub at_number : (f : ℕ → A) (values : List A) (n k : ℕ) (d : A) → values ≡ map f (range_with_len 0 n) → k < n → get_or values k d ≡ f k
  at_number f values n k d e h = let z : 0 + k ≡ k = omega arith in ap (λ l. get_or l k d) e ∙ map_range f 0 n k d h ∙ ap f z

  pub length_range : (f : ℕ → A) (a n : ℕ) → length (map f (range_with_len a n)) ≡ n
  length_range f a zero = refl
  length_range f a (suc n) = ap suc (length_range f (a + 1) n)

  pub length_numbers : (f : ℕ → A) (values : List A) (n : ℕ) → values ≡ map f (range_with_len 0 n) → length values ≡ n
  length_numbers f values n e = ap length e ∙ length_range f 0 n

  -- values for the numbers that pass a test
  pub kept_step : (p : ℕ → Bool) (f : ℕ → A) (so_far : List A) (i n : ℕ) → i < n → p i ≡ true → so_far ++ map f (filter p (left_from i n)) ≡ (so_far ++ f i ∷ []) ++ map f (filter p (left_from (i + 1) n))
  kept_step p f so_far i n h e =
      ap (λ l. so_far ++ map f (filter p l)) (left_step i n h) ∙ ap (λ l. so_far ++ map f l) (cond-true (p i) (i ∷ filter p (left_from (i + 1) n)) (filter p (left_from (i + 1) n)) e)
      ∙ sym (append_assoc so_far (f i ∷ []) (map f (filter p (left_from (i + 1) n))))

  pub kept_skip : (p : ℕ → Bool) (f : ℕ → A) (so_far : List A) (i n : ℕ) → i < n → p i ≡ false → so_far ++ map f (filter p (left_from i n)) ≡ so_far ++ map f (filter p (left_from (i + 1) n))
  kept_skip p f so_far i n h e =
      ap (λ l. so_far ++ map f (filter p l)) (left_step i n h) ∙ ap (λ l. so_far ++ map f l) (cond-false (p i) (i ∷ filter p (left_from (i + 1) n)) (filter p (left_from (i + 1) n)) e)

  pub kept_none : (p : ℕ → Bool) (f : ℕ → A) (so_far : List A) (i n : ℕ) → n ≤ i → so_far ++ map f (filter p (left_from i n)) ≡ so_far ++ []
  kept_none p f so_far i n h = ap (λ l. so_far ++ map f (filter p l)) (left_none i n h)

  -- a value for each number that has one
  pub some_step : (f : ℕ → Option A) (so_far : List A) (i n : ℕ) (x : A) → i < n → f i ≡ Some x → so_far ++ filter_map f (left_from i n) ≡ (so_far ++ x ∷ []) ++ filter_map f (left_from (i + 1) n)
  some_step f so_far i n x h e =
      ap (λ l. so_far ++ filter_map f l) (left_step i n h) ∙ ap (λ o. so_far ++ cons_option o (filter_map f (left_from (i + 1) n))) e
      ∙ sym (append_assoc so_far (x ∷ []) (filter_map f (left_from (i + 1) n)))

  pub some_skip : (f : ℕ → Option A) (so_far : List A) (i n : ℕ) → i < n → f i ≡ None → so_far ++ filter_map f (left_from i n) ≡ so_far ++ filter_map f (left_from (i + 1) n)
  some_skip f so_far i n h e = ap (λ l. so_far ++ filter_map f l) (left_step i n h) ∙ ap (λ o. so_far ++ cons_option o (filter_map f (left_from (i + 1) n))) e

  pub some_none : (f : ℕ → Option A) (so_far : List A) (i n : ℕ) → n ≤ i → so_far ++ filter_map f (left_from i n) ≡ so_far ++ []
  some_none f so_far i n h = ap (λ l. so_far ++ filter_map f l) (left_none i n h)
