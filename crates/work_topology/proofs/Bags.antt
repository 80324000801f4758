-- What stands in a list stands in each list of the same bag; and what stands in one of several lists stands in all of them together.
use Rattle.std.proofs.Common.{◌≡◌, ◌∙◌, ◌⊎◌, inl, inr, ⊎_elim, ℕ, zero, suc, ◌<◌, Bool, true, false, true≢false, cond, ◌&&◌, List, [], ◌∷◌, ◌++◌, map, ap, sym, refl, subst, arith}
use Rattle.std.specs.List.{sum_by, flat_map}
use Rattle.std.proofs.lemmas.Bool.{eqb-true, eq-eqb}
use Rattle.std.proofs.lemmas.List.Sums.{sum_by-cons}
use mathlib.Core.Option.{some, some-injective, some-ne-none}
use lib.Dec.{eqb}
use lib.ListN.{get_elem?}
use lib.Pointwise.{pointwise, bytes_decides}
use Rattle.tb_types.specs.Bags.{IsSameBag}
use Rattle.batch_queue.specs.declared.entry.Entry.{Entry}
use Rattle.work_topology.specs.Lists.{Each}

abbrev same_entry : Entry → Entry → Bool
same_entry e f = eqb e.no f.no && pointwise eqb e.bytes f.bytes

both : (s t : Bool) → (s && t) ≡ true → (s ≡ true) × (t ≡ true)
both true t h = (refl, h)
both false t h = absurd (true≢false (sym h))

entry_is : (e f : Entry) → same_entry e f ≡ true → e ≡ f
entry_is e f h =
    let b = both (eqb e.no f.no) (pointwise eqb e.bytes f.bytes) h in
    let no = eqb-true e.no f.no b.0 in
    let bytes = (bytes_decides e.bytes f.bytes).0 b.1 in
    λ i. record { no = no i; bytes = bytes i }

entry_itself : (e : Entry) → same_entry e e ≡ true
entry_itself e = ap (λ t. t && pointwise eqb e.bytes e.bytes) (eq-eqb e.no e.no refl) ∙ (bytes_decides e.bytes e.bytes).1 refl

-- 1 at this entry, and else 0
abbrev only : Entry → Entry → ℕ
only e x = cond (same_entry x e) 1 0

only_itself : (x e : Entry) → x ≡ e → only e x ≡ 1
only_itself x e is = subst (λ y. only e y ≡ 1) (sym is) (ap (λ b. cond b 1 0) (entry_itself e))

weighs : (e : Entry) (xs : List Entry) → 0 < sum_by (only e) xs → (k : ℕ) × (get_elem? xs k ≡ some e)
weighs e [] h = absurd (omega arith)
weighs e (x ∷ xs) h = choose (same_entry x e) refl (weighs e xs)
  where
    choose : (b : Bool) → same_entry x e ≡ b → (0 < sum_by (only e) xs → (k : ℕ) × (get_elem? xs k ≡ some e)) → (k : ℕ) × (get_elem? (x ∷ xs) k ≡ some e)
    choose true is next = (0, ap some (entry_is x e is))
    choose false not next =
        let a = sum_by-cons (only e) x xs in
        let z : only e x ≡ 0 = ap (λ b. cond b 1 0) not in
        let r = next (omega arith) in (suc r.0, r.1)

weighs_back : (e : Entry) (xs : List Entry) (k : ℕ) → get_elem? xs k ≡ some e → 0 < sum_by (only e) xs
weighs_back e [] k at = absurd (some-ne-none e (sym at))
weighs_back e (x ∷ xs) zero at = let a = sum_by-cons (only e) x xs in let one = only_itself x e (some-injective x e at) in omega arith
weighs_back e (x ∷ xs) (suc k) at = let a = sum_by-cons (only e) x xs in let r = weighs_back e xs k at in omega arith

pub bag_has : (xs ys : List Entry) → IsSameBag xs ys → (k : ℕ) (e : Entry) → get_elem? xs k ≡ some e → (j : ℕ) × (get_elem? ys j ≡ some e)
bag_has xs ys same k e at = weighs e ys (let w = same (only e) in let h = weighs_back e xs k at in omega arith)

module _ {A : Type 0} where
  pub in_either : (l m : List A) (k : ℕ) (a : A) → get_elem? (l ++ m) k ≡ some a → ((i : ℕ) × (get_elem? l i ≡ some a)) ⊎ ((i : ℕ) × (get_elem? m i ≡ some a))
  in_either [] m k a at = inr (k, at)
  in_either (x ∷ xs) m zero a at = inl (0, at)
  in_either (x ∷ xs) m (suc k) a at = ⊎_elim (λ h. inl (suc h.0, h.1)) (λ h. inr h) (in_either xs m k a at)

  pub in_front : (l m : List A) (k : ℕ) (a : A) → get_elem? l k ≡ some a → (i : ℕ) × (get_elem? (l ++ m) i ≡ some a)
  in_front [] m k a at = absurd (some-ne-none a (sym at))
  in_front (x ∷ xs) m zero a at = (0, at)
  in_front (x ∷ xs) m (suc k) a at = let r = in_front xs m k a at in (suc r.0, r.1)

  pub in_rear : (l m : List A) (k : ℕ) (a : A) → get_elem? m k ≡ some a → (i : ℕ) × (get_elem? (l ++ m) i ≡ some a)
  in_rear [] m k a at = (k, at)
  in_rear (x ∷ xs) m k a at = let r = in_rear xs m k a at in (suc r.0, r.1)

-- an element of all lists is one of some list, and the other way round
pub of_some : {X A : Type 0} (f : X → List A) (xs : List X) (k : ℕ) (a : A) → get_elem? (flat_map f xs) k ≡ some a → (j : ℕ) × (x : X) × (i : ℕ) × (get_elem? xs j ≡ some x) × (get_elem? (f x) i ≡ some a)
of_some f [] k a at = absurd (some-ne-none a (sym at))
of_some f (x ∷ xs) k a at =
    ⊎_elim (λ h. (0, x, h.0, refl, h.1)) (λ h. let r = of_some f xs h.0 a h.1 in (suc r.0, r.1, r.2, r.3, r.4)) (in_either (f x) (flat_map f xs) k a at)

pub of_all : {X A : Type 0} (f : X → List A) (xs : List X) (j : ℕ) (x : X) (i : ℕ) (a : A) → get_elem? xs j ≡ some x → get_elem? (f x) i ≡ some a → (k : ℕ) × (get_elem? (flat_map f xs) k ≡ some a)
of_all f [] j x i a at here = absurd (some-ne-none x (sym at))
of_all f (y ∷ ys) zero x i a at here = in_front (f y) (flat_map f ys) i a (subst (λ z. get_elem? (f z) i ≡ some a) (sym (some-injective y x at)) here)
of_all f (y ∷ ys) (suc j) x i a at here = let r = of_all f ys j x i a at here in in_rear (f y) (flat_map f ys) r.0 a r.1

pub flat_map_each : {X A : Type 0} (f g : X → List A) (xs : List X) → Each (λ x. f x ≡ g x) xs → flat_map f xs ≡ flat_map g xs
flat_map_each f g [] same = refl
flat_map_each f g (x ∷ xs) same = λ i. same 0 x refl i ++ flat_map_each f g xs (λ k y at. same (suc k) y at) i

pub flat_map_map : {X Y A : Type 0} (f : Y → List A) (g : X → Y) (xs : List X) → flat_map f (map g xs) ≡ flat_map (λ x. f (g x)) xs
flat_map_map f g [] = refl
flat_map_map f g (x ∷ xs) = ap (λ l. f (g x) ++ l) (flat_map_map f g xs)

-- an element of a list that was mapped
pub at_map : {X Y : Type 0} (f : X → Y) (xs : List X) (k : ℕ) (y : Y) → get_elem? (map f xs) k ≡ some y → (x : X) × (get_elem? xs k ≡ some x) × (f x ≡ y)
at_map f [] k y at = absurd (some-ne-none y (sym at))
at_map f (x ∷ xs) zero y at = (x, refl, some-injective (f x) y at)
at_map f (x ∷ xs) (suc k) y at = at_map f xs k y at

pub map_at : {X Y : Type 0} (f : X → Y) (xs : List X) (k : ℕ) (x : X) → get_elem? xs k ≡ some x → get_elem? (map f xs) k ≡ some (f x)
map_at f [] k x at = absurd (some-ne-none x (sym at))
map_at f (y ∷ ys) zero x at = ap (λ z. some (f z)) (some-injective y x at)
map_at f (y ∷ ys) (suc k) x at = map_at f ys k x at
