-- Parts of a map: an id stands in one of them.
use Rattle.std.proofs.Common.{◌≡◌, ◌≢◌, ◌⊎◌, ⊎_elim, inl, inr, ℕ, zero, suc, ◌+◌, ◌%◌, ◌<◌, ◌≤◌, false, List, [], ◌∷◌, ◌++◌, length, ap, sym, ◌∙◌, refl, subst, arith, append-nil, get_or, take, take-suc, add-one, length-append, mod-lt, ◌-◌, Some, None, slice_get, if◌then◌else◌}
use Rattle.std.proofs.lemmas.List.{take_all}
use Rattle.std.proofs.lemmas.Bool.{cases_eq}
use Rattle.std.proofs.lemmas.Bool.Decides.{Decides-int_eq}
use Rattle.std.proofs.lemmas.Option.{none-some, same_Some, slice_get_read}
use Rattle.tb_types.specs.declared.element.OsmId.{OsmId}
use Rattle.shard_store.specs.Ids.{is_same, shard_number}
use Rattle.shard_store.specs.Join.{Entry, value_at, IsMap}
use Rattle.shard_store.specs.Parts.{IsPart, IsParted, whole, part_number}
use Rattle.shard_store.proofs.Joins.{by_test}

module _ {V : Type 0} where
  value_at-prefix : (id : OsmId) (xs ys : List (Entry V)) → value_at id ys ≡ None → value_at id (xs ++ ys) ≡ value_at id xs
  value_at-prefix id [] ys h = h
  value_at-prefix id (x ∷ xs) ys h = ap (λ r. if is_same x.0 id then Some x.1 else r) (value_at-prefix id xs ys h)

  tail_none : (id : OsmId) (x : Entry V) (xs : List (Entry V)) → value_at id (x ∷ xs) ≡ None → (is_same x.0 id ≡ false) × (value_at id xs ≡ None)
  tail_none id x xs h =
      by_test (is_same x.0 id)
      (λ is_here. absurd (none-some x.1 (sym h ∙ ap (λ t. if t then Some x.1 else value_at id xs) is_here)))
      (λ not_here. (not_here, sym (ap (λ t. if t then Some x.1 else value_at id xs) not_here) ∙ h))

  value_at-back : (id : OsmId) (xs ys : List (Entry V)) → value_at id xs ≡ None → value_at id (xs ++ ys) ≡ value_at id ys
  value_at-back id [] ys h = refl
  value_at-back id (x ∷ xs) ys h =
      let t = tail_none id x xs h in ap (λ b. if b then Some x.1 else value_at id (xs ++ ys)) t.0 ∙ value_at-back id xs ys t.1

  here_some : (x : Entry V) (xs : List (Entry V)) → value_at x.0 (x ∷ xs) ≡ Some x.1
  here_some x xs = ap (λ t. if t then Some x.1 else value_at x.0 xs) ((Decides-int_eq x.0.0 x.0.0).1 refl)

  map_append : (xs ys : List (Entry V)) → IsMap xs → IsMap ys → ((id : OsmId) → (value_at id xs ≡ None) ⊎ (value_at id ys ≡ None)) → IsMap (xs ++ ys)
  map_append [] ys h k apart = k
  map_append (x ∷ xs) ys h k apart =
      let others : value_at x.0 ys ≡ None = ⊎_elim (λ e. absurd (none-some x.1 (sym e ∙ here_some x xs))) (λ e. e) (apart x.0) in (
        value_at-back x.0 xs ys h.0 ∙ others,
        map_append xs ys h.1 k (λ id. ⊎_elim (λ (e : value_at id (x ∷ xs) ≡ None). inl (tail_none id x xs e).1) (λ (e : value_at id ys ≡ None). inr e) (apart id)),
      )

  -- `home` says in which part an id stands; the first of these parts has the number n
  abbrev Placed : (OsmId → ℕ) → ℕ → List (List (Entry V)) → Type 0
  Placed home n parts = (k : ℕ) (part : List (Entry V)) → slice_get parts k ≡ Some part → (id : OsmId) → home id ≢ k + n → value_at id part ≡ None

  next_placed : (home : OsmId → ℕ) (n : ℕ) (p : List (Entry V)) (ps : List (List (Entry V))) → Placed home n (p ∷ ps) → Placed home (suc n) ps
  next_placed home n p ps h k part e id apart = h (suc k) part e id (λ same. apart (omega (arith, same)))

  none_whole : (home : OsmId → ℕ) (n : ℕ) (parts : List (List (Entry V))) → Placed home n parts → (id : OsmId) → home id < n → value_at id (whole parts) ≡ None
  none_whole home n [] h id below = refl
  none_whole home n (p ∷ ps) h id below =
      value_at-back id p (whole ps) (h 0 p refl id (λ same. omega (arith, same))) ∙ none_whole home (suc n) ps (next_placed home n p ps h) id (omega arith)

  value_whole : (home : OsmId → ℕ) (n : ℕ) (parts : List (List (Entry V))) → Placed home n parts → (id : OsmId) (k : ℕ) (part : List (Entry V)) → slice_get parts k ≡ Some part → home id ≡ k + n
      → value_at id part ≡ value_at id (whole parts)
  value_whole home n [] h id k part e is = absurd (none-some part e)
  value_whole home n (p ∷ ps) h id zero part e is =
      ap (value_at id) (sym (same_Some p part e)) ∙ sym (value_at-prefix id p (whole ps) (none_whole home (suc n) ps (next_placed home n p ps h) id (omega (arith, is))))
  value_whole home n (p ∷ ps) h id (suc k) part e is =
      value_whole home (suc n) ps (next_placed home n p ps h) id k part e (omega (arith, is))
      ∙ sym (value_at-back id p (whole ps) (h 0 p refl id (λ same. omega (arith, is, same))))

  map_whole : (home : OsmId → ℕ) (n : ℕ) (parts : List (List (Entry V))) → Placed home n parts → ((k : ℕ) (part : List (Entry V)) → slice_get parts k ≡ Some part → IsMap part) → IsMap (whole parts)
  map_whole home n [] h each = tt
  map_whole home n (p ∷ ps) h each =
      map_append p (whole ps) (each 0 p refl) (map_whole home (suc n) ps (next_placed home n p ps h) (λ k part e. each (suc k) part e))
      (λ id. ⊎_elim
      (λ (same : home id ≡ n). inr (none_whole home (suc n) ps (next_placed home n p ps h) id (omega (arith, same))))
      (λ (apart : home id ≢ n). inl (h 0 p refl id (λ same. apart (omega (arith, same)))))
      (cases_eq (home id) n))

  placed_parts : (parts : List (List (Entry V))) (h : IsParted parts) → Placed (part_number (length parts)) 0 parts
  placed_parts parts h k part e id apart = h.placed k part e id (λ same. apart (omega (arith, same)))

  pub parted_map : (parts : List (List (Entry V))) → IsParted parts → IsMap (whole parts)
  parted_map parts h = map_whole (part_number (length parts)) 0 parts (placed_parts parts h) (λ k part e. (h.each k part e).once)

  pub parted_value : (parts : List (List (Entry V))) → IsParted parts → (id : OsmId) (k : ℕ) (part : List (Entry V)) → slice_get parts k ≡ Some part → part_number (length parts) id ≡ k
      → value_at id part ≡ value_at id (whole parts)
  parted_value parts h id k part e is = value_whole (part_number (length parts)) 0 parts (placed_parts parts h) id k part e (omega (arith, is))

  -- a part is a map of one part
  pub one_part : (part : List (Entry V)) → IsPart part → IsParted (part ∷ [])
  one_part part h = record {
    few = (omega arith, omega arith);
    each = λ k p e. one k p e;
    placed = λ k p e id apart. none k p e id apart;
  }
    where
      one : (k : ℕ) (p : List (Entry V)) → slice_get (part ∷ []) k ≡ Some p → IsPart p
      one zero p e = subst IsPart (same_Some part p e) h
      one (suc k) p e = absurd (none-some p e)

      none : (k : ℕ) (p : List (Entry V)) → slice_get (part ∷ []) k ≡ Some p → (id : OsmId) → part_number 1 id ≢ k → value_at id p ≡ None
      none zero p e id apart = absurd (apart (omega arith))
      none (suc k) p e id apart = absurd (none-some p e)

  pub whole_of_one : (part : List (Entry V)) → whole (part ∷ []) ≡ part
  whole_of_one part = append-nil part

  -- of a first part and more, that in which an id stands
  pub in_first : (first : List (Entry V)) (more : List (List (Entry V))) → IsParted (first ∷ more) → (id : OsmId) → shard_number id % (length more + 1) ≡ 0
      → IsPart first × (value_at id first ≡ value_at id (whole (first ∷ more)))
  in_first first more h id is =
      let n : suc (length more) ≡ length more + 1 = omega arith in
      (h.each 0 first refl, parted_value (first ∷ more) h id 0 first refl (ap (λ m. shard_number id % m) n ∙ is))

  pub in_more : (first : List (Entry V)) (more : List (List (Entry V))) → IsParted (first ∷ more) → (id : OsmId) (at : ℕ) (part : List (Entry V)) → shard_number id % (length more + 1) ≡ at → at ≢ 0
      → part ≡ get_or more (at - 1) part → IsPart part × (value_at id part ≡ value_at id (whole (first ∷ more)))
  in_more first more h id zero part is some at = absurd (some refl)
  in_more first more h id (suc k) part is some at =
      let n : suc (length more) ≡ length more + 1 = omega arith in
      let below : suc k < length more + 1 = subst (λ m. m < length more + 1) is (mod-lt _ (omega arith)) in
      let j : suc k - 1 ≡ k = omega arith in
      let there : slice_get more k ≡ Some part = slice_get_read more (length more) k part refl (omega arith) (at ∙ ap (λ m. get_or more m part) j) in
      (h.each (suc k) part there, parted_value (first ∷ more) h id (suc k) part there (ap (λ m. shard_number id % m) n ∙ is))

  whole_append : (xs ys : List (List (Entry V))) → length (whole (xs ++ ys)) ≡ length (whole xs) + length (whole ys)
  whole_append [] ys = omega arith
  whole_append (x ∷ xs) ys = let r = whole_append xs ys in let a = length-append x (whole (xs ++ ys)) in let b = length-append x (whole xs) in omega arith

  pub whole_more : (parts : List (List (Entry V))) (k : ℕ) (d : List (Entry V)) → k < length parts → length (whole (take (k + 1) parts)) ≡ length (whole (take k parts)) + length (get_or parts k d)
  whole_more parts k d inside =
      let part = get_or parts k d in
      let a = whole_append (take k parts) (part ∷ []) in
      let b : length (whole (part ∷ [])) ≡ length part = ap length (append-nil part) in
      ap (λ m. length (whole (take m parts))) (add-one k) ∙ ap (λ l. length (whole l)) (take-suc parts k d inside) ∙ a ∙ ap (λ n. length (whole (take k parts)) + n) b

  pub whole_all : (parts : List (List (Entry V))) (k : ℕ) → length parts ≤ k → length (whole (take k parts)) ≡ length (whole parts)
  whole_all parts k past = ap (λ l. length (whole l)) (take_all k parts past)
