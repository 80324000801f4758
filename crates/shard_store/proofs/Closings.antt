-- What is known of the parts once a table is closed.
use Rattle.std.proofs.Common.{◌≡◌, ◌≢◌, ◌⊎◌, ⊎_elim, inl, inr, ℕ, zero, suc, ◌+◌, ◌%◌, ◌<◌, ◌==◌, Bool, true, false, List, [], ◌∷◌, ◌++◌, length, ap, sym, ◌∙◌, refl, subst, arith, mod-lt, mod-eq_of_lt, slice_get, Some, None, if◌then◌else◌, ℤ, pos, negsuc, unsigned_abs}
use Rattle.std.specs.Prelude.{slice_index, slice_index_or, slice_set}
use Rattle.std.specs.Int.{int_rem_euclid}
use Rattle.std.specs.Mem.Slots.Ownership.{Filled}
use Rattle.std.proofs.lemmas.Bool.{cases_eq, eq-eqb, ne_eqb}
use Rattle.std.proofs.lemmas.List.{get_or-set_other}
use Rattle.std.proofs.lemmas.Option.{none-some, same_Some, slice_get_within}
use mathlib.Core.Option.{some, some-injective, some-ne-none}
use lib.ListN.{get_elem?}
use Rattle.atomic_table.specs.Table.{State, Final, Seen}
use Rattle.tb_types.specs.declared.element.OsmId.{OsmId}
use Rattle.tb_types.proofs.Seats.{others_spent}
use Rattle.shard_store.specs.declared.rule.View.{View}
use Rattle.shard_store.specs.Ids.{shard_number}
use Rattle.shard_store.specs.Join.{Entry, join_all, value_at, IsJoinOf}
use Rattle.shard_store.specs.Parts.{IsPart, IsParted, whole, part_number}
use Rattle.shard_store.specs.Rule.{count_of, put_by_all, IsContent, IsKept}
use Rattle.shard_store.specs.Closing.{IsTaken, AreTaken}
use Rattle.shard_store.proofs.Maps.{parted_map, parted_value}
use Rattle.shard_store.proofs.Views.{joined_only}

index_at : (ws : List ℕ) (k w : ℕ) → get_elem? ws k ≡ some w → slice_index ws k ≡ w
index_at [] k w e = absurd (some-ne-none w (sym e))
index_at (x ∷ ws) zero w e = some-injective x w e
index_at (x ∷ ws) (suc k) w e = index_at ws k w e

-- a place below the length
there : {A : Type 0} (xs : List A) (k : ℕ) → k < length xs → (x : A) × (slice_get xs k ≡ Some x)
there [] k h = absurd (omega arith)
there (x ∷ xs) zero h = (x, refl)
there (x ∷ xs) (suc k) h = there xs k (omega arith)

-- the last item of a list, or an earlier one
snoc_cases : {A : Type 0} (xs : List A) (a : A) (j : ℕ) (b : A) → slice_get (xs ++ a ∷ []) j ≡ Some b → (slice_get xs j ≡ Some b) ⊎ ((j ≡ length xs) × (a ≡ b))
snoc_cases [] a zero b e = inr (refl, same_Some a b e)
snoc_cases [] a (suc j) b e = absurd (none-some b e)
snoc_cases (x ∷ xs) a zero b e = inl e
snoc_cases (x ∷ xs) a (suc j) b e = ⊎_elim (λ (t : slice_get xs j ≡ Some b). inl t) (λ (t : (j ≡ length xs) × (a ≡ b)). inr (ap suc t.0, t.1)) (snoc_cases xs a j b e)

-- one more slot is empty
pub filled_next : (fs : List Bool) (k : ℕ) → Filled fs k 64 → Filled (slice_set fs k false) (k + 1) 64
filled_next fs k h j low high = get_or-set_other fs k j false false (λ e. omega (arith, e)) ∙ h j (omega arith) high

pub emptied_next : (fs : List Bool) (k : ℕ) → ((j : ℕ) → j < k → slice_index_or fs j false ≡ false) → (j : ℕ) → j < k + 1 → slice_index_or (slice_set fs k false) j false ≡ false
emptied_next fs k h j below =
    ⊎_elim
    (λ (same : j ≡ k). ap (λ i. slice_index_or (slice_set fs k false) i false) same ∙ emptied fs k)
    (λ (apart : j ≢ k). get_or-set_other fs k j false false apart ∙ h j (omega arith))
    (cases_eq j k)
  where
    emptied : (l : List Bool) (i : ℕ) → slice_index_or (slice_set l i false) i false ≡ false
    emptied [] i = refl
    emptied (x ∷ xs) zero = refl
    emptied (x ∷ xs) (suc i) = emptied xs i

pub shard_small : (id : OsmId) → shard_number id < 64
shard_small id = go id.0
  where
    go : (z : ℤ) → unsigned_abs (int_rem_euclid z (pos 64)) < 64
    go (pos a) = mod-lt a (omega arith)
    go (negsuc a) = omega arith

module _ {V : Type 0} (both : V → V → V) where
  abbrev Pile : Type 0
  Pile = List (Entry V)

  -- what was taken out of a slot
  pub takes_part : (words : List ℕ) (slots : List Pile) (k word : ℕ) (content part : Pile) → get_elem? words k ≡ some word → get_elem? slots k ≡ some content → IsPart part
      → IsJoinOf both (if word == 0 then content else []) part → IsTaken both words slots k part
  takes_part words slots k word content part at there_it sorted is = record {
    sorted = sorted;
    taken = λ c e.
        let same : content ≡ c = some-injective content c (sym there_it ∙ e) in
        subst (λ w. IsJoinOf both (if w == 0 then c else []) part) (sym (index_at words k word at)) (subst (λ p. IsJoinOf both (if word == 0 then p else []) part) same is);
  }

  pub next_taken : (words words' : List ℕ) (slots slots' : List Pile) (more : List Pile) (part : Pile) (k : ℕ) → length more + 1 ≡ k → words ≡ words' → slots ≡ slots' → AreTaken both words' slots' 1 more
      → IsTaken both words slots k part → AreTaken both words' slots' 1 (more ++ part ∷ [])
  next_taken words words' slots slots' more part k count same same_slots before new j p e =
      ⊎_elim
      (λ (old : slice_get more j ≡ Some p). before j p old)
      (λ (last : (j ≡ length more) × (part ≡ p)).
      let place : k ≡ j + 1 = omega (arith, count, last.0) in
      subst (λ w. IsTaken both w slots' (j + 1) p) same (subst (λ l. IsTaken both words l (j + 1) p) same_slots (subst (λ i. IsTaken both words slots i p) place (subst (IsTaken both words slots k) last.1 new))))
      (snoc_cases more part j p e)

  module _ (assoc : (x y z : V) → both (both x y) z ≡ both x (both y z)) (comm : (x y : V) → both x y ≡ both y x)
      (id : ℕ) (v : View V) (ws : List ℕ) (xs : List Pile) (rests : v.hold ≡ None) (live : v.live ≡ 1) (final : Final (Seen (IsKept both) id v) ws xs) where
    abbrev pub s : State Pile (View V)
    s = final.0

    h : IsKept both s
    h = final.1.0

    at : get_elem? s.views id ≡ some v
    at = final.1.1

    -- a shard whose turn is free has its contents in its slot
    content_there : (k : ℕ) → k < 64 → slice_index ws k ≡ 0 → (c : Pile) × (get_elem? xs k ≡ some c) × IsContent both k s.views c
    content_there k below free = let f = h.free k below (ap (λ l. slice_index l k) final.2 ∙ free) in (f.0, final.4 k f.0 f.1, f.2)

    -- whatever lay there, a part has nothing under an id of another shard
    nothing_else : (k : ℕ) (part : Pile) → k < 64 → k < length xs → IsTaken both ws xs k part → (n : OsmId) → shard_number n ≢ k → value_at n part ≡ None
    nothing_else k part below inside t n apart =
        ⊎_elim
        (λ (free : slice_index ws k ≡ 0).
        let c = content_there k below free in
        (t.taken c.0 c.1).values n ∙ ap (λ b. join_all both (if b then c.0 else []) n) (eq-eqb _ _ free) ∙ c.2 n ∙ ap (λ b. if b then put_by_all both s.views n else None) (ne_eqb _ _ apart))
        (λ (held : slice_index ws k ≢ 0).
        let c = some_place xs k inside in
        (t.taken c.0 c.1).values n ∙ ap (λ b. join_all both (if b then c.0 else []) n) (ne_eqb _ _ held))
        (cases_eq (slice_index ws k) 0)
      where
        some_place : (l : List Pile) (j : ℕ) → j < length l → (c : Pile) × (get_elem? l j ≡ some c)
        some_place [] j less = absurd (omega arith)
        some_place (y ∷ ys) zero less = (y, refl)
        some_place (y ∷ ys) (suc j) less = some_place ys j (omega arith)

    -- with all seats put_by_all, the others have nothing
    spent_too : v.first ≡ true → v.out ≡ 0 → (j : ℕ) (u : View V) → j ≢ id → get_elem? s.views j ≡ some u → (u.puts ≡ []) × (u.hold ≡ None)
    spent_too first out j u apart e = (h.each j u e).over (others_spent count_of s.views id v h.seats at (first, out) j u apart e)

    all_free : v.first ≡ true → v.out ≡ 0 → (k : ℕ) → k < 64 → slice_index ws k ≡ 0
    all_free first out k below =
        ap (λ l. slice_index l k) (sym final.2)
        ∙ ⊎_elim (λ z. z)
        (λ (o : (i : ℕ) × (u : View V) × (c : Pile) × (get_elem? s.views i ≡ some u) × (u.hold ≡ Some (k, c))).
        ⊎_elim
        (λ (same : o.0 ≡ id). let is : o.1 ≡ v = some-injective o.1 v (sym o.3 ∙ ap (get_elem? s.views) same ∙ at) in absurd (none-some _ (sym rests ∙ ap (λ (y : View V). y.hold) (sym is) ∙ o.4)))
        (λ (apart : o.0 ≢ id). absurd (none-some _ (sym (spent_too first out o.0 o.1 apart o.3).1 ∙ o.4)))
        (cases_eq o.0 id))
        (h.taken k below)

    own_value : v.first ≡ true → v.out ≡ 0 → (k : ℕ) (part : Pile) → k < 64 → IsTaken both ws xs k part → (n : OsmId) → shard_number n ≡ k → value_at n part ≡ join_all both v.puts n
    own_value first out k part below t n is =
        let free = all_free first out k below in
        let c = content_there k below free in
        (t.taken c.0 c.1).values n ∙ ap (λ b. join_all both (if b then c.0 else []) n) (eq-eqb _ _ free) ∙ c.2 n ∙ ap (λ b. if b then put_by_all both s.views n else None) (eq-eqb _ _ is)
        ∙ joined_only both assoc comm n s.views id v at (λ j u apart e. (spent_too first out j u apart e).0)

    module _ (first_part : Pile) (more : List Pile) (first_taken : IsTaken both ws xs 0 first_part) (count : length more ≡ 63) (more_taken : AreTaken both ws xs 1 more) where
      abbrev pub parts : List Pile
      parts = first_part ∷ more

      counted : length parts ≡ 64
      counted = ap suc count

      all_taken : (k : ℕ) (part : Pile) → slice_get parts k ≡ Some part → IsTaken both ws xs k part
      all_taken zero part e = subst (IsTaken both ws xs 0) (same_Some first_part part e) first_taken
      all_taken (suc k) part e = let j : k + 1 ≡ suc k = omega arith in subst (λ i. IsTaken both ws xs i part) j (more_taken k part e)

      slots_count : length xs ≡ 64
      slots_count = sym final.3 ∙ h.homes

      small : (k : ℕ) (part : Pile) → slice_get parts k ≡ Some part → k < 64
      small k part e = let a = slice_get_within parts k part e in let c = counted in omega arith

      home_is : (n : OsmId) → shard_number n < 64 → part_number (length parts) n ≡ shard_number n
      home_is n below = ap (λ m. shard_number n % m) counted ∙ mod-eq_of_lt below

      pub parted : ((n : OsmId) → shard_number n < 64) → IsParted parts
      parted bounded = record {
        few = (omega (arith, counted), omega (arith, counted));
        each = λ k part e. (all_taken k part e).sorted;
        placed = λ k part e n apart.
            let below = small k part e in
            nothing_else k part below (let c = slots_count in omega arith) (all_taken k part e) n (λ same. apart (home_is n (bounded n) ∙ same));
      }

      pub joined_whole : ((n : OsmId) → shard_number n < 64) → v.first ≡ true → v.out ≡ 0 → IsJoinOf both v.puts (whole parts)
      joined_whole bounded first out =
          let p = parted bounded in
          record {
            once = parted_map parts p;
            values = λ n.
                let below = bounded n in
                let t = there parts (shard_number n) (let c = counted in omega arith) in
                sym (parted_value parts p n (shard_number n) t.0 t.1 (home_is n below)) ∙ own_value first out (shard_number n) t.0 below (all_taken (shard_number n) t.0 t.1) n refl;
          }
