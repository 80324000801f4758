-- Of elements with different places, what a store keeps under an id is the one at the greatest place. So a store of the needed ones has each
-- needed one as the extract has it.
use Rattle.std.proofs.Common.{◌≡◌, ◌≢◌, ℕ, Bool, true, false, cond, true≢false, Option, None, Some, option_map, List, [], ◌∷◌, ◌++◌, map, filter, flat_map, refl, sym, ap, subst, ◌∙◌, Ordering, Less, Equal, Greater}
use Rattle.std.proofs.lemmas.List.{map-append}
use Rattle.std.proofs.lemmas.List.Elements.{filter-append}
use Rattle.std.specs.Ordering.{is_lt, ordering_then}
use Rattle.std.specs.List.{AllByRecursion}
use Rattle.tb_types.specs.Orders.{place_order}
use Rattle.tb_types.specs.declared.element.OsmId.{OsmId}
use Rattle.tb_types.specs.declared.element.Place.{Place}
use Rattle.osm_elements.specs.declared.element.Block.{Block}
use Rattle.ring_assembly.specs.Chains.{same_node}
use Rattle.shard_store.proofs.Joins.{same_id}
use Rattle.shard_store.specs.Join.{Entry, join, under, join_all, value_at, IsJoinOf}
use Rattle.member_sets.specs.declared.unit.Unit.{Unit}
use Rattle.node_store.specs.Order.{greater}
use Rattle.node_store.specs.Laws.{place_exact}
use Rattle.sorted_lists.proofs.Orders.{Pairs, each_filter}
use Rattle.tile_model.specs.Extract.{latest, later}
use Rattle.pass_shapes.specs.Stores.{is_needed}

-- by cases on a test
pub by_test : {P : Type 0} (b : Bool) → (b ≡ true → P) → (b ≡ false → P) → P
by_test true f g = f refl
by_test false f g = g refl

-- of two places that differ the order decides, whatever stands there
pub then-lt : (o rest : Ordering) → o ≢ Equal → is_lt (ordering_then o rest) ≡ is_lt o
then-lt Less rest h = refl
then-lt Equal rest h = absurd (h refl)
then-lt Greater rest h = refl

-- elements with ids, and what a store keeps of each with its place, ordered by the places first
module _ {X V : Type 0} (id_of : X → OsmId) (index : X → ℕ) (order : V → V → Ordering) (rest : V → V → Ordering) (value : Place × X → V) (first : (m n : Place × X) → order (value m) (value n) ≡ ordering_then (place_order m.0 n.0) (rest (value m) (value n))) where
  abbrev as_entry : Place × X → Entry V
  as_entry n = (id_of n.1, value n)

  abbrev pub has_id : OsmId → Place × X → Bool
  has_id id n = same_node (id_of n.1) id

  by-place : (m n : Place × X) → m.0 ≢ n.0 → is_lt (order (value m) (value n)) ≡ is_lt (place_order m.0 n.0)
  by-place m n h = ap is_lt (first m n) ∙ then-lt (place_order m.0 n.0) (rest (value m) (value n)) (λ e. h (place_exact m.0 n.0 e))

  picks : (b : Bool) (m n : Place × X) → cond b (value n) (value m) ≡ value (cond b n m)
  picks true m n = refl
  picks false m n = refl

  -- all but one have other places than it
  abbrev Others : Place → List (Place × X) → Type 0
  Others place nodes = AllByRecursion (λ n. place ≢ n.0) nodes

  latest-other : (place : Place) (nodes : List (Place × X)) → Others place nodes → (n : Place × X) → latest nodes ≡ Some n → place ≢ n.0
  latest-other place [] h n e = absurd cc
  latest-other place (m ∷ nodes) h n e = go (latest nodes) (λ k is. latest-other place nodes h.1 k is) e
    where
      chosen : (k : Place × X) (b : Bool) → place ≢ k.0 → Some (cond b k m) ≡ Some n → place ≢ n.0
      chosen k true other same = let is : k ≡ n = cc in subst (λ (x : Place × X). place ≢ x.0) is other
      chosen k false other same = let is : m ≡ n = cc in subst (λ (x : Place × X). place ≢ x.0) is h.0

      go : (found : Option (Place × X)) → ((k : Place × X) → found ≡ Some k → place ≢ k.0) → later m found ≡ Some n → place ≢ n.0
      go None each same = let is : m ≡ n = cc in subst (λ (x : Place × X). place ≢ x.0) is h.0
      go (Some k) each same = chosen k (is_lt (place_order m.0 k.0)) (each k refl) same

  none-joined : (o : Option V) → join (greater order) None o ≡ o
  none-joined None = refl
  none-joined (Some l) = refl

  -- of elements with different places what the join of all keeps is the one at the greatest place
  joined-latest : (nodes : List (Place × X)) → Pairs (λ m n. m.0 ≢ n.0) nodes → (id : OsmId) → join_all (greater order) (map as_entry nodes) id ≡ option_map value (latest (filter (has_id id) nodes))
  joined-latest [] h id = refl
  joined-latest (m ∷ nodes) h id = by_test (has_id id m)
      (λ is. ap (λ b. join (greater order) (cond b (Some (value m)) None) (join_all (greater order) (map as_entry nodes) id)) is
      ∙ (ap (join (greater order) (Some (value m))) (joined-latest nodes h.1 id) ∙ (with-rest (latest (filter (has_id id) nodes)) refl ∙ sym (ap (λ b. option_map value (latest (cond b (m ∷ filter (has_id id) nodes) (filter (has_id id) nodes)))) is))))
      (λ is. ap (λ b. join (greater order) (cond b (Some (value m)) None) (join_all (greater order) (map as_entry nodes) id)) is
      ∙ (none-joined (join_all (greater order) (map as_entry nodes) id) ∙ (joined-latest nodes h.1 id ∙ sym (ap (λ b. option_map value (latest (cond b (m ∷ filter (has_id id) nodes) (filter (has_id id) nodes)))) is))))
    where
      with-rest : (found : Option (Place × X)) → latest (filter (has_id id) nodes) ≡ found → join (greater order) (Some (value m)) (option_map value found) ≡ option_map value (later m found)
      with-rest None e = refl
      with-rest (Some n) e =
          let apart = latest-other m.0 (filter (has_id id) nodes) (each_filter (λ (x : Place × X). m.0 ≢ x.0) (has_id id) nodes h.0) n e in
          ap (λ b. Some (cond b (value n) (value m))) (by-place m n apart) ∙ ap Some (picks (is_lt (place_order m.0 n.0)) m n)

  abbrev needs : List (Entry Unit) → Place × X → Bool
  needs needed n = is_needed needed (id_of n.1)

  -- what isn't needed puts nothing under a needed id
  needed-join : (needed : List (Entry Unit)) (nodes : List (Place × X)) (id : OsmId) → is_needed needed id ≡ true → join_all (greater order) (map as_entry (filter (needs needed) nodes)) id ≡ join_all (greater order) (map as_entry nodes) id
  needed-join needed [] id h = refl
  needed-join needed (m ∷ nodes) id h = by_test (needs needed m)
      (λ is. ap (λ b. join_all (greater order) (map as_entry (cond b (m ∷ filter (needs needed) nodes) (filter (needs needed) nodes))) id) is ∙ ap (join (greater order) (under id (as_entry m))) (needed-join needed nodes id h))
      (λ is. ap (λ b. join_all (greater order) (map as_entry (cond b (m ∷ filter (needs needed) nodes) (filter (needs needed) nodes))) id) is
      ∙ (needed-join needed nodes id h ∙ sym (ap (λ b. join (greater order) (cond b (Some (value m)) None) (join_all (greater order) (map as_entry nodes) id)) (other (has_id id m) refl is) ∙ none-joined (join_all (greater order) (map as_entry nodes) id))))
    where
      other : (b : Bool) → has_id id m ≡ b → needs needed m ≡ false → has_id id m ≡ false
      other false e is = e
      other true e is = absurd (true≢false (sym h ∙ (sym (ap (is_needed needed) (same_id (id_of m.1) id e)) ∙ is)))

  abbrev at_place : ℕ → X → Place × X
  at_place block x = (record { block = block; index = index x }, x)

  abbrev entry_at : ℕ → X → Entry V
  entry_at block x = as_entry (at_place block x)

  -- what the needed ones of a block put
  put-block : (needed : List (Entry Unit)) (block : ℕ) (xs : List X) → map (entry_at block) (filter (λ x. is_needed needed (id_of x)) xs) ≡ map as_entry (filter (needs needed) (map (at_place block) xs))
  put-block needed block [] = refl
  put-block needed block (x ∷ xs) = go (filter (λ y. is_needed needed (id_of y)) xs) (filter (needs needed) (map (at_place block) xs)) (is_needed needed (id_of x)) (put-block needed block xs)
    where
      go : (ys : List X) (ns : List (Place × X)) (b : Bool) → map (entry_at block) ys ≡ map as_entry ns → map (entry_at block) (cond b (x ∷ ys) ys) ≡ map as_entry (cond b (at_place block x ∷ ns) ns)
      go ys ns true e = ap (λ es. entry_at block x ∷ es) e
      go ys ns false e = e

  module _ (elements : Block → List X) where
    abbrev all_placed : List (ℕ × Block) → List (Place × X)
    all_placed blocks = flat_map (λ (b : ℕ × Block). map (at_place b.0) (elements b.1)) blocks

    abbrev all_put : List (Entry Unit) → List (ℕ × Block) → List (Entry V)
    all_put needed blocks = flat_map (λ (b : ℕ × Block). map (entry_at b.0) (filter (λ x. is_needed needed (id_of x)) (elements b.1))) blocks

    put-all : (needed : List (Entry Unit)) (blocks : List (ℕ × Block)) → all_put needed blocks ≡ map as_entry (filter (needs needed) (all_placed blocks))
    put-all needed [] = refl
    put-all needed (b ∷ blocks) =
        (λ i. put-block needed b.0 (elements b.1) i ++ put-all needed blocks i)
        ∙ (sym (map-append as_entry (filter (needs needed) (map (at_place b.0) (elements b.1))) (filter (needs needed) (all_placed blocks)))
        ∙ ap (map as_entry) (sym (filter-append (needs needed) (map (at_place b.0) (elements b.1)) (all_placed blocks))))

    -- A store of the needed ones has under each needed id what is kept of the one at the greatest place.
    pub stored : (needed : List (Entry Unit)) (blocks : List (ℕ × Block)) (store : List (Entry V)) → Pairs (λ m n. m.0 ≢ n.0) (all_placed blocks) → IsJoinOf (greater order) (all_put needed blocks) store → (id : OsmId) → is_needed needed id ≡ true
        → value_at id store ≡ option_map value (latest (filter (has_id id) (all_placed blocks)))
    stored needed blocks store apart is id h =
        is.values id ∙ (ap (λ es. join_all (greater order) es id) (put-all needed blocks) ∙ (needed-join needed (all_placed blocks) id h ∙ joined-latest (all_placed blocks) apart id))
