-- The join over all seats, when seats change.
use Rattle.std.proofs.Common.{◌≡◌, ◌≢◌, ℕ, zero, suc, ◌==◌, List, [], ◌∷◌, ◌++◌, set, ap, sym, ◌∙◌, refl, arith, ⊎_elim, Option, Some, None, if◌then◌else◌}
use Rattle.std.proofs.lemmas.Bool.{cases_eq, eq-eqb, ne_eqb}
use mathlib.Core.Option.{some, some-injective, some-ne-none}
use lib.ListN.{get_elem?}
use Rattle.tb_types.specs.declared.element.OsmId.{OsmId}
use Rattle.shard_store.specs.declared.rule.View.{View}
use Rattle.shard_store.specs.Ids.{is_same, shard_number}
use Rattle.shard_store.specs.Join.{Entry, join, join_all}
use Rattle.shard_store.specs.Facts.{IsOfShard}
use Rattle.shard_store.specs.Rule.{put_by_all, IsContent}
use Rattle.shard_store.proofs.Joins.{by_test, same_id, join_none, join_assoc, join_comm, join_all-append}

module _ {V : Type 0} (both : V → V → V) (assoc : (x y z : V) → both (both x y) z ≡ both x (both y z)) (comm : (x y : V) → both x y ≡ both y x) where
  -- where one seat's join grows, the whole grows by the same
  pub joined_grown : (id : OsmId) (vs : List (View V)) (i : ℕ) (x : Option V) (v w : View V) → get_elem? vs i ≡ some v → join_all both w.puts id ≡ join both (join_all both v.puts id) x
      → put_by_all both (set vs i w) id ≡ join both (put_by_all both vs id) x
  joined_grown id [] i x v w e grows = absurd (some-ne-none v (sym e))
  joined_grown id (y ∷ ys) zero x v w e grows =
      let a : Option V = join_all both y.puts id in
      let r : Option V = put_by_all both ys id in
      let same : join_all both v.puts id ≡ a = ap (λ (u : View V). join_all both u.puts id) (sym (some-injective y v e)) in
      ap (λ b. join both b r) (grows ∙ ap (λ b. join both b x) same) ∙ join_assoc both assoc a x r ∙ ap (join both a) (join_comm both assoc comm x r) ∙ sym (join_assoc both assoc a r x)
  joined_grown id (y ∷ ys) (suc i) x v w e grows =
      let a : Option V = join_all both y.puts id in
      ap (join both a) (joined_grown id ys i x v w e grows) ∙ sym (join_assoc both assoc a (put_by_all both ys id) x)

  pub joined_same : (id : OsmId) (vs : List (View V)) (i : ℕ) (v w : View V) → get_elem? vs i ≡ some v → w.puts ≡ v.puts → put_by_all both (set vs i w) id ≡ put_by_all both vs id
  joined_same id vs i v w e same =
      joined_grown id vs i None v w e (ap (λ l. join_all both l id) same ∙ sym (join_none both (join_all both v.puts id))) ∙ join_none both (put_by_all both vs id)

  -- a new seat that put nothing
  pub joined_push : (id : OsmId) (vs : List (View V)) (w : View V) → w.puts ≡ [] → put_by_all both (vs ++ w ∷ []) id ≡ put_by_all both vs id
  joined_push id [] w nothing = ap (λ l. join both (join_all both l id) None) nothing
  joined_push id (v ∷ vs) w nothing = ap (join both (join_all both v.puts id)) (joined_push id vs w nothing)

  -- without one seat
  joined_less : (id : OsmId) (vs : List (View V)) (j : ℕ) (w w' : View V) → get_elem? vs j ≡ some w → w'.puts ≡ [] → put_by_all both vs id ≡ join both (join_all both w.puts id) (put_by_all both (set vs j w') id)
  joined_less id [] j w w' e nothing = absurd (some-ne-none w (sym e))
  joined_less id (y ∷ ys) zero w w' e nothing =
      ap (λ (u : View V). join both (join_all both u.puts id) (put_by_all both ys id)) (some-injective y w e)
      ∙ ap (λ l. join both (join_all both w.puts id) (join both (join_all both l id) (put_by_all both ys id))) (sym nothing)
  joined_less id (y ∷ ys) (suc j) w w' e nothing =
      let a : Option V = join_all both y.puts id in
      let b : Option V = join_all both w.puts id in
      let r : Option V = put_by_all both (set ys j w') id in
      ap (join both a) (joined_less id ys j w w' e nothing) ∙ sym (join_assoc both assoc a b r) ∙ ap (λ x. join both x r) (join_comm both assoc comm a b) ∙ join_assoc both assoc b a r

  -- what one seat put becomes another's
  pub joined_moved : (id : OsmId) (vs : List (View V)) (i j : ℕ) (v w v' w' : View V) → i ≢ j → get_elem? vs i ≡ some v → get_elem? vs j ≡ some w → v'.puts ≡ v.puts ++ w.puts → w'.puts ≡ []
      → put_by_all both (set (set vs i v') j w') id ≡ put_by_all both vs id
  joined_moved id [] i j v w v' w' apart e f moved nothing = absurd (some-ne-none v (sym e))
  joined_moved id (y ∷ ys) zero zero v w v' w' apart e f moved nothing = absurd (apart refl)
  joined_moved id (y ∷ ys) zero (suc j) v w v' w' apart e f moved nothing =
      let r : Option V = put_by_all both (set ys j w') id in
      ap (λ l. join both (join_all both l id) r) (moved ∙ ap (λ (u : View V). u.puts ++ w.puts) (sym (some-injective y v e)))
      ∙ ap (λ x. join both x r) (join_all-append both assoc y.puts w.puts id)
      ∙ join_assoc both assoc (join_all both y.puts id) (join_all both w.puts id) r
      ∙ ap (join both (join_all both y.puts id)) (sym (joined_less id ys j w w' f nothing))
  joined_moved id (y ∷ ys) (suc i) zero v w v' w' apart e f moved nothing =
      let b : Option V = join_all both w.puts id in
      let r : Option V = put_by_all both ys id in
      ap (λ l. join both (join_all both l id) (put_by_all both (set ys i v') id)) nothing
      ∙ joined_grown id ys i b v v' e (ap (λ l. join_all both l id) moved ∙ join_all-append both assoc v.puts w.puts id)
      ∙ join_comm both assoc comm r b
      ∙ ap (λ (u : View V). join both (join_all both u.puts id) r) (sym (some-injective y w f))
  joined_moved id (y ∷ ys) (suc i) (suc j) v w v' w' apart e f moved nothing =
      ap (join both (join_all both y.puts id)) (joined_moved id ys i j v w v' w' (λ s. apart (ap suc s)) e f moved nothing)

  -- where the others put nothing
  pub joined_only : (id : OsmId) (vs : List (View V)) (i : ℕ) (v : View V) → get_elem? vs i ≡ some v → ((j : ℕ) (u : View V) → j ≢ i → get_elem? vs j ≡ some u → u.puts ≡ []) → put_by_all both vs id ≡ join_all both v.puts id
  joined_only id [] i v e others = absurd (some-ne-none v (sym e))
  joined_only id (y ∷ ys) zero v e others =
      ap (join both (join_all both y.puts id)) (none_there ys (λ j u t. others (suc j) u (λ z. absurd (let q : suc j ≡ 0 = z in omega arith)) t))
      ∙ join_none both (join_all both y.puts id) ∙ ap (λ (u : View V). join_all both u.puts id) (some-injective y v e)
    where
      none_there : (us : List (View V)) → ((j : ℕ) (u : View V) → get_elem? us j ≡ some u → u.puts ≡ []) → put_by_all both us id ≡ None
      none_there [] h = refl
      none_there (u ∷ us) h = ap (λ l. join both (join_all both l id) (put_by_all both us id)) (h 0 u refl) ∙ none_there us (λ j x t. h (suc j) x t)
  joined_only id (y ∷ ys) (suc i) v e others =
      ap (λ l. join both (join_all both l id) (put_by_all both ys id)) (others 0 y (λ z. absurd (let q : 0 ≡ suc i = z in omega arith)) refl)
      ∙ joined_only id ys i v e (λ j u apart t. others (suc j) u (λ z. apart (let q : suc j ≡ suc i = z in omega arith)) t)

  -- contents depend on the join over all seats alone
  pub content_same : (k : ℕ) (vs us : List (View V)) (c : List (Entry V)) → ((id : OsmId) → put_by_all both us id ≡ put_by_all both vs id) → IsContent both k vs c → IsContent both k us c
  content_same k vs us c same h id = h id ∙ ap (λ j. if shard_number id == k then j else None) (sym (same id))

  -- entries of one shard have nothing under an id of another one
  pub none_under : (k : ℕ) (xs : List (Entry V)) → IsOfShard k xs → (id : OsmId) → shard_number id ≢ k → join_all both xs id ≡ None
  none_under k [] h id apart = refl
  none_under k (x ∷ xs) h id apart =
      by_test (is_same x.0 id)
      (λ is_here. absurd (apart (sym (ap shard_number (same_id x.0 id is_here)) ∙ h 0 x (omega arith))))
      (λ not_here. ap (λ t. join both (if t then Some x.1 else None) (join_all both xs id)) not_here ∙ none_under k xs (λ j d less. h (suc j) d (omega arith)) id apart)

  -- new entries behind the contents of their shard
  pub content_grown : (k : ℕ) (vs : List (View V)) (i : ℕ) (v w : View V) (c x : List (Entry V)) → get_elem? vs i ≡ some v → w.puts ≡ v.puts ++ x → IsOfShard k x → IsContent both k vs c → IsContent both k (set vs i w) (c ++ x)
  content_grown k vs i v w c x at puts of_shard h id =
      let a : Option V = join_all both x id in
      let grown : put_by_all both (set vs i w) id ≡ join both (put_by_all both vs id) a = joined_grown id vs i a v w at (ap (λ l. join_all both l id) puts ∙ join_all-append both assoc v.puts x id) in
      join_all-append both assoc c x id ∙ ap (λ b. join both b a) (h id)
      ∙ ⊎_elim
      (λ (is : shard_number id ≡ k).
      ap (λ t. join both (if t then put_by_all both vs id else None) a) (eq-eqb _ _ is) ∙ sym grown
      ∙ sym (ap (λ t. if t then put_by_all both (set vs i w) id else None) (eq-eqb _ _ is)))
      (λ (apart : shard_number id ≢ k).
      ap (λ t. join both (if t then put_by_all both vs id else None) a) (ne_eqb _ _ apart) ∙ none_under k x of_shard id apart
      ∙ sym (ap (λ t. if t then put_by_all both (set vs i w) id else None) (ne_eqb _ _ apart)))
      (cases_eq (shard_number id) k)

  -- the other shards stay as they were
  pub content_other : (k j : ℕ) (vs : List (View V)) (i : ℕ) (v w : View V) (c x : List (Entry V)) → j ≢ k → get_elem? vs i ≡ some v → w.puts ≡ v.puts ++ x → IsOfShard k x → IsContent both j vs c → IsContent both j (set vs i w) c
  content_other k j vs i v w c x apart at puts of_shard h id =
      let a : Option V = join_all both x id in
      let grown : put_by_all both (set vs i w) id ≡ join both (put_by_all both vs id) a = joined_grown id vs i a v w at (ap (λ l. join_all both l id) puts ∙ join_all-append both assoc v.puts x id) in
      h id
      ∙ ⊎_elim
      (λ (is : shard_number id ≡ j).
      let same : put_by_all both (set vs i w) id ≡ put_by_all both vs id = grown ∙ ap (join both (put_by_all both vs id)) (none_under k x of_shard id (λ e. apart (sym is ∙ e))) ∙ join_none both (put_by_all both vs id) in
      ap (λ r. if shard_number id == j then r else None) (sym same))
      (λ (not_it : shard_number id ≢ j).
      ap (λ t. if t then put_by_all both vs id else None) (ne_eqb _ _ not_it)
      ∙ sym (ap (λ t. if t then put_by_all both (set vs i w) id else None) (ne_eqb _ _ not_it)))
      (cases_eq (shard_number id) j)
