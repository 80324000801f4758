-- The join under an id depends on the entries of its shard alone.
use Rattle.std.proofs.Common.{◌≡◌, ◌≢◌, ⊎_elim, List, [], ◌∷◌, ap, sym, ◌∙◌, refl, arith, if◌then◌else◌, Some, None}
use Rattle.std.specs.Prelude.{sum_by}
use Rattle.std.proofs.lemmas.Bool.{cases_eq, eq-eqb, ne_eqb}
use Rattle.std.proofs.lemmas.List.Sums.{sum_by-append}
use Rattle.tb_types.specs.declared.element.OsmId.{OsmId}
use Rattle.shard_store.specs.Ids.{is_same, shard_number}
use Rattle.shard_store.specs.Join.{Entry, join, under, join_all}
use Rattle.shard_store.specs.PutAll.{of_shard, PutsAll}
use Rattle.shard_store.specs.Laws.{Grows}
use Rattle.shard_store.proofs.Joins.{by_test, same_id, join_all-append}

module _ {V : Type 0} (both : V → V → V) where
  -- an entry of another shard has nothing under the id
  elsewhere : (id : OsmId) (x : Entry V) → shard_number x.0 ≢ shard_number id → under id x ≡ None
  elsewhere id x apart =
      by_test (is_same x.0 id)
      (λ is_here. absurd (apart (ap shard_number (same_id x.0 id is_here))))
      (λ not_here. ap (λ t. if t then Some x.1 else None) not_here)

  own_shard_only : (id : OsmId) (xs : List (Entry V)) → join_all both (of_shard (shard_number id) xs) id ≡ join_all both xs id
  own_shard_only id [] = refl
  own_shard_only id (x ∷ xs) =
      let k = shard_number id in
      let rest = own_shard_only id xs in
      ⊎_elim
      (λ (same : shard_number x.0 ≡ k).
      ap (λ t. join_all both (if t then x ∷ of_shard k xs else of_shard k xs) id) (eq-eqb _ _ same) ∙ ap (join both (under id x)) rest)
      (λ (apart : shard_number x.0 ≢ k).
      ap (λ t. join_all both (if t then x ∷ of_shard k xs else of_shard k xs) id) (ne_eqb _ _ apart) ∙ rest ∙ sym (ap (λ o. join both o (join_all both xs id)) (elsewhere id x apart)))
      (cases_eq (shard_number x.0) k)

  pub grows : ((x y z : V) → both (both x y) z ≡ both x (both y z)) → (old new entries : List (Entry V)) → PutsAll old new entries → Grows both old new entries
  grows assoc old new entries puts = record {
    often = λ w.
        let a = ap (sum_by w) puts.behind in
        let b = sum_by-append w old puts.added in
        let c = sum_by-append w old entries in
        let d = puts.often w in omega arith;
    joined = λ id.
        ap (λ l. join_all both l id) puts.behind ∙ join_all-append both assoc old puts.added id
        ∙ ap (join both (join_all both old id)) (sym (own_shard_only id puts.added) ∙ ap (λ l. join_all both l id) (puts.each (shard_number id)) ∙ own_shard_only id entries)
        ∙ sym (join_all-append both assoc old entries id);
  }
