-- Worked cases that the definitions were checked on, also what they refuse.
use Rattle.std.specs.Prelude.{◌≡◌, ℕ, ℤ, pos, negsuc, max, Some, None, [], ◌∷◌}
use Rattle.std.proofs.Common.{arith}
use Rattle.tb_types.specs.declared.element.OsmId.{OsmId}
use Rattle.shard_store.specs.Ids.{shard_number}
use Rattle.shard_store.specs.Join.{Entry, join_all, IsMap, IsJoinOf}
use Rattle.shard_store.specs.PutAll.{PutsAll, of_shard}

abbrev pub id : ℤ → OsmId
id n = record { 0 = n }

abbrev pub entry : ℤ → ℕ → Entry ℕ
entry n value = (id n, value)

pub record WorkedJoins : Type 0 where
  pub shard : shard_number (id (pos 71)) ≡ 7
  pub shard_below : shard_number (id (negsuc 6)) ≡ 57
  pub shard_none : shard_number (id (negsuc 63)) ≡ 0
  -- the join of two values under one id, in both orders, and nothing under another id
  pub in_order : join_all max (entry (pos 7) 3 ∷ entry (pos 7) 5 ∷ []) (id (pos 7)) ≡ Some 5
  pub out_of_order : join_all max (entry (pos 7) 5 ∷ entry (negsuc 6) 9 ∷ entry (pos 7) 3 ∷ []) (id (pos 7)) ≡ Some 5
  pub not_there : join_all max (entry (pos 7) 3 ∷ []) (id (negsuc 6)) ≡ None
  -- a map has no id twice, and a join of entries has no other ids and leaves none out
  pub twice : IsMap (entry (pos 7) 3 ∷ entry (pos 7) 5 ∷ []) → ⊥
  pub one_more : IsJoinOf max [] (entry (pos 7) 3 ∷ []) → ⊥
  pub left_out : IsJoinOf max (entry (pos 7) 3 ∷ []) [] → ⊥
  -- of a shard its entries in their order, and all entries are put: none less, none twice
  pub of_seven : of_shard 7 (entry (pos 7) 3 ∷ entry (pos 8) 4 ∷ entry (pos 71) 5 ∷ []) ≡ entry (pos 7) 3 ∷ entry (pos 71) 5 ∷ []
  pub dropped : PutsAll [] [] (entry (pos 7) 3 ∷ []) → ⊥
  pub put_twice : PutsAll [] (entry (pos 7) 3 ∷ entry (pos 7) 3 ∷ []) (entry (pos 7) 3 ∷ []) → ⊥

-- the larger of two numbers is a join
pub max_commutes : (x y : ℕ) → max x y ≡ max y x
max_commutes x y = omega arith

pub max_associates : (x y z : ℕ) → max (max x y) z ≡ max x (max y z)
max_associates x y z = omega arith

pub max_repeats : (x : ℕ) → max x x ≡ x
max_repeats x = omega arith
