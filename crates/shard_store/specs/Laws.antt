-- What a seat's list means after entries were put.
use Rattle.std.specs.Prelude.{◌≡◌, List, ◌++◌}
use Rattle.tb_types.specs.Bags.{IsSameBag}
use Rattle.tb_types.specs.declared.element.OsmId.{OsmId}
use Rattle.shard_store.specs.Join.{Entry, join_all}
use Rattle.shard_store.specs.PutAll.{PutsAll}

-- The list of a seat that put all entries has the old ones and the new ones, each as often, and so the join of both, in any order of the shards.
pub record Grows {V : Type 0} (both : V → V → V) (old new entries : List (Entry V)) : Type 0 where
  pub often : IsSameBag new (old ++ entries)
  pub joined : (id : OsmId) → join_all both new id ≡ join_all both (old ++ entries) id

abbrev pub PutsGrow : {V : Type 0} → (V → V → V) → Type 0
PutsGrow both = (old new entries : List (Entry _)) → PutsAll old new entries → Grows both old new entries
