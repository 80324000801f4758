-- Ids as entries without content.
use Rattle.std.specs.Prelude.{List, map}
use Rattle.tb_types.specs.declared.element.OsmId.{OsmId}
use Rattle.shard_store.specs.Join.{Entry}
use Rattle.member_sets.specs.declared.unit.Unit.{Unit}

abbrev pub entry_of : OsmId → Entry Unit
entry_of id = (id, record {})

abbrev pub entries_of : List OsmId → List (Entry Unit)
entries_of ids = map entry_of ids
