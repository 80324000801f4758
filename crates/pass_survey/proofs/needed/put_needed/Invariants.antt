use Rattle.std.proofs.Common.{◌≡◌, ◌++◌, take, flat_map, is_some}
use Rattle.shard_store.specs.Join.{value_at}
use Rattle.member_sets.specs.Ids.{entries_of}
use Rattle.tile_model.specs.Extract.{needed_refs}
use Rattle.pass_survey.proofs.needed.put_needed.Given as goal

abbrev pub invariant-loop-way : goal.invariant-loop-way
invariant-loop-way l = l.ids.items ≡ l.fn.ids.items ++ entries_of (flat_map (needed_refs l.profile (λ id. is_some (value_at id l.members))) (take l.way-index l.ways))
