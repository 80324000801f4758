use Rattle.std.proofs.Common.{◌≡◌}
use Rattle.serde_json.specs.Data.{no_members}
use Rattle.serde_json.specs.View.{members_view}
use Rattle.pmtiles_dirs.specs.Meta.{with_fields}
use Rattle.pmtiles_dirs.specs.SeenFields.{seen_fields}
use Rattle.pmtiles_dirs.proofs.meta.kinds_value.Given as goal

abbrev pub invariant-loop-name : goal.invariant-loop-name
invariant-loop-name l = with_fields (members_view l.members.entries) (seen_fields l.name-iterator) ≡ with_fields no_members (seen_fields l.found.entries)
