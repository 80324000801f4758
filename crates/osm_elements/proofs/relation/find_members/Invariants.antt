use Rattle.std.proofs.Common.{◌≡◌, drop}
use Rattle.osm_elements.specs.Fields.{with_found}
use Rattle.osm_elements.specs.Elements.{members_of}
use Rattle.osm_elements.proofs.relation.find_members.Given as goal

abbrev pub invariant-loop-i : goal.invariant-loop-i
invariant-loop-i l = with_found l.members.items (members_of (drop l.i l.ids) (drop l.i l.kinds)) ≡ members_of l.ids l.kinds
