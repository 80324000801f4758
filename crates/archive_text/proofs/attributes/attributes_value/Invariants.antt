use Rattle.std.proofs.Common.{◌≡◌, drop}
use Rattle.serde_json.specs.Data.{no_members}
use Rattle.serde_json.specs.View.{members_view}
use Rattle.archive_text.specs.Attributes.{with_attributes}
use Rattle.archive_text.proofs.attributes.attributes_value.Given as goal

abbrev pub invariant-loop-a : goal.invariant-loop-a
invariant-loop-a l = with_attributes (members_view l.members.entries) (drop l.a-index l.attributes) ≡ with_attributes no_members l.attributes
