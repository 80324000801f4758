use Rattle.serde_json.specs.View.{view}
use Rattle.archive_text.proofs.Floats.{attributes-told}
use Rattle.archive_text.proofs.attributes.attributes_text.Goals as goal

pub returns-in-Ok : goal.returns-in-Ok
returns-in-Ok c = attributes-told c.in-Ok.text (view c.in_ok-value.value) c.args.attributes.now (c.in_ok-value.ensures {u = tt}) c.in-Ok.ensures.text
