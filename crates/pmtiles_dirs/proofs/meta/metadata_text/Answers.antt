use Rattle.serde_json.specs.View.{view}
use Rattle.pmtiles_dirs.proofs.Metadata.{metadata-told}
use Rattle.pmtiles_dirs.proofs.meta.metadata_text.Goals as goal

pub returns-in-Ok : goal.returns-in-Ok
returns-in-Ok c = metadata-told c.in-Ok.text (view c.in_ok-value.value) c.args.name.now c.args.layers.now (c.in_ok-value.ensures {u = tt}) c.in-Ok.ensures.text
