use Rattle.std.proofs.Common.{sym, ◌∙◌}
use Rattle.tb_wire.specs.Message.{message}
use Rattle.pbf_blobs.specs.declared.message.Message.TheVariants as messages
use Rattle.pbf_blobs.specs.Blob.{raw_of, raw_in}
use Rattle.pbf_blobs.specs.Messages.{seen}
use Rattle.pbf_blobs.proofs.Reasons.{blob_told, none_told}
use Rattle.pbf_blobs.proofs.blob.raw_of.Goals as goal

pub returns-in-Ok-clause-exact : goal.returns-in-Ok-clause-exact
unfolding raw_of
returns-in-Ok-clause-exact c = c.raw_by.ensures.exact ∙ blob_told (seen c.in-Ok.found) (message c.args.body.now) c.in-Ok.ensures

pub returns-in-Err-clause-exact : goal.returns-in-Err-clause-exact
unfolding raw_of
returns-in-Err-clause-exact c = sym (none_told messages.Blob raw_in c.in-Err.field-0 (message c.args.body.now) c.in-Err.ensures)
