use Rattle.std.proofs.Common.{sym, ◌∙◌}
use Rattle.tb_wire.specs.Message.{message}
use Rattle.pbf_blobs.specs.declared.message.Message.TheVariants as messages
use Rattle.pbf_blobs.specs.Header.{header_of, header_in}
use Rattle.pbf_blobs.specs.Messages.{seen}
use Rattle.pbf_blobs.proofs.Reasons.{header_told, none_told}
use Rattle.pbf_blobs.proofs.header.header_of.Goals as goal

pub returns-in-Ok-clause-exact : goal.returns-in-Ok-clause-exact
unfolding header_of
returns-in-Ok-clause-exact c = c.header_by.ensures.exact ∙ header_told (seen c.in-Ok.found) (message c.args.bytes.now) c.in-Ok.ensures

pub returns-in-Err-clause-exact : goal.returns-in-Err-clause-exact
unfolding header_of
returns-in-Err-clause-exact c = sym (none_told messages.BlobHeader header_in c.in-Err.field-0 (message c.args.bytes.now) c.in-Err.ensures)
