use Rattle.pass_survey.proofs.Valid.{gives-valid}
use Rattle.pass_survey.proofs.body.header_in.Goals as goal

pub returns-in-Ok-clause-valid : goal.returns-in-Ok-clause-valid
returns-in-Ok-clause-valid c = gives-valid c.read_header.result c.in-Ok.raw.now c.read_header.ensures
