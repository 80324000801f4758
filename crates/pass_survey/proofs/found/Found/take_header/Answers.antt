use Rattle.std.proofs.Common.{Some, None}
use Rattle.pass_survey.proofs.Finding.{on_ok, ready-plain}
use Rattle.pass_survey.proofs.found.Found.take_header.Goals as goal

pub returns-in-Ok-clause-ready : goal.returns-in-Ok-clause-ready
returns-in-Ok-clause-ready c = λ parts h. ready-plain parts c.args.self.now c.note_header.new.self None (Some (record { no = c.args.block.no; bounds = c.in-Ok.bounds })) c.note_header.ensures ((c.in-Ok.ensures {u = tt}).valid) h

pub returns-in-Err-clause-ready : goal.returns-in-Err-clause-ready
returns-in-Err-clause-ready c = λ parts h. on_ok c.refuse.result _ _ (λ refused. ready-plain parts c.args.self.now c.refuse.new.self _ None refused.2 tt h) c.refuse.ensures
