use Rattle.pass_survey.proofs.Finding.{on_ok, found-joined, ready-joined}
use Rattle.pass_survey.proofs.found.Found.join.Goals as goal

pub returns-clause-joins : goal.returns-clause-joins
returns-clause-joins c = λ parts one two f g. on_ok c.bring.result _ _ (λ b. found-joined parts c.args.self.now c.bring.new.self c.args.other one two b f g) c.bring.ensures

pub returns-clause-ready : goal.returns-clause-ready
returns-clause-ready c = λ parts h k. on_ok c.bring.result _ _ (λ b. ready-joined parts c.args.self.now c.bring.new.self c.args.other b h k) c.bring.ensures
