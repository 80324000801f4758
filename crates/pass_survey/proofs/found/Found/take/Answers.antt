use Rattle.pass_survey.proofs.Finding.{on_ok, found-more}
use Rattle.pass_survey.proofs.found.Found.take.Goals as goal

pub returns-clause-takes : goal.returns-clause-takes
returns-clause-takes c = λ taken f. on_ok c.take_block.result _ _ (λ b. found-more c.args.profile.now c.args.self.now c.take_block.new.self taken c.args.block c.args.body.now b f) c.take_block.ensures.brings
