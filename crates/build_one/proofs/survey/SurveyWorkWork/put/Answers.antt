use Rattle.std.proofs.Common.{refl}
use Rattle.build_one.proofs.Passes.{taken-put}
use Rattle.build_one.proofs.survey.SurveyWorkWork.put.Goals as goal

pub returns : goal.returns
returns c = taken-put c.args.self.now _ (c.args.block, c.args.body.now) c.as_slice.result.now c.take.result c.as_slice.ensures refl c.take.ensures.takes c.take.ensures.ready
