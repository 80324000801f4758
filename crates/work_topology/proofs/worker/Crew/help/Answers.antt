use Rattle.work_topology.proofs.Steps.{took, took_not}
use Rattle.std.proofs.Common.{rules, refl}
use Rattle.work_topology.proofs.worker.Crew.help.Goals as goal

pub returns-in-Ok : goal.returns-in-Ok
returns-in-Ok g c = λ first start loaded pushed i. (took _ (g.met.J.PassJob.goes_on c.args.self.now.job.now) _ first start loaded pushed _ c.work.new.lane c.args.post.now _ c.in-Some.batch tt i refl (search rules) (search rules), tt)

pub returns-in-Err : goal.returns-in-Err
returns-in-Err g c = λ first start loaded pushed i. (tt, took_not _ (g.met.J.PassJob.goes_on c.args.self.now.job.now) _ first start loaded pushed _ c.work.new.lane c.args.post.now _ c.in-Some.batch c.in-Err.trouble i refl (search rules) (search rules))
