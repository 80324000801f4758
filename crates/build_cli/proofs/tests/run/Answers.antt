use Rattle.std.proofs.Common.{refl}
use Rattle.build_cli.proofs.Statuses.{told_done}
use Rattle.build_cli.proofs.tests.run.Goals as goal

pub returns : goal.returns
returns c = λ is. told_done _ _ _ _ _ _ _ _ _ _ _ c.run_one.ensures.answers is refl refl refl refl refl
