use Rattle.tb_types.specs.Clean.{x_of, y_of}
use Rattle.tb_types.proofs.AreaLaws.{area-swap, area-reverse}
use Rattle.tb_types.proofs.worked.ring_laws.Goals as goal

pub returns-clause-start : goal.returns-clause-start
returns-clause-start c = λ xs ys. area-swap x_of y_of xs ys

pub returns-clause-turn : goal.returns-clause-turn
returns-clause-turn c = λ ring. area-reverse x_of y_of ring
