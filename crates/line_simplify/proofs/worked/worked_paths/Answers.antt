use Rattle.std.proofs.Common.{refl}
use Rattle.line_simplify.specs.Key.{distance_of, scalar_of, cross_of, key_of}
use Rattle.line_simplify.specs.Rule.{split_of, kept, simplified}
use Rattle.line_simplify.proofs.worked.worked_paths.Goals as goal

pub returns : goal.returns
unfolding distance_of scalar_of cross_of key_of split_of kept simplified
returns c = record {
  within_tolerance = refl;
  above_tolerance = refl;
  first_of_equals = refl;
  before_an_end = refl;
  on_the_line = refl;
  there_and_back = refl;
}
