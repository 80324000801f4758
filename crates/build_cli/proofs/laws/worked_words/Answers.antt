use Rattle.std.proofs.Common.{refl}
use Rattle.std.specs.Fmt.{digits}
use Rattle.build_cli.proofs.laws.worked_words.Goals as goal

pub returns : goal.returns
unfolding digits
returns c = record {
  all = refl;
  whole = refl;
  last = refl;
  far_zoom = refl;
  far_column = refl;
  leading_zero = refl;
  sign = refl;
  no_digit = refl;
  letter = refl;
  no_archive = refl;
  option = refl;
  few = refl;
  least_extract = refl;
  most_tried = refl;
  more_than_tried = refl;
  most_extract = refl;
  few_elements = refl;
  many_elements = refl;
  far_seed = refl;
  no_seed = refl;
  key = refl;
  no_extract = refl;
  option_for_extract = refl;
  usual = refl;
  least_budget = refl;
  most_budget = refl;
  third_budget = refl;
  last_budget = refl;
  small_budget = refl;
  large_budget = refl;
  twice = refl;
  no_number = refl;
  of_nodes = refl;
}
