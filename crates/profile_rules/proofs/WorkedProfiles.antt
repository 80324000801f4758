-- The worked profiles, by computing.
use Rattle.std.proofs.Common.{refl}
use Rattle.std.specs.Str.{is_utf8, chars}
use lib.Utf8.{encode}
use Rattle.toml.proofs.OnLiterals.{toml_on_literals}
use Rattle.profile_rules.specs.Keys.{key_text}
use Rattle.profile_rules.specs.Top.{usual_name}
use Rattle.profile_rules.specs.Rules.{point_word, line_word, area_word}
use Rattle.profile_rules.specs.Attributes.{text_word, whole_word, truth_word}
use Rattle.profile_rules.specs.Conditions.{condition_of}
use Rattle.profile_rules.specs.Features.{type_key, multipolygon, boundary, yes_word, true_word, one_word, no_word, false_word, zero_word}
use Rattle.profile_rules.specs.Profile.{profile_of}
use Rattle.profile_rules.specs.Worked.{Worked, WorkedProfiles, WorkedRefusals, WorkedFits, WorkedConditions, WorkedNumbers}

profiles : WorkedProfiles
unfolding profile_of condition_of key_text usual_name point_word line_word area_word text_word whole_word truth_word toml_on_literals is_utf8 chars encode
profiles = record { two_rules = refl; format_3 = refl; zoom_15 = refl; first_above_last = refl }

refusals : WorkedRefusals
unfolding profile_of condition_of key_text usual_name point_word line_word area_word text_word whole_word truth_word toml_on_literals is_utf8 chars encode
refusals = record {
  other_key = refl;
  other_top_key = refl;
  no_layers = refl;
  empty_layers = refl;
  no_id = refl;
  empty_id = refl;
  same_id = refl;
  other_layer = refl;
  other_kind = refl;
  order = refl;
  zooms = refl;
  second_condition = refl;
  condition_of_a_number = refl;
  key_and_value = refl;
  name_alone = refl;
  value_alone = refl;
  constant_with_a_form = refl;
  other_form = refl;
  empty_table = refl;
  other_attribute_key = refl;
  same_name = refl;
  second_rule = refl;
}

fitting : WorkedFits
unfolding type_key multipolygon boundary
fitting = record {
  node_line = refl;
  node_area = refl;
  way_point = refl;
  relation_point = refl;
  relation_line = refl;
  relation_of_no_type = refl;
  relation_of_another_type = refl;
  first_type = refl;
  boundary = refl;
}

conditions : WorkedConditions
unfolding condition_of
conditions = record {
  missing = refl;
  marked_key = refl;
  marked_key_of_values = refl;
  values = refl;
  other = refl;
  empty = refl;
  mark_alone = refl;
  no_key = refl;
  no_other = refl;
  empty_value = refl;
  empty_first_value = refl;
  empty_value_between = refl;
  no_value = refl;
  no_key_of_other = refl;
}

numbers : WorkedNumbers
unfolding yes_word true_word one_word no_word false_word zero_word
numbers = record {
  minus_nothing = refl;
  minus = refl;
  plus = refl;
  digits_18 = refl;
  digits_19 = refl;
  nothing = refl;
  minus_alone = refl;
  minus_twice = refl;
  letter_behind = refl;
  letter_between = refl;
  blank_before = refl;
  large_yes = refl;
  nothing_true = refl;
}

pub worked : Worked
worked = record { profiles = profiles; refusals = refusals; fitting = fitting; conditions = conditions; numbers = numbers }
