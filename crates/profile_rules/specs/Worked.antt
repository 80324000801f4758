-- Worked profiles that the definitions were checked on.
use Rattle.std.specs.Prelude.{◌≡◌, ℕ, pos, negsuc, true, false, None, Some, Result, Ok, Err, List, [], ◌∷◌, ◌++◌, codes}
use Rattle.profile_rules.specs.declared.fault.Part.TheVariants as kinds
use Rattle.tb_types.specs.declared.element.Kind.TheVariants as elements
use Rattle.profile_rules.specs.declared.parts.Form.TheVariants as shapes
use Rattle.profile_rules.specs.declared.fault.ProfileWhy.{ProfileWhy}
use Rattle.profile_rules.specs.declared.fault.ProfileWhy.TheVariants as reasons
use Rattle.profile_rules.specs.declared.parts.Parts.{Parts}
use Rattle.profile_rules.specs.declared.condition.Condition.TheVariants as conditions
use Rattle.profile_rules.specs.declared.attribute.ValueForm.TheVariants as read_as
use Rattle.profile_rules.specs.declared.attribute.Origin.TheVariants as origins
use Rattle.profile_rules.specs.Faults.{Fault, spot_of}
use Rattle.profile_rules.specs.Conditions.{condition_of}
use Rattle.profile_rules.specs.Profile.{profile_of}
use Rattle.profile_rules.specs.Features.{fits, whole_value, truth_value}

abbrev pub roads_and_land : List ℕ
roads_and_land =
    codes "[[layer]]\nid = \"roads\"\n[[layer]]\nid = \"land\"\n[[rule]]\nlayer = \"roads\"\nkind = \"line\"\nwhen = [\"highway\"]\n[[rule]]\nlayer = \"land\"\nkind = \"area\"\nwhen = [\"landuse\"]\nattributes = [{ key = \"landuse\" }]\n"

abbrev pub at_zoom_0 : List ℕ
at_zoom_0 = codes "format = 1\nmaxzoom = 0\n" ++ roads_and_land

abbrev pub of_format_3 : List ℕ
of_format_3 = codes "format = 3\nmaxzoom = 0\n" ++ roads_and_land

abbrev pub to_zoom_15 : List ℕ
to_zoom_15 = codes "format = 1\nmaxzoom = 15\n" ++ roads_and_land

abbrev pub past_the_profile : List ℕ
past_the_profile = codes "format = 1\nmaxzoom = 3\n[[layer]]\nid = \"a\"\n[[rule]]\nlayer = \"a\"\nkind = \"line\"\nminzoom = 5\n"

abbrev pub parts_at_zoom_0 : Parts
parts_at_zoom_0 =
    record {
      name = codes "map";
      min = 0;
      max = 0;
      layers = record { id = codes "roads"; buffer = 64; tolerance = 1 } ∷ record { id = codes "land"; buffer = 64; tolerance = 1 } ∷ [];
      rules = record { layer = 0; form = shapes.Line; conditions = conditions.Stands (codes "highway") ∷ []; min = 0; max = 0; order = pos 0; attributes = [] }
          ∷ record {
            layer = 1;
            form = shapes.Area;
            conditions = conditions.Stands (codes "landuse") ∷ [];
            min = 0;
            max = 0;
            order = pos 0;
            attributes = record { name = codes "landuse"; origin = origins.Tag (codes "landuse") read_as.Text } ∷ [];
          } ∷ [];
    }

abbrev pub refused : Fault → Result Parts Fault
refused fault = Err fault

-- texts of profiles, and the parts or the fault of each
pub record WorkedProfiles : Type 0 where
  pub two_rules : profile_of at_zoom_0 ≡ Ok parts_at_zoom_0
  pub format_3 : profile_of of_format_3 ≡ refused (spot_of kinds.Top 0, reasons.Format)
  pub zoom_15 : profile_of to_zoom_15 ≡ refused (spot_of kinds.Top 0, reasons.Range)
  pub first_above_last : profile_of past_the_profile ≡ refused (spot_of kinds.Rule 0, reasons.Range)

-- a layer, and a rule for it with these lines
abbrev pub one_layer : List ℕ
one_layer = codes "format = 1\n[[layer]]\nid = \"a\"\n"

abbrev pub ruled : List ℕ → List ℕ
ruled lines = one_layer ++ codes "[[rule]]\nlayer = \"a\"\nkind = \"line\"\n" ++ lines

abbrev pub top_fault : ProfileWhy → Result Parts Fault
top_fault why = refused (spot_of kinds.Top 0, why)

abbrev pub layer_fault : ℕ → ProfileWhy → Result Parts Fault
layer_fault n why = refused (spot_of kinds.Layer n, why)

abbrev pub rule_fault : ℕ → ProfileWhy → Result Parts Fault
rule_fault n why = refused (spot_of kinds.Rule n, why)

-- texts that are refused, part by part
pub record WorkedRefusals : Type 0 where
  pub other_key : profile_of (one_layer ++ codes "zoom = 1\n") ≡ layer_fault 0 reasons.Unknown
  pub other_top_key : profile_of (codes "zoom = 1\n" ++ one_layer) ≡ top_fault reasons.Unknown
  pub no_layers : profile_of (codes "format = 1\n") ≡ top_fault reasons.Shape
  pub empty_layers : profile_of (codes "format = 1\nlayer = []\n") ≡ top_fault reasons.Shape
  pub no_id : profile_of (codes "format = 1\n[[layer]]\nbuffer = 1\n") ≡ layer_fault 0 reasons.Shape
  pub empty_id : profile_of (codes "format = 1\n[[layer]]\nid = \"\"\n") ≡ layer_fault 0 reasons.Layer
  pub same_id : profile_of (one_layer ++ codes "[[layer]]\nid = \"a\"\n") ≡ layer_fault 1 reasons.Layer
  pub other_layer : profile_of (one_layer ++ codes "[[rule]]\nlayer = \"b\"\nkind = \"line\"\n") ≡ rule_fault 0 reasons.Layer
  pub other_kind : profile_of (one_layer ++ codes "[[rule]]\nlayer = \"a\"\nkind = \"lines\"\n") ≡ rule_fault 0 reasons.Shape
  pub order : profile_of (ruled (codes "order = 32768\n")) ≡ rule_fault 0 reasons.Range
  pub zooms : profile_of (ruled (codes "minzoom = 4\nmaxzoom = 3\n")) ≡ rule_fault 0 reasons.Range
  pub second_condition : profile_of (ruled (codes "when = [\"b\", \"=c\"]\n")) ≡ rule_fault 0 reasons.Condition
  pub condition_of_a_number : profile_of (ruled (codes "when = [1]\n")) ≡ rule_fault 0 reasons.Shape
  pub key_and_value : profile_of (ruled (codes "attributes = [{ key = \"b\", value = 1 }]\n")) ≡ rule_fault 0 reasons.Attribute
  pub name_alone : profile_of (ruled (codes "attributes = [{ name = \"b\" }]\n")) ≡ rule_fault 0 reasons.Attribute
  pub value_alone : profile_of (ruled (codes "attributes = [{ value = 1 }]\n")) ≡ rule_fault 0 reasons.Attribute
  pub constant_with_a_form : profile_of (ruled (codes "attributes = [{ name = \"b\", form = \"int\", value = 1 }]\n")) ≡ rule_fault 0 reasons.Attribute
  pub other_form : profile_of (ruled (codes "attributes = [{ key = \"b\", form = \"float\" }]\n")) ≡ rule_fault 0 reasons.Attribute
  pub empty_table : profile_of (ruled (codes "attributes = [{}]\n")) ≡ rule_fault 0 reasons.Attribute
  pub other_attribute_key : profile_of (ruled (codes "attributes = [{ key = \"b\", zoom = 1 }]\n")) ≡ rule_fault 0 reasons.Attribute
  pub same_name : profile_of (ruled (codes "attributes = [{ key = \"b\" }, { key = \"c\", name = \"b\" }]\n")) ≡ rule_fault 0 reasons.Attribute
  pub second_rule : profile_of (ruled (codes "[[rule]]\nlayer = \"a\"\n")) ≡ rule_fault 1 reasons.Shape

-- kinds of elements that a form doesn't fit
pub record WorkedFits : Type 0 where
  pub node_line : fits [] elements.Node shapes.Line ≡ false
  pub node_area : fits [] elements.Node shapes.Area ≡ false
  pub way_point : fits [] elements.Way shapes.Point ≡ false
  pub relation_point : fits [] elements.Relation shapes.Point ≡ false
  pub relation_line : fits ((codes "type", codes "boundary") ∷ []) elements.Relation shapes.Line ≡ false
  pub relation_of_no_type : fits [] elements.Relation shapes.Area ≡ false
  pub relation_of_another_type : fits ((codes "type", codes "route") ∷ []) elements.Relation shapes.Area ≡ false
  pub first_type : fits ((codes "type", codes "route") ∷ (codes "type", codes "boundary") ∷ []) elements.Relation shapes.Area ≡ false
  pub boundary : fits ((codes "type", codes "boundary") ∷ []) elements.Relation shapes.Area ≡ true

-- texts of conditions
pub record WorkedConditions : Type 0 where
  pub missing : condition_of (codes "!a") ≡ Ok (conditions.Missing (codes "a"))
  pub marked_key : condition_of (codes "!!a") ≡ Ok (conditions.Missing (codes "!a"))
  pub marked_key_of_values : condition_of (codes "!a=b") ≡ Ok (conditions.OneOf (codes "!a") (codes "b" ∷ []))
  pub values : condition_of (codes "a=b=c|d") ≡ Ok (conditions.OneOf (codes "a") (codes "b=c" ∷ codes "d" ∷ []))
  pub other : condition_of (codes "a!=b|c") ≡ Ok (conditions.Other (codes "a") (codes "b|c"))
  pub empty : condition_of [] ≡ Err reasons.Condition
  pub mark_alone : condition_of (codes "!") ≡ Err reasons.Condition
  pub no_key : condition_of (codes "=b") ≡ Err reasons.Condition
  pub no_other : condition_of (codes "a!=") ≡ Err reasons.Condition
  pub empty_value : condition_of (codes "a=b|") ≡ Err reasons.Condition
  pub empty_first_value : condition_of (codes "a=|b") ≡ Err reasons.Condition
  pub empty_value_between : condition_of (codes "a=b||c") ≡ Err reasons.Condition
  pub no_value : condition_of (codes "a=") ≡ Err reasons.Condition
  pub no_key_of_other : condition_of (codes "!=b") ≡ Err reasons.Condition

-- values that are read as whole numbers
pub record WorkedNumbers : Type 0 where
  pub minus_nothing : whole_value (codes "-0") ≡ Some (pos 0)
  pub minus : whole_value (codes "-012") ≡ Some (negsuc 11)
  pub plus : whole_value (codes "+1") ≡ None
  pub digits_18 : whole_value (codes "999999999999999999") ≡ Some (pos 999999999999999999)
  pub digits_19 : whole_value (codes "1000000000000000000") ≡ None
  pub nothing : whole_value [] ≡ None
  pub minus_alone : whole_value (codes "-") ≡ None
  pub minus_twice : whole_value (codes "--1") ≡ None
  pub letter_behind : whole_value (codes "1a") ≡ None
  pub letter_between : whole_value (codes "1a1") ≡ None
  pub blank_before : whole_value (codes " 1") ≡ None
  pub large_yes : truth_value (codes "YES") ≡ None
  pub nothing_true : truth_value [] ≡ None

pub record Worked : Type 0 where
  pub profiles : WorkedProfiles
  pub refusals : WorkedRefusals
  pub fitting : WorkedFits
  pub conditions : WorkedConditions
  pub numbers : WorkedNumbers
