-- The profile of a key: points of all nodes that have it.
use Rattle.std.specs.Prelude.{ℕ, pos, codes, List, [], ◌∷◌}
use Rattle.profile_rules.specs.declared.parts.Form.TheVariants as forms
use Rattle.profile_rules.specs.declared.parts.LayerInfo.{LayerInfo}
use Rattle.profile_rules.specs.declared.parts.Rule.{Rule}
use Rattle.profile_rules.specs.declared.parts.Parts.{Parts}
use Rattle.profile_rules.specs.declared.condition.Condition.TheVariants as conditions
use Rattle.profile_rules.specs.declared.attribute.ValueForm.TheVariants as values
use Rattle.profile_rules.specs.declared.attribute.Origin.TheVariants as origins
use Rattle.profile_rules.specs.declared.attribute.Attribute.{Attribute}
use Rattle.profile_rules.specs.Top.{usual_name}

unfoldable pub nodes_id : List ℕ
nodes_id = codes "nodes"

abbrev pub nodes_layer : LayerInfo
nodes_layer = record { id = nodes_id; buffer = 0; tolerance = 0 }

abbrev pub key_attribute : List ℕ → Attribute
key_attribute key = record { name = key; origin = origins.Tag key values.Text }

abbrev pub key_rule : List ℕ → Rule
key_rule key = record { layer = 0; form = forms.Point; conditions = conditions.Stands key ∷ []; min = 0; max = 0; order = pos 0; attributes = key_attribute key ∷ [] }

-- One layer `nodes` at zoom 0, with one rule that keeps the key as an attribute.
abbrev pub one_rule_of : List ℕ → Parts
one_rule_of key = record { name = usual_name; min = 0; max = 0; layers = nodes_layer ∷ []; rules = key_rule key ∷ [] }
