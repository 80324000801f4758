-- What the code has read of a part, as the definitions see it.
use Rattle.std.specs.Prelude.{map, option_copied}
use Rattle.toml.specs.View.{table_view}
use Rattle.profile_rules.specs.declared.top.Top.{Top as TopHeld}
use Rattle.profile_rules.specs.declared.top.TopShape.{TopShape as TopShapeHeld}
use Rattle.profile_rules.specs.declared.layer.LayerShape.{LayerShape as LayerShapeHeld}
use Rattle.profile_rules.specs.declared.rule.RuleShape.{RuleShape as RuleShapeHeld}
use Rattle.profile_rules.specs.Top.{Top, TopShape}
use Rattle.profile_rules.specs.Layers.{LayerShape}
use Rattle.profile_rules.specs.Rules.{RuleShape}

abbrev pub seen_top : TopHeld → Top
seen_top t = record { name = t.name.now; zooms = t.zooms; layers = map (λ x. table_view x.now) t.layers.items; rules = map (λ x. table_view x.now) t.rules.items }

abbrev pub seen_top_shape : TopShapeHeld → TopShape
seen_top_shape s =
    record { format = s.format; name = option_copied s.name; first = s.first; last = s.last; layers = map (λ x. table_view x.now) s.layers.items; rules = map (λ x. table_view x.now) s.rules.items }

abbrev pub seen_layer_shape : LayerShapeHeld → LayerShape
seen_layer_shape s = record { id = s.id.now; buffer = s.buffer; tolerance = s.tolerance }

abbrev pub seen_rule_shape : RuleShapeHeld → RuleShape
seen_rule_shape s =
    record { layer = s.layer.now; form = s.form; conditions = map (λ x. x.now) s.conditions.items; first = s.first; last = s.last; order = s.order; attributes = map (λ x. table_view x.now) s.attributes.items }
