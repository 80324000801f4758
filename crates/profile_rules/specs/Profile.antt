-- What the text of a profile says: its parts, or its first fault.
use Rattle.std.specs.Prelude.{ℕ, nat_lt, if◌then◌else◌, Option, None, Some, Result, Ok, Err, List, [], length}
use Rattle.std.specs.Str.{is_utf8}
use Rattle.toml.specs.Data.{Members}
use Rattle.toml.specs.Parse.{parse_document}
use Rattle.profile_rules.specs.declared.fault.Part.TheVariants as kinds
use Rattle.profile_rules.specs.declared.fault.Spot.{Spot}
use Rattle.profile_rules.specs.declared.fault.ProfileWhy.TheVariants as reasons
use Rattle.profile_rules.specs.declared.parts.LayerInfo.{LayerInfo}
use Rattle.profile_rules.specs.declared.parts.Rule.{Rule}
use Rattle.profile_rules.specs.declared.parts.Parts.{Parts}
use Rattle.profile_rules.specs.Turns.{◌>>=◌, in_turn}
use Rattle.profile_rules.specs.Faults.{Fault, spot_of, at_spot}
use Rattle.profile_rules.specs.Top.{Top, top_of}
use Rattle.profile_rules.specs.Layers.{layer_of}
use Rattle.profile_rules.specs.Rules.{rule_of}

abbrev pub top_spot : Spot
top_spot = spot_of kinds.Top 0

-- the layers in turn; the number of each is that of those before it
abbrev pub next_layer : List LayerInfo → Members → Result LayerInfo Fault
next_layer before table = at_spot (spot_of kinds.Layer (length before)) (layer_of before table)

-- the rules in turn
abbrev pub next_rule : ℕ × ℕ → List LayerInfo → List Rule → Members → Result Rule Fault
next_rule zooms layers before table = at_spot (spot_of kinds.Rule (length before)) (rule_of zooms layers table)

-- the profile with this top
abbrev pub parts_under : Top → Result Parts Fault
parts_under top =
    in_turn next_layer [] top.layers >>= λ layers. in_turn (next_rule top.zooms layers) [] top.rules >>= λ rules.
    Ok (record { name = top.name; min = top.zooms.0; max = top.zooms.1; layers = layers; rules = rules })

-- the profile that a table is
abbrev pub parts_in : Option Members → Result Parts Fault
parts_in None = Err (top_spot, reasons.Toml)
parts_in (Some table) = at_spot top_spot (top_of table) >>= parts_under

-- The parts of the profile that a text is, or the first fault: the text's own, then the first of the first faulty part.
unfoldable pub profile_of : List ℕ → Result Parts Fault
profile_of text =
    if nat_lt 1048576 (length text) then Err (top_spot, reasons.Long)
    else if is_utf8 text then parts_in (parse_document text)
    else Err (top_spot, reasons.Toml)
