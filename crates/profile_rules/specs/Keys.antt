-- The keys of a profile's tables.
use Rattle.std.specs.Prelude.{ℕ, codes, Bool, true, ◌&&◌, Option, List, [], ◌∷◌}
use Rattle.std.specs.List.{list_any}
use Rattle.std.specs.Str.{bytes_eq}
use Rattle.toml.specs.Data.{Data, Members, no_members, member, get_member}
use Rattle.profile_rules.specs.declared.key.Key.{Key}
use Rattle.profile_rules.specs.declared.key.Key.TheVariants as keys

-- how a key is written
unfoldable pub key_text : Key → List ℕ
key_text keys.Format = codes "format"
key_text keys.Name = codes "name"
key_text keys.Minzoom = codes "minzoom"
key_text keys.Maxzoom = codes "maxzoom"
key_text keys.Layer = codes "layer"
key_text keys.Rule = codes "rule"
key_text keys.Id = codes "id"
key_text keys.Buffer = codes "buffer"
key_text keys.Tolerance = codes "tolerance"
key_text keys.Kind = codes "kind"
key_text keys.When = codes "when"
key_text keys.Order = codes "order"
key_text keys.Attributes = codes "attributes"
key_text keys.TagKey = codes "key"
key_text keys.Form = codes "form"
key_text keys.Value = codes "value"

-- the keys that each kind of table may have
abbrev pub top_keys : List Key
top_keys = keys.Format ∷ keys.Name ∷ keys.Minzoom ∷ keys.Maxzoom ∷ keys.Layer ∷ keys.Rule ∷ []

abbrev pub layer_keys : List Key
layer_keys = keys.Id ∷ keys.Buffer ∷ keys.Tolerance ∷ []

abbrev pub rule_keys : List Key
rule_keys = keys.Layer ∷ keys.Kind ∷ keys.When ∷ keys.Minzoom ∷ keys.Maxzoom ∷ keys.Order ∷ keys.Attributes ∷ []

abbrev pub attribute_keys : List Key
attribute_keys = keys.TagKey ∷ keys.Name ∷ keys.Form ∷ keys.Value ∷ []

abbrev pub is_among : List Key → List ℕ → Bool
is_among known name = list_any (λ key. bytes_eq (key_text key) name) known

-- whether a table has none but these keys
abbrev pub has_only : List Key → Members → Bool
has_only known no_members = true
has_only known (member name d more) = is_among known name && has_only known more

-- what stands at a key
abbrev pub value_at : Key → Members → Option Data
value_at key table = get_member (key_text key) table
