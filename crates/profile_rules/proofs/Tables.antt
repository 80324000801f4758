-- A table's map beside the members that it is seen as.
use Rattle.std.proofs.Common.{◌≡◌, ◌&&◌, List, [], ◌∷◌, map, Some, option_map, string_bytes, refl, ap, sym, ◌∙◌}
use Rattle.std.specs.Prelude.{Ok, ok_or}
use Rattle.std.specs.List.{list_all}
use Rattle.std.specs.Map.{keys_of, values_of}
use Rattle.toml.specs.Data.{Data, as_str, as_array}
use Rattle.toml.specs.View.{view, items_view, members_view}
use Rattle.toml.proofs.Views.{Entry}
use Rattle.toml.specs.declared.value.Value.{Value}
use Rattle.profile_rules.specs.declared.fault.ProfileWhy.TheVariants as reasons
use Rattle.profile_rules.specs.declared.key.Key.{Key}
use Rattle.profile_rules.specs.Keys.{is_among, has_only}
use Rattle.profile_rules.specs.Kinds.{data_list, list_of}
use Rattle.profile_rules.specs.Attributes.{is_short_if, has_short_texts}

pub has_only-keys : (known : List Key) (es : List Entry) → list_all (λ name. is_among known (string_bytes name)) (keys_of es) ≡ has_only known (members_view es)
has_only-keys known [] = refl
has_only-keys known (e ∷ es) = ap (λ rest. is_among known (string_bytes e.0) && rest) (has_only-keys known es)

pub has_short_texts-values : (es : List Entry) → list_all (λ value. is_short_if (as_str (view value))) (values_of es) ≡ has_short_texts (members_view es)
has_short_texts-values [] = refl
has_short_texts-values (e ∷ es) = ap (λ rest. is_short_if (as_str (view e.1)) && rest) (has_short_texts-values es)

pub data_list-items : (vs : List Value) → data_list (items_view vs) ≡ map view vs
data_list-items [] = refl
data_list-items (v ∷ vs) = ap (λ rest. view v ∷ rest) (data_list-items vs)

-- the list of an array
pub list_of-array : (d : Data) (vs : List Value) → Some (items_view vs) ≡ as_array d → list_of d ≡ Ok (map view vs)
list_of-array d vs h = ap (λ a. ok_or (option_map data_list a) reasons.Shape) (sym h) ∙ ap Ok (data_list-items vs)
