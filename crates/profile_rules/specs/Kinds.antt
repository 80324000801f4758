-- Values of the kind that their key asks for. Where a key is missing, there is no value, or an empty list.
use Rattle.std.specs.Prelude.{ℕ, ℤ, Option, None, Some, ok_or, option_map, Result, Ok, Err, List, [], ◌∷◌}
use Rattle.toml.specs.Data.{Data, as_str, as_integer, as_table, as_array, Items, no_items, item, Members}
use Rattle.profile_rules.specs.declared.fault.ProfileWhy.{ProfileWhy}
use Rattle.profile_rules.specs.declared.fault.ProfileWhy.TheVariants as reasons
use Rattle.profile_rules.specs.declared.key.Key.{Key}
use Rattle.profile_rules.specs.Turns.{◌>>=◌, in_turn}
use Rattle.profile_rules.specs.Keys.{value_at}

-- a text; another kind has this reason
abbrev pub text_or : ProfileWhy → Data → Result (List ℕ) ProfileWhy
text_or why d = ok_or (as_str d) why

abbrev pub whole_of : Data → Result ℤ ProfileWhy
whole_of d = ok_or (as_integer d) reasons.Shape

abbrev pub table_of : Data → Result Members ProfileWhy
table_of d = ok_or (as_table d) reasons.Shape

-- the items of an array
abbrev pub data_list : Items → List Data
data_list no_items = []
data_list (item d more) = d ∷ data_list more

abbrev pub list_of : Data → Result (List Data) ProfileWhy
list_of d = ok_or (option_map data_list (as_array d)) reasons.Shape

-- what is read of a value, where one stands
abbrev pub if_there : {A : Type 0} → (Data → Result A ProfileWhy) → Option Data → Result (Option A) ProfileWhy
if_there read None = Ok None
if_there read (Some d) = read d >>= λ x. Ok (Some x)

abbrev pub list_if : Option Data → Result (List Data) ProfileWhy
list_if None = Ok []
list_if (Some d) = list_of d

abbrev pub text_at : Key → Members → Result (Option (List ℕ)) ProfileWhy
text_at key members = if_there (text_or reasons.Shape) (value_at key members)

abbrev pub whole_at : Key → Members → Result (Option ℤ) ProfileWhy
whole_at key members = if_there whole_of (value_at key members)

abbrev pub texts_at : Key → Members → Result (List (List ℕ)) ProfileWhy
texts_at key members = list_if (value_at key members) >>= in_turn (λ _. text_or reasons.Shape) []

abbrev pub tables_at : Key → Members → Result (List Members) ProfileWhy
tables_at key members = list_if (value_at key members) >>= in_turn (λ _. table_of) []

-- what has to stand
abbrev pub required : {A : Type 0} → Option A → Result A ProfileWhy
required None = Err reasons.Shape
required (Some x) = Ok x
