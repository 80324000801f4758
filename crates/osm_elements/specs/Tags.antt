-- The table of strings, and tags by their places in it.
use Rattle.std.specs.Prelude.{ℕ, ◌^◌, ◌==◌, ◌||◌, nat_le, ◌&&◌, not, Bool, false, if◌then◌else◌, Option, None, Some, Result, Ok, Err, List, [], ◌∷◌, ◌++◌, length, slice_get}
use Rattle.std.specs.Str.{bytes_eq, is_utf8}
use Rattle.tb_types.specs.declared.damage.Why.{Why}
use Rattle.tb_types.specs.declared.damage.Why.TheVariants as reasons
use Rattle.tb_wire.specs.Field.{Entry}
use Rattle.tb_types.specs.Results.{◌>>=◌}
use Rattle.osm_elements.specs.Fields.{merged_fields, bodies}
use Rattle.osm_elements.specs.Signed.{low_32}

-- a tag: its key and its value
abbrev pub Tag : Type 0
Tag = List ℕ × List ℕ

-- the strings of a block
abbrev pub strings_of : List Entry → Result (List (List ℕ)) Why
strings_of fields = merged_fields 1 fields >>= bodies 1

abbrev pub if_there : {A : Type 0} → Option A → Result A Why
if_there None = Err reasons.Index
if_there (Some x) = Ok x

-- the string of an index
abbrev pub string_at : List (List ℕ) → ℕ → Result (List ℕ) Why
string_at strings index = if_there (slice_get strings (low_32 index))

abbrev pub has_key : List ℕ → List Tag → Bool
has_key key [] = false
has_key key (t ∷ tags) = bytes_eq t.0 key || has_key key tags

-- A pair joins the tags before it, where both are text and its key is none of theirs.
abbrev pub with_tag : List Tag → List ℕ → List ℕ → List Tag
with_tag tags key value = if is_utf8 key && (is_utf8 value && not (has_key key tags)) then tags ++ (key, value) ∷ [] else tags

-- a pair of indexes joins the tags before it
abbrev pub with_pair : List (List ℕ) → List Tag → ℕ → ℕ → Result (List Tag) Why
with_pair strings tags k v = string_at strings k >>= λ key. string_at strings v >>= λ value. Ok (with_tag tags key value)

-- whether an int32 is negative
abbrev pub is_negative : ℕ → Bool
is_negative n = nat_le (2 ^ 31) (low_32 n)

-- the same of int32 indexes, which may be negative
abbrev pub with_signed_pair : List (List ℕ) → List Tag → ℕ → ℕ → Result (List Tag) Why
with_signed_pair strings tags k v = if is_negative k || is_negative v then Err reasons.Index else with_pair strings tags k v

-- all pairs, one after another
abbrev pub tags_from : List (List ℕ) → List Tag → List ℕ → List ℕ → Result (List Tag) Why
tags_from strings tags [] [] = Ok tags
tags_from strings tags (k ∷ keys) (v ∷ values) = with_pair strings tags k v >>= λ more. tags_from strings more keys values
tags_from strings tags [] (v ∷ values) = Err reasons.Uneven
tags_from strings tags (k ∷ keys) [] = Err reasons.Uneven

-- The tags of an element, from the indexes of its keys and of its values.
abbrev pub tags_of : List (List ℕ) → List ℕ → List ℕ → Result (List Tag) Why
tags_of strings keys values = if length keys == length values then tags_from strings [] keys values else Err reasons.Uneven
