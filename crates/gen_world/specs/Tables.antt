-- The table of a block's texts: the empty one, and then the texts of its tags in order of first use.
use Rattle.std.specs.Prelude.{ℕ, ◌+◌, if◌then◌else◌, List, [], ◌∷◌, ◌++◌, flat_map, fold, map}
use Rattle.std.specs.List.{list_any, position_or_len}
use Rattle.std.specs.Str.{bytes_eq}
use Rattle.gen_world.specs.Words.{Pair}

-- a text is added behind the others, unless it is among them
unfoldable pub with_text : List (List ℕ) → List ℕ → List (List ℕ)
with_text uses text = if list_any (bytes_eq text) uses then uses else uses ++ text ∷ []

-- the texts of tags, a key before its value
abbrev pub texts_of : List Pair → List (List ℕ)
texts_of tags = flat_map (λ t. t.0 ∷ t.1 ∷ []) tags

-- the texts that tags use
unfoldable pub uses_of : List Pair → List (List ℕ)
uses_of tags = fold with_text [] (texts_of tags)

-- the place of a text in the table, behind the empty text
unfoldable pub place_in : List (List ℕ) → List ℕ → ℕ
place_in uses text = position_or_len (bytes_eq text) uses + 1

-- the places of keys, those of values, and both in turn
abbrev pub keys_in : List (List ℕ) → List Pair → List ℕ
keys_in uses tags = map (λ t. place_in uses t.0) tags

abbrev pub values_in : List (List ℕ) → List Pair → List ℕ
values_in uses tags = map (λ t. place_in uses t.1) tags

abbrev pub places_in : List (List ℕ) → List Pair → List ℕ
places_in uses tags = flat_map (λ t. place_in uses t.0 ∷ place_in uses t.1 ∷ []) tags
