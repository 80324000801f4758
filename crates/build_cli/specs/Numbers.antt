-- Numbers among the words of a command.
use Rattle.std.specs.Prelude.{ℕ, ◌-◌, ◌^◌, Bool, ◌&&◌, nat_le, if◌then◌else◌, Option, None, Some, List, decimal}
use Rattle.std.specs.Option.{option_map, option_and_then}
use Rattle.std.specs.Str.{bytes_eq}
use Rattle.std.specs.Str.Parse.{digits_value}
use Rattle.tb_types.specs.declared.tile.TileXyz.{TileXyz}
use Rattle.hilbert_ids.specs.Ids.{last_zoom}
use Rattle.build_cli.specs.declared.number.TheConstants.{FEWEST, LEAST_BUDGET, MOST, MOST_BUDGET, MOST_TRIED}

-- the number of a word's digits, where they are digits
abbrev pub value_of : List ℕ → ℕ
value_of word = digits_value 10 word

-- a word that has just the decimal digits of its number: no sign, and no leading zero but that of `0`
abbrev pub is_number : List ℕ → Bool
is_number word = bytes_eq (decimal (value_of word)) word

-- the number that a word is, if it is no more than this
abbrev pub number_of : List ℕ → ℕ → Option ℕ
number_of word most = if is_number word && nat_le (value_of word) most then Some (value_of word) else None

-- the seed of an extract, and how many elements it has
abbrev pub seed_of : List ℕ → Option ℕ
seed_of word = number_of word (2 ^ 64 - 1)

abbrev pub count_of : List ℕ → Option ℕ
count_of word = option_and_then (λ n. if nat_le FEWEST n then Some n else None) (number_of word MOST)

-- how many elements a trial has
abbrev pub trial_count_of : List ℕ → Option ℕ
trial_count_of word = option_and_then (λ n. if nat_le FEWEST n then Some n else None) (number_of word MOST_TRIED)

-- a budget, in bytes
abbrev pub budget_of : List ℕ → Option ℕ
budget_of word = option_and_then (λ n. if nat_le LEAST_BUDGET n then Some n else None) (number_of word MOST_BUDGET)

-- the tile of a zoom, a column and a row
abbrev pub tile_of : List ℕ → List ℕ → List ℕ → Option TileXyz
tile_of zoom column row =
    option_and_then (λ z. option_and_then (λ x. option_map (λ y. record { z = z; x = x; y = y }) (number_of row (2 ^ z - 1))) (number_of column (2 ^ z - 1))) (number_of zoom last_zoom)
