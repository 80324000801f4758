-- What the words of a command line ask for.
use Rattle.std.specs.Prelude.{ℕ, ◌<◌, ◌≤◌, Bool, ◌==◌, ◌&&◌, not, nat_eq, Option, None, Some, List, [], ◌∷◌, length, codes, if◌then◌else◌}
use Rattle.std.specs.Option.{option_map, option_and_then}
use Rattle.std.specs.List.{starts_with}
use Rattle.std.specs.Str.{bytes_eq}
use Rattle.tb_types.specs.declared.tile.TileXyz.{TileXyz}
use Rattle.hilbert_ids.specs.Ids.{IsTile}
use Rattle.tile_model.specs.declared.from.ProfileFrom.{ProfileFrom}
use Rattle.tile_model.specs.declared.from.ProfileFrom.TheVariants as profiles
use Rattle.build_cli.specs.Numbers.{budget_of, seed_of, count_of, trial_count_of, tile_of}
use Rattle.build_cli.specs.declared.command.Command as declared
use Rattle.build_cli.specs.declared.command.Command.TheVariants as commands
use Rattle.build_cli.specs.declared.command.Rules as declared_rules
use Rattle.build_cli.specs.declared.command.Rules.TheVariants as rules
use Rattle.build_cli.specs.declared.number.TheConstants.{DEFAULT_BUDGET, FEWEST, MOST, MOST_BUDGET, MOST_TRIED}

-- where the rules of a build come from: one rule for a key, or the profile in a file
pub data Rules : Type 0 where
  by_key : List ℕ → Rules
  by_profile : List ℕ → Rules

pub data Command : Type 0 where
  -- build a map by these rules, from an extract to an archive, within a budget of memory in bytes
  build : Rules → List ℕ → List ℕ → ℕ → Command
  -- tell what an archive holds
  check : List ℕ → Command
  -- tell what a tile of an archive holds
  show : List ℕ → TileXyz → Command
  -- generate the extract of a seed and a number of elements
  generate : ℕ → ℕ → List ℕ → Command
  -- build the map of the extract of a seed and a number of elements by the profile of trials
  trial : ℕ → ℕ → List ℕ → Command

-- a word that is an argument: not empty, and no option
abbrev pub is_argument : List ℕ → Bool
is_argument word = not (length word == 0) && not (starts_with nat_eq word (codes "--"))

-- the rules of a build of this name
abbrev pub rules_of : List ℕ → List ℕ → Option Rules
rules_of name first = if bytes_eq name (codes "nodes") then Some (by_key first) else if bytes_eq name (codes "build") then Some (by_profile first) else None

-- the commands by how many words they have
abbrev pub check_of : List ℕ → List ℕ → Option Command
check_of name archive = if bytes_eq name (codes "check") && is_argument archive then Some (check archive) else None

abbrev pub build_within : ℕ → List ℕ → List ℕ → List ℕ → List ℕ → Option Command
build_within budget name first extract archive =
    if is_argument first && is_argument extract && is_argument archive then option_map (λ rules. build rules extract archive budget) (rules_of name first) else None

abbrev pub build_of : List ℕ → List ℕ → List ℕ → List ℕ → Option Command
build_of name first extract archive = build_within DEFAULT_BUDGET name first extract archive

-- a build by a profile within the budget that a word says
abbrev pub budgeted : List ℕ → List ℕ → List ℕ → List ℕ → List ℕ → Option Command
budgeted name value first extract archive =
    if bytes_eq name (codes "build") then option_and_then (λ budget. build_within budget name first extract archive) (budget_of value) else None

abbrev pub is_budget : List ℕ → Bool
is_budget word = bytes_eq word (codes "--budget")

-- of five words behind the first the option and its number, wherever they stand; the other three are the arguments
abbrev pub with_budget : List ℕ → List ℕ → List ℕ → List ℕ → List ℕ → List ℕ → Option Command
with_budget name a b c d e =
    if is_budget a then budgeted name b c d e else
    if is_budget b then budgeted name c a d e else
    if is_budget c then budgeted name d a b e else
    if is_budget d then budgeted name e a b c else None

abbrev pub generate_of : List ℕ → List ℕ → List ℕ → Option Command
generate_of seed count extract = if is_argument extract then option_and_then (λ s. option_map (λ n. generate s n extract) (count_of count)) (seed_of seed) else None

abbrev pub trial_of : List ℕ → List ℕ → List ℕ → Option Command
trial_of seed count archive = if is_argument archive then option_and_then (λ s. option_map (λ n. trial s n archive) (trial_count_of count)) (seed_of seed) else None

abbrev pub four_of : List ℕ → List ℕ → List ℕ → List ℕ → Option Command
four_of name first second third =
    if bytes_eq name (codes "gen") then generate_of first second third else
    if bytes_eq name (codes "trial") then trial_of first second third else build_of name first second third

abbrev pub show_of : List ℕ → List ℕ → List ℕ → List ℕ → List ℕ → Option Command
show_of name archive zoom column row = if bytes_eq name (codes "show") && is_argument archive then option_map (show archive) (tile_of zoom column row) else None

-- the command, or none where the words are no command
abbrev pub command_of : List (List ℕ) → Option Command
command_of [] = None
command_of (name ∷ []) = None
command_of (name ∷ archive ∷ []) = check_of name archive
command_of (name ∷ first ∷ second ∷ []) = None
command_of (name ∷ first ∷ second ∷ third ∷ []) = four_of name first second third
command_of (name ∷ archive ∷ zoom ∷ column ∷ row ∷ []) = show_of name archive zoom column row
command_of (name ∷ a ∷ b ∷ c ∷ d ∷ e ∷ []) = with_budget name a b c d e
command_of (name ∷ a ∷ b ∷ c ∷ d ∷ e ∷ f ∷ words) = None

-- the command that the code has, without where its words lie
abbrev pub seen_rules : declared_rules.Rules → Rules
seen_rules (rules.Key key) = by_key key.now
seen_rules (rules.Profile name) = by_profile name.now

abbrev pub seen_command : declared.Command → Command
seen_command (commands.Build rules extract archive budget) = build (seen_rules rules) extract.now archive.now budget
seen_command (commands.Check archive) = check archive.now
seen_command (commands.Show archive tile) = show archive.now tile
seen_command (commands.Generate seed count extract) = generate seed count extract.now
seen_command (commands.Trial seed count archive) = trial seed count archive.now

-- where the profile of a build comes from
abbrev pub source_of : Rules → ProfileFrom
source_of (by_key key) = profiles.OneRule key
source_of (by_profile name) = profiles.Read

-- the key isn't empty
abbrev pub IsKeyed : Rules → Type 0
IsKeyed (by_key key) = 0 < length key
IsKeyed (by_profile name) = Unit {0}

-- the values of a command are as it needs them: a key isn't empty, a tile lies within its zoom, and an extract has as many elements as it may
abbrev pub HasGoodValues : Command → Type 0
HasGoodValues (build rules extract archive budget) = IsKeyed rules × (budget ≤ MOST_BUDGET)
HasGoodValues (check archive) = Unit {0}
HasGoodValues (show archive tile) = IsTile tile
HasGoodValues (generate seed count extract) = (FEWEST ≤ count) × (count ≤ MOST)
HasGoodValues (trial seed count archive) = (FEWEST ≤ count) × (count ≤ MOST_TRIED)
