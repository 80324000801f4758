-- The names of a command's files.
use Rattle.std.specs.Prelude.{ℕ, List, [], ◌∷◌}
use Rattle.build_cli.specs.Command.{Command, Rules, build, check, show, generate, trial, by_key, by_profile}
use Rattle.build_cli.specs.declared.names.Names.{Names}

-- the name of the file of the rules, if they are in one
abbrev pub profile_name : Rules → List ℕ
profile_name (by_key key) = []
profile_name (by_profile name) = name

-- the names of a command's files: one reader, and what isn't named is empty
abbrev pub names_of : Command → Names
names_of (build rules extract archive budget) = record { profile = profile_name rules; readers = extract ∷ []; output = archive }
names_of (check archive) = record { profile = []; readers = archive ∷ []; output = [] }
names_of (show archive tile) = record { profile = []; readers = archive ∷ []; output = [] }
names_of (generate seed count extract) = record { profile = []; readers = [] ∷ []; output = extract }
names_of (trial seed count archive) = record { profile = []; readers = [] ∷ []; output = archive }
