-- Worked words, and what they ask for.
use Rattle.std.specs.Prelude.{◌≡◌, None, Some, [], ◌∷◌, codes}
use Rattle.build_cli.specs.Command.{build, by_profile, check, show, generate, trial, command_of}

pub record WorkedWords : Type 0 where
  pub all : command_of (codes "check" ∷ codes "a" ∷ []) ≡ Some (check (codes "a"))
  pub whole : command_of (codes "show" ∷ codes "a" ∷ codes "0" ∷ codes "0" ∷ codes "0" ∷ []) ≡ Some (show (codes "a") (record { z = 0; x = 0; y = 0 }))
  pub last : command_of (codes "show" ∷ codes "a" ∷ codes "26" ∷ codes "67108863" ∷ codes "10" ∷ []) ≡ Some (show (codes "a") (record { z = 26; x = 67108863; y = 10 }))
  -- a zoom past the last, a column past the last of its zoom
  pub far_zoom : command_of (codes "show" ∷ codes "a" ∷ codes "27" ∷ codes "0" ∷ codes "0" ∷ []) ≡ None
  pub far_column : command_of (codes "show" ∷ codes "a" ∷ codes "1" ∷ codes "2" ∷ codes "0" ∷ []) ≡ None
  -- a leading zero, a sign, no digit, another letter
  pub leading_zero : command_of (codes "show" ∷ codes "a" ∷ codes "1" ∷ codes "01" ∷ codes "0" ∷ []) ≡ None
  pub sign : command_of (codes "show" ∷ codes "a" ∷ codes "1" ∷ codes "+1" ∷ codes "0" ∷ []) ≡ None
  pub no_digit : command_of (codes "show" ∷ codes "a" ∷ codes "1" ∷ codes "1" ∷ [] ∷ []) ≡ None
  pub letter : command_of (codes "show" ∷ codes "a" ∷ codes "1" ∷ codes "1" ∷ codes "1x" ∷ []) ≡ None
  -- no archive, an option, a number too few
  pub no_archive : command_of (codes "check" ∷ [] ∷ []) ≡ None
  pub option : command_of (codes "check" ∷ codes "--all" ∷ []) ≡ None
  pub few : command_of (codes "show" ∷ codes "a" ∷ codes "0" ∷ codes "0" ∷ []) ≡ None
  -- the least and the most of a seed and of a number of elements, and one past each
  pub least_extract : command_of (codes "gen" ∷ codes "0" ∷ codes "100" ∷ codes "e" ∷ []) ≡ Some (generate 0 100 (codes "e"))
  pub most_tried : command_of (codes "trial" ∷ codes "1" ∷ codes "1000000" ∷ codes "a" ∷ []) ≡ Some (trial 1 1000000 (codes "a"))
  pub more_than_tried : command_of (codes "trial" ∷ codes "1" ∷ codes "1000001" ∷ codes "a" ∷ []) ≡ None
  pub most_extract : command_of (codes "gen" ∷ codes "18446744073709551615" ∷ codes "10000000" ∷ codes "e" ∷ []) ≡ Some (generate 18446744073709551615 10000000 (codes "e"))
  pub few_elements : command_of (codes "gen" ∷ codes "7" ∷ codes "99" ∷ codes "e" ∷ []) ≡ None
  pub many_elements : command_of (codes "gen" ∷ codes "7" ∷ codes "10000001" ∷ codes "e" ∷ []) ≡ None
  pub far_seed : command_of (codes "gen" ∷ codes "18446744073709551616" ∷ codes "100" ∷ codes "e" ∷ []) ≡ None
  -- no seed, a key in its place, no extract, and an option in its place
  pub no_seed : command_of (codes "gen" ∷ [] ∷ codes "100" ∷ codes "e" ∷ []) ≡ None
  pub key : command_of (codes "gen" ∷ codes "amenity" ∷ codes "100" ∷ codes "e" ∷ []) ≡ None
  pub no_extract : command_of (codes "gen" ∷ codes "7" ∷ codes "100" ∷ [] ∷ []) ≡ None
  pub option_for_extract : command_of (codes "gen" ∷ codes "7" ∷ codes "100" ∷ codes "--lanes" ∷ []) ≡ None
  -- a build without a budget, the option at each of its places, the least budget and the most
  pub usual : command_of (codes "build" ∷ codes "p" ∷ codes "e" ∷ codes "a" ∷ []) ≡ Some (build (by_profile (codes "p")) (codes "e") (codes "a") 1073741824)
  pub least_budget : command_of (codes "build" ∷ codes "--budget" ∷ codes "1048576" ∷ codes "p" ∷ codes "e" ∷ codes "a" ∷ []) ≡ Some (build (by_profile (codes "p")) (codes "e") (codes "a") 1048576)
  pub most_budget : command_of (codes "build" ∷ codes "p" ∷ codes "--budget" ∷ codes "4294967296" ∷ codes "e" ∷ codes "a" ∷ []) ≡ Some (build (by_profile (codes "p")) (codes "e") (codes "a") 4294967296)
  pub third_budget : command_of (codes "build" ∷ codes "p" ∷ codes "e" ∷ codes "--budget" ∷ codes "1048577" ∷ codes "a" ∷ []) ≡ Some (build (by_profile (codes "p")) (codes "e") (codes "a") 1048577)
  pub last_budget : command_of (codes "build" ∷ codes "p" ∷ codes "e" ∷ codes "a" ∷ codes "--budget" ∷ codes "4294967295" ∷ []) ≡ Some (build (by_profile (codes "p")) (codes "e") (codes "a") 4294967295)
  -- one below the least and one above the most, the option twice, without its number, and of another command
  pub small_budget : command_of (codes "build" ∷ codes "--budget" ∷ codes "1048575" ∷ codes "p" ∷ codes "e" ∷ codes "a" ∷ []) ≡ None
  pub large_budget : command_of (codes "build" ∷ codes "p" ∷ codes "e" ∷ codes "a" ∷ codes "--budget" ∷ codes "4294967297" ∷ []) ≡ None
  pub twice : command_of (codes "build" ∷ codes "--budget" ∷ codes "1048576" ∷ codes "p" ∷ codes "e" ∷ codes "a" ∷ codes "--budget" ∷ codes "1048576" ∷ []) ≡ None
  pub no_number : command_of (codes "build" ∷ codes "p" ∷ codes "e" ∷ codes "a" ∷ codes "--budget" ∷ []) ≡ None
  pub of_nodes : command_of (codes "nodes" ∷ codes "amenity" ∷ codes "e" ∷ codes "a" ∷ codes "--budget" ∷ codes "1048576" ∷ []) ≡ None
