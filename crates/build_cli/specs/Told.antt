-- What is due of a build where profile and extract are told.
use Rattle.std.specs.Prelude.{ℕ, Option, None, Some, List}
use Rattle.gen_world.specs.Frames.{extract_of}
use Rattle.tile_model.specs.Due as builds
use Rattle.tile_model.specs.declared.from.ProfileFrom.TheVariants as profiles
use Rattle.build_cli.specs.declared.number.TheConstants.{DEFAULT_BUDGET}
use Rattle.build_cli.specs.Command.{Command, build, check, show, generate, trial, source_of}

abbrev pub due_of : Option Command → List ℕ → List ℕ → Option builds.Due
due_of None profile reader = None
due_of (Some (build rules extract archive budget)) profile reader = builds.due_of (source_of rules) budget (Some profile) (Some reader)
due_of (Some (check archive)) profile reader = None
due_of (Some (show archive tile)) profile reader = None
due_of (Some (generate seed count extract)) profile reader = None
due_of (Some (trial seed count archive)) profile reader = builds.due_of profiles.Trial DEFAULT_BUDGET (Some profile) (Some (extract_of seed count))
