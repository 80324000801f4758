-- How a command ended: with the text of success, or refused.
use Rattle.std.specs.Prelude.{ℕ, Result, Ok, Err, List}
use Rattle.tb_types.specs.declared.trouble.Whom.TheVariants as whom
use Rattle.pmtiles_dirs.specs.declared.totals.Totals.{Totals}
use Rattle.pmtiles_read.specs.declared.error.ReadErr.{ReadErr}
use Rattle.pmtiles_read.specs.declared.error.ReadErr.TheVariants as errors
use Rattle.tile_model.specs.declared.stop.Stop.{Stop}
use Rattle.tile_model.specs.declared.stop.Stop.TheVariants as stops
use Rattle.build_cli.specs.declared.status.Refusal.{Refusal}
use Rattle.build_cli.specs.declared.status.Refusal.TheVariants.{Stopped, Faulty}
use Rattle.build_cli.specs.Line.{success_line, trial_line}
use Rattle.build_cli.specs.Extract.{generated_line}
use Rattle.build_cli.specs.declared.generate.Generated.{Generated}
use Rattle.build_cli.specs.declared.generate.GenErr.{GenErr}
use Rattle.build_cli.specs.declared.generate.GenErr.TheVariants as gen_errors

abbrev pub Ended : Type 0
Ended = Result (List ℕ) Refusal

-- a build
abbrev pub build_ended : Result Totals Stop → Ended
build_ended (Ok totals) = Ok (success_line totals)
build_ended (Err stop) = Err (Stopped stop)

-- a trial of this seed and number of elements
abbrev pub trial_ended : ℕ → ℕ → Result Totals Stop → Ended
trial_ended seed count (Ok totals) = Ok (trial_line seed count totals)
trial_ended seed count (Err stop) = Err (Stopped stop)

-- a look into the archive of lane 0's reader
abbrev pub refusal_of : ReadErr → Refusal
refusal_of errors.Failed = Stopped (stops.Source (whom.Lane 0))
refusal_of (errors.Bad fault) = Faulty fault
refusal_of errors.Memory = Stopped stops.Memory

abbrev pub look_ended : Result (List ℕ) ReadErr → Ended
look_ended (Ok text) = Ok text
look_ended (Err e) = Err (refusal_of e)

-- a generated extract
abbrev pub generate_ended : Result Generated GenErr → Ended
generate_ended (Ok totals) = Ok (generated_line totals)
generate_ended (Err gen_errors.Sink) = Err (Stopped stops.Sink)
generate_ended (Err gen_errors.Memory) = Err (Stopped stops.Memory)
