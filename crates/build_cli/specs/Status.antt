-- The statuses of the program, by what ends a command.
use Rattle.std.specs.Prelude.{ℕ}
use Rattle.tile_model.specs.declared.stop.Stop.TheVariants as stops
use Rattle.build_cli.specs.declared.status.Refusal.{Refusal}
use Rattle.build_cli.specs.declared.status.Refusal.TheVariants.{Words, Stopped, Faulty}

-- a command that was done
abbrev pub done : ℕ
done = 0

-- the console failed behind the archive, or a sink before it was whole
abbrev pub sink_failed : ℕ
sink_failed = 9

-- The statuses in the order in which a command finds what they tell of, but for the last, which may come at any time. An archive that
-- is read has a fault, or a source failed before it was found.
abbrev pub status_of : Refusal → ℕ
status_of Words = 2
status_of (Stopped (stops.Profile spot why)) = 3
status_of (Stopped (stops.Budget stage need)) = 5
status_of (Stopped (stops.Source whom)) = 7
status_of (Stopped (stops.Damage damage)) = 4
status_of (Stopped (stops.Spill whom)) = 8
status_of (Stopped (stops.Outside whom run at)) = 8
status_of (Stopped stops.Sink) = 9
status_of (Stopped (stops.Changed pass block)) = 12
status_of (Stopped stops.Memory) = 10
status_of (Faulty fault) = 11
