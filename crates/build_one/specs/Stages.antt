-- What the stops of the stages are for the build.
use Rattle.std.specs.Prelude.{ℕ}
use Rattle.tb_types.specs.declared.trouble.Stage.TheVariants as stages
use Rattle.tb_types.specs.declared.trouble.Whom.TheVariants as whom
use Rattle.pbf_blobs.specs.declared.stop.ScanStop.{ScanStop}
use Rattle.pbf_blobs.specs.declared.stop.ScanStop.TheVariants as scan_stops
use Rattle.run_merge.specs.declared.merge_err.MergeErr.{MergeErr}
use Rattle.run_merge.specs.declared.merge_err.MergeErr.TheVariants as merge_errors
use Rattle.pmtiles_file.specs.declared.finish_err.FinishErr.{FinishErr}
use Rattle.pmtiles_file.specs.declared.finish_err.FinishErr.TheVariants as finish_errors
use Rattle.tb_outside.specs.declared.spill.SpillErr.{SpillErr}
use Rattle.tb_outside.specs.declared.spill.SpillErr.TheVariants as spill_errors
use Rattle.tile_model.specs.declared.stop.Stop.{Stop}
use Rattle.tile_model.specs.declared.stop.Stop.TheVariants as stops
use Rattle.build_one.specs.declared.stop.PassStop.{PassStop}
use Rattle.build_one.specs.declared.stop.PassStop.TheVariants as pass_stops
use Rattle.build_one.specs.declared.stop.RelationStop.{RelationStop}
use Rattle.build_one.specs.declared.stop.RelationStop.TheVariants as relation_stops
use Rattle.build_one.specs.declared.stop.ProfileStop.{ProfileStop}
use Rattle.build_one.specs.declared.stop.ProfileStop.TheVariants as profile_stops

abbrev pub stop_of_profile : ProfileStop → Stop
stop_of_profile (profile_stops.Bad spot why) = stops.Profile spot why
stop_of_profile profile_stops.Failed = stops.Source whom.Profile
stop_of_profile profile_stops.Memory = stops.Memory

abbrev pub stop_of_survey : ScanStop → Stop
stop_of_survey (scan_stops.Damage damage) = stops.Damage damage
stop_of_survey scan_stops.Failed = stops.Source (whom.Lane 0)
stop_of_survey scan_stops.Memory = stops.Memory

abbrev pub stop_of_pass : ℕ → PassStop → Stop
stop_of_pass pass (pass_stops.Damage damage) = stops.Changed pass damage.block
stop_of_pass pass pass_stops.Source = stops.Source (whom.Lane 0)
stop_of_pass pass pass_stops.Spill = stops.Spill (whom.Lane 0)
stop_of_pass pass pass_stops.Memory = stops.Memory

abbrev pub stop_of_relations : RelationStop → Stop
stop_of_relations (relation_stops.TooLarge need) = stops.Budget stages.Relation need
stop_of_relations relation_stops.Spill = stops.Spill (whom.Lane 0)
stop_of_relations relation_stops.Memory = stops.Memory

-- an error of the spill in the pass over relations
abbrev pub relation_stop_of : SpillErr → RelationStop
relation_stop_of spill_errors.Failed = relation_stops.Spill
relation_stop_of spill_errors.Memory = relation_stops.Memory

abbrev pub stop_of_tiles : MergeErr → Stop
stop_of_tiles (merge_errors.Spill w) = stops.Spill w
stop_of_tiles (merge_errors.Outside w run at) = stops.Outside w run at
stop_of_tiles (merge_errors.TooLarge need) = stops.Budget stages.Tile need
stop_of_tiles merge_errors.Memory = stops.Memory

abbrev pub stop_of_archive : FinishErr → Stop
stop_of_archive finish_errors.Memory = stops.Memory
stop_of_archive finish_errors.Spill = stops.Spill whom.Spool
stop_of_archive finish_errors.Sink = stops.Sink
