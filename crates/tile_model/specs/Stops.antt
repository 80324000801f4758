-- What ends a build, and why it came.
use Rattle.std.specs.Prelude.{ℕ}
use Rattle.tb_types.specs.declared.trouble.Stage.TheVariants as stages
use Rattle.tb_types.specs.declared.trouble.Whom.{Whom}
use Rattle.tb_types.specs.declared.trouble.Whom.TheVariants as whom
use Rattle.tile_model.specs.declared.stop.Stop.{Stop}
use Rattle.tile_model.specs.declared.stop.Stop.TheVariants as stops
use Rattle.tile_model.specs.Objects.{Role, reading, spilling, writing}

-- Why a build ended: by the contents of profile and extract, or by the items that were read back from runs; by the count of an
-- object that rose; by a spill that gave back something else than was written, or readers that don't give the same again; or
-- since memory wants.
pub data Cause : Type 0 where
  contents : Cause
  items : Cause
  count : Role → Whom → Cause
  altered : Whom → Cause
  changed : Cause
  memory : Cause

abbrev pub cause_of : Stop → Cause
cause_of (stops.Profile spot why) = contents
cause_of (stops.Damage damage) = contents
cause_of (stops.Budget stages.Block need) = contents
cause_of (stops.Budget stages.Relation need) = contents
cause_of (stops.Budget stages.Tile need) = items
cause_of (stops.Source w) = count reading w
cause_of (stops.Spill w) = count spilling w
cause_of (stops.Outside w run at) = altered w
cause_of stops.Sink = count writing whom.Archive
cause_of (stops.Changed pass block) = changed
cause_of stops.Memory = memory

-- How far a build came: it didn't touch the readers, as where the profile is refused or its source failed; it made no item, as
-- where the extract is refused or a block needs too much; it wrote no tile, as where a pass behind the survey ended; or it did.
abbrev pub stage_of : Stop → ℕ
stage_of (stops.Profile spot why) = 0
stage_of (stops.Damage damage) = 1
stage_of (stops.Budget stages.Block need) = 1
stage_of (stops.Budget stages.Relation need) = 2
stage_of (stops.Budget stages.Tile need) = 3
stage_of (stops.Source whom.Profile) = 0
stage_of (stops.Source (whom.Lane k)) = 2
stage_of (stops.Source whom.Spool) = 2
stage_of (stops.Source whom.Archive) = 2
stage_of (stops.Source whom.Console) = 2
stage_of (stops.Spill w) = 3
stage_of (stops.Outside w run at) = 3
stage_of stops.Sink = 3
stage_of (stops.Changed pass block) = 2
stage_of stops.Memory = 3
