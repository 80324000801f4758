-- The lines on the console.
use Rattle.std.specs.Prelude.{ℕ, ◌==◌, if◌then◌else◌, List, [], ◌∷◌, ◌++◌, codes, decimal}
use Rattle.std.specs.List.{concat}
use Rattle.tb_types.specs.declared.damage.Why.{Why}
use Rattle.tb_types.specs.declared.damage.Why.TheVariants as reasons
use Rattle.tb_types.specs.declared.damage.Damage.{Damage}
use Rattle.tb_types.specs.declared.trouble.Stage.{Stage}
use Rattle.tb_types.specs.declared.trouble.Stage.TheVariants as stages
use Rattle.tb_types.specs.declared.trouble.Whom.{Whom}
use Rattle.tb_types.specs.declared.trouble.Whom.TheVariants as whom
use Rattle.profile_rules.specs.declared.fault.Part.{Part}
use Rattle.profile_rules.specs.declared.fault.Part.TheVariants as parts
use Rattle.profile_rules.specs.declared.fault.Spot.{Spot}
use Rattle.profile_rules.specs.declared.fault.ProfileWhy.{ProfileWhy}
use Rattle.profile_rules.specs.declared.fault.ProfileWhy.TheVariants as faults
use Rattle.pmtiles_dirs.specs.declared.fault.ArcFault.{ArcFault}
use Rattle.pmtiles_dirs.specs.declared.fault.ArcWhy.{ArcWhy}
use Rattle.pmtiles_dirs.specs.declared.fault.ArcWhy.TheVariants as flaws
use Rattle.tile_model.specs.declared.stop.Stop.TheVariants as stops
use Rattle.pmtiles_dirs.specs.declared.totals.Totals.{Totals}
use Rattle.build_cli.specs.declared.status.Refusal.{Refusal}
use Rattle.build_cli.specs.declared.status.Refusal.TheVariants.{Words, Stopped, Faulty}

-- the line of success
unfoldable pub success_line : Totals → List ℕ
success_line totals =
    concat
    (codes "built: tiles " ∷ decimal totals.tiles ∷ codes ", entries " ∷ decimal totals.entries ∷ codes ", contents " ∷ decimal totals.contents ∷ codes ", bytes " ∷ decimal totals.bytes ∷ codes "\n" ∷ [])

-- that of a trial: the town, and what its archive holds
unfoldable pub town_text : ℕ → ℕ → List ℕ
town_text seed count = concat (codes "trial: " ∷ decimal seed ∷ codes " " ∷ decimal count ∷ codes ": " ∷ [])

unfoldable pub totals_text : Totals → List ℕ
totals_text totals =
    concat (codes "tiles " ∷ decimal totals.tiles ∷ codes ", entries " ∷ decimal totals.entries ∷ codes ", contents " ∷ decimal totals.contents ∷ codes ", bytes " ∷ decimal totals.bytes ∷ codes "\n" ∷ [])

abbrev pub trial_line : ℕ → ℕ → Totals → List ℕ
trial_line seed count totals = town_text seed count ++ totals_text totals

-- why an extract is damaged
unfoldable pub why_text : Why → List ℕ
why_text reasons.Cut = codes "cut"
why_text reasons.HeaderLong = codes "header long"
why_text reasons.BlobLong = codes "blob long"
why_text reasons.FileLong = codes "file long"
why_text reasons.NoHeader = codes "no header"
why_text reasons.Wire = codes "wire"
why_text reasons.Missing = codes "missing"
why_text reasons.Compressed = codes "compressed"
why_text reasons.NoRaw = codes "no raw"
why_text reasons.Over32M = codes "over 32 MiB"
why_text reasons.Feature = codes "feature"
why_text reasons.Uneven = codes "uneven"
why_text reasons.Index = codes "index"
why_text reasons.Range = codes "range"

-- the line of a damaged extract
unfoldable pub damage_line : Damage → List ℕ
damage_line damage = concat (codes "damage: block " ∷ decimal damage.block ∷ codes ": " ∷ why_text damage.why ∷ codes "\n" ∷ [])

-- the name of an object outside, and the number of a lane
unfoldable pub whom_text : Whom → List ℕ
whom_text whom.Profile = codes "profile"
whom_text (whom.Lane k) = codes "lane "
whom_text whom.Spool = codes "spool"
whom_text whom.Archive = codes "archive"
whom_text whom.Console = codes "console"

abbrev pub lane_text : Whom → List ℕ
lane_text (whom.Lane k) = decimal k
lane_text whom.Profile = []
lane_text whom.Spool = []
lane_text whom.Archive = []
lane_text whom.Console = []

-- the line of an object that failed: what it is for, and its name
unfoldable pub object_line : List ℕ → Whom → List ℕ
object_line role w = concat (role ∷ whom_text w ∷ lane_text w ∷ codes "\n" ∷ [])

-- of a source, and of a spill
abbrev pub source_line : Whom → List ℕ
source_line w = object_line (codes "source: ") w

abbrev pub spill_line : Whom → List ℕ
spill_line w = object_line (codes "spill: ") w

-- of a spill that gave back something else: its run, and the place in it
unfoldable pub outside_line : Whom → ℕ → ℕ → List ℕ
outside_line w run at = concat (codes "spill: " ∷ whom_text w ∷ lane_text w ∷ codes " run " ∷ decimal run ∷ codes " at " ∷ decimal at ∷ codes "\n" ∷ [])

-- what needs more memory than there is for it
unfoldable pub stage_text : Stage → List ℕ
stage_text stages.Block = codes "block"
stage_text stages.Relation = codes "relation"
stage_text stages.Tile = codes "tile"

unfoldable pub budget_line : Stage → ℕ → List ℕ
budget_line stage need = concat (codes "budget: " ∷ stage_text stage ∷ codes ": need " ∷ decimal need ∷ codes "\n" ∷ [])

-- the passes by their numbers
abbrev pub pass_text : ℕ → List ℕ
pass_text n = if n == 1 then codes "members" else if n == 2 then codes "nodes" else if n == 3 then codes "ways" else codes "survey"

-- a block that was changed between the survey and a pass behind it
unfoldable pub changed_line : ℕ → ℕ → List ℕ
changed_line pass block = concat (codes "changed: pass " ∷ pass_text pass ∷ codes ": block " ∷ decimal block ∷ codes "\n" ∷ [])

-- the part of a profile: its kind, and its number where there are several
unfoldable pub part_text : Part → List ℕ
part_text parts.Top = codes "top"
part_text parts.Layer = codes "layer "
part_text parts.Rule = codes "rule "

abbrev pub if_several : Part → ℕ → List ℕ
if_several parts.Top n = []
if_several parts.Layer n = decimal n
if_several parts.Rule n = decimal n

unfoldable pub number_text : Spot → List ℕ
number_text spot = if_several spot.part spot.no

-- why a profile is refused
unfoldable pub fault_text : ProfileWhy → List ℕ
fault_text faults.Long = codes "long"
fault_text faults.Toml = codes "toml"
fault_text faults.Unknown = codes "unknown"
fault_text faults.Shape = codes "shape"
fault_text faults.Format = codes "format"
fault_text faults.Range = codes "range"
fault_text faults.Layer = codes "layer"
fault_text faults.Condition = codes "condition"
fault_text faults.Attribute = codes "attribute"

-- the line of a refused profile
unfoldable pub profile_line : Spot → ProfileWhy → List ℕ
profile_line spot why = concat (codes "profile: " ∷ part_text spot.part ∷ number_text spot ∷ codes ": " ∷ fault_text why ∷ codes "\n" ∷ [])

-- why bytes are no archive
unfoldable pub flaw_text : ArcWhy → List ℕ
flaw_text flaws.Short = codes "short"
flaw_text flaws.Magic = codes "magic"
flaw_text flaws.Version = codes "version"
flaw_text flaws.Compressed = codes "compressed"
flaw_text flaws.TileType = codes "tile type"
flaw_text flaws.Section = codes "section"
flaw_text flaws.Directory = codes "directory"
flaw_text flaws.Order = codes "order"
flaw_text flaws.Depth = codes "depth"
flaw_text flaws.Tile = codes "tile"

-- the line of an archive with a fault
unfoldable pub archive_line : ArcFault → List ℕ
archive_line fault = concat (codes "archive: " ∷ decimal fault.place ∷ codes ": " ∷ flaw_text fault.why ∷ codes "\n" ∷ [])

-- the lines that are the same for all their causes
unfoldable pub words_line : List ℕ
words_line = codes "words not understood\n"

unfoldable pub sink_line : List ℕ
sink_line = codes "sink: archive\n"

unfoldable pub memory_line : List ℕ
memory_line = codes "want of memory\n"

-- the line of a refusal
abbrev pub line_of : Refusal → List ℕ
line_of Words = words_line
line_of (Stopped (stops.Profile spot why)) = profile_line spot why
line_of (Stopped (stops.Damage damage)) = damage_line damage
line_of (Stopped (stops.Source w)) = source_line w
line_of (Stopped (stops.Spill w)) = spill_line w
line_of (Stopped (stops.Outside w run at)) = outside_line w run at
line_of (Stopped stops.Sink) = sink_line
line_of (Stopped (stops.Budget stage need)) = budget_line stage need
line_of (Stopped (stops.Changed pass block)) = changed_line pass block
line_of (Stopped stops.Memory) = memory_line
line_of (Faulty fault) = archive_line fault
