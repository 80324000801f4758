-- Why a block isn't walked to its end.
use Rattle.osm_elements.specs.declared.fault.BlockErr.{BlockErr}
use Rattle.osm_elements.specs.declared.fault.BlockErr.TheVariants as faults
use Rattle.osm_elements.specs.declared.taker.WalkErr.{WalkErr}
use Rattle.osm_elements.specs.declared.taker.WalkErr.TheVariants as errors

-- the same of a taker that wasn't asked
abbrev pub walk_err : {Stop : Type 0} → BlockErr → WalkErr Stop
walk_err (faults.Bad why) = errors.Bad why
walk_err faults.Memory = errors.Memory
