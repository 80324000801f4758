use Rattle.std.proofs.Common.{◌-◌, ◌≤◌, length, map}
use Rattle.osm_elements.specs.Block.{group_of}
use Rattle.osm_elements.specs.Walks.{each_from}
use Rattle.osm_elements.proofs.Joins.{Going}
use Rattle.osm_elements.specs.Words.{seen_words}
use Rattle.osm_elements.proofs.block.give_groups.Given as goal

abbrev pub invariant-loop-group : goal.invariant-loop-group
invariant-loop-group g l = record {
  within : l.at ≤ length l.raw;
  told : Going g.T.ElementTaker.steps g.T.ElementTaker.stops (l.fn.taker, l.fn.why) (l.taker, l.why) (each_from (group_of (seen_words l.strings) l.granularity) 2 l.raw l.at) (each_from (group_of (seen_words l.strings) l.granularity) 2 l.raw 0);
}

abbrev pub decreases-loop-group : goal.decreases-loop-group
decreases-loop-group g l = length l.raw - l.at
