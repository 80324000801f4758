use Rattle.std.proofs.Common.{◌-◌, ◌≤◌, length, map}
use Rattle.osm_elements.specs.Block.{one}
use Rattle.osm_elements.specs.Elements.{element_of, group_field}
use Rattle.osm_elements.specs.Walks.{each_from}
use Rattle.osm_elements.proofs.Joins.{Going}
use Rattle.osm_elements.specs.Words.{seen_words}
use Rattle.osm_elements.proofs.group.give_each.Given as goal

abbrev pub invariant-loop-body : goal.invariant-loop-body
invariant-loop-body g l = record {
  within : l.at ≤ length l.group;
  told : Going g.T.ElementTaker.steps g.T.ElementTaker.stops (l.fn.taker, l.fn.why) (l.taker, l.why)
      (each_from (λ body. one (element_of (seen_words l.strings) l.granularity l.kind body)) (group_field l.kind) l.group l.at)
      (each_from (λ body. one (element_of (seen_words l.strings) l.granularity l.kind body)) (group_field l.kind) l.group 0);
}

abbrev pub decreases-loop-body : goal.decreases-loop-body
decreases-loop-body g l = length l.group - l.at
