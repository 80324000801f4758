use Rattle.std.proofs.Common.{map, ◌∙◌}
use Rattle.osm_elements.proofs.RunSteps.{check_passes}
use Rattle.osm_elements.specs.Words.{seen_words}
use Rattle.osm_elements.proofs.runs.check_run.Goals as goal

pub loop-key-preserved : goal.loop-key-preserved
loop-key-preserved c =
    check_passes (seen_words c.args.strings.now) c.in-Some.key.now c.in-Some-split_first.value.now c.in-Some-split_first.others.now _
    (λ z. c.if-low_32-eq0.false (c.low_32.ensures.value ∙ z)) (c.in_ok-check_pair.ensures {u = tt}) (rw (c.in-Some.ensures.cases.0, c.in-Some-split_first.ensures.cases.0) at c.loop-key.invariant)
