use Rattle.run_merge.proofs.ObjectSteps.{there_still, told_still, groups_still}
use Rattle.run_merge.proofs.laws.runs_behind_change_nothing.Goals as goal

pub returns : goal.returns
returns g c = λ old new layers readers keeps there told.
    record {
      there = there_still old new keeps readers there;
      told = told_still old new keeps layers readers told;
      groups = groups_still old new keeps layers readers told;
    }
