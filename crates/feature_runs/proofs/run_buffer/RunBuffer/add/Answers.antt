use Rattle.std.proofs.Common.{◌≡◌, refl, rules}
use Rattle.feature_runs.specs.Entry.{entry_of}
use Rattle.feature_runs.specs.Writing.{Adds}
use Rattle.feature_runs.proofs.AddedSteps.{adds_keep}
use Rattle.feature_runs.proofs.SinceSteps as since
use Rattle.feature_runs.proofs.run_buffer.RunBuffer.add.Goals as goal

pub returns-in-Ok-true-clause-told : goal.returns-in-Ok-true-clause-told
returns-in-Ok-true-clause-told g c =
    let seen = g.S.Spill.seen in
    let added : Adds (seen c.args.spill.now) (seen c.args.spill.now) c.args.self.now c.hold.new.self (entry_of c.args.item) = search rules in
    adds_keep added

pub returns-in-Ok-true-hold-clause-told : goal.returns-in-Ok-true-hold-clause-told
returns-in-Ok-true-hold-clause-told g c =
    let seen = g.S.Spill.seen in
    let added : Adds (seen c.args.spill.now) (seen c.flush.new.spill) c.args.self.now c.hold-2.new.self (entry_of c.args.item) = search rules in
    adds_keep added

pub returns-in-Ok-true-clause-since : goal.returns-in-Ok-true-clause-since
returns-in-Ok-true-clause-since g c =
    let seen = g.S.Spill.seen in
    let added : Adds (seen c.args.spill.now) (seen c.args.spill.now) c.args.self.now c.hold.new.self (entry_of c.args.item) = search rules in
    since.adds_keep added

pub returns-in-Ok-true-hold-clause-since : goal.returns-in-Ok-true-hold-clause-since
returns-in-Ok-true-hold-clause-since g c =
    let seen = g.S.Spill.seen in
    let added : Adds (seen c.args.spill.now) (seen c.flush.new.spill) c.args.self.now c.hold-2.new.self (entry_of c.args.item) = search rules in
    since.adds_keep added
