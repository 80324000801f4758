use Rattle.std.proofs.Common.{rules, ◌^◌, ◌<◌, length, subst, sym}
use Rattle.profile_rules.specs.Fields.{layers_of}
use Rattle.pass_shapes.specs.Labels.{IsSoundLabel}
use Rattle.pass_shapes.proofs.SoundItems.{label-sound}
use Rattle.pass_shapes.proofs.feature.label_of.Goals as goal

pub returns-clause-sound : goal.returns-clause-sound
returns-clause-sound c =
    let block : c.args.origin.place.block < 2 ^ 32 = search rules in
    let index : c.args.origin.place.index < 2 ^ 32 = search rules in
    subst (IsSoundLabel (length (layers_of c.args.profile.now))) (sym (search rules)) (label-sound c.args.profile.now c.args.origin c.args.spec c.requires.sound c.requires.spec block index)
