use Rattle.std.proofs.Common.{◌≡◌, sym, subst}
use Rattle.std.specs.Prelude.{All}
use Rattle.profile_rules.specs.Features.{specs_of}
use Rattle.profile_rules.specs.Sound.{IsSoundSpec}
use Rattle.profile_rules.proofs.Reading.{IfOk-weaker}
use Rattle.profile_rules.proofs.SoundSpecs.{specs-sound}
use Rattle.profile_rules.proofs.spec.specs.Goals as goal

pub returns-clause-sound : goal.returns-clause-sound
returns-clause-sound c =
    let parts = c.args.profile.now in
    let tags = c.args.tags.now in
    IfOk-weaker (λ specs. specs ≡ specs_of parts tags c.args.kind) (All (IsSoundSpec parts)) c.specs_under.result
    (λ specs e. subst (All (IsSoundSpec parts)) (sym e) (specs-sound parts tags c.args.kind c.parts.ensures.sound))
    (rw c.parts.ensures.value at c.specs_under.ensures)
