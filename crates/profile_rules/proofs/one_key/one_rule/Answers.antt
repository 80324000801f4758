use Rattle.profile_rules.proofs.SoundProfiles.{one_rule-sound}
use Rattle.profile_rules.proofs.one_key.one_rule.Goals as goal

pub of-requires : goal.of-requires
of-requires c = rw c.in_ok-parts.ensures (one_rule-sound c.args.key.now c.requires)
