use Rattle.profile_rules.proofs.SoundProfiles.{read-sound}
use Rattle.profile_rules.proofs.read.read_profile.Goals as goal

pub of-requires : goal.of-requires
of-requires c = read-sound c.args.text.now c.in-Ok.parts c.in-Ok.ensures
