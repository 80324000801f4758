use Rattle.std.proofs.Common.{◌∙◌}
use Rattle.gen_world.proofs.SameWords.{alike}
use Rattle.gen_world.proofs.strings.is_same.Goals as goal

pub returns : goal.returns
returns c = c.eq.ensures ∙ alike c.args.word c.args.other
