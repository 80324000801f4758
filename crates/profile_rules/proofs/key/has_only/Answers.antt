use Rattle.std.proofs.Common.{◌∙◌}
use Rattle.profile_rules.proofs.Tables.{has_only-keys}
use Rattle.profile_rules.proofs.key.has_only.Goals as goal

pub returns : goal.returns
returns c = c.all_among.ensures ∙ has_only-keys c.args.known.now c.args.table.now.entries
