use Rattle.std.proofs.Common.{◌∙◌}
use Rattle.profile_rules.proofs.Tables.{has_short_texts-values}
use Rattle.profile_rules.proofs.attribute.has_short_texts.Goals as goal

pub returns : goal.returns
returns c = c.all_short.ensures ∙ has_short_texts-values c.args.table.now.entries
