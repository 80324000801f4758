use Rattle.std.proofs.lemmas.Str.Pattern.{split_parts}
use Rattle.profile_rules.proofs.Marks.{split_parts_are, split_is_shorter}
use Rattle.profile_rules.proofs.condition.split_at.Goals as goal

pub returns-clause-parts : goal.returns-clause-parts
returns-clause-parts c =
    let mark = c.args.mark in
    split_parts_are mark c.args.text.now c.split_once.result (split_parts mark c.args.text.now c.split_once.result c.split_once.ensures.cases c.requires)

pub returns-clause-shorter : goal.returns-clause-shorter
returns-clause-shorter c =
    let mark = c.args.mark in
    split_is_shorter mark c.args.text.now c.split_once.result (split_parts mark c.args.text.now c.split_once.result c.split_once.ensures.cases c.requires)
