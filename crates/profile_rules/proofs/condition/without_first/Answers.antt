use Rattle.std.proofs.lemmas.Str.Pattern.{strip_prefix_char}
use Rattle.profile_rules.proofs.Marks.{first_of}
use Rattle.profile_rules.proofs.condition.without_first.Goals as goal

pub returns : goal.returns
returns c =
    let mark = c.args.mark in
    first_of mark c.args.text.now c.strip_prefix.result (strip_prefix_char mark c.args.text.now c.strip_prefix.result c.strip_prefix.ensures.cases c.requires)
