use Rattle.std.proofs.lemmas.Str.Pattern.{strip_suffix_char}
use Rattle.profile_rules.proofs.Marks.{last_of}
use Rattle.profile_rules.proofs.condition.without_last.Goals as goal

pub returns : goal.returns
returns c =
    let mark = c.args.mark in
    last_of mark c.args.text.now c.strip_suffix.result (strip_suffix_char mark c.args.text.now c.strip_suffix.result c.strip_suffix.ensures.cases c.requires)
