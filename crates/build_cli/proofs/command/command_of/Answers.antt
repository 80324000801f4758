use Rattle.std.proofs.Common.{sym, string_bytes}
use Rattle.build_cli.proofs.WordCounts.{one-word, three-words, many-words}
use Rattle.build_cli.proofs.command.command_of.Goals as goal

pub returns-in-len1-clause-command : goal.returns-in-len1-clause-command
returns-in-len1-clause-command c = sym (one-word (λ word. string_bytes word) c.args.words.now c.in-len1.len_at_least c.in-len1.len_below)

pub returns-in-len3-clause-command : goal.returns-in-len3-clause-command
returns-in-len3-clause-command c = sym (three-words (λ word. string_bytes word) c.args.words.now c.in-len3.len_at_least c.in-len3.len_below)

pub returns-in-len7-up-clause-command : goal.returns-in-len7-up-clause-command
returns-in-len7-up-clause-command c = sym (many-words (λ word. string_bytes word) c.args.words.now c.in-len7-up.len_at_least)
