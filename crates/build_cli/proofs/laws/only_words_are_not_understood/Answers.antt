use Rattle.build_cli.specs.Command.{command_of}
use Rattle.build_cli.proofs.Statuses.{only_words}
use Rattle.build_cli.proofs.laws.only_words_are_not_understood.Goals as goal

pub returns : goal.returns
returns c = λ words before after console new_console answer h. only_words (command_of words) before after console new_console answer h
