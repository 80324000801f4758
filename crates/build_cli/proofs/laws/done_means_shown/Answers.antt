use Rattle.build_cli.specs.Command.{command_of}
use Rattle.build_cli.proofs.Looking.{shown_of}
use Rattle.build_cli.proofs.laws.done_means_shown.Goals as goal

pub returns : goal.returns
returns c = λ words before after console new_console answer h is. shown_of (command_of words) before after console new_console answer h is
