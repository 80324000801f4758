use Rattle.build_cli.specs.Command.{command_of}
use Rattle.build_cli.proofs.Generating.{complete_of}
use Rattle.build_cli.proofs.laws.generating_is_complete.Goals as goal

pub returns : goal.returns
returns c = λ words before after console new_console answer h still quiet. complete_of (command_of words) before after console new_console answer h still quiet
