use Rattle.build_cli.specs.Command.{command_of}
use Rattle.build_cli.proofs.Looking.{fits_of}
use Rattle.build_cli.proofs.laws.looks_are_complete.Goals as goal

pub returns : goal.returns
returns c = λ words before after console new_console answer h none quiet. fits_of (command_of words) before after console new_console answer h none quiet
