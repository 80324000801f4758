use Rattle.build_cli.specs.Command.{command_of}
use Rattle.build_cli.proofs.Statuses.{done_written}
use Rattle.build_cli.proofs.laws.done_means_written.Goals as goal

pub returns : goal.returns
returns c = λ words before after console new_console answer h is. done_written (command_of words) before after console new_console answer h is
