use Rattle.build_cli.specs.Command.{command_of}
use Rattle.build_cli.proofs.Generating.{generated_of}
use Rattle.build_cli.proofs.laws.done_means_generated.Goals as goal

pub returns : goal.returns
returns c = λ words before after console new_console answer h is. generated_of (command_of words) before after console new_console answer h is
