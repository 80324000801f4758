use Rattle.gen_world.proofs.WorkedCases.{worked_numbers, worked_elements, worked_bytes}
use Rattle.gen_world.proofs.worked.worked_extracts.Goals as goal

pub returns-clause-numbers : goal.returns-clause-numbers
returns-clause-numbers c = worked_numbers

pub returns-clause-elements : goal.returns-clause-elements
returns-clause-elements c = worked_elements

pub returns-clause-bytes : goal.returns-clause-bytes
returns-clause-bytes c = worked_bytes
