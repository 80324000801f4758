use Rattle.work_topology.proofs.tests.passes.each_block_is_worked_once.Given as goal

abbrev pub ghosts-tried-L-Purse : goal.ghosts-tried-L-Purse
ghosts-tried-L-Purse g a = record { budget = a.blank.parts }

abbrev pub ghosts-tried-L-Ledger : goal.ghosts-tried-L-Ledger
ghosts-tried-L-Ledger g a = record { name = a.blank.name; parts = a.blank.parts }
