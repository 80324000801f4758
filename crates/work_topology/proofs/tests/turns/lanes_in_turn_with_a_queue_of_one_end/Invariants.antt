use Rattle.work_topology.proofs.tests.turns.lanes_in_turn_with_a_queue_of_one_end.Given as goal

abbrev pub ghosts-taken_in_turn-L-Purse : goal.ghosts-taken_in_turn-L-Purse
ghosts-taken_in_turn-L-Purse g a = record { budget = a.blank.parts }

abbrev pub ghosts-taken_in_turn-L-Ledger : goal.ghosts-taken_in_turn-L-Ledger
ghosts-taken_in_turn-L-Ledger g a = record { name = a.blank.name; parts = a.blank.parts }
