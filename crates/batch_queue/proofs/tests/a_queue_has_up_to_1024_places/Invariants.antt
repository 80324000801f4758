use Rattle.batch_queue.proofs.tests.a_queue_has_up_to_1024_places.Given as goal

abbrev pub ghosts-exchange-L-Purse : goal.ghosts-exchange-L-Purse
ghosts-exchange-L-Purse g a = record { budget = a.blank.parts }

abbrev pub ghosts-exchange-L-Ledger : goal.ghosts-exchange-L-Ledger
ghosts-exchange-L-Ledger g a = record { name = a.blank.name; parts = a.blank.parts }
