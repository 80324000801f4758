use Rattle.memory_book.proofs.tests.a_shared_book_of_ten_trillions.Given as goal

abbrev pub ghosts-asked_shared-L-Purse : goal.ghosts-asked_shared-L-Purse
ghosts-asked_shared-L-Purse g a = record { budget = a.blank.parts }

abbrev pub ghosts-asked_shared-L-Ledger : goal.ghosts-asked_shared-L-Ledger
ghosts-asked_shared-L-Ledger g a = record { name = a.blank.name; parts = a.blank.parts }
