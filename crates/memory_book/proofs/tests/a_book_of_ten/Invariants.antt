use Rattle.memory_book.proofs.tests.a_book_of_ten.Given as goal

abbrev pub ghosts-asked-L-Purse : goal.ghosts-asked-L-Purse
ghosts-asked-L-Purse g a = record { budget = a.blank.parts }

abbrev pub ghosts-asked-L-Ledger : goal.ghosts-asked-L-Ledger
ghosts-asked-L-Ledger g a = record { name = a.blank.name; parts = a.blank.parts }

abbrev pub ghosts-asked_shared-L-Purse : goal.ghosts-asked_shared-L-Purse
ghosts-asked_shared-L-Purse g a = record { budget = a.blank.parts }

abbrev pub ghosts-asked_shared-L-Ledger : goal.ghosts-asked_shared-L-Ledger
ghosts-asked_shared-L-Ledger g a = record { name = a.blank.name; parts = a.blank.parts }
