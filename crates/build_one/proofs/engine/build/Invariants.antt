use Rattle.build_one.proofs.engine.build.Given as goal

abbrev pub ghosts-build_in-L-Purse : goal.ghosts-build_in-L-Purse
ghosts-build_in-L-Purse g a = record { budget = a.blank.parts }

abbrev pub ghosts-build_in-L-Ledger : goal.ghosts-build_in-L-Ledger
ghosts-build_in-L-Ledger g a = record { name = a.blank.name; parts = a.blank.parts }
