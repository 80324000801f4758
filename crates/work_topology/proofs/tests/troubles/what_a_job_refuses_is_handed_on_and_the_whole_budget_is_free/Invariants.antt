use Rattle.work_topology.proofs.tests.troubles.what_a_job_refuses_is_handed_on_and_the_whole_budget_is_free.Given as goal

abbrev pub ghosts-told-L-Purse : goal.ghosts-told-L-Purse
ghosts-told-L-Purse g a = record { budget = a.blank.parts }

abbrev pub ghosts-told-L-Ledger : goal.ghosts-told-L-Ledger
ghosts-told-L-Ledger g a = record { name = a.blank.name; parts = a.blank.parts }
