use Rattle.run_cases.proofs.tests.running.run_with.Given as goal

-- the service that was just booted
abbrev pub ghosts-open_and_run : goal.ghosts-open_and_run
ghosts-open_and_run g a = record { name = a.fresh.name }
