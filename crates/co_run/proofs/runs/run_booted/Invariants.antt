use Rattle.co_run.proofs.runs.run_booted.Given as goal

-- the service that was just booted
abbrev pub ghosts-run_fresh : goal.ghosts-run_fresh
ghosts-run_fresh g a = record { name = a.fresh.name }
