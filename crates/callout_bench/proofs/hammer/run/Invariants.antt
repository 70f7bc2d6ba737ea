use Rattle.callout_bench.proofs.hammer.run.Given as goal

-- the service that was just booted
abbrev pub ghosts-run_open : goal.ghosts-run_open
ghosts-run_open g a = record { name = a.fresh.name }
