use Rattle.run_cases.proofs.tests.ports.run_through_ports.Given as goal

-- the service that was just booted
abbrev pub ghosts-run_both : goal.ghosts-run_both
ghosts-run_both g a = record { name = a.fresh.name }
