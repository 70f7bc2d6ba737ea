use Rattle.batch_cases.proofs.tests.kq.calls.a_timer_counts_its_expirations.Given as goal

-- the service that was just booted
abbrev pub ghosts-counts : goal.ghosts-counts
ghosts-counts g a = record { name = a.fresh.name }
