use Rattle.batch_cases.proofs.tests.itimer.calls.a_timer_follows_its_interval.Given as goal

-- the service that was just booted
abbrev pub ghosts-follows : goal.ghosts-follows
ghosts-follows g a = record { name = a.fresh.name }
