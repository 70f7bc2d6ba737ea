use Rattle.batch_cases.proofs.tests.single.fires_what_is_due.Given as goal

-- the service that was just booted
abbrev pub ghosts-play : goal.ghosts-play
ghosts-play g a = record { name = a.fresh.name }
