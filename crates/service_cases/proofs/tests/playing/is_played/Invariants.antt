use Rattle.service_cases.proofs.tests.playing.is_played.Given as goal

-- the service that was just booted
abbrev pub ghosts-notes_of : goal.ghosts-notes_of
ghosts-notes_of g a = record { name = a.fresh.name }
