use Rattle.embedding_example.proofs.main.Given as goal

-- the service that was just booted
abbrev pub ghosts-run : goal.ghosts-run
ghosts-run g a = record { name = a.fresh.name }
