-- The life that was just made is the one that the threads share.
use Rattle.std.proofs.Common.{[], ◌∷◌}
use Rattle.service_cases.proofs.tests.history.threads.share.Given as goal

abbrev pub ghosts-write_both : goal.ghosts-write_both
ghosts-write_both g a = record { lives = a.life ∷ [] }
