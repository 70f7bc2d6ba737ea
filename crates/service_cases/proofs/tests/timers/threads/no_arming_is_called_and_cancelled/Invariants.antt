-- The service that was just booted.
use Rattle.service_cases.proofs.tests.timers.threads.no_arming_is_called_and_cancelled.Given as goal

abbrev pub ghosts-play : goal.ghosts-play
ghosts-play g a = record { name = a.fresh.name }
