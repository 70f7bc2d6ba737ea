-- The sleep queue that was just booted.
use Rattle.batch_cases.proofs.tests.sleep.threads.each_sleep_is_ended_once.Given as goal

abbrev pub ghosts-play_all-N-Name : goal.ghosts-play_all-N-Name
ghosts-play_all-N-Name g a = record { name = a.fresh.name.service }

abbrev pub ghosts-play_all-N-SleepName : goal.ghosts-play_all-N-SleepName
ghosts-play_all-N-SleepName g a = record { book = a.fresh.name.book }
