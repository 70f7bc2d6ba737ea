-- The sleep queue that was just booted.
use Rattle.co_batch_text.proofs.sleep.answers.answer_batch.Given as goal

abbrev pub ghosts-answer_on-N-Name : goal.ghosts-answer_on-N-Name
ghosts-answer_on-N-Name g a = record { name = a.fresh.name.service }

abbrev pub ghosts-answer_on-N-SleepName : goal.ghosts-answer_on-N-SleepName
ghosts-answer_on-N-SleepName g a = record { book = a.fresh.name.book }
