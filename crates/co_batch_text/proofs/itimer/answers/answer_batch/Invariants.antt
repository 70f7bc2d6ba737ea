use Rattle.co_batch_text.proofs.itimer.answers.answer_batch.Given as goal

-- the service that was just booted
abbrev pub ghosts-answer_on : goal.ghosts-answer_on
ghosts-answer_on g a = record { name = a.fresh.name }
