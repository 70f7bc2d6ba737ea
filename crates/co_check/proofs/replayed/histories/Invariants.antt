use Rattle.co_check.proofs.replayed.histories.Given as goal

abbrev pub ghosts-histories_of : goal.ghosts-histories_of
ghosts-histories_of a = record { script = a.report.now.script }
