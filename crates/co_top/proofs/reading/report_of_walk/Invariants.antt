use Rattle.co_top.proofs.reading.report_of_walk.Given as goal

abbrev pub ghosts-report_told : goal.ghosts-report_told
ghosts-report_told a = record { script = a.script.now }
