use Rattle.text_cases.proofs.tests.told.is_told.Given as goal

abbrev pub ghosts-is_report : goal.ghosts-is_report
ghosts-is_report g a = record { script = a.script.now }
