use Rattle.text_cases.proofs.tests.scripted.counts.has.Given as goal

abbrev pub ghosts-counts_told : goal.ghosts-counts_told
ghosts-counts_told g a = record { script = a.script.now }
