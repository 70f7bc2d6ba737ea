use Rattle.co_top.proofs.making.counts_of_walk.Given as goal

abbrev pub ghosts-counts_told : goal.ghosts-counts_told
ghosts-counts_told a = record { script = a.script.now }
