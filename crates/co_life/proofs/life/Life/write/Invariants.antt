-- The entry is what is said.
use Rattle.std.specs.Prelude.{Some}
use Rattle.co_life.proofs.life.Life.write.Given as goal

abbrev pub ghosts-append : goal.ghosts-append
ghosts-append g a = record { entry = Some a.entry.now }
