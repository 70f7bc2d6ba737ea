-- The functions of a worked script.
use Rattle.std.specs.Prelude.{◌≡◌, ◌≤◌, ℕ, length}
use Rattle.co_program.specs.Actors.{acts_at}
use Rattle.co_hand.specs.Functions.{Functions}

-- those of one callout on one CPU, each of two acts at most
abbrev pub IsWorked : Functions → Type 0
IsWorked f = (f.callouts ≡ 1) × (f.cpus ≡ 1) × ((func : ℕ) → length (acts_at f.funcs func) ≤ 2)
