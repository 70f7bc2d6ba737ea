-- How many acts of a program are left.
use Rattle.std.proofs.Common.{◌≡◌, ℕ, zero, suc, ◌-◌, ◌==◌, Bool, true, false, cond, List, [], ◌∷◌, length, map, drop, refl, ap, ◌∙◌, length-drop}
use Rattle.co_program.specs.declared.act.Act.{Act}
use Rattle.co_program.specs.declared.program.Task.{Task}
use Rattle.co_program.specs.declared.program.Task.TheVariants.{Does}
use Rattle.co_program.specs.declared.role.Role.TheVariants.{Cpu}
use Rattle.co_program.specs.declared.script.Script.{Script}
use Rattle.co_program.specs.Actors.{acts_at, program_of, softs}

length-softs : (j n : ℕ) → length (softs j n) ≡ n
length-softs j zero = refl
length-softs j (suc n) = ap suc (length-softs (suc j) n)

length-does : (acts : List Act) → length (map Does acts) ≡ length acts
length-does [] = refl
length-does (act ∷ acts) = ap suc (length-does acts)

either : (b : Bool) (acts : List Act) → length (cond {A = List Task} b (softs 0 (length acts)) (map Does acts)) ≡ length acts
either true acts = length-softs 0 (length acts)
either false acts = length-does acts

left : (over : ℕ) (tasks : List Task) (acts : List Act) → length tasks ≡ length acts → length (drop over tasks) ≡ length acts - over
left over tasks acts h = length-drop over tasks ∙ ap (λ n. n - over) h

pub cpu-left : (s : Script) (cpu over : ℕ) → length (drop over (program_of s (Cpu cpu))) ≡ length (acts_at s.ticks cpu) - over
cpu-left s cpu over = left over (program_of s (Cpu cpu)) (acts_at s.ticks cpu) (either (s.version == 2) (acts_at s.ticks cpu))
