-- The words that name actors and turns.
use Rattle.std.specs.Prelude.{ℕ, Bool, ◌&&◌, [], ◌∷◌, length, drop, Result, Ok, Err, ◌==◌, if◌then◌else◌}
use Rattle.std.specs.List.{before_first}
use Rattle.co_program.specs.declared.Role.{Role}
use Rattle.co_program.specs.declared.Role.TheVariants.{Client, Cpu, Interrupt}
use Rattle.co_text.specs.Fallible.{◌>>=◌}
use Rattle.co_text.specs.Values.{Word, number}
use Rattle.co_text.specs.declared.Cause.{Cause}
use Rattle.co_text.specs.declared.Cause.TheVariants.{Form}

-- the actor that a word names by its letter: a client, a CPU or in version 2 an interrupt
abbrev pub role : ℕ → Word → Result Role Cause
role version [] = Err Form
role version (c ∷ w) = if c == 99 then (number w >>= λ n. Ok (Client n)) else (if c == 112 then (number w >>= λ n. Ok (Cpu n)) else (if (c == 104) && (version == 2) then (number w >>= λ n. Ok (Interrupt n)) else Err Form))

-- an actor and how many times in a row it steps
pub record Turn : Type 0 where
  pub who : Role
  pub times : ℕ

-- `*`
abbrev pub is_star : ℕ → Bool
is_star c = c == 42

-- nothing, or `*` and a number
abbrev pub repeats : Word → Result ℕ Cause
repeats [] = Ok 1
repeats (_ ∷ w) = number w

-- an actor, or an actor, `*` and a number
abbrev pub turn : ℕ → Word → Result Turn Cause
turn version w = do
  r ← role version (before_first is_star w)
  n ← repeats (drop (length (before_first is_star w)) w)
  Ok (record { who = r; times = n })
