-- What a line after the first states, before it is known whether its numbers are in their ranges.
use Rattle.std.specs.Prelude.{ℕ, List}
use Rattle.co_object.specs.declared.Spec.{Spec}
use Rattle.co_lock.specs.declared.LockKind.{LockKind}
use Rattle.co_grammar.specs.Turns.{Turn}
use Rattle.co_program.specs.declared.Act.{Act}

pub data Statement : Type 0 where
  Hz : ℕ → Statement
  Cpus : ℕ → Statement
  Wheel : ℕ → Statement
  Funcs : ℕ → Statement
  Lock : ℕ → LockKind → Statement
  Timer : ℕ → Spec → Statement
  Func : ℕ → Statement
  Client : ℕ → Statement
  Cpu : ℕ → Statement
  Turns : List Turn → Statement
  Does : Act → Statement
