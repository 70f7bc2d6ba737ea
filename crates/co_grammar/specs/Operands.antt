-- The words that carry the operands of an act.
use Rattle.std.specs.Prelude.{Bool, ◌&&◌, [], ◌∷◌, Result, Ok, Err, ◌==◌, if◌then◌else◌, codes}
use Rattle.co_text.specs.Fallible.{◌>>=◌}
use Rattle.co_text.specs.Values.{Word, is_word, number, time}
use Rattle.co_text.specs.declared.Cause.{Cause}
use Rattle.co_text.specs.declared.Cause.TheVariants.{Form}
use Rattle.co_program.specs.declared.Who.{Who}
use Rattle.co_program.specs.declared.Who.TheVariants as callout
use Rattle.co_program.specs.declared.When.{When}
use Rattle.co_program.specs.declared.When.TheVariants as when
use Rattle.co_program.specs.declared.Where.{Where}
use Rattle.co_program.specs.declared.Where.TheVariants as cpu

-- `+T` or `=T`
abbrev pub moment : Word → Result When Cause
moment [] = Err Form
moment (c ∷ w) = if c == 43 then (time w >>= λ t. Ok (when.After t)) else (if c == 61 then (time w >>= λ t. Ok (when.At t)) else Err Form)

-- a timer's number, or `me` where there is a callout that it names
abbrev pub who : Bool → Word → Result Who Cause
who serviced w = if serviced && is_word w (codes "me") then Ok callout.Me else (number w >>= λ i. Ok (callout.Timer i))

-- a CPU's number or `here`
abbrev pub cpu_choice : Word → Result Where Cause
cpu_choice w = if is_word w (codes "here") then Ok cpu.Here else (number w >>= λ c. Ok (cpu.Cpu c))
