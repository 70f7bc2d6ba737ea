-- The acts of one operand or none, by their verbs: of another verb the last of each kind.
use Rattle.std.specs.Prelude.{ℕ, Bool, List, Result, Ok}
use Rattle.co_text.specs.Fallible.{◌>>=◌, ◌>>◌}
use Rattle.co_text.specs.Values.{Word, number, time}
use Rattle.co_text.specs.Taking.{lone, ended}
use Rattle.co_text.specs.declared.Cause.{Cause}
use Rattle.co_program.specs.declared.Act.{Act}
use Rattle.co_program.specs.declared.Act.TheVariants as act
use Rattle.co_program.specs.declared.Who.{Who}
use Rattle.co_grammar.specs.Operands.{who}
use Rattle.co_grammar.specs.Checks.{number_typed, who_typed}
use Rattle.co_grammar.specs.declared.keyword.Verb.{Verb}
use Rattle.co_grammar.specs.declared.keyword.Verb.TheVariants as verb

-- of a time
abbrev pub timed_act : Verb → ℕ → Act
timed_act verb.Now t = act.Now t
timed_act _ t = act.Tick t

abbrev pub timed_form : Verb → List Word → Result Act Cause
timed_form v ws = lone time ws >>= λ t. Ok (timed_act v t)

-- of a number
abbrev pub numbered_act : Verb → ℕ → Act
numbered_act verb.Lock n = act.Lock n
numbered_act verb.ReadLock n = act.ReadLock n
numbered_act _ n = act.Drain n

abbrev pub numbered_form : Verb → List Word → Result Act Cause
numbered_form v ws = lone number ws >>= λ n. Ok (numbered_act v n)

-- of a callout
abbrev pub who_act : Verb → Who → Act
who_act verb.Stop w = act.Stop w
who_act verb.Active w = act.Active w
who_act verb.Pending w = act.Pending w
who_act verb.Deactivate w = act.Deactivate w
who_act verb.Init w = act.Init w
who_act _ w = act.Retire w

abbrev pub who_form : Bool → Verb → List Word → Result Act Cause
who_form serviced v ws = lone (who serviced) ws >>= λ w. Ok (who_act v w)

-- of nothing
abbrev pub unlock_form : List Word → Result Act Cause
unlock_form ws = ended ws >> Ok act.Unlock

-- the operand alone, as its type holds it
abbrev pub number_alone : List Word → Result ℕ Cause
number_alone ws = lone number ws >>= number_typed

abbrev pub who_alone : Bool → List Word → Result Who Cause
who_alone serviced ws = lone (who serviced) ws >>= who_typed
