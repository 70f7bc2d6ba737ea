-- The call that an act asks for.
use Rattle.std.specs.Prelude.{ℕ, Bool, true, false, Option, Some, None}
use Rattle.co_sbt.specs.Time.{sat_add, from_ticks}
use Rattle.co_object.specs.declared.PlainOp.{PlainOp}
use Rattle.co_object.specs.declared.PlainOp.TheVariants as op
use Rattle.co_program.specs.declared.act.Act.{Act}
use Rattle.co_program.specs.declared.act.Act.TheVariants.{Now, Lock, ReadLock, Unlock, Reset, Ticks, Schedule, Stop, Drain, AsyncDrain, Active, Pending, Deactivate, Init, Retire, Tick}
use Rattle.co_program.specs.declared.act.Who.{Who}
use Rattle.co_program.specs.declared.act.Who.TheVariants.{Timer, Me}
use Rattle.co_program.specs.declared.act.When.{When}
use Rattle.co_program.specs.declared.act.When.TheVariants.{After, At}
use Rattle.co_program.specs.declared.act.Scene.{Scene}
use Rattle.co_program.specs.declared.act.Where.{Where}
use Rattle.co_program.specs.declared.act.Where.TheVariants.{Home, Cpu, Here}

abbrev pub callout_of_who : Scene → Who → ℕ
callout_of_who at (Timer i) = i
callout_of_who at Me = at.me

abbrev pub time_of_when : Scene → When → ℕ
time_of_when at (After span) = sat_add at.time span
time_of_when at (At time) = time

abbrev pub cpu_named : Scene → Where → Option ℕ
cpu_named at Home = None
cpu_named at (Cpu cpu) = Some cpu
cpu_named at Here = Some at.here

abbrev pub is_me : Who → Bool
is_me (Timer i) = false
is_me Me = true

-- the act is about the callout in service
abbrev pub names_me : Act → Bool
names_me (Reset who func when arg cpu prec) = is_me who
names_me (Ticks who ticks func arg cpu) = is_me who
names_me (Schedule who when cpu prec) = is_me who
names_me (Stop who) = is_me who
names_me (AsyncDrain who func) = is_me who
names_me (Active who) = is_me who
names_me (Pending who) = is_me who
names_me (Deactivate who) = is_me who
names_me (Init who) = is_me who
names_me (Retire who) = is_me who
names_me act = false

-- the callout and the operation of a call; None for an act that is no call, and for a drain
abbrev pub plain_op : Act → ℕ → Scene → Option (ℕ × PlainOp)
plain_op (Reset who func when arg cpu prec) hz at = Some (callout_of_who at who, op.Reset (time_of_when at when) prec func arg (cpu_named at cpu))
plain_op (Ticks who ticks func arg cpu) hz at = Some (callout_of_who at who, op.Reset (sat_add at.time (from_ticks ticks hz)) 0 func arg (cpu_named at cpu))
plain_op (Schedule who when cpu prec) hz at = Some (callout_of_who at who, op.Schedule (time_of_when at when) prec (cpu_named at cpu))
plain_op (Stop who) hz at = Some (callout_of_who at who, op.Stop)
plain_op (AsyncDrain who func) hz at = Some (callout_of_who at who, op.AsyncDrain func)
plain_op (Active who) hz at = Some (callout_of_who at who, op.Active)
plain_op (Pending who) hz at = Some (callout_of_who at who, op.Pending)
plain_op (Deactivate who) hz at = Some (callout_of_who at who, op.Deactivate)
plain_op (Init who) hz at = Some (callout_of_who at who, op.Init)
plain_op (Retire who) hz at = Some (callout_of_who at who, op.Retire)
plain_op (Now time) hz at = None
plain_op (Lock id) hz at = None
plain_op (ReadLock id) hz at = None
plain_op Unlock hz at = None
plain_op (Drain i) hz at = None
plain_op (Tick time) hz at = None

-- the act names the CPU where it is made
abbrev pub is_own_cpu : Where → Bool
is_own_cpu Here = true
is_own_cpu cpu = false

abbrev pub names_here : Act → Bool
names_here (Reset who func when arg cpu prec) = is_own_cpu cpu
names_here (Ticks who ticks func arg cpu) = is_own_cpu cpu
names_here (Schedule who when cpu prec) = is_own_cpu cpu
names_here act = false
