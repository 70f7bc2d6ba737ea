-- The functions of a script make calls alone, of callouts and CPUs that exist.
use Rattle.std.proofs.Common.{◌≡◌, ◌<◌, true, List, [], ◌∷◌, length}
use Rattle.std.proofs.lemmas.Bool.{ltb-true}
use Rattle.std.specs.List.{AllByRecursion}
use Rattle.co_object.proofs.Changes.{both_true}
use Rattle.co_program.specs.declared.act.Act.{Act}
use Rattle.co_program.specs.declared.act.Act.TheVariants as act
use Rattle.co_program.specs.declared.act.Scene.{Scene}
use Rattle.co_program.specs.declared.act.Who.{Who}
use Rattle.co_program.specs.declared.act.Who.TheVariants.{Timer, Me}
use Rattle.co_program.specs.declared.act.Where.{Where}
use Rattle.co_program.specs.declared.act.Where.TheVariants.{Home, Cpu, Here}
use Rattle.co_program.specs.declared.script.Script.{Script}
use Rattle.co_program.specs.Actors.{acts_at}
use Rattle.co_program.specs.Calls.{plain_op, callout_of_who, cpu_named}
use Rattle.co_program.specs.Scripts.{IsScript, is_call, who_exists, cpu_exists, names_exist}
use Rattle.co_hand.specs.Ports.{IsCpuBelow}
use Rattle.co_hand.specs.Functions.{functions_of, CallExists, IsCallIn, AreSound}

module _ (s : Script) (at : Scene) (here : at.here < s.cpus) (me : at.me < length s.timers) where
  who_in : (who : Who) → who_exists s who ≡ true → callout_of_who at who < length s.timers
  who_in (Timer i) exists = ltb-true i (length s.timers) exists
  who_in Me exists = me

  where_in : (cpu : Where) → cpu_exists s cpu ≡ true → IsCpuBelow s.cpus (cpu_named at cpu)
  where_in Home exists = tt
  where_in (Cpu cpu) exists = ltb-true cpu s.cpus exists
  where_in Here exists = here

  call_in : (a : Act) → is_call a ≡ true → names_exist s a ≡ true → CallExists (length s.timers) s.cpus (plain_op a s.hz at)
  call_in (act.Reset who func when arg cpu prec) is exists = let both = both_true (who_exists s who) (cpu_exists s cpu) exists in (who_in who both.0, where_in cpu both.1)
  call_in (act.Ticks who ticks func arg cpu) is exists = let both = both_true (who_exists s who) (cpu_exists s cpu) exists in (who_in who both.0, where_in cpu both.1)
  call_in (act.Schedule who when cpu prec) is exists = let both = both_true (who_exists s who) (cpu_exists s cpu) exists in (who_in who both.0, where_in cpu both.1)
  call_in (act.Stop who) is exists = (who_in who exists, tt)
  call_in (act.AsyncDrain who func) is exists = (who_in who exists, tt)
  call_in (act.Active who) is exists = (who_in who exists, tt)
  call_in (act.Pending who) is exists = (who_in who exists, tt)
  call_in (act.Deactivate who) is exists = (who_in who exists, tt)
  call_in (act.Init who) is exists = (who_in who exists, tt)
  call_in (act.Retire who) is exists = (who_in who exists, tt)
  call_in (act.Now time) is exists = cc
  call_in (act.Lock id) is exists = cc
  call_in (act.ReadLock id) is exists = cc
  call_in act.Unlock is exists = cc
  call_in (act.Drain i) is exists = cc
  call_in (act.Tick time) is exists = cc

calls_in : (s : Script) (acts : List Act) → AllByRecursion (λ a. is_call a ≡ true) acts → AllByRecursion (λ a. names_exist s a ≡ true) acts → AllByRecursion (IsCallIn (functions_of s)) acts
calls_in s [] are exist = tt
calls_in s (a ∷ acts) are exist = ((λ at here me. call_in s at here me a are.0 exist.0), calls_in s acts are.1 exist.1)

pub sound : (s : Script) → IsScript s → AreSound (functions_of s)
sound s is = record { hz = is.hz; calls = λ func. calls_in s (acts_at s.funcs func) (is.funcs func) (is.funcs_name func) }
