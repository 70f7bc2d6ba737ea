-- A worked row, evaluated.
use Rattle.std.specs.Prelude.{◌≡◌, true, false, List, [], ◌∷◌, pos, None, refl, map, take}
use Rattle.std.specs.List.{range_with_len}
use Rattle.co_object.specs.declared.LockUse.TheVariants as lockuse
use Rattle.co_object.specs.declared.Op.TheVariants as op
use Rattle.co_object.specs.declared.CallOp.TheVariants as call
use Rattle.co_object.specs.declared.PlainOp.TheVariants as plain
use Rattle.co_object.specs.declared.RunOp.TheVariants as serve
use Rattle.co_object.specs.declared.Reply.TheVariants as r
use Rattle.co_object.specs.declared.QOp.TheVariants as q
use Rattle.co_object.specs.declared.QReply.TheVariants as qr
use Rattle.co_object.specs.declared.Place.TheVariants as place
use Rattle.co_object.specs.declared.AnyEntry.TheVariants as of
use Rattle.co_object.specs.declared.Note.{Note}
use Rattle.co_program.specs.declared.Script.{Script}
use Rattle.co_program.specs.declared.Act.TheVariants as act
use Rattle.co_program.specs.declared.Who.TheVariants as who
use Rattle.co_program.specs.declared.When.TheVariants.{At}
use Rattle.co_program.specs.declared.Where.TheVariants.{Home}
use Rattle.co_world.specs.declared.turn.Turn.TheVariants.{Finished}
use Rattle.co_world.specs.World.{World, open_world, lists_of}
use Rattle.co_world.specs.Step.{turn_of}
use Rattle.co_world.specs.Walk.{run, rounds}
use Rattle.co_program.specs.Actors.{actor_count}
use Rattle.co_program.specs.Follows.{Histories, Follows}
use Rattle.co_world.proofs.Rows.Small.{small}
use Rattle.co_world.specs.declared.turn.Turn.TheVariants.{Blocked}
use Rattle.co_world.specs.declared.turn.Why.TheVariants.{Tick}
use Rattle.co_object.specs.Actors.{Actors}
use Rattle.co_object.specs.History.{IsLegal}
use Rattle.co_object.specs.Journal.{IsLegalQueue}
use Rattle.co_world.specs.Step.{are_direct}
use Rattle.co_program.specs.Action.{spec_at}
use Rattle.co_object.specs.Lists.{callout_history, cpu_journal}

abbrev script : Script
script = record {
  version = 2;
  hz = 1000;
  cpus = 1;
  buckets = 256;
  locks = [];
  timers = (record { lock = lockuse.Free; returns_unlocked = false; direct = true }) ∷
      (record { lock = lockuse.Free; returns_unlocked = false; direct = false }) ∷ [];
  funcs = ([]) ∷ [];
  clients = (((act.Reset (who.Timer 0) 0 (At 4294967296) 0 Home 0) ∷
      (act.Reset (who.Timer 1) 0 (At 4294967296) 1 Home 0) ∷ [])) ∷ [];
  ticks = (((act.Tick 4294967296) ∷ [])) ∷ [];
  turns = (1) ∷ [];
}

abbrev list0 : List Note
list0 = (record { place = (place.Timer 0); pos = 0; entry = of.Timer (record { actor = 0; act = 0; op = (op.Call (call.Plain (plain.Reset 4294967296 0 0 0 None))); reply = (r.Armed (pos 0) 0 0 None) }) }) ∷
    (record { place = (place.Cpu 0); pos = 0; entry = of.Cpu (record { actor = 0; act = 0; op = (q.Insert 0 0 4294967296); reply = (qr.At 4294967296) }) }) ∷
    (record { place = (place.Timer 1); pos = 0; entry = of.Timer (record { actor = 0; act = 1; op = (op.Call (call.Plain (plain.Reset 4294967296 0 0 1 None))); reply = (r.Armed (pos 0) 0 0 None) }) }) ∷
    (record { place = (place.Cpu 0); pos = 2; entry = of.Cpu (record { actor = 0; act = 1; op = (q.Insert 1 0 4294967296); reply = (qr.At 4294967296) }) }) ∷ []

abbrev list1 : List Note
list1 = (record { place = (place.Cpu 0); pos = 3; entry = of.Cpu (record { actor = 1; act = 0; op = q.Pop; reply = qr.Empty }) }) ∷ []

abbrev list2 : List Note
list2 = (record { place = (place.Cpu 0); pos = 1; entry = of.Cpu (record { actor = 2; act = 0; op = (q.Scan 4294967296); reply = (qr.Count 1) }) }) ∷
    (record { place = (place.Cpu 0); pos = 4; entry = of.Cpu (record { actor = 2; act = 0; op = q.PopDirect; reply = (qr.Got 0 0 4294967296) }) }) ∷
    (record { place = (place.Timer 0); pos = 1; entry = of.Timer (record { actor = 2; act = 0; op = (op.Run (serve.Pick 0 0 4294967296)); reply = (r.Go 0 0) }) }) ∷
    (record { place = (place.Timer 0); pos = 2; entry = of.Timer (record { actor = 2; act = 0; op = (op.Run (serve.End 0 0)); reply = (r.Ended None None false) }) }) ∷
    (record { place = (place.Cpu 0); pos = 5; entry = of.Cpu (record { actor = 2; act = 0; op = q.FreeDirect; reply = qr.Freed }) }) ∷
    (record { place = (place.Cpu 0); pos = 6; entry = of.Cpu (record { actor = 2; act = 0; op = q.PopDirect; reply = qr.Empty }) }) ∷ []

abbrev lists : List (List Note)
lists = list0 ∷ list1 ∷ list2 ∷ []

abbrev final : World
final = rounds script (run script (open_world script) script.turns) 14

pub walk : lists_of script final ≡ lists
walk = refl

pub finished : map (turn_of script final) (range_with_len 0 (actor_count script)) ≡ Finished ∷ Finished ∷ Finished ∷ []
finished = refl

abbrev histories : Histories
histories = record { timers = λ i. callout_history i lists; cpus = λ cpu. cpu_journal cpu lists }

pub follows0 : Follows script histories 0 list0
follows0 = record { each = assumption (refl, tt, small.0, small.1, small.2, small.3, small.4, small.5, small.6, small.7); whole = refl }

pub follows1 : Follows script histories 1 list1
follows1 = record { each = assumption (refl, tt, small.0, small.1, small.2, small.3, small.4, small.5, small.6, small.7); whole = refl }

pub follows2 : Follows script histories 2 list2
follows2 = record { each = assumption (refl, tt, small.0, small.1, small.2, small.3, small.4, small.5, small.6, small.7); whole = refl }

abbrev actors : Actors
actors = record { version = 2; clients = 1; cpus = 1 }

pub legal0 : IsLegal actors (spec_at script 0) (callout_history 0 lists)
legal0 = assumption (refl, tt)

pub legal1 : IsLegal actors (spec_at script 1) (callout_history 1 lists)
legal1 = assumption (refl, tt)

pub legal_cpu0 : IsLegalQueue actors 0 script.buckets (are_direct script) (cpu_journal 0 lists)
legal_cpu0 = assumption (refl, tt)

pub waits0_p0 : turn_of script (run script (open_world script) (take 0 script.turns)) 1 ≡ Blocked (Tick 0)
waits0_p0 = refl
