-- The functions that a place in a program names exist: at the start of each program, after each step and after each note,
-- and in each call that is asked. All by cases: an act names what exists since the script's acts do.
use Rattle.std.proofs.Common.{◌≡◌, ℕ, zero, suc, ◌+◌, ◌==◌, Bool, true, false, List, [], ◌∷◌, map, length, Option, Some, None, is_some}
use Rattle.std.specs.Prelude.{⊤}
use Rattle.std.specs.List.{AllByRecursion}
use Rattle.co_object.proofs.Changes.{either_way}
use Rattle.co_object.specs.declared.Op.{Op}
use Rattle.co_object.specs.declared.Op.TheVariants.{Call}
use Rattle.co_object.specs.declared.CallOp.TheVariants.{Plain}
use Rattle.co_object.specs.declared.PlainOp.{PlainOp}
use Rattle.co_object.specs.declared.Reply.{Reply}
use Rattle.co_object.specs.declared.Reply.TheVariants.{Armed, Wait, Go, Ended}
use Rattle.co_object.specs.declared.QReply.{QReply}
use Rattle.co_object.specs.declared.QReply.TheVariants.{Got}
use Rattle.co_object.specs.declared.Place.{Place}
use Rattle.co_object.specs.declared.Place.TheVariants as place
use Rattle.co_object.specs.declared.AnyEntry.{AnyEntry}
use Rattle.co_object.specs.declared.AnyEntry.TheVariants as entry
use Rattle.co_object.specs.declared.QOp.{QOp}
use Rattle.co_object.specs.declared.QOp.TheVariants.{Insert, Remove, Scan, Pop, PopDirect, Free as FreeSlot, FreeDirect}
use Rattle.co_lock.specs.declared.Held.{Held}
use Rattle.co_lock.specs.Covers.{covers}
use Rattle.co_program.specs.declared.act.Act.{Act}
use Rattle.co_program.specs.declared.act.Act.TheVariants as act
use Rattle.co_program.specs.declared.act.Scene.{Scene}
use Rattle.co_program.specs.declared.script.Script.{Script}
use Rattle.co_program.specs.declared.role.Role.{Role}
use Rattle.co_program.specs.declared.role.Role.TheVariants.{Client, Cpu, Interrupt}
use Rattle.co_program.specs.declared.program.Task.{Task}
use Rattle.co_program.specs.declared.program.Task.TheVariants.{Does, Soft}
use Rattle.co_program.specs.declared.cursor.InService.{InService}
use Rattle.co_program.specs.declared.cursor.PendingInsert.{PendingInsert}
use Rattle.co_program.specs.declared.action.Asked.{Asked}
use Rattle.co_program.specs.declared.action.Asked.TheVariants.{Callout, Queue, Itself}
use Rattle.co_program.specs.Actors.{acts_at, program_of, role_of, cpu_of, softs}
use Rattle.co_program.specs.Calls.{plain_op}
use Rattle.co_program.specs.Stages.{Stage, Ready, Waiting, Popping, Picking, Locking, Beginning, Unlocking, Firing, Releasing, Ending, Freeing, Drained}
use Rattle.co_program.specs.Cursor.{Cursor, start_of}
use Rattle.co_program.specs.Action.{Action, Nothing, Silent, Take, Asks, spec_at, asks_covered, asks_call, asks_within, takes, asks_drain, begins_next, drained_of, locks, firing, draining, action_in, action_with, action_for}
use Rattle.co_program.specs.Advance.{tail_of, act_over, call_made, service_picked, service_begun, service_ended, advance_callout, drain_acts, freed, pop_answered, popped, advance_queue, advance}
use Rattle.co_program.specs.Scripts.{IsScript, is_tick}
use Rattle.co_program.specs.Names.{ActNamesFunc, ActsNameFuncs, FuncsExist, OpNamesFunc}

-- ---- what a place in a program names

abbrev pub TaskNamesFunc : Script → Task → Type 0
TaskNamesFunc s (Does a) = ActNamesFunc s a
TaskNamesFunc s (Soft j) = ⊤

abbrev pub TasksNameFuncs : Script → List Task → Type 0
TasksNameFuncs s left = AllByRecursion (TaskNamesFunc s) left

-- the acts that are left of a function
abbrev pub StageNamesFuncs : Script → Stage → Type 0
StageNamesFuncs s (Unlocking v acts) = ActsNameFuncs s acts
StageNamesFuncs s (Firing v acts) = ActsNameFuncs s acts
StageNamesFuncs s (Drained v acts) = ActsNameFuncs s acts
StageNamesFuncs s stage = ⊤

pub record NamesFuncs (s : Script) (c : Cursor) : Type 0 where
  pub left : TasksNameFuncs s c.left
  pub stage : StageNamesFuncs s c.stage

abbrev pub AskedNamesFunc : Script → Asked → Type 0
AskedNamesFunc s (Callout i op) = OpNamesFunc s op
AskedNamesFunc s (Queue cpu op) = ⊤
AskedNamesFunc s (Itself kind) = ⊤

abbrev pub ActionNamesFuncs : Script → Action → Type 0
ActionNamesFuncs s Nothing = ⊤
ActionNamesFuncs s (Silent to) = NamesFuncs s to
ActionNamesFuncs s (Take held to) = NamesFuncs s to
ActionNamesFuncs s (Asks act asked) = AskedNamesFunc s asked

module _ (s : Script) where
  -- ---- programs

  does_name : (acts : List Act) → ActsNameFuncs s acts → TasksNameFuncs s (map Does acts)
  does_name [] all = tt
  does_name (a ∷ acts) all = (all.0, does_name acts all.1)

  softs_name : (j n : ℕ) → TasksNameFuncs s (softs j n)
  softs_name j zero = tt
  softs_name j (suc n) = (tt, softs_name (suc j) n)

  tick_names : (a : Act) → is_tick a ≡ true → ActNamesFunc s a
  tick_names (act.Tick time) tick = tt
  tick_names (act.Reset who func when arg cpu prec) tick = cc
  tick_names (act.Ticks who ticks func arg cpu) tick = cc
  tick_names (act.AsyncDrain who func) tick = cc
  tick_names a tick = tt

  ticks_name : (acts : List Act) → AllByRecursion (λ a. is_tick a ≡ true) acts → ActsNameFuncs s acts
  ticks_name [] ticks = tt
  ticks_name (a ∷ acts) ticks = (tick_names a ticks.0, ticks_name acts ticks.1)

  program_names : IsScript s → FuncsExist s → (role : Role) → TasksNameFuncs s (program_of s role)
  program_names is exist (Client c) = does_name (acts_at s.clients c) (exist.clients c)
  program_names is exist (Cpu x) =
      either_way (TasksNameFuncs s) (s.version == 2) (softs 0 (length (acts_at s.ticks x))) (map Does (acts_at s.ticks x))
      (λ _. softs_name 0 (length (acts_at s.ticks x)))
      (λ _. does_name (acts_at s.ticks x) (ticks_name (acts_at s.ticks x) (is.ticks x)))
  program_names is exist (Interrupt x) = does_name (acts_at s.ticks x) (ticks_name (acts_at s.ticks x) (is.ticks x))

  pub start_names : IsScript s → FuncsExist s → (a : ℕ) → NamesFuncs s (start_of s a)
  start_names is exist a = record { left = program_names is exist (role_of s a); stage = tt }

  -- ---- calls

  module _ (at : Scene) where
    abbrev CallNames : Option (ℕ × PlainOp) → Type 0
    CallNames None = ⊤
    CallNames (Some (i, op)) = OpNamesFunc s (Call (Plain op))

    call_names : (a : Act) (hz : ℕ) → ActNamesFunc s a → CallNames (plain_op a hz at)
    call_names (act.Reset who func when arg cpu prec) hz name = name
    call_names (act.Ticks who ticks func arg cpu) hz name = name
    call_names (act.Schedule who when cpu prec) hz name = tt
    call_names (act.Stop who) hz name = tt
    call_names (act.AsyncDrain who func) hz name = name
    call_names (act.Active who) hz name = tt
    call_names (act.Pending who) hz name = tt
    call_names (act.Deactivate who) hz name = tt
    call_names (act.Init who) hz name = tt
    call_names (act.Retire who) hz name = tt
    call_names (act.Now time) hz name = tt
    call_names (act.Lock id) hz name = tt
    call_names (act.ReadLock id) hz name = tt
    call_names act.Unlock hz name = tt
    call_names (act.Drain i) hz name = tt
    call_names (act.Tick time) hz name = tt

    covered_names : (hold : Option Held) (n : ℕ) (call : Option (ℕ × PlainOp)) → CallNames call → ActionNamesFuncs s (asks_covered s hold n call)
    covered_names hold n None name = tt
    covered_names hold n (Some (i, op)) name = either_way (ActionNamesFuncs s) (covers hold (spec_at s i) (Plain op)) _ _ (λ _. name) (λ _. tt)

    asks_names : (c : Cursor) (a : Act) → ActNamesFunc s a → ActionNamesFuncs s (asks_call s c a at)
    asks_names c a name = covered_names c.hold c.act (plain_op a s.hz at) (call_names a s.hz name)

  -- ---- what is left of a program and of a function

  tail_names : (left : List Task) → TasksNameFuncs s left → TasksNameFuncs s (tail_of left)
  tail_names [] all = tt
  tail_names (task ∷ left) all = all.1

  rest_names : (acts : List Act) → ActsNameFuncs s acts → ActsNameFuncs s (tail_of acts)
  rest_names [] all = tt
  rest_names (a ∷ acts) all = all.1

  draining_names : (v : InService) (acts : List Act) → ActsNameFuncs s acts → StageNamesFuncs s (draining v acts)
  draining_names v [] all = tt
  draining_names v (a ∷ acts) all = all

  firing_names : (v : InService) (hold : Option Held) (acts : List Act) → ActsNameFuncs s acts → StageNamesFuncs s (firing v hold acts)
  firing_names v hold (a ∷ acts) all = all
  firing_names v None [] all = tt
  firing_names v (Some held) [] all = tt

  -- ---- actions

  module _ (role : Role) where
    within_names : (c : Cursor) (v : InService) (acts : List Act) → ActsNameFuncs s acts → ActionNamesFuncs s (asks_within s (cpu_of s role) c v acts)
    within_names c v [] all = tt
    within_names c v (a ∷ acts) all = asks_names (record { time = v.at; here = cpu_of s role; me = v.i }) c a all.0

    drain_names : (c : Cursor) (i : ℕ) (took : Bool) → ActionNamesFuncs s (asks_drain c i took)
    drain_names c i took = either_way (ActionNamesFuncs s) (is_some c.hold) _ _ (λ _. tt) (λ _. tt)

    takes_names : (c : Cursor) (left : List Task) (held : Held) → TasksNameFuncs s left → ActionNamesFuncs s (takes c left held)
    takes_names c left held all = either_way (ActionNamesFuncs s) (is_some c.hold) _ _ (λ _. tt) (λ _. record { left = all; stage = tt })

    begins_names : (c : Cursor) (left : List Task) → TasksNameFuncs s left → ActionNamesFuncs s (begins_next s role c left)
    begins_names c [] all = either_way (ActionNamesFuncs s) (is_some c.hold) _ _ (λ _. record { left = tt; stage = tt }) (λ _. tt)
    begins_names c (Soft j ∷ left) all = tt
    begins_names c (Does (act.Now time) ∷ left) all = record { left = all.1; stage = tt }
    begins_names c (Does (act.Lock id) ∷ left) all = takes_names c left _ all.1
    begins_names c (Does (act.ReadLock id) ∷ left) all = takes_names c left _ all.1
    begins_names c (Does act.Unlock ∷ left) all = either_way (ActionNamesFuncs s) (is_some c.hold) _ _ (λ _. record { left = all.1; stage = tt }) (λ _. tt)
    begins_names c (Does (act.Drain i) ∷ left) all = drain_names c i false
    begins_names c (Does (act.Tick time) ∷ left) all = tt
    begins_names c (Does a ∷ left) all = asks_names (record { time = c.now; here = cpu_of s role; me = 0 }) c a all.0

    locks_names : (c : Cursor) (v : InService) (hold : Option Held) → TasksNameFuncs s c.left → ActionNamesFuncs s (locks s c v hold)
    locks_names c v None all = tt
    locks_names c v (Some held) all = record { left = all; stage = tt }

    stage_names : (c : Cursor) (stage : Stage) → TasksNameFuncs s c.left → StageNamesFuncs s stage → ActionNamesFuncs s (action_in s role c stage)
    stage_names c Ready all stage = begins_names c c.left all
    stage_names c (Waiting n took) all stage = drain_names c (drained_of c.left) took
    stage_names c (Popping n) all stage = tt
    stage_names c (Picking v) all stage = tt
    stage_names c (Locking v) all stage = locks_names c v _ all
    stage_names c (Beginning v) all stage = tt
    stage_names c (Unlocking v acts) all stage = record { left = all; stage = firing_names v None acts stage }
    stage_names c (Firing v acts) all stage = within_names c v acts stage
    stage_names c (Releasing v) all stage = record { left = all; stage = tt }
    stage_names c (Ending v) all stage = tt
    stage_names c (Freeing v drain next) all stage = tt
    stage_names c (Drained v acts) all stage = within_names c v acts stage

    with_names : (c : Cursor) (parcel : Option PendingInsert) → NamesFuncs s c → ActionNamesFuncs s (action_with s role c parcel)
    with_names c (Some p) names = tt
    with_names c None names = stage_names c c.stage names.left names.stage

  pub action_names : (a : ℕ) (c : Cursor) → NamesFuncs s c → ActionNamesFuncs s (action_for s a c)
  action_names a c names = with_names (role_of s a) c c.parcel names

  -- ---- notes

  module _ (exist : FuncsExist s) where
    over_names : (c : Cursor) (stage : Stage) → TasksNameFuncs s c.left → StageNamesFuncs s stage → NamesFuncs s (act_over c stage)
    over_names c (Firing v acts) all stage = record { left = all; stage = firing_names v c.hold (tail_of acts) (rest_names acts stage) }
    over_names c (Drained v acts) all stage = record { left = all; stage = draining_names v (tail_of acts) (rest_names acts stage) }
    over_names c stage all there = record { left = tail_names c.left all; stage = tt }

    called_names : (c : Cursor) (i : ℕ) (listed : Bool) (op : Op) (reply : Reply) → NamesFuncs s c → NamesFuncs s (call_made c i listed op reply)
    called_names c i listed op (Wait n took off) names = record { left = names.left; stage = tt }
    called_names c i true op (Armed code n cpu off) names =
        let over : NamesFuncs s (act_over c c.stage) = over_names c c.stage names.left names.stage in
        record { left = over.left; stage = over.stage }
    called_names c i listed op reply names = over_names c c.stage names.left names.stage

    picked_names : (c : Cursor) (v : InService) (reply : Reply) → NamesFuncs s c → NamesFuncs s (service_picked s c v reply)
    picked_names c v (Go func arg) names = record { left = names.left; stage = firing_names v c.hold (acts_at s.funcs func) (exist.funcs func) }
    picked_names c v reply names = record { left = names.left; stage = tt }

    begun_names : (c : Cursor) (v : InService) (reply : Reply) → NamesFuncs s c → NamesFuncs s (service_begun s c v reply)
    begun_names c v (Go func arg) names =
        record {
          left = names.left;
          stage = either_way (StageNamesFuncs s) (spec_at s v.i).returns_unlocked (Unlocking v (acts_at s.funcs func)) (firing v c.hold (acts_at s.funcs func)) (λ _. exist.funcs func) (λ _. firing_names v c.hold (acts_at s.funcs func) (exist.funcs func));
        }
    begun_names c v reply names = record { left = names.left; stage = tt }

    ended_names : (c : Cursor) (v : InService) (reply : Reply) → NamesFuncs s c → NamesFuncs s (service_ended c v reply)
    ended_names c v (Ended drain next woke) names = record { left = names.left; stage = tt }
    ended_names c v reply names = names

    callout_names : (c : Cursor) (i : ℕ) (listed : Bool) (op : Op) (reply : Reply) (stage : Stage) → NamesFuncs s c → NamesFuncs s (advance_callout s c i listed op reply stage)
    callout_names c i listed op reply (Picking v) names = picked_names c v reply names
    callout_names c i listed op reply (Beginning v) names = begun_names c v reply names
    callout_names c i listed op reply (Ending v) names = ended_names c v reply names
    callout_names c i listed op reply stage names = called_names c i listed op reply names

    drain_acts_name : (drain : Option ℕ) → ActsNameFuncs s (drain_acts s drain)
    drain_acts_name None = tt
    drain_acts_name (Some func) = exist.funcs func

    freed_names : (c : Cursor) (stage : Stage) → NamesFuncs s c → NamesFuncs s (freed s c stage)
    freed_names c (Freeing v drain next) names = record { left = names.left; stage = draining_names v (drain_acts s drain) (drain_acts_name drain) }
    freed_names c stage names = names

    got_names : (c : Cursor) (n : ℕ) (reply : QReply) → TasksNameFuncs s c.left → NamesFuncs s (pop_answered c n reply)
    got_names c n (Got i k time) all = record { left = all; stage = tt }
    got_names c n reply all = record { left = tail_names c.left all; stage = tt }

    popped_names : (c : Cursor) (reply : QReply) (stage : Stage) → NamesFuncs s c → NamesFuncs s (popped c reply stage)
    popped_names c reply (Popping n) names = got_names c n reply names.left
    popped_names c reply stage names = got_names (record c { act = c.act + 1 }) c.act reply names.left

    queue_names : (c : Cursor) (cpu : ℕ) (op : QOp) (reply : QReply) → NamesFuncs s c → NamesFuncs s (advance_queue s c cpu op reply)
    queue_names c cpu (Insert i n t) reply names = record { left = names.left; stage = names.stage }
    queue_names c cpu (Remove i) reply names = record { left = names.left; stage = names.stage }
    queue_names c cpu (Scan time) reply names = record { left = names.left; stage = tt }
    queue_names c cpu Pop reply names = popped_names c reply c.stage names
    queue_names c cpu PopDirect reply names = popped_names c reply c.stage names
    queue_names c cpu FreeSlot reply names = freed_names c c.stage names
    queue_names c cpu FreeDirect reply names = freed_names c c.stage names

    pub advance_names : (c : Cursor) (listed : Bool) (p : Place) (e : AnyEntry) → NamesFuncs s c → NamesFuncs s (advance s c listed p e)
    advance_names c listed (place.Timer i) (entry.Timer e) names = callout_names (record c { removed = None }) i listed e.op e.reply c.stage (record { left = names.left; stage = names.stage })
    advance_names c listed (place.Cpu cpu) (entry.Cpu e) names = queue_names c cpu e.op e.reply names
    advance_names c listed p e names = over_names c c.stage names.left names.stage
