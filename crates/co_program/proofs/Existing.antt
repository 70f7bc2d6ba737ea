-- What a place in a program names exists: at the start of each program, after each step and after each note, and in
-- each thing that is asked. All by cases: an act names what exists since the script does, a service the callout that a
-- Pop got, and a parcel the CPU of a reply.
use Rattle.std.proofs.Common.{◌≡◌, ℕ, zero, suc, ◌+◌, ◌-◌, ◌*◌, ◌<◌, ◌==◌, Bool, true, false, cond, nat_lt, List, [], ◌∷◌, map, length, Option, Some, None, is_some, refl, subst, arith}
use Rattle.std.proofs.Math.Nat.{mod-lt}
use Rattle.std.proofs.lemmas.Bool.{ltb-true, ltb-false}
use Rattle.std.specs.List.{AllByRecursion}
use Rattle.co_object.proofs.Changes.{both_true}
use Rattle.co_object.specs.declared.Next.{Next}
use Rattle.co_object.specs.declared.Op.{Op}
use Rattle.co_object.specs.declared.Op.TheVariants.{Call}
use Rattle.co_object.specs.declared.CallOp.TheVariants.{Plain}
use Rattle.co_object.specs.declared.PlainOp.{PlainOp}
use Rattle.co_object.specs.declared.Reply.{Reply}
use Rattle.co_object.specs.declared.Reply.TheVariants.{Armed, Wait, Go, Ended}
use Rattle.co_object.specs.declared.QReply.{QReply}
use Rattle.co_object.specs.declared.QReply.TheVariants.{Got}
use Rattle.co_object.specs.declared.Place.{Place}
use Rattle.co_object.specs.declared.Place.TheVariants as place
use Rattle.co_object.specs.declared.AnyEntry.{AnyEntry}
use Rattle.co_object.specs.declared.AnyEntry.TheVariants as entry
use Rattle.co_object.specs.declared.QOp.{QOp}
use Rattle.co_object.specs.declared.QOp.TheVariants.{Insert, Remove, Scan, Pop, PopDirect, Free as FreeSlot, FreeDirect}
use Rattle.co_object.specs.declared.OwnKind.TheVariants.{NotHeld}
use Rattle.co_lock.specs.declared.Held.{Held}
use Rattle.co_lock.specs.Covers.{covers}
use Rattle.co_program.specs.declared.act.Act.{Act}
use Rattle.co_program.specs.declared.act.Act.TheVariants as act
use Rattle.co_program.specs.declared.act.Scene.{Scene}
use Rattle.co_program.specs.declared.act.Who.{Who}
use Rattle.co_program.specs.declared.act.Who.TheVariants.{Timer, Me}
use Rattle.co_program.specs.declared.act.Where.{Where}
use Rattle.co_program.specs.declared.act.Where.TheVariants as cpu_at
use Rattle.co_program.specs.declared.script.Script.{Script}
use Rattle.co_program.specs.declared.role.Role.{Role}
use Rattle.co_program.specs.declared.role.Role.TheVariants.{Client, Cpu, Interrupt}
use Rattle.co_program.specs.declared.program.Task.{Task}
use Rattle.co_program.specs.declared.program.Task.TheVariants.{Does, Soft}
use Rattle.co_program.specs.declared.cursor.InService.{InService}
use Rattle.co_program.specs.declared.cursor.PendingInsert.{PendingInsert}
use Rattle.co_program.specs.declared.action.Asked.TheVariants.{Callout, Itself}
use Rattle.co_program.specs.Actors.{client_count, actor_count, acts_at, program_of, role_of, cpu_of, softs}
use Rattle.co_program.specs.Calls.{plain_op, callout_of_who, cpu_named}
use Rattle.co_program.specs.Stages.{Stage, Ready, Waiting, Popping, Picking, Locking, Beginning, Unlocking, Firing, Releasing, Ending, Freeing, Drained}
use Rattle.co_program.specs.Cursor.{Cursor, start_of}
use Rattle.co_program.specs.Action.{Asks, spec_at, asks_covered, asks_call, asks_within, takes, asks_drain, pop_of, free_of, begins_next, drained_of, locks, firing, draining, action_in, action_with, action_for}
use Rattle.co_program.specs.Advance.{tail_of, act_over, call_made, service_picked, service_begun, service_ended, advance_callout, parcel_of, drain_acts, freed, pop_answered, popped, advance_queue, advance}
use Rattle.co_program.specs.Existing.{IsCallout, IsCpu, ActsExist, TaskExists, NextExists, StageExists, ParcelExists, IsIn, CpuExists, PlainOpExists, QOpExists, ActionExists, ReplyExists, QReplyExists, EntryExists}
use Rattle.co_program.specs.Scripts.{IsScript, is_tick, who_exists, cpu_exists, names_exist}

-- a choice of two values has a property that each has where it is chosen
choice : {X : Type 0} (P : X → Type 0) (b : Bool) (x y : X) → (b ≡ true → P x) → (b ≡ false → P y) → P (cond b x y)
choice P true x y of_x of_y = of_x refl
choice P false x y of_x of_y = of_y refl

-- ---- the CPU of an actor

pub cpu_in : (s : Script) → IsScript s → (a : ℕ) → a < actor_count s → IsCpu s (cpu_of s (role_of s a))
cpu_in s is a below =
    choice (λ role. IsCpu s (cpu_of s role)) (nat_lt a (client_count s)) (Client a) _
    (λ client. mod-lt a is.cpus.0)
    (λ no_client. choice (λ role. IsCpu s (cpu_of s role)) (nat_lt a (client_count s + s.cpus)) (Cpu (a - client_count s)) (Interrupt (a - client_count s - s.cpus))
    (λ cpu. let h = ltb-true a (client_count s + s.cpus) cpu in let g = ltb-false a (client_count s) no_client in omega arith)
    (λ no_cpu. let h = ltb-false a (client_count s + s.cpus) no_cpu in let g = at_most_two s a below in omega arith))
  where
    at_most_two : (s : Script) (a : ℕ) → a < actor_count s → a < client_count s + 2 * s.cpus
    at_most_two s a = choice (λ (n : ℕ). a < n → a < client_count s + 2 * s.cpus) (s.version == 2) (client_count s + 2 * s.cpus) (client_count s + s.cpus) (λ _ h. h) (λ _ h. omega arith)

-- ---- programs and functions

does_in : (s : Script) (acts : List Act) → ActsExist s acts → AllByRecursion (TaskExists s) (map Does acts)
does_in s [] exist = tt
does_in s (a ∷ acts) exist = (exist.0, does_in s acts exist.1)

softs_in : (s : Script) (j n : ℕ) → AllByRecursion (TaskExists s) (softs j n)
softs_in s j zero = tt
softs_in s j (suc n) = (tt, softs_in s (suc j) n)

tick_in : (s : Script) (a : Act) → is_tick a ≡ true → names_exist s a ≡ true
tick_in s (act.Tick time) tick = refl
tick_in s (act.Now time) tick = cc
tick_in s (act.Lock id) tick = cc
tick_in s (act.ReadLock id) tick = cc
tick_in s act.Unlock tick = cc
tick_in s (act.Reset who func when arg cpu prec) tick = cc
tick_in s (act.Ticks who ticks func arg cpu) tick = cc
tick_in s (act.Schedule who when cpu prec) tick = cc
tick_in s (act.Stop who) tick = cc
tick_in s (act.Drain i) tick = cc
tick_in s (act.AsyncDrain who func) tick = cc
tick_in s (act.Active who) tick = cc
tick_in s (act.Pending who) tick = cc
tick_in s (act.Deactivate who) tick = cc
tick_in s (act.Init who) tick = cc
tick_in s (act.Retire who) tick = cc

ticks_in : (s : Script) (acts : List Act) → AllByRecursion (λ a. is_tick a ≡ true) acts → ActsExist s acts
ticks_in s [] ticks = tt
ticks_in s (a ∷ acts) ticks = (tick_in s a ticks.0, ticks_in s acts ticks.1)

program_in : (s : Script) → IsScript s → (role : Role) → AllByRecursion (TaskExists s) (program_of s role)
program_in s is (Client c) = does_in s (acts_at s.clients c) (is.clients_name c)
program_in s is (Cpu x) =
    choice (AllByRecursion (TaskExists s)) (s.version == 2) (softs 0 (length (acts_at s.ticks x))) (map Does (acts_at s.ticks x))
    (λ _. softs_in s 0 (length (acts_at s.ticks x)))
    (λ _. does_in s (acts_at s.ticks x) (ticks_in s (acts_at s.ticks x) (is.ticks x)))
program_in s is (Interrupt x) = does_in s (acts_at s.ticks x) (ticks_in s (acts_at s.ticks x) (is.ticks x))

pub start_in : (s : Script) → IsScript s → (a : ℕ) → IsIn s (start_of s a)
start_in s is a = record { left = program_in s is (role_of s a); stage = tt; parcel = tt }

-- ---- calls

module _ (s : Script) (at : Scene) (here : IsCpu s at.here) (me : IsCallout s at.me) where
  who_in : (who : Who) → who_exists s who ≡ true → IsCallout s (callout_of_who at who)
  who_in (Timer i) exists = ltb-true i (length s.timers) exists
  who_in Me exists = me

  where_in : (cpu : Where) → cpu_exists s cpu ≡ true → CpuExists s (cpu_named at cpu)
  where_in cpu_at.Home exists = tt
  where_in (cpu_at.Cpu cpu) exists = ltb-true cpu s.cpus exists
  where_in cpu_at.Here exists = here

  -- the callout and the CPU of a call
  abbrev pub CallExists : Option (ℕ × PlainOp) → Type 0
  CallExists None = Unit {0}
  CallExists (Some (i, op)) = IsCallout s i × PlainOpExists s op

  pub call_in : (a : Act) (hz : ℕ) → names_exist s a ≡ true → CallExists (plain_op a hz at)
  call_in (act.Reset who func when arg cpu prec) hz exists = let both = both_true (who_exists s who) (cpu_exists s cpu) exists in (who_in who both.0, where_in cpu both.1)
  call_in (act.Ticks who ticks func arg cpu) hz exists = let both = both_true (who_exists s who) (cpu_exists s cpu) exists in (who_in who both.0, where_in cpu both.1)
  call_in (act.Schedule who when cpu prec) hz exists = let both = both_true (who_exists s who) (cpu_exists s cpu) exists in (who_in who both.0, where_in cpu both.1)
  call_in (act.Stop who) hz exists = (who_in who exists, tt)
  call_in (act.AsyncDrain who func) hz exists = (who_in who exists, tt)
  call_in (act.Active who) hz exists = (who_in who exists, tt)
  call_in (act.Pending who) hz exists = (who_in who exists, tt)
  call_in (act.Deactivate who) hz exists = (who_in who exists, tt)
  call_in (act.Init who) hz exists = (who_in who exists, tt)
  call_in (act.Retire who) hz exists = (who_in who exists, tt)
  call_in (act.Now time) hz exists = tt
  call_in (act.Lock id) hz exists = tt
  call_in (act.ReadLock id) hz exists = tt
  call_in act.Unlock hz exists = tt
  call_in (act.Drain i) hz exists = tt
  call_in (act.Tick time) hz exists = tt

  covered_in : (hold : Option Held) (n : ℕ) (call : Option (ℕ × PlainOp)) → CallExists call → ActionExists s (asks_covered s hold n call)
  covered_in hold n None exists = tt
  covered_in hold n (Some (i, op)) exists =
      choice (ActionExists s) (covers hold (spec_at s i) (Plain op)) (Asks n (Callout i (Call (Plain op)))) (Asks n (Itself NotHeld)) (λ _. exists) (λ _. tt)

  asks_in : (c : Cursor) (a : Act) → names_exist s a ≡ true → ActionExists s (asks_call s c a at)
  asks_in c a exists = covered_in c.hold c.act (plain_op a s.hz at) (call_in a s.hz exists)

-- ---- what is left of a program and of a function

module _ (s : Script) where
  pub tail_in : (left : List Task) → AllByRecursion (TaskExists s) left → AllByRecursion (TaskExists s) (tail_of left)
  tail_in [] exist = tt
  tail_in (task ∷ left) exist = exist.1

  pub rest_in : (acts : List Act) → ActsExist s acts → ActsExist s (tail_of acts)
  rest_in [] exist = tt
  rest_in (a ∷ acts) exist = exist.1

  draining_in : (v : InService) (acts : List Act) → IsCallout s v.i → ActsExist s acts → StageExists s (draining v acts)
  draining_in v [] served exist = tt
  draining_in v (a ∷ acts) served exist = (served, exist)

  firing_in : (v : InService) (hold : Option Held) (acts : List Act) → IsCallout s v.i → ActsExist s acts → StageExists s (firing v hold acts)
  firing_in v hold (a ∷ acts) served exist = (served, exist)
  firing_in v None [] served exist = served
  firing_in v (Some held) [] served exist = served

-- ---- actions

module _ (s : Script) (is : IsScript s) (role : Role) (cpu : IsCpu s (cpu_of s role)) where
  within_in : (c : Cursor) (v : InService) (acts : List Act) → IsCallout s v.i → ActsExist s acts → ActionExists s (asks_within s (cpu_of s role) c v acts)
  within_in c v [] served exist = tt
  within_in c v (a ∷ acts) served exist = asks_in s (record { time = v.at; here = cpu_of s role; me = v.i }) cpu served c a exist.0

  drain_in : (c : Cursor) (i : ℕ) (took : Bool) → IsCallout s i → ActionExists s (asks_drain c i took)
  drain_in c i took exists = choice (ActionExists s) (is_some c.hold) _ _ (λ _. tt) (λ _. (exists, tt))

  pop_in : (r : Role) → QOpExists s (pop_of r)
  pop_in (Client c) = tt
  pop_in (Cpu x) = tt
  pop_in (Interrupt x) = tt

  free_in : (r : Role) → QOpExists s (free_of r)
  free_in (Client c) = tt
  free_in (Cpu x) = tt
  free_in (Interrupt x) = tt

  takes_in : (c : Cursor) (left : List Task) (held : Held) → AllByRecursion (TaskExists s) left → ParcelExists s c.parcel → ActionExists s (takes c left held)
  takes_in c left held exist parcel = choice (ActionExists s) (is_some c.hold) _ _ (λ _. tt) (λ _. record { left = exist; stage = tt; parcel = parcel })

  -- the callout 0 exists, which an act outside functions can't name
  first_in : IsCallout s 0
  first_in = omega (arith, is.timers.0)

  begins_in : (c : Cursor) (left : List Task) → AllByRecursion (TaskExists s) left → ParcelExists s c.parcel → ActionExists s (begins_next s role c left)
  begins_in c [] exist parcel = choice (ActionExists s) (is_some c.hold) _ _ (λ _. record { left = tt; stage = tt; parcel = parcel }) (λ _. tt)
  begins_in c (Soft j ∷ left) exist parcel = (cpu, pop_in role)
  begins_in c (Does (act.Now time) ∷ left) exist parcel = record { left = exist.1; stage = tt; parcel = parcel }
  begins_in c (Does (act.Lock id) ∷ left) exist parcel = takes_in c left _ exist.1 parcel
  begins_in c (Does (act.ReadLock id) ∷ left) exist parcel = takes_in c left _ exist.1 parcel
  begins_in c (Does act.Unlock ∷ left) exist parcel = choice (ActionExists s) (is_some c.hold) _ _ (λ _. record { left = exist.1; stage = tt; parcel = parcel }) (λ _. tt)
  begins_in c (Does (act.Drain i) ∷ left) exist parcel = drain_in c i false (ltb-true i (length s.timers) exist.0)
  begins_in c (Does (act.Tick time) ∷ left) exist parcel = (cpu, tt)
  begins_in c (Does a ∷ left) exist parcel = asks_in s (record { time = c.now; here = cpu_of s role; me = 0 }) cpu first_in c a exist.0

  drained_in : (left : List Task) → AllByRecursion (TaskExists s) left → IsCallout s (drained_of left)
  drained_in (Does (act.Drain i) ∷ left) exist = ltb-true i (length s.timers) exist.0
  drained_in left exist = first_in

  locks_in : (c : Cursor) (v : InService) (hold : Option Held) → AllByRecursion (TaskExists s) c.left → IsCallout s v.i → ParcelExists s c.parcel → ActionExists s (locks s c v hold)
  locks_in c v None exist served parcel = tt
  locks_in c v (Some held) exist served parcel = record { left = exist; stage = served; parcel = parcel }

  stage_in : (c : Cursor) (stage : Stage) → AllByRecursion (TaskExists s) c.left → StageExists s stage → ParcelExists s c.parcel → ActionExists s (action_in s role c stage)
  stage_in c Ready exist stage parcel = begins_in c c.left exist parcel
  stage_in c (Waiting n took) exist stage parcel = drain_in c (drained_of c.left) took (drained_in c.left exist)
  stage_in c (Popping n) exist stage parcel = (cpu, pop_in role)
  stage_in c (Picking v) exist stage parcel = (stage, cpu)
  stage_in c (Locking v) exist stage parcel = locks_in c v _ exist stage parcel
  stage_in c (Beginning v) exist stage parcel = (stage, cpu)
  stage_in c (Unlocking v acts) exist stage parcel = record { left = exist; stage = firing_in s v None acts stage.0 stage.1; parcel = parcel }
  stage_in c (Firing v acts) exist stage parcel = within_in c v acts stage.0 stage.1
  stage_in c (Releasing v) exist stage parcel = record { left = exist; stage = stage; parcel = parcel }
  stage_in c (Ending v) exist stage parcel = (stage, cpu)
  stage_in c (Freeing v drain next) exist stage parcel = (cpu, free_in role)
  stage_in c (Drained v acts) exist stage parcel = within_in c v acts stage.0 stage.1

  with_in : (c : Cursor) (parcel : Option PendingInsert) → c.parcel ≡ parcel → IsIn s c → ActionExists s (action_with s role c parcel)
  with_in c (Some p) same inside = let there : ParcelExists s (Some p) = subst (ParcelExists s) same inside.parcel in (there.1, there.0)
  with_in c None same inside = stage_in c c.stage inside.left inside.stage inside.parcel

pub action_exists : (s : Script) → IsScript s → (a : ℕ) → a < actor_count s → (c : Cursor) → IsIn s c → ActionExists s (action_for s a c)
action_exists s is a below c inside = with_in s is (role_of s a) (cpu_in s is a below) c c.parcel refl inside

-- ---- notes

module _ (s : Script) (is : IsScript s) where
  pub over_in : (c : Cursor) (stage : Stage) → AllByRecursion (TaskExists s) c.left → StageExists s stage → ParcelExists s c.parcel → IsIn s (act_over c stage)
  over_in c (Firing v acts) exist stage parcel = record { left = exist; stage = firing_in s v c.hold (tail_of acts) stage.0 (rest_in s acts stage.1); parcel = parcel }
  over_in c (Drained v acts) exist stage parcel = record { left = exist; stage = draining_in s v (tail_of acts) stage.0 (rest_in s acts stage.1); parcel = parcel }
  over_in c stage exist there parcel = record { left = tail_in s c.left exist; stage = tt; parcel = parcel }

  called_in : (c : Cursor) (i : ℕ) (listed : Bool) (op : Op) (reply : Reply) → IsIn s c → IsCallout s i → ReplyExists s reply → IsIn s (call_made c i listed op reply)
  called_in c i listed op (Wait n took off) inside there exists = record { left = inside.left; stage = tt; parcel = inside.parcel }
  called_in c i true op (Armed code n cpu off) inside there exists =
      let over : IsIn s (act_over c c.stage) = over_in c c.stage inside.left inside.stage inside.parcel in
      record { left = over.left; stage = over.stage; parcel = (there, exists) }
  called_in c i listed op reply inside there exists = over_in c c.stage inside.left inside.stage inside.parcel

  picked_in : (c : Cursor) (v : InService) (reply : Reply) → IsIn s c → IsCallout s v.i → IsIn s (service_picked s c v reply)
  picked_in c v (Go func arg) inside served = record { left = inside.left; stage = firing_in s v c.hold (acts_at s.funcs func) served (is.funcs_name func); parcel = inside.parcel }
  picked_in c v reply inside served = record { left = inside.left; stage = served; parcel = inside.parcel }

  begun_in : (c : Cursor) (v : InService) (reply : Reply) → IsIn s c → IsCallout s v.i → IsIn s (service_begun s c v reply)
  begun_in c v (Go func arg) inside served =
      record {
        left = inside.left;
        stage = choice (StageExists s) (spec_at s v.i).returns_unlocked (Unlocking v (acts_at s.funcs func)) (firing v c.hold (acts_at s.funcs func)) (λ _. (served, is.funcs_name func)) (λ _. firing_in s v c.hold (acts_at s.funcs func) served (is.funcs_name func));
        parcel = inside.parcel;
      }
  begun_in c v reply inside served = record { left = inside.left; stage = served; parcel = inside.parcel }

  ended_in : (c : Cursor) (v : InService) (reply : Reply) → IsIn s c → IsCallout s v.i → ReplyExists s reply → IsIn s (service_ended c v reply)
  ended_in c v (Ended drain next woke) inside served exists = record { left = inside.left; stage = (served, exists); parcel = inside.parcel }
  ended_in c v reply inside served exists = inside

  callout_in : (c : Cursor) (i : ℕ) (listed : Bool) (op : Op) (reply : Reply) (stage : Stage) → c.stage ≡ stage → IsIn s c → IsCallout s i → ReplyExists s reply → IsIn s (advance_callout s c i listed op reply stage)
  callout_in c i listed op reply (Picking v) same inside there exists = picked_in c v reply inside (subst (StageExists s) same inside.stage)
  callout_in c i listed op reply (Beginning v) same inside there exists = begun_in c v reply inside (subst (StageExists s) same inside.stage)
  callout_in c i listed op reply (Ending v) same inside there exists = ended_in c v reply inside (subst (StageExists s) same inside.stage) exists
  callout_in c i listed op reply stage same inside there exists = called_in c i listed op reply inside there exists

  sent_in : (v : InService) (next : Option Next) → IsCallout s v.i → NextExists s next → ParcelExists s (parcel_of v next)
  sent_in v None served exists = tt
  sent_in v (Some next) served exists = (served, exists)

  drained_acts_in : (drain : Option ℕ) → ActsExist s (drain_acts s drain)
  drained_acts_in None = tt
  drained_acts_in (Some func) = is.funcs_name func

  freed_in : (c : Cursor) (stage : Stage) → c.stage ≡ stage → IsIn s c → IsIn s (freed s c stage)
  freed_in c (Freeing v drain next) same inside =
      let there : StageExists s (Freeing v drain next) = subst (StageExists s) same inside.stage in
      record { left = inside.left; stage = draining_in s v (drain_acts s drain) there.0 (drained_acts_in drain); parcel = sent_in v next there.0 there.1 }
  freed_in c stage same inside = inside

  got_in : (c : Cursor) (n : ℕ) (reply : QReply) → AllByRecursion (TaskExists s) c.left → ParcelExists s c.parcel → QReplyExists s reply → IsIn s (pop_answered c n reply)
  got_in c n (Got i k time) exist parcel there = record { left = exist; stage = there; parcel = parcel }
  got_in c n reply exist parcel there = record { left = tail_in s c.left exist; stage = tt; parcel = parcel }

  popped_in : (c : Cursor) (reply : QReply) (stage : Stage) → IsIn s c → QReplyExists s reply → IsIn s (popped c reply stage)
  popped_in c reply (Popping n) inside there = got_in c n reply inside.left inside.parcel there
  popped_in c reply stage inside there = got_in (record c { act = c.act + 1 }) c.act reply inside.left inside.parcel there

  queue_in : (c : Cursor) (cpu : ℕ) (op : QOp) (reply : QReply) → IsIn s c → QReplyExists s reply → IsIn s (advance_queue s c cpu op reply)
  queue_in c cpu (Insert i n t) reply inside there = record { left = inside.left; stage = inside.stage; parcel = tt }
  queue_in c cpu (Remove i) reply inside there = record { left = inside.left; stage = inside.stage; parcel = inside.parcel }
  queue_in c cpu (Scan time) reply inside there = record { left = inside.left; stage = tt; parcel = inside.parcel }
  queue_in c cpu Pop reply inside there = popped_in c reply c.stage inside there
  queue_in c cpu PopDirect reply inside there = popped_in c reply c.stage inside there
  queue_in c cpu FreeSlot reply inside there = freed_in c c.stage refl inside
  queue_in c cpu FreeDirect reply inside there = freed_in c c.stage refl inside

  pub advance_exists : (c : Cursor) (listed : Bool) (place : Place) (entry : AnyEntry) → IsIn s c → EntryExists s place entry → IsIn s (advance s c listed place entry)
  advance_exists c listed (place.Timer i) (entry.Timer e) inside exists = callout_in (record c { removed = None }) i listed e.op e.reply c.stage refl (record { left = inside.left; stage = inside.stage; parcel = inside.parcel }) exists.0 exists.1
  advance_exists c listed (place.Cpu cpu) (entry.Cpu e) inside exists = queue_in c cpu e.op e.reply inside exists
  advance_exists c listed place entry inside exists = over_in c c.stage inside.left inside.stage inside.parcel
