-- Between two steps no call is half made.
use Rattle.std.proofs.Common.{◌≡◌, ℕ, ◌+◌, Bool, true, false, cond, List, [], ◌∷◌, ◌++◌, refl, ◌∙◌, ◌⊎◌, inl, inr, eq-eqb, eqb-true, Option, Some, None}
use Rattle.std.specs.Prelude.{⊤, is_some, ◌==◌}
use Rattle.co_object.specs.declared.State.{State}
use Rattle.co_object.specs.declared.PlainOp.{PlainOp}
use Rattle.co_object.specs.declared.Op.{Op}
use Rattle.co_object.specs.declared.Op.TheVariants.{Call, Run}
use Rattle.co_object.specs.declared.CallOp.{CallOp}
use Rattle.co_object.specs.declared.CallOp.TheVariants.{Plain, DrainTry}
use Rattle.co_object.specs.declared.Reply.{Reply}
use Rattle.co_object.specs.declared.Reply.TheVariants.{Armed, Wait, Go, Ended}
use Rattle.co_object.specs.declared.QOp.{QOp}
use Rattle.co_object.specs.declared.QOp.TheVariants.{Insert, Remove, Scan, Pop, Free, PopDirect, FreeDirect}
use Rattle.co_object.specs.declared.QReply.{QReply}
use Rattle.co_object.specs.declared.QReply.TheVariants.{Got}
use Rattle.co_object.specs.declared.Entry.{Entry}
use Rattle.co_object.specs.declared.QEntry.{QEntry}
use Rattle.co_object.specs.declared.Note.{Note}
use Rattle.co_object.specs.declared.OwnKind.{OwnKind}
use Rattle.co_object.specs.declared.OwnKind.TheVariants.{NotHeld, HoldsLock, Holding, NotHolding}
use Rattle.co_object.specs.Stand.{off}
use Rattle.co_object.specs.Group.{off_of}
use Rattle.co_object.specs.Callout.{call, step as callout_step}
use Rattle.co_object.specs.Queue.{Queue as TimerQueue}
use Rattle.co_object.specs.Journal.{remove, step as queue_step}
use Rattle.co_lock.specs.declared.Held.{Held}
use Rattle.co_lock.specs.Covers.{covers}
use Rattle.co_lock.specs.Service.{hold_of}
use Rattle.co_program.specs.declared.Script.{Script}
use Rattle.co_program.specs.declared.Act.{Act}
use Rattle.co_program.specs.declared.Act.TheVariants.{Now, Lock, ReadLock, Unlock, Drain, Tick}
use Rattle.co_program.specs.Calls.{plain_op}
use Rattle.co_program.specs.Actors.{role_of, cpu_of}
use Rattle.co_program.specs.declared.Task.{Task}
use Rattle.co_program.specs.declared.Task.TheVariants.{Does, Soft}
use Rattle.co_program.specs.declared.Role.{Role}
use Rattle.co_program.specs.declared.Role.TheVariants.{Client, Cpu, Interrupt}
use Rattle.co_program.specs.Stages.{Stage, Ready, Waiting, Popping, Picking, Locking, Beginning, Unlocking, Firing, Releasing, Ending, Freeing, Drained}
use Rattle.co_program.specs.declared.InService.{InService}
use Rattle.co_program.specs.Cursor.{Cursor}
use Rattle.co_program.specs.declared.PendingInsert.{PendingInsert}
use Rattle.co_program.specs.Action.{Action, Nothing, Silent, Take, Asks, action_for, action_with, action_in, spec_at, locks, asks_covered, asks_within, takes, asks_drain, begins_next, over, drained_of, pop_of, free_of}
use Rattle.co_program.specs.declared.Asked.{Asked}
use Rattle.co_program.specs.declared.Asked.TheVariants.{Callout, Queue, Itself}
use Rattle.co_program.specs.Advance.{advance, advance_callout, advance_queue, call_made, act_over, service_picked, service_begun, service_ended, pop_answered, popped, freed}
use Rattle.co_world.specs.World.{World, Actor, with_actor}
use Rattle.co_world.specs.Blocked.{blocked}
use Rattle.co_world.specs.Step.{enters, enters_journal, note_of, note_of_cpu, note_of_own, are_direct, callout_answers, queue_answers, world_answers, removed_from, asked_whole, is_in_section, makes_action, goes_on_in_section, stepped, step}
use Rattle.co_world.proofs.basics.Updates.{cond_kept, at_choice}
use Rattle.co_world.proofs.follows.DueNotes.{IsWithin, within_due}

-- ---- every note but a Remove leaves no Remove behind

removed_over : (c : Cursor) (stage : Stage) → (act_over c stage).removed ≡ c.removed
removed_over c (Firing v acts) = refl
removed_over c (Drained v acts) = refl
removed_over c stage = refl

removed_called : (c : Cursor) (i : ℕ) (listed : Bool) (op : Op) (reply : Reply) → (call_made c i listed op reply).removed ≡ c.removed
removed_called c i listed op (Wait n took off) = refl
removed_called c i true op (Armed code n cpu off) = removed_over c c.stage
removed_called c i listed op reply = removed_over c c.stage

removed_picked : (s : Script) (c : Cursor) (v : InService) (reply : Reply) → (service_picked s c v reply).removed ≡ c.removed
removed_picked s c v (Go func arg) = refl
removed_picked s c v reply = refl

removed_begun : (s : Script) (c : Cursor) (v : InService) (reply : Reply) → (service_begun s c v reply).removed ≡ c.removed
removed_begun s c v (Go func arg) = refl
removed_begun s c v reply = refl

removed_ended : (c : Cursor) (v : InService) (reply : Reply) → (service_ended c v reply).removed ≡ c.removed
removed_ended c v (Ended drain next woke) = refl
removed_ended c v reply = refl

removed_callout : (s : Script) (c : Cursor) (i : ℕ) (listed : Bool) (op : Op) (reply : Reply) (stage : Stage) → (advance_callout s c i listed op reply stage).removed ≡ c.removed
removed_callout s c i listed op reply (Picking v) = removed_picked s c v reply
removed_callout s c i listed op reply (Beginning v) = removed_begun s c v reply
removed_callout s c i listed op reply (Ending v) = removed_ended c v reply
removed_callout s c i listed op reply stage = removed_called c i listed op reply

removed_got : (c : Cursor) (act : ℕ) (reply : QReply) → (pop_answered c act reply).removed ≡ c.removed
removed_got c act (Got i n at) = refl
removed_got c act reply = refl

removed_popped : (c : Cursor) (reply : QReply) (stage : Stage) → (popped c reply stage).removed ≡ c.removed
removed_popped c reply (Popping act) = removed_got c act reply
removed_popped c reply stage = removed_got (record c { act = c.act + 1 }) c.act reply

removed_freed : (s : Script) (c : Cursor) (stage : Stage) → (freed s c stage).removed ≡ c.removed
removed_freed s c (Freeing v drain next) = refl
removed_freed s c stage = refl

abbrev IsNoRemove : QOp → Type 0
IsNoRemove (Remove i) = ⊥
IsNoRemove op = ⊤

removed_queue : (s : Script) (c : Cursor) (cpu : ℕ) (op : QOp) (reply : QReply) → IsNoRemove op → (advance_queue s c cpu op reply).removed ≡ c.removed
removed_queue s c cpu (Insert i n t) reply h = refl
removed_queue s c cpu (Remove i) reply h = absurd h
removed_queue s c cpu (Scan now) reply h = refl
removed_queue s c cpu Pop reply h = removed_popped c reply c.stage
removed_queue s c cpu PopDirect reply h = removed_popped c reply c.stage
removed_queue s c cpu Free reply h = removed_freed s c c.stage
removed_queue s c cpu FreeDirect reply h = removed_freed s c c.stage

-- ---- no Remove is ever due by itself, and the steps without a note leave none behind

abbrev LeavesNone : Option ℕ → Action → Type 0
LeavesNone removed (Asks act (Queue cpu op)) = IsNoRemove op
LeavesNone removed (Asks act asked) = ⊤
LeavesNone removed (Silent to) = to.removed ≡ removed
LeavesNone removed (Take held to) = to.removed ≡ removed
LeavesNone removed Nothing = ⊤

leaves_choice : (removed : Option ℕ) (b : Bool) (x y : Action) → LeavesNone removed x → LeavesNone removed y → LeavesNone removed (cond b x y)
leaves_choice removed = cond_kept (LeavesNone removed)

module _ (s : Script) (role : Role) (c : Cursor) where
  leaves_covered : (hold : Option Held) (act : ℕ) (call : Option (ℕ × PlainOp)) → LeavesNone c.removed (asks_covered s hold act call)
  leaves_covered hold act None = tt
  leaves_covered hold act (Some (i, op)) = leaves_choice c.removed (covers hold (spec_at s i) (Plain op)) (Asks act (Callout i (Call (Plain op)))) (Asks act (Itself NotHeld)) tt tt

  leaves_within : (v : InService) (acts : List Act) → LeavesNone c.removed (asks_within s (cpu_of s role) c v acts)
  leaves_within v [] = tt
  leaves_within v (act ∷ acts) = leaves_covered c.hold c.act (plain_op act s.hz (record { time = v.at; here = cpu_of s role; me = v.i }))

  leaves_takes : (left : List Task) (held : Held) → LeavesNone c.removed (takes c left held)
  leaves_takes left held = leaves_choice c.removed (is_some c.hold) (Asks c.act (Itself Holding)) (Take held (over c left (Some held))) tt refl

  leaves_drain : (i : ℕ) (took : Bool) → LeavesNone c.removed (asks_drain c i took)
  leaves_drain i took = leaves_choice c.removed (is_some c.hold) (Asks c.act (Itself HoldsLock)) (Asks c.act (Callout i (Call (DrainTry took)))) tt tt

  leaves_pop : (r : Role) → IsNoRemove (pop_of r)
  leaves_pop (Client k) = tt
  leaves_pop (Cpu k) = tt
  leaves_pop (Interrupt k) = tt

  leaves_free : (r : Role) → IsNoRemove (free_of r)
  leaves_free (Client k) = tt
  leaves_free (Cpu k) = tt
  leaves_free (Interrupt k) = tt

  leaves_begins : (left : List Task) → LeavesNone c.removed (begins_next s role c left)
  leaves_begins [] = leaves_choice c.removed (is_some c.hold) (Silent (record c { left = []; hold = None; stage = Ready })) Nothing refl tt
  leaves_begins (Does (Now time) ∷ left) = refl
  leaves_begins (Does (Lock id) ∷ left) = leaves_takes left (record { id = id; exclusive = true })
  leaves_begins (Does (ReadLock id) ∷ left) = leaves_takes left (record { id = id; exclusive = false })
  leaves_begins (Does Unlock ∷ left) = leaves_choice c.removed (is_some c.hold) (Silent (over c left None)) (Asks c.act (Itself NotHolding)) refl tt
  leaves_begins (Does (Drain i) ∷ left) = leaves_drain i false
  leaves_begins (Does (Tick time) ∷ left) = tt
  leaves_begins (Does act ∷ left) = leaves_covered c.hold c.act (plain_op act s.hz (record { time = c.now; here = cpu_of s role; me = 0 }))
  leaves_begins (Soft j ∷ left) = leaves_pop role

  leaves_locks : (v : InService) (hold : Option Held) → LeavesNone c.removed (locks s c v hold)
  leaves_locks v None = tt
  leaves_locks v (Some held) = refl

  leaves_stage : (stage : Stage) → LeavesNone c.removed (action_in s role c stage)
  leaves_stage Ready = leaves_begins c.left
  leaves_stage (Waiting n took) = leaves_drain (drained_of c.left) took
  leaves_stage (Popping act) = leaves_pop role
  leaves_stage (Picking v) = tt
  leaves_stage (Locking v) = leaves_locks v (hold_of (spec_at s v.i).lock)
  leaves_stage (Beginning v) = tt
  leaves_stage (Unlocking v acts) = refl
  leaves_stage (Firing v acts) = leaves_within v acts
  leaves_stage (Releasing v) = refl
  leaves_stage (Ending v) = tt
  leaves_stage (Freeing v drain next) = leaves_free role
  leaves_stage (Drained v acts) = leaves_within v acts

  leaves_with : (parcel : Option PendingInsert) → LeavesNone c.removed (action_with s role c parcel)
  leaves_with None = leaves_stage c.stage
  leaves_with (Some p) = tt

leaves_due : (s : Script) (a : ℕ) (c : Cursor) → LeavesNone c.removed (action_for s a c)
leaves_due s a c = leaves_with s (role_of s a) c c.parcel

-- ---- worlds

-- no call is half made
abbrev pub NoneRemoved : World → Type 0
NoneRemoved w = (a : ℕ) → (w.actors a).cursor.removed ≡ None

-- nor is one of another actor
abbrev NoneElse : ℕ → World → Type 0
NoneElse a w = (b : ℕ) → (b ≡ a) ⊎ ((w.actors b).cursor.removed ≡ None)

none_placed : (w : World) (a : ℕ) (actor : Actor) → NoneElse a w → actor.cursor.removed ≡ None → NoneRemoved (with_actor w a actor)
none_placed w a actor none here b =
    at_choice (λ (x : Actor). x.cursor.removed ≡ None) (b == a) actor (w.actors b) (λ e. here)
    (λ e. elim (none b) [ inl same ↦ cc (eq-eqb b a same, e) | inr h ↦ h ])

none_else : (w : World) (a : ℕ) → NoneRemoved w → NoneElse a w
none_else w a none b = inr (none b)

none_some : (s : Script) (w : World) (a act i : ℕ) (op : Op) (outcome : State × Reply) → NoneElse a w → NoneRemoved (callout_answers s w a act i op (Some outcome))
none_some s w a act i op outcome none =
    let e : Entry = record { actor = a; act = act; op = op; reply = outcome.1 } in
    let note : Note = note_of w i e in
    let c : Cursor = (w.actors a).cursor in
    none_placed (enters w i outcome.0 e) a
    (record { cursor = advance s c (is_some (off outcome.0)) note.place note.entry; notes = (w.actors a).notes ++ note ∷ [] }) none
    (removed_callout s (record c { removed = None }) i (is_some (off outcome.0)) op outcome.1 c.stage)

none_callout : (s : Script) (w : World) (a act i : ℕ) (op : Op) (outcome : Option (State × Reply)) → NoneRemoved w → NoneRemoved (callout_answers s w a act i op outcome)
none_callout s w a act i op None none = none
none_callout s w a act i op (Some outcome) none = none_some s w a act i op outcome (none_else w a none)

none_queue : (s : Script) (w : World) (a act cpu : ℕ) (op : QOp) (outcome : Option (TimerQueue × QReply)) → IsNoRemove op → NoneRemoved w → NoneRemoved (queue_answers s w a act cpu op outcome)
none_queue s w a act cpu op None h none = none
none_queue s w a act cpu op (Some outcome) h none =
    let e : QEntry = record { actor = a; act = act; op = op; reply = outcome.1 } in
    let note : Note = note_of_cpu w cpu e in
    let c : Cursor = (w.actors a).cursor in
    none_placed (enters_journal w cpu outcome.0 e) a
    (record { cursor = advance s c false note.place note.entry; notes = (w.actors a).notes ++ note ∷ [] }) (none_else w a none)
    (removed_queue s c cpu op outcome.1 h ∙ none a)

none_own : (s : Script) (w : World) (a act : ℕ) (kind : OwnKind) → NoneRemoved w → NoneRemoved (world_answers s w a act (Itself kind))
none_own s w a act kind none =
    let note : Note = note_of_own s w a act kind in
    let c : Cursor = (w.actors a).cursor in
    none_placed w a (record { cursor = advance s c false note.place note.entry; notes = (w.actors a).notes ++ note ∷ [] }) (none_else w a none)
    (removed_over c c.stage ∙ none a)

-- after a Remove the call of that actor alone is half made
else_removed : (s : Script) (w : World) (a act i cpu : ℕ) → NoneRemoved w → NoneElse a (removed_from s w a act i (Some cpu))
else_removed s w a act i cpu none b =
    let e : QEntry = record { actor = a; act = act; op = Remove i; reply = (remove (w.cpus cpu).queue i).1 } in
    let note : Note = note_of_cpu w cpu e in
    let actor : Actor = record { cursor = advance s (w.actors a).cursor false note.place note.entry; notes = (w.actors a).notes ++ note ∷ [] } in
    at_choice (λ (x : Actor). (b ≡ a) ⊎ (x.cursor.removed ≡ None)) (b == a) actor (w.actors b) (λ e. inl (eqb-true b a e)) (λ e. inr (none b))

none_call : (s : Script) (w : World) (a act i : ℕ) (op : CallOp) (off : Option ℕ) → NoneRemoved w → NoneRemoved (world_answers s (removed_from s w a act i off) a act (Callout i (Call op)))
none_call s w a act i op None none = none_some s w a act i (Call op) (call (w.timers i).state op) (none_else w a none)
none_call s w a act i op (Some cpu) none = none_some s (removed_from s w a act i (Some cpu)) a act i (Call op) (call (w.timers i).state op) (else_removed s w a act i cpu none)

none_asked : (s : Script) (w : World) (a act : ℕ) (asked : Asked) → LeavesNone (w.actors a).cursor.removed (Asks act asked) → NoneRemoved w → NoneRemoved (asked_whole s w a act asked)
none_asked s w a act (Callout i (Call op)) h none = none_call s w a act i op (off_of (call (w.timers i).state op).1) none
none_asked s w a act (Callout i (Run op)) h none = none_callout s w a act i (Run op) (callout_step (spec_at s i) (w.timers i).state (Run op)) none
none_asked s w a act (Queue cpu op) h none = none_queue s w a act cpu op (queue_step s.buckets (are_direct s) (w.cpus cpu).queue op) h none
none_asked s w a act (Itself kind) h none = none_own s w a act kind none

none_due : (s : Script) (w : World) (a : ℕ) (due : Action) → LeavesNone (w.actors a).cursor.removed due → IsWithin due → NoneRemoved w → NoneRemoved (makes_action s w a due)
none_due s w a (Asks act (Callout i (Run op))) h within none = none_callout s w a act i (Run op) (callout_step (spec_at s i) (w.timers i).state (Run op)) none
none_due s w a (Asks act (Queue cpu op)) h within none = none_queue s w a act cpu op (queue_step s.buckets (are_direct s) (w.cpus cpu).queue op) h none
none_due s w a (Asks act (Callout i (Call op))) h within none = absurd within
none_due s w a (Asks act (Itself kind)) h within none = absurd within
none_due s w a Nothing h within none = none
none_due s w a (Silent to) h within none = none
none_due s w a (Take held to) h within none = none

none_on : (s : Script) (w : World) (a : ℕ) → NoneRemoved w → NoneRemoved (goes_on_in_section s w a)
none_on s w a none =
    let c : Cursor = (w.actors a).cursor in
    at_choice NoneRemoved (is_in_section w c) (makes_action s w a (action_for s a c)) w
    (λ e. none_due s w a (action_for s a c) (leaves_due s a c) (within_due s w a c e).0 none) (λ e. none)

none_stepped : (s : Script) (w : World) (a : ℕ) (due : Action) → LeavesNone (w.actors a).cursor.removed due → NoneRemoved w → NoneRemoved (stepped s w a due)
none_stepped s w a Nothing h none = none
none_stepped s w a (Silent to) h none = none_placed w a (record (w.actors a) { cursor = to }) (none_else w a none) (h ∙ none a)
none_stepped s w a (Take held to) h none = none_placed w a (record (w.actors a) { cursor = to }) (none_else w a none) (h ∙ none a)
none_stepped s w a (Asks act asked) h none = none_on s (asked_whole s w a act asked) a (none_asked s w a act asked h none)

pub none_step : (s : Script) (w : World) (a : ℕ) → NoneRemoved w → NoneRemoved (step s w a)
none_step s w a none =
    let c : Cursor = (w.actors a).cursor in
    cond_kept NoneRemoved (is_some (blocked s w a)) w (stepped s w a (action_for s a c)) none (none_stepped s w a (action_for s a c) (leaves_due s a c) none)
