-- A program ends where nothing is left to do: at every place to which the notes of a run lead, a stage of a service has
-- something to do next.
use Rattle.std.proofs.Common.{◌≡◌, ℕ, zero, suc, ◌+◌, Bool, true, false, cond, ◌&&◌, List, [], ◌∷◌, length, refl, sym, ap, subst, ◌∙◌, Option, Some, None}
use Rattle.std.specs.Prelude.{⊤, is_some}
use Rattle.std.specs.List.{AllByRecursion}
use Rattle.co_object.specs.declared.LockUse.{LockUse}
use Rattle.co_object.specs.declared.LockUse.TheVariants.{Free, Mtx, Rw, RwShared}
use Rattle.co_object.specs.declared.state.Arming.{Arming}
use Rattle.co_object.specs.declared.State.{State}
use Rattle.co_object.specs.declared.Note.{Note}
use Rattle.co_object.specs.declared.Place.{Place}
use Rattle.co_object.specs.declared.Place.TheVariants as place
use Rattle.co_object.specs.declared.AnyEntry.{AnyEntry}
use Rattle.co_object.specs.declared.AnyEntry.TheVariants as entry
use Rattle.co_object.specs.declared.Entry.{Entry}
use Rattle.co_object.specs.declared.Op.{Op}
use Rattle.co_object.specs.declared.Op.TheVariants.{Call, Run}
use Rattle.co_object.specs.declared.CallOp.TheVariants.{Plain, DrainTry}
use Rattle.co_object.specs.declared.RunOp.TheVariants.{Pick}
use Rattle.co_object.specs.declared.PlainOp.{PlainOp}
use Rattle.co_object.specs.declared.OwnKind.TheVariants.{NotHeld, HoldsLock, Holding, NotHolding}
use Rattle.co_object.specs.declared.QOp.{QOp}
use Rattle.co_object.specs.declared.QOp.TheVariants.{Insert, Remove, Scan, Pop, Free as FreeSlot, PopDirect, FreeDirect}
use Rattle.co_object.specs.declared.QReply.{QReply}
use Rattle.co_object.specs.declared.QReply.TheVariants.{Got}
use Rattle.co_object.specs.declared.Reply.{Reply}
use Rattle.co_object.specs.declared.Reply.TheVariants.{Armed, Wait, Go, Hold, Ended}
use Rattle.co_object.specs.Serve.{pick_armed, taken, go, is_due, has_lock}
use Rattle.co_object.specs.declared.state.Run.TheVariants.{Picked}
use Rattle.co_object.specs.Callout.{step}
use Rattle.co_object.specs.Stand.{is_idle}
use Rattle.co_object.proofs.Changes.{either_way}
use Rattle.co_lock.specs.declared.Held.{Held}
use Rattle.co_lock.specs.Covers.{covers}
use Rattle.co_lock.specs.Service.{hold_of}
use Rattle.co_program.specs.declared.act.Act.{Act}
use Rattle.co_program.specs.declared.act.Act.TheVariants as act
use Rattle.co_program.specs.declared.act.Scene.{Scene}
use Rattle.co_program.specs.declared.script.Script.{Script}
use Rattle.co_program.specs.declared.role.Role.{Role}
use Rattle.co_program.specs.declared.program.Task.{Task}
use Rattle.co_program.specs.declared.program.Task.TheVariants.{Does, Soft}
use Rattle.co_program.specs.declared.cursor.InService.{InService}
use Rattle.co_program.specs.declared.cursor.PendingInsert.{PendingInsert}
use Rattle.co_program.specs.declared.action.Asked.TheVariants.{Callout, Itself}
use Rattle.co_program.specs.Actors.{role_of, cpu_of, acts_at}
use Rattle.co_program.specs.Calls.{plain_op}
use Rattle.co_program.specs.Stages.{Stage, Ready, Waiting, Popping, Picking, Locking, Beginning, Unlocking, Firing, Releasing, Ending, Freeing, Drained}
use Rattle.co_program.specs.Cursor.{Cursor, start_of}
use Rattle.co_program.specs.Action.{Action, Nothing, Silent, Take, Asks, spec_at, asks_covered, asks_within, takes, asks_drain, begins_next, drained_of, locks, over, firing, draining, action_in, action_with, action_for}
use Rattle.co_program.specs.Advance.{act_over, call_made, service_picked, service_begun, service_ended, advance_callout, drain_acts, freed, pop_answered, popped, advance_queue, advance}
use Rattle.co_program.specs.Follows.{Histories, Fits, AreNext, cursor_after, goes_on, past, at_next_note, listed_after}
use Rattle.co_program.specs.Laws.{HasNothingLeft}
use Rattle.co_program.specs.Scripts.{IsScript, is_call}
use Rattle.co_program.proofs.Options.{none-some, some-is}
use Rattle.co_program.proofs.Rests.{IsKnown, IsKnownEntry, KnownAt}

-- ---- the acts of functions

abbrev pub AreCalls : List Act → Type 0
AreCalls acts = AllByRecursion (λ x. is_call x ≡ true) acts

-- a function's act is a call
pub some-call : (x : Act) (hz : ℕ) (at : Scene) → is_call x ≡ true → is_some (plain_op x hz at) ≡ true
some-call (act.Reset who func when arg cpu prec) hz at h = refl
some-call (act.Ticks who ticks func arg cpu) hz at h = refl
some-call (act.Schedule who when cpu prec) hz at h = refl
some-call (act.Stop who) hz at h = refl
some-call (act.AsyncDrain who func) hz at h = refl
some-call (act.Active who) hz at h = refl
some-call (act.Pending who) hz at h = refl
some-call (act.Deactivate who) hz at h = refl
some-call (act.Init who) hz at h = refl
some-call (act.Retire who) hz at h = refl
some-call x hz at h = h

-- ---- a stage has something to do next

-- what is left of a function, and of a drain function, are calls, and some; who waits for a lock waits for the callout's
abbrev pub StageDoes : Script → Stage → Type 0
StageDoes s (Locking v) = is_some (hold_of (spec_at s v.i).lock) ≡ true
StageDoes s (Unlocking v acts) = AreCalls acts
StageDoes s (Firing v []) = ⊥
StageDoes s (Firing v (x ∷ acts)) = AreCalls (x ∷ acts)
StageDoes s (Drained v []) = ⊥
StageDoes s (Drained v (x ∷ acts)) = AreCalls (x ∷ acts)
StageDoes s stage = ⊤

firing-does : (s : Script) (v : InService) (hold : Option Held) (acts : List Act) → AreCalls acts → StageDoes s (firing v hold acts)
firing-does s v hold (x ∷ acts) h = h
firing-does s v None [] h = tt
firing-does s v (Some held) [] h = tt

draining-does : (s : Script) (v : InService) (acts : List Act) → AreCalls acts → StageDoes s (draining v acts)
draining-does s v [] h = tt
draining-does s v (x ∷ acts) h = h

-- ---- steps without a note

abbrev ToDoes : Script → Action → Type 0
ToDoes s (Silent to) = StageDoes s to.stage
ToDoes s (Take held to) = StageDoes s to.stage
ToDoes s action = ⊤

module _ (s : Script) (role : Role) (c : Cursor) where
  to-covered : (call : Option (ℕ × PlainOp)) → ToDoes s (asks_covered s c.hold c.act call)
  to-covered None = tt
  to-covered (Some (i, op)) = either_way (ToDoes s) (covers c.hold (spec_at s i) (Plain op)) (Asks c.act (Callout i (Call (Plain op)))) (Asks c.act (Itself NotHeld)) (λ _. tt) (λ _. tt)

  to-within : (v : InService) (acts : List Act) → ToDoes s (asks_within s (cpu_of s role) c v acts)
  to-within v [] = tt
  to-within v (x ∷ acts) = to-covered (plain_op x s.hz (record { time = v.at; here = cpu_of s role; me = v.i }))

  to-drain : (i : ℕ) (took : Bool) → ToDoes s (asks_drain c i took)
  to-drain i took = either_way (ToDoes s) (is_some c.hold) _ _ (λ _. tt) (λ _. tt)

  to-takes : (left : List Task) (held : Held) → ToDoes s (takes c left held)
  to-takes left held = either_way (ToDoes s) (is_some c.hold) (Asks c.act (Itself Holding)) (Take held (over c left (Some held))) (λ _. tt) (λ _. tt)

  to-begins : (left : List Task) → ToDoes s (begins_next s role c left)
  to-begins [] = either_way (ToDoes s) (is_some c.hold) (Silent (record c { left = []; hold = None; stage = Ready })) Nothing (λ _. tt) (λ _. tt)
  to-begins (Does (act.Now time) ∷ left) = tt
  to-begins (Does (act.Lock id) ∷ left) = to-takes left (record { id = id; exclusive = true })
  to-begins (Does (act.ReadLock id) ∷ left) = to-takes left (record { id = id; exclusive = false })
  to-begins (Does act.Unlock ∷ left) = either_way (ToDoes s) (is_some c.hold) (Silent (over c left None)) (Asks c.act (Itself NotHolding)) (λ _. tt) (λ _. tt)
  to-begins (Does (act.Drain i) ∷ left) = to-drain i false
  to-begins (Does (act.Tick time) ∷ left) = tt
  to-begins (Does x ∷ left) = to-covered (plain_op x s.hz (record { time = c.now; here = cpu_of s role; me = 0 }))
  to-begins (Soft j ∷ left) = tt

  to-locks : (v : InService) (hold : Option Held) → ToDoes s (locks s c v hold)
  to-locks v None = tt
  to-locks v (Some held) = tt

  to-stage : (stage : Stage) → StageDoes s stage → ToDoes s (action_in s role c stage)
  to-stage Ready h = to-begins c.left
  to-stage (Waiting n took) h = to-drain (drained_of c.left) took
  to-stage (Popping n) h = tt
  to-stage (Picking v) h = tt
  to-stage (Locking v) h = to-locks v (hold_of (spec_at s v.i).lock)
  to-stage (Beginning v) h = tt
  to-stage (Unlocking v acts) h = firing-does s v None acts h
  to-stage (Firing v acts) h = to-within v acts
  to-stage (Releasing v) h = tt
  to-stage (Ending v) h = tt
  to-stage (Freeing v drain next) h = tt
  to-stage (Drained v acts) h = to-within v acts

  to-with : (parcel : Option PendingInsert) → StageDoes s c.stage → ToDoes s (action_with s role c parcel)
  to-with None h = to-stage c.stage h
  to-with (Some p) h = tt

past-does : (s : Script) (a fuel : ℕ) (c : Cursor) (action : Action) → ToDoes s action → StageDoes s c.stage → StageDoes s (past s a fuel c action).stage
past-does s a zero c action to h = h
past-does s a (suc fuel) c (Silent next) to h = past-does s a fuel next (action_for s a next) (to-with s (role_of s a) next next.parcel to) to
past-does s a (suc fuel) c (Take held next) to h = past-does s a fuel next (action_for s a next) (to-with s (role_of s a) next next.parcel to) to
past-does s a (suc fuel) c Nothing to h = h
past-does s a (suc fuel) c (Asks n asked) to h = h

at-next-does : (s : Script) (a : ℕ) (c : Cursor) → StageDoes s c.stage → StageDoes s (at_next_note s a c).stage
at-next-does s a c h = past-does s a (suc (length c.left)) c (action_for s a c) (to-with s (role_of s a) c c.parcel h) h

-- ---- notes

module _ (s : Script) (ok : IsScript s) where
  over-does : (c : Cursor) (stage : Stage) → StageDoes s stage → StageDoes s (act_over c stage).stage
  over-does c (Firing v []) h = absurd h
  over-does c (Firing v (x ∷ acts)) h = firing-does s v c.hold acts h.1
  over-does c (Drained v []) h = absurd h
  over-does c (Drained v (x ∷ acts)) h = draining-does s v acts h.1
  over-does c Ready h = tt
  over-does c (Waiting n took) h = tt
  over-does c (Popping n) h = tt
  over-does c (Picking v) h = tt
  over-does c (Locking v) h = tt
  over-does c (Beginning v) h = tt
  over-does c (Unlocking v acts) h = tt
  over-does c (Releasing v) h = tt
  over-does c (Ending v) h = tt
  over-does c (Freeing v drain next) h = tt

  called-does : (c : Cursor) (i : ℕ) (listed : Bool) (op : Op) (reply : Reply) → StageDoes s c.stage → StageDoes s (call_made c i listed op reply).stage
  called-does c i listed op (Wait n took off) h = tt
  called-does c i true op (Armed code n cpu off) h = over-does c c.stage h
  called-does c i listed op reply h = over-does c c.stage h

  -- a lock is waited for where there is one
  abbrev WaitsForIts : InService → Reply → Type 0
  WaitsForIts v (Go func arg) = ⊤
  WaitsForIts v reply = is_some (hold_of (spec_at s v.i).lock) ≡ true

  picked-does : (c : Cursor) (v : InService) (reply : Reply) → WaitsForIts v reply → StageDoes s (service_picked s c v reply).stage
  picked-does c v (Go func arg) h = firing-does s v c.hold (acts_at s.funcs func) (ok.funcs func)
  picked-does c v reply h = h

  begun-does : (c : Cursor) (v : InService) (reply : Reply) → StageDoes s (service_begun s c v reply).stage
  begun-does c v (Go func arg) =
      either_way (StageDoes s) (spec_at s v.i).returns_unlocked (Unlocking v (acts_at s.funcs func)) (firing v c.hold (acts_at s.funcs func)) (λ _. ok.funcs func) (λ _. firing-does s v c.hold (acts_at s.funcs func) (ok.funcs func))
  begun-does c v reply = tt

  ended-does : (c : Cursor) (v : InService) (reply : Reply) → StageDoes s c.stage → StageDoes s (service_ended c v reply).stage
  ended-does c v (Ended drain next woke) h = tt
  ended-does c v reply h = h

  got-does : (c : Cursor) (n : ℕ) (reply : QReply) → StageDoes s (pop_answered c n reply).stage
  got-does c n (Got i k at) = tt
  got-does c n reply = tt

  popped-does : (c : Cursor) (reply : QReply) (stage : Stage) → StageDoes s (popped c reply stage).stage
  popped-does c reply (Popping n) = got-does c n reply
  popped-does c reply stage = got-does (record c { act = c.act + 1 }) c.act reply

  pub drain-calls : (drain : Option ℕ) → AreCalls (drain_acts s drain)
  drain-calls None = tt
  drain-calls (Some func) = ok.funcs func

  freed-does : (c : Cursor) (stage : Stage) → StageDoes s c.stage → StageDoes s (freed s c stage).stage
  freed-does c (Freeing v drain next) h = draining-does s v (drain_acts s drain) (drain-calls drain)
  freed-does c stage h = h

  queue-does : (c : Cursor) (cpu : ℕ) (op : QOp) (reply : QReply) → StageDoes s c.stage → StageDoes s (advance_queue s c cpu op reply).stage
  queue-does c cpu (Insert i n t) reply h = h
  queue-does c cpu (Remove i) reply h = h
  queue-does c cpu (Scan now) reply h = tt
  queue-does c cpu Pop reply h = popped-does c reply c.stage
  queue-does c cpu PopDirect reply h = popped-does c reply c.stage
  queue-does c cpu FreeSlot reply h = freed-does c c.stage h
  queue-does c cpu FreeDirect reply h = freed-does c c.stage h

  abbrev taken_if : State → Arming → Bool → State × Reply
  taken_if t m true = (record t { armed = None; run = Picked m }, Hold)
  taken_if t m false = go (record t { armed = None }) m

  taken-is : (lock : Bool) (t : State) (m : Arming) → cond lock (taken_if t m true) (taken_if t m false) ≡ taken_if t m lock
  taken-is true t m = refl
  taken-is false t m = refl

  -- what a Pick answers
  pick-waits : (v : InService) (t : State) (o : Option Arming) (n cpu at : ℕ) (after : State) (reply : Reply) → pick_armed (spec_at s v.i) t o n cpu at ≡ Some (after, reply) → WaitsForIts v reply
  pick-waits v t None n cpu at after reply h = absurd (none-some {X = State × Reply} (after, reply) h)
  pick-waits v t (Some m) n cpu at after reply h = at_test (is_due m n cpu at && is_idle t.run) h where
    locked : (lock : LockUse) → has_lock lock ≡ true → is_some (hold_of lock) ≡ true
    locked Free g = let e : false ≡ true = g in cc
    locked (Mtx id) g = refl
    locked (Rw id) g = refl
    locked (RwShared id) g = refl

    at_lock : (b : Bool) → has_lock (spec_at s v.i).lock ≡ b → (taken_if t m b).1 ≡ reply → WaitsForIts v reply
    at_lock true is g = subst (WaitsForIts v) g (locked (spec_at s v.i).lock is)
    at_lock false is g = subst (WaitsForIts v) g tt

    at_test : (b : Bool) → cond b (Some (taken (spec_at s v.i) t m)) None ≡ Some (after, reply) → WaitsForIts v reply
    at_test true g = at_lock (has_lock (spec_at s v.i).lock) refl (ap (λ (x : State × Reply). x.1) (sym (taken-is (has_lock (spec_at s v.i).lock) t m) ∙ some-is g))
    at_test false g = absurd (none-some {X = State × Reply} (after, reply) g)

module _ (s : Script) (ok : IsScript s) (H : Histories) (a : ℕ) where
  picking : (d : Cursor) (v : InService) (i pos : ℕ) (e : Entry) → (p : Option PendingInsert) → d.parcel ≡ p → d.stage ≡ Picking v →
      Fits a d (action_with s (role_of s a) d p) (place.Timer i) (entry.Timer e) → IsKnownEntry s H i pos e → WaitsForIts s ok v e.reply
  picking d v i pos e (Some p) is at fits known = absurd fits
  picking d v i pos e None is at fits known =
      let f = subst (λ (stage : Stage). Fits a d (action_in s (role_of s a) d stage) (place.Timer i) (entry.Timer e)) at fits in
      let there : IsKnownEntry s H v.i pos e = subst (λ (k : ℕ). IsKnownEntry s H k pos e) f.0 known in
      let op_is : e.op ≡ Run (Pick v.n (cpu_of s (role_of s a)) v.at) = ap (λ (x : Entry). x.op) f.1 in
      pick-waits s ok v there.before there.before.armed v.n (cpu_of s (role_of s a)) v.at _ e.reply (sym (ap (step (spec_at s v.i) there.before) op_is) ∙ there.answers)

  note-does : (d : Cursor) (listed : Bool) (p : Place) (pos : ℕ) (x : AnyEntry) → StageDoes s d.stage → Fits a d (action_for s a d) p x → KnownAt s H pos p x → StageDoes s (advance s d listed p x).stage
  note-does d listed (place.Timer i) pos (entry.Timer e) h fits known = at_stage d.stage refl h where
    c : Cursor
    c = record d { removed = None }

    at_stage : (stage : Stage) → d.stage ≡ stage → StageDoes s stage → StageDoes s (advance_callout s c i listed e.op e.reply stage).stage
    at_stage (Picking v) is g = picked-does s ok c v e.reply (picking d v i pos e d.parcel refl is fits known)
    at_stage (Beginning v) is g = begun-does s ok c v e.reply
    at_stage (Ending v) is g = ended-does s ok c v e.reply h
    at_stage stage is g = called-does s ok c i listed e.op e.reply h
  note-does d listed (place.Cpu cpu) pos (entry.Cpu e) h fits known = queue-does s ok d cpu e.op e.reply h
  note-does d listed p pos x h fits known = over-does s ok d d.stage h

  pub leads : (c : Cursor) (notes : List Note) → AreNext s H a c notes → AllByRecursion (IsKnown s H) notes → StageDoes s c.stage → StageDoes s (cursor_after s H a c notes).stage
  leads c [] next known h = h
  leads c (note ∷ notes) next known h =
      leads (goes_on s H (at_next_note s a c) note) notes next.1 known.1
      (note-does (at_next_note s a c) (listed_after s H note.place note.pos) note.place note.pos note.entry (at-next-does s a c h) next.0.fits known.0)

-- ---- where nothing is due

abbrev EndsAt : Cursor → Action → Type 0
EndsAt c Nothing = HasNothingLeft c
EndsAt c action = ⊤

module _ (s : Script) (role : Role) (c : Cursor) where
  ends-covered : (call : Option (ℕ × PlainOp)) → is_some call ≡ true → EndsAt c (asks_covered s c.hold c.act call)
  ends-covered None h = absurd (let e : false ≡ true = h in no e) where
    no : false ≡ true → ⊥
    no e = cc
  ends-covered (Some (i, op)) h = either_way (EndsAt c) (covers c.hold (spec_at s i) (Plain op)) (Asks c.act (Callout i (Call (Plain op)))) (Asks c.act (Itself NotHeld)) (λ _. tt) (λ _. tt)

  ends-drain : (i : ℕ) (took : Bool) → EndsAt c (asks_drain c i took)
  ends-drain i took = either_way (EndsAt c) (is_some c.hold) (Asks c.act (Itself HoldsLock)) (Asks c.act (Callout i (Call (DrainTry took)))) (λ _. tt) (λ _. tt)

  ends-takes : (left : List Task) (held : Held) → EndsAt c (takes c left held)
  ends-takes left held = either_way (EndsAt c) (is_some c.hold) (Asks c.act (Itself Holding)) (Take held (over c left (Some held))) (λ _. tt) (λ _. tt)

  ends-begins : (left : List Task) → c.left ≡ left → c.stage ≡ Ready → c.parcel ≡ None → EndsAt c (begins_next s role c left)
  ends-begins [] is at none = at_hold c.hold refl where
    at_hold : (h : Option Held) → c.hold ≡ h → EndsAt c (cond (is_some h) (Silent (record c { left = []; hold = None; stage = Ready })) Nothing)
    at_hold None free = record { left = is; hold = free; stage = at; parcel = none }
    at_hold (Some held) held_is = tt
  ends-begins (Does (act.Now time) ∷ left) is at none = tt
  ends-begins (Does (act.Lock id) ∷ left) is at none = ends-takes left (record { id = id; exclusive = true })
  ends-begins (Does (act.ReadLock id) ∷ left) is at none = ends-takes left (record { id = id; exclusive = false })
  ends-begins (Does act.Unlock ∷ left) is at none = either_way (EndsAt c) (is_some c.hold) (Silent (over c left None)) (Asks c.act (Itself NotHolding)) (λ _. tt) (λ _. tt)
  ends-begins (Does (act.Drain i) ∷ left) is at none = ends-drain i false
  ends-begins (Does (act.Tick time) ∷ left) is at none = tt
  ends-begins (Does x ∷ left) is at none = ends-covered (plain_op x s.hz (record { time = c.now; here = cpu_of s role; me = 0 })) refl
  ends-begins (Soft j ∷ left) is at none = tt

  ends-locks : (v : InService) (hold : Option Held) → is_some hold ≡ true → EndsAt c (locks s c v hold)
  ends-locks v None h = absurd (no h) where
    no : is_some {T = Held} None ≡ true → ⊥
    no g = let e : false ≡ true = g in cc
  ends-locks v (Some held) h = tt

  ends-within : (v : InService) (x : Act) (acts : List Act) → is_call x ≡ true → EndsAt c (asks_within s (cpu_of s role) c v (x ∷ acts))
  ends-within v x acts h = ends-covered (plain_op x s.hz (record { time = v.at; here = cpu_of s role; me = v.i })) (some-call x s.hz (record { time = v.at; here = cpu_of s role; me = v.i }) h)

  ends-stage : (stage : Stage) → c.stage ≡ stage → c.parcel ≡ None → StageDoes s stage → EndsAt c (action_in s role c stage)
  ends-stage Ready is none h = ends-begins c.left refl is none
  ends-stage (Waiting n took) is none h = ends-drain (drained_of c.left) took
  ends-stage (Popping n) is none h = tt
  ends-stage (Picking v) is none h = tt
  ends-stage (Locking v) is none h = ends-locks v (hold_of (spec_at s v.i).lock) h
  ends-stage (Beginning v) is none h = tt
  ends-stage (Unlocking v acts) is none h = tt
  ends-stage (Firing v []) is none h = absurd h
  ends-stage (Firing v (x ∷ acts)) is none h = ends-within v x acts h.0
  ends-stage (Releasing v) is none h = tt
  ends-stage (Ending v) is none h = tt
  ends-stage (Freeing v drain next) is none h = tt
  ends-stage (Drained v []) is none h = absurd h
  ends-stage (Drained v (x ∷ acts)) is none h = ends-within v x acts h.0

  ends-with : (parcel : Option PendingInsert) → c.parcel ≡ parcel → StageDoes s c.stage → EndsAt c (action_with s role c parcel)
  ends-with None none h = ends-stage c.stage refl none h
  ends-with (Some p) is h = tt

pub ended-there : (s : Script) (a : ℕ) (c : Cursor) → StageDoes s c.stage → action_for s a c ≡ Nothing → HasNothingLeft c
ended-there s a c h is = subst (EndsAt c) is (ends-with s (role_of s a) c c.parcel refl h)

pub nothing-there : (s : Script) (a : ℕ) (c : Cursor) → HasNothingLeft c → action_for s a c ≡ Nothing
nothing-there s a c e =
    ap (λ (p : Option PendingInsert). action_with s (role_of s a) c p) e.parcel
    ∙ ap (λ (stage : Stage). action_in s (role_of s a) c stage) e.stage
    ∙ ap (λ (left : List Task). begins_next s (role_of s a) c left) e.left
    ∙ ap (λ (h : Option Held). cond (is_some h) (Silent (record c { left = []; hold = None; stage = Ready })) Nothing) e.hold

pub does-after : (s : Script) (ok : IsScript s) (H : Histories) (a : ℕ) (notes : List Note) → AreNext s H a (start_of s a) notes → AllByRecursion (IsKnown s H) notes → StageDoes s (at_next_note s a (cursor_after s H a (start_of s a) notes)).stage
does-after s ok H a notes next known = at-next-does s a (cursor_after s H a (start_of s a) notes) (leads s ok H a (start_of s a) notes next known tt)
