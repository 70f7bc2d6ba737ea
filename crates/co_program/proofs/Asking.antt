-- What an actor asks exists, and so do the functions that it names, whatever the replies to it were: the acts that are left
-- name callouts, CPUs and functions of the script, the callout in its service exists since the note of its Pick stands in a
-- place of the script, and the one on its way since that of its call or of its End does. All by cases, along its notes.
use Rattle.std.proofs.Common.{◌≡◌, ℕ, zero, suc, ◌+◌, ◌<◌, Bool, true, false, List, [], ◌∷◌, length, Option, Some, None, is_some, refl, sym, ap, subst, arith}
use Rattle.std.specs.Prelude.{⊤}
use Rattle.std.proofs.lemmas.Bool.{ltb-true}
use Rattle.std.specs.List.{AllByRecursion}
use Rattle.co_object.proofs.Changes.{either_way}
use Rattle.co_object.specs.declared.Next.{Next}
use Rattle.co_object.specs.declared.Op.{Op}
use Rattle.co_object.specs.declared.Op.TheVariants.{Call, Run}
use Rattle.co_object.specs.declared.CallOp.TheVariants.{Plain}
use Rattle.co_object.specs.declared.PlainOp.{PlainOp}
use Rattle.co_object.specs.declared.Reply.{Reply}
use Rattle.co_object.specs.declared.Reply.TheVariants.{Armed, Wait, Go, Ended}
use Rattle.co_object.specs.declared.QReply.{QReply}
use Rattle.co_object.specs.declared.QReply.TheVariants.{Got}
use Rattle.co_object.specs.declared.Place.{Place}
use Rattle.co_object.specs.declared.Place.TheVariants as place
use Rattle.co_object.specs.declared.Note.{Note}
use Rattle.co_object.specs.declared.AnyEntry.{AnyEntry}
use Rattle.co_object.specs.declared.AnyEntry.TheVariants as entry
use Rattle.co_object.specs.declared.Entry.{Entry}
use Rattle.co_object.specs.declared.QEntry.{QEntry}
use Rattle.co_object.specs.declared.OwnEntry.{OwnEntry}
use Rattle.co_object.specs.declared.QOp.{QOp}
use Rattle.co_object.specs.declared.QOp.TheVariants.{Insert, Remove, Scan, Pop, PopDirect, Free as FreeSlot, FreeDirect}
use Rattle.co_object.specs.declared.OwnKind.TheVariants.{NotHeld}
use Rattle.co_lock.specs.declared.Held.{Held}
use Rattle.co_lock.specs.Covers.{covers}
use Rattle.co_program.specs.declared.act.Act.{Act}
use Rattle.co_program.specs.declared.act.Act.TheVariants as act
use Rattle.co_program.specs.declared.act.Scene.{Scene}
use Rattle.co_program.specs.declared.script.Script.{Script}
use Rattle.co_program.specs.declared.role.Role.{Role}
use Rattle.co_program.specs.declared.role.Role.TheVariants.{Client, Cpu, Interrupt}
use Rattle.co_program.specs.declared.program.Task.{Task}
use Rattle.co_program.specs.declared.program.Task.TheVariants.{Does, Soft}
use Rattle.co_program.specs.declared.cursor.InService.{InService}
use Rattle.co_program.specs.declared.cursor.PendingInsert.{PendingInsert}
use Rattle.co_program.specs.declared.action.Asked.{Asked}
use Rattle.co_program.specs.declared.action.Asked.TheVariants.{Callout, Queue, Itself}
use Rattle.co_program.specs.Actors.{actor_count, acts_at, role_of, cpu_of}
use Rattle.co_program.specs.Calls.{plain_op}
use Rattle.co_program.specs.Stages.{Stage, Ready, Waiting, Popping, Picking, Locking, Beginning, Unlocking, Firing, Releasing, Ending, Freeing, Drained}
use Rattle.co_program.specs.Cursor.{Cursor, start_of}
use Rattle.co_program.specs.Action.{Action, Nothing, Silent, Take, Asks, spec_at, asks_covered, asks_call, asks_within, takes, asks_drain, pop_of, free_of, begins_next, drained_of, locks, firing, draining, action_in, action_with, action_for}
use Rattle.co_program.specs.Advance.{tail_of, act_over, call_made, service_picked, service_begun, service_ended, advance_callout, parcel_of, drain_acts, freed, pop_answered, popped, advance_queue, advance}
use Rattle.co_program.specs.Existing.{IsCallout, IsCpu, ActsExist, TaskExists, OpExists, QOpExists}
use Rattle.co_program.specs.Follows.{Histories, Fits, FitsCallout, FitsQueue, FitsOwn, AreNext, past, at_next_note, goes_on, listed_after}
use Rattle.co_program.specs.Names.{FuncsExist, OpNames}
use Rattle.co_program.specs.Places.{place_exists, HavePlaces}
use Rattle.co_program.specs.Scripts.{IsScript, names_exist}
use Rattle.co_program.proofs.Existing.{CallExists, call_in, tail_in, rest_in, cpu_in, start_in}
use Rattle.co_program.proofs.FuncsNamed.{NamesFuncs, ActionNamesFuncs, start_names, action_names, advance_names}

-- ---- a place in a program

-- the callout that a Pop got is not known yet
abbrev StageKnown : Script → Stage → Type 0
StageKnown s Ready = ⊤
StageKnown s (Waiting n took) = ⊤
StageKnown s (Popping n) = ⊤
StageKnown s (Picking v) = ⊤
StageKnown s (Locking v) = IsCallout s v.i
StageKnown s (Beginning v) = IsCallout s v.i
StageKnown s (Unlocking v acts) = IsCallout s v.i × ActsExist s acts
StageKnown s (Firing v acts) = IsCallout s v.i × ActsExist s acts
StageKnown s (Releasing v) = IsCallout s v.i
StageKnown s (Ending v) = IsCallout s v.i
StageKnown s (Freeing v drain next) = IsCallout s v.i
StageKnown s (Drained v acts) = IsCallout s v.i × ActsExist s acts

abbrev ParcelKnown : Script → Option PendingInsert → Type 0
ParcelKnown s None = ⊤
ParcelKnown s (Some p) = IsCallout s p.i

record IsKnown (s : Script) (c : Cursor) : Type 0 where
  pub left : AllByRecursion (TaskExists s) c.left
  pub stage : StageKnown s c.stage
  pub parcel : ParcelKnown s c.parcel

-- ---- what is asked there

abbrev AskedKnown : Script → Asked → Type 0
AskedKnown s (Callout i (Call op)) = IsCallout s i × OpExists s (Call op)
AskedKnown s (Callout i (Run op)) = OpExists s (Run op)
AskedKnown s (Queue cpu op) = QOpExists s op
AskedKnown s (Itself kind) = ⊤

abbrev ActionKnown : Script → Action → Type 0
ActionKnown s Nothing = ⊤
ActionKnown s (Silent to) = IsKnown s to
ActionKnown s (Take held to) = IsKnown s to
ActionKnown s (Asks n asked) = AskedKnown s asked

module _ (s : Script) (at : Scene) (here : IsCpu s at.here) (me : IsCallout s at.me) where
  covered_known : (hold : Option Held) (n : ℕ) (call : Option (ℕ × PlainOp)) → CallExists s at here me call → ActionKnown s (asks_covered s hold n call)
  covered_known hold n None exists = tt
  covered_known hold n (Some (i, op)) exists =
      either_way (ActionKnown s) (covers hold (spec_at s i) (Plain op)) (Asks n (Callout i (Call (Plain op)))) (Asks n (Itself NotHeld)) (λ _. exists) (λ _. tt)

  asks_known : (c : Cursor) (a : Act) → names_exist s a ≡ true → ActionKnown s (asks_call s c a at)
  asks_known c a exists = covered_known c.hold c.act (plain_op a s.hz at) (call_in s at here me a s.hz exists)

module _ (s : Script) where
  draining_known : (v : InService) (acts : List Act) → IsCallout s v.i → ActsExist s acts → StageKnown s (draining v acts)
  draining_known v [] served exist = tt
  draining_known v (a ∷ acts) served exist = (served, exist)

  firing_known : (v : InService) (hold : Option Held) (acts : List Act) → IsCallout s v.i → ActsExist s acts → StageKnown s (firing v hold acts)
  firing_known v hold (a ∷ acts) served exist = (served, exist)
  firing_known v None [] served exist = served
  firing_known v (Some held) [] served exist = served

module _ (s : Script) (is : IsScript s) (role : Role) (cpu : IsCpu s (cpu_of s role)) where
  within_known : (c : Cursor) (v : InService) (acts : List Act) → IsCallout s v.i → ActsExist s acts → ActionKnown s (asks_within s (cpu_of s role) c v acts)
  within_known c v [] served exist = tt
  within_known c v (a ∷ acts) served exist = asks_known s (record { time = v.at; here = cpu_of s role; me = v.i }) cpu served c a exist.0

  drain_known : (c : Cursor) (i : ℕ) (took : Bool) → IsCallout s i → ActionKnown s (asks_drain c i took)
  drain_known c i took exists = either_way (ActionKnown s) (is_some c.hold) _ _ (λ _. tt) (λ _. (exists, tt))

  pop_known : (r : Role) → QOpExists s (pop_of r)
  pop_known (Client c) = tt
  pop_known (Cpu x) = tt
  pop_known (Interrupt x) = tt

  free_known : (r : Role) → QOpExists s (free_of r)
  free_known (Client c) = tt
  free_known (Cpu x) = tt
  free_known (Interrupt x) = tt

  takes_known : (c : Cursor) (left : List Task) (held : Held) → AllByRecursion (TaskExists s) left → ParcelKnown s c.parcel → ActionKnown s (takes c left held)
  takes_known c left held exist parcel = either_way (ActionKnown s) (is_some c.hold) _ _ (λ _. tt) (λ _. record { left = exist; stage = tt; parcel = parcel })

  first_known : IsCallout s 0
  first_known = omega (arith, is.timers.0)

  begins_known : (c : Cursor) (left : List Task) → AllByRecursion (TaskExists s) left → ParcelKnown s c.parcel → ActionKnown s (begins_next s role c left)
  begins_known c [] exist parcel = either_way (ActionKnown s) (is_some c.hold) _ _ (λ _. record { left = tt; stage = tt; parcel = parcel }) (λ _. tt)
  begins_known c (Soft j ∷ left) exist parcel = pop_known role
  begins_known c (Does (act.Now time) ∷ left) exist parcel = record { left = exist.1; stage = tt; parcel = parcel }
  begins_known c (Does (act.Lock id) ∷ left) exist parcel = takes_known c left _ exist.1 parcel
  begins_known c (Does (act.ReadLock id) ∷ left) exist parcel = takes_known c left _ exist.1 parcel
  begins_known c (Does act.Unlock ∷ left) exist parcel = either_way (ActionKnown s) (is_some c.hold) _ _ (λ _. record { left = exist.1; stage = tt; parcel = parcel }) (λ _. tt)
  begins_known c (Does (act.Drain i) ∷ left) exist parcel = drain_known c i false (ltb-true i (length s.timers) exist.0)
  begins_known c (Does (act.Tick time) ∷ left) exist parcel = tt
  begins_known c (Does a ∷ left) exist parcel = asks_known s (record { time = c.now; here = cpu_of s role; me = 0 }) cpu first_known c a exist.0

  drained_known : (left : List Task) → AllByRecursion (TaskExists s) left → IsCallout s (drained_of left)
  drained_known (Does (act.Drain i) ∷ left) exist = ltb-true i (length s.timers) exist.0
  drained_known left exist = first_known

  locks_known : (c : Cursor) (v : InService) (hold : Option Held) → AllByRecursion (TaskExists s) c.left → IsCallout s v.i → ParcelKnown s c.parcel → ActionKnown s (locks s c v hold)
  locks_known c v None exist served parcel = tt
  locks_known c v (Some held) exist served parcel = record { left = exist; stage = served; parcel = parcel }

  stage_known : (c : Cursor) (stage : Stage) → AllByRecursion (TaskExists s) c.left → StageKnown s stage → ParcelKnown s c.parcel → ActionKnown s (action_in s role c stage)
  stage_known c Ready exist stage parcel = begins_known c c.left exist parcel
  stage_known c (Waiting n took) exist stage parcel = drain_known c (drained_of c.left) took (drained_known c.left exist)
  stage_known c (Popping n) exist stage parcel = pop_known role
  stage_known c (Picking v) exist stage parcel = cpu
  stage_known c (Locking v) exist stage parcel = locks_known c v _ exist stage parcel
  stage_known c (Beginning v) exist stage parcel = cpu
  stage_known c (Unlocking v acts) exist stage parcel = record { left = exist; stage = firing_known s v None acts stage.0 stage.1; parcel = parcel }
  stage_known c (Firing v acts) exist stage parcel = within_known c v acts stage.0 stage.1
  stage_known c (Releasing v) exist stage parcel = record { left = exist; stage = stage; parcel = parcel }
  stage_known c (Ending v) exist stage parcel = cpu
  stage_known c (Freeing v drain next) exist stage parcel = free_known role
  stage_known c (Drained v acts) exist stage parcel = within_known c v acts stage.0 stage.1

  with_known : (c : Cursor) (parcel : Option PendingInsert) → ParcelKnown s parcel → IsKnown s c → ActionKnown s (action_with s role c parcel)
  with_known c (Some p) there known = there
  with_known c None there known = stage_known c c.stage known.left known.stage known.parcel

-- ---- where a note leads

-- the note stands in a place of the script, and that of a Pick in the callout's that was got
abbrev Meets : Script → Cursor → Place → Type 0
Meets s c (place.Timer i) = IsCallout s i × ((v : InService) → c.stage ≡ Picking v → i ≡ v.i)
Meets s c p = ⊤

module _ (s : Script) (is : IsScript s) where
  over_known : (c : Cursor) (stage : Stage) → AllByRecursion (TaskExists s) c.left → StageKnown s stage → ParcelKnown s c.parcel → IsKnown s (act_over c stage)
  over_known c (Firing v acts) exist stage parcel = record { left = exist; stage = firing_known s v c.hold (tail_of acts) stage.0 (rest_in s acts stage.1); parcel = parcel }
  over_known c (Drained v acts) exist stage parcel = record { left = exist; stage = draining_known s v (tail_of acts) stage.0 (rest_in s acts stage.1); parcel = parcel }
  over_known c stage exist there parcel = record { left = tail_in s c.left exist; stage = tt; parcel = parcel }

  called_known : (c : Cursor) (i : ℕ) (listed : Bool) (op : Op) (reply : Reply) → IsKnown s c → IsCallout s i → IsKnown s (call_made c i listed op reply)
  called_known c i listed op (Wait n took off) known there = record { left = known.left; stage = tt; parcel = known.parcel }
  called_known c i true op (Armed code n cpu off) known there =
      let over : IsKnown s (act_over c c.stage) = over_known c c.stage known.left known.stage known.parcel in
      record { left = over.left; stage = over.stage; parcel = there }
  called_known c i listed op reply known there = over_known c c.stage known.left known.stage known.parcel

  picked_known : (c : Cursor) (v : InService) (reply : Reply) → IsKnown s c → IsCallout s v.i → IsKnown s (service_picked s c v reply)
  picked_known c v (Go func arg) known served = record { left = known.left; stage = firing_known s v c.hold (acts_at s.funcs func) served (is.funcs_name func); parcel = known.parcel }
  picked_known c v reply known served = record { left = known.left; stage = served; parcel = known.parcel }

  begun_known : (c : Cursor) (v : InService) (reply : Reply) → IsKnown s c → IsCallout s v.i → IsKnown s (service_begun s c v reply)
  begun_known c v (Go func arg) known served =
      record {
        left = known.left;
        stage = either_way (StageKnown s) (spec_at s v.i).returns_unlocked (Unlocking v (acts_at s.funcs func)) (firing v c.hold (acts_at s.funcs func)) (λ _. (served, is.funcs_name func)) (λ _. firing_known s v c.hold (acts_at s.funcs func) served (is.funcs_name func));
        parcel = known.parcel;
      }
  begun_known c v reply known served = record { left = known.left; stage = served; parcel = known.parcel }

  ended_known : (c : Cursor) (v : InService) (reply : Reply) → IsKnown s c → IsCallout s v.i → IsKnown s (service_ended c v reply)
  ended_known c v (Ended drain next woke) known served = record { left = known.left; stage = served; parcel = known.parcel }
  ended_known c v reply known served = known

  callout_known : (c : Cursor) (i : ℕ) (listed : Bool) (op : Op) (reply : Reply) (stage : Stage) → StageKnown s stage → IsKnown s c → IsCallout s i → ((v : InService) → stage ≡ Picking v → i ≡ v.i) →
      IsKnown s (advance_callout s c i listed op reply stage)
  callout_known c i listed op reply (Picking v) at known there same = picked_known c v reply known (subst (IsCallout s) (same v refl) there)
  callout_known c i listed op reply (Beginning v) at known there same = begun_known c v reply known at
  callout_known c i listed op reply (Ending v) at known there same = ended_known c v reply known at
  callout_known c i listed op reply stage at known there same = called_known c i listed op reply known there

  sent_known : (v : InService) (next : Option Next) → IsCallout s v.i → ParcelKnown s (parcel_of v next)
  sent_known v None served = tt
  sent_known v (Some next) served = served

  drained_acts_known : (drain : Option ℕ) → ActsExist s (drain_acts s drain)
  drained_acts_known None = tt
  drained_acts_known (Some func) = is.funcs_name func

  freed_known : (c : Cursor) (stage : Stage) → StageKnown s stage → IsKnown s c → IsKnown s (freed s c stage)
  freed_known c (Freeing v drain next) served known =
      record { left = known.left; stage = draining_known s v (drain_acts s drain) served (drained_acts_known drain); parcel = sent_known v next served }
  freed_known c stage there known = known

  got_known : (c : Cursor) (n : ℕ) (reply : QReply) → AllByRecursion (TaskExists s) c.left → ParcelKnown s c.parcel → IsKnown s (pop_answered c n reply)
  got_known c n (Got i k time) exist parcel = record { left = exist; stage = tt; parcel = parcel }
  got_known c n reply exist parcel = record { left = tail_in s c.left exist; stage = tt; parcel = parcel }

  popped_known : (c : Cursor) (reply : QReply) (stage : Stage) → IsKnown s c → IsKnown s (popped c reply stage)
  popped_known c reply (Popping n) known = got_known c n reply known.left known.parcel
  popped_known c reply stage known = got_known (record c { act = c.act + 1 }) c.act reply known.left known.parcel

  queue_known : (c : Cursor) (cpu : ℕ) (op : QOp) (reply : QReply) → IsKnown s c → IsKnown s (advance_queue s c cpu op reply)
  queue_known c cpu (Insert i n t) reply known = record { left = known.left; stage = known.stage; parcel = tt }
  queue_known c cpu (Remove i) reply known = record { left = known.left; stage = known.stage; parcel = known.parcel }
  queue_known c cpu (Scan time) reply known = record { left = known.left; stage = tt; parcel = known.parcel }
  queue_known c cpu Pop reply known = popped_known c reply c.stage known
  queue_known c cpu PopDirect reply known = popped_known c reply c.stage known
  queue_known c cpu FreeSlot reply known = freed_known c c.stage known.stage known
  queue_known c cpu FreeDirect reply known = freed_known c c.stage known.stage known

  advance_known : (c : Cursor) (listed : Bool) (p : Place) (e : AnyEntry) → IsKnown s c → Meets s c p → IsKnown s (advance s c listed p e)
  advance_known c listed (place.Timer i) (entry.Timer e) known meets =
      callout_known (record c { removed = None }) i listed e.op e.reply c.stage known.stage (record { left = known.left; stage = known.stage; parcel = known.parcel }) meets.0 meets.1
  advance_known c listed (place.Cpu cpu) (entry.Cpu e) known meets = queue_known c cpu e.op e.reply known
  advance_known c listed p e known meets = over_known c c.stage known.left known.stage known.parcel

-- ---- the notes of one actor

-- what was asked exists, and the entry is of the place's kind and of an actor of the script
abbrev pub EntryAsks : Script → Place → AnyEntry → Type 0
EntryAsks s (place.Timer i) (entry.Timer e) = (e.actor < actor_count s) × OpNames s e.op
EntryAsks s (place.Cpu cpu) (entry.Cpu e) = (e.actor < actor_count s) × QOpExists s e.op
EntryAsks s (place.Actor b) (entry.Own e) = (e.actor < actor_count s) × (e.actor ≡ b)
EntryAsks s p e = ⊥

abbrev pub NoteAsks : Script → Note → Type 0
NoteAsks s note = EntryAsks s note.place note.entry

module _ (s : Script) (is : IsScript s) (exist : FuncsExist s) (a : ℕ) (below : a < actor_count s) where
  action_known : (c : Cursor) → IsKnown s c → ActionKnown s (action_for s a c)
  action_known c known = with_known s is (role_of s a) (cpu_in s is a below) c c.parcel known.parcel known

  past_known : (fuel : ℕ) (c : Cursor) (action : Action) → IsKnown s c → ActionKnown s action → IsKnown s (past s a fuel c action)
  past_known zero c action known due = known
  past_known (suc fuel) c (Silent to) known due = past_known fuel to (action_for s a to) due (action_known to due)
  past_known (suc fuel) c (Take held to) known due = past_known fuel to (action_for s a to) due (action_known to due)
  past_known (suc fuel) c Nothing known due = known
  past_known (suc fuel) c (Asks n asked) known due = known

  past_names : (fuel : ℕ) (c : Cursor) (action : Action) → NamesFuncs s c → ActionNamesFuncs s action → NamesFuncs s (past s a fuel c action)
  past_names zero c action names due = names
  past_names (suc fuel) c (Silent to) names due = past_names fuel to (action_for s a to) due (action_names s a to due)
  past_names (suc fuel) c (Take held to) names due = past_names fuel to (action_for s a to) due (action_names s a to due)
  past_names (suc fuel) c Nothing names due = names
  past_names (suc fuel) c (Asks n asked) names due = names

  -- ---- a note that fits

  call_asks : (n i : ℕ) (op : _) (removed : Option ℕ) (p : Place) (e : AnyEntry) → IsCallout s i → OpNames s (Call op) → FitsCallout a n i (Call op) removed p e → EntryAsks s p e
  call_asks n i op removed (place.Timer j) (entry.Timer e) there names fits =
      (subst (λ x. x < actor_count s) (sym (ap (λ (x : Entry). x.actor) fits.1)) below, subst (OpNames s) (sym (ap (λ (x : Entry). x.op) fits.1)) names)
  call_asks n i op removed (place.Cpu cpu) (entry.Cpu e) there names fits =
      (subst (λ x. x < actor_count s) (sym (ap (λ (x : QEntry). x.actor) fits.1)) below, subst (QOpExists s) (sym (ap (λ (x : QEntry). x.op) fits.1)) there)
  call_asks n i op removed p e there names fits = absurd fits

  run_asks : (n i : ℕ) (op : _) (removed : Option ℕ) (p : Place) (e : AnyEntry) → OpNames s (Run op) → FitsCallout a n i (Run op) removed p e → EntryAsks s p e
  run_asks n i op removed (place.Timer j) (entry.Timer e) names fits =
      (subst (λ x. x < actor_count s) (sym (ap (λ (x : Entry). x.actor) fits.1)) below, subst (OpNames s) (sym (ap (λ (x : Entry). x.op) fits.1)) names)
  run_asks n i op removed p e names fits = absurd fits

  queue_asks : (n cpu : ℕ) (op : QOp) (p : Place) (e : AnyEntry) → QOpExists s op → FitsQueue a n cpu op p e → EntryAsks s p e
  queue_asks n cpu op (place.Cpu x) (entry.Cpu e) there fits =
      (subst (λ x. x < actor_count s) (sym (ap (λ (x : QEntry). x.actor) fits.1)) below, subst (QOpExists s) (sym (ap (λ (x : QEntry). x.op) fits.1)) there)
  queue_asks n cpu op p e there fits = absurd fits

  own_asks : (n : ℕ) (kind : _) (p : Place) (e : AnyEntry) → FitsOwn a n (Itself kind) p e → EntryAsks s p e
  own_asks n kind (place.Actor b) (entry.Own e) fits =
      let by : e.actor ≡ a = ap (λ (x : OwnEntry). x.actor) fits.1 in
      (subst (λ x. x < actor_count s) (sym by) below, (let here : b ≡ a = fits.0 in cc))
  own_asks n kind p e fits = absurd fits

  note_asks : (c : Cursor) (action : Action) (p : Place) (e : AnyEntry) → ActionKnown s action → ActionNamesFuncs s action → Fits a c action p e → EntryAsks s p e
  note_asks c (Asks n (Callout i (Call op))) p e known names fits = call_asks n i op c.removed p e known.0 (record { exists = known.1; func = names }) fits
  note_asks c (Asks n (Callout i (Run op))) p e known names fits = run_asks n i op c.removed p e (record { exists = known; func = names }) fits
  note_asks c (Asks n (Queue cpu op)) p e known names fits = queue_asks n cpu op p e known fits
  note_asks c (Asks n (Itself kind)) p e known names fits = own_asks n kind p e fits
  note_asks c Nothing p e known names fits = absurd fits
  note_asks c (Silent to) p e known names fits = absurd fits
  note_asks c (Take held to) p e known names fits = absurd fits

  -- a Pick is of the callout that was got
  pick_meets : (c : Cursor) (parcel : Option PendingInsert) (i : ℕ) (e : AnyEntry) (v : InService) → c.stage ≡ Picking v → Fits a c (action_with s (role_of s a) c parcel) (place.Timer i) e → i ≡ v.i
  pick_meets c (Some p) i (entry.Timer e) v at fits = absurd fits
  pick_meets c (Some p) i (entry.Cpu e) v at fits = absurd fits
  pick_meets c (Some p) i (entry.Own e) v at fits = absurd fits
  pick_meets c None i (entry.Timer e) v at fits = (subst (λ (stage : Stage). Fits a c (action_in s (role_of s a) c stage) (place.Timer i) (entry.Timer e)) at fits).0
  pick_meets c None i (entry.Cpu e) v at fits = absurd (subst (λ (stage : Stage). Fits a c (action_in s (role_of s a) c stage) (place.Timer i) (entry.Cpu e)) at fits)
  pick_meets c None i (entry.Own e) v at fits = absurd (subst (λ (stage : Stage). Fits a c (action_in s (role_of s a) c stage) (place.Timer i) (entry.Own e)) at fits)

  note_meets : (c : Cursor) (p : Place) (e : AnyEntry) → place_exists s p ≡ true → Fits a c (action_for s a c) p e → Meets s c p
  note_meets c (place.Timer i) e there fits = (ltb-true i (length s.timers) there, λ v at. pick_meets c c.parcel i e v at fits)
  note_meets c (place.Cpu cpu) e there fits = tt
  note_meets c (place.Actor b) e there fits = tt

  -- ---- all of them

  each_asks : (H : Histories) (c : Cursor) (notes : List Note) → IsKnown s c → NamesFuncs s c → HavePlaces s notes → AreNext s H a c notes → AllByRecursion (NoteAsks s) notes
  each_asks H c [] known names have next = tt
  each_asks H c (n ∷ notes) known names have next =
      let d : Cursor = at_next_note s a c in
      let there : IsKnown s d = past_known (suc (length c.left)) c (action_for s a c) known (action_known c known) in
      let named : NamesFuncs s d = past_names (suc (length c.left)) c (action_for s a c) names (action_names s a c names) in
      let meets : Meets s d n.place = note_meets d n.place n.entry have.0 next.0.fits in (
        note_asks d (action_for s a d) n.place n.entry (action_known d there) (action_names s a d named) next.0.fits,
        each_asks H (goes_on s H d n) notes (advance_known s is d (listed_after s H n.place n.pos) n.place n.entry there meets) (advance_names s exist d (listed_after s H n.place n.pos) n.place n.entry named) have.1 next.1,
      )

  pub program_asks : (H : Histories) (notes : List Note) → HavePlaces s notes → AreNext s H a (start_of s a) notes → AllByRecursion (NoteAsks s) notes
  program_asks H notes have next = each_asks H (start_of s a) notes (record { left = (start_in s is a).left; stage = tt; parcel = tt }) (start_names s is exist a) have next
