-- The notes that a step makes are those that are due.
use Rattle.std.proofs.Common.{◌≡◌, ℕ, ◌≤◌, Bool, true, false, cond, ◌||◌, List, [], ◌∷◌, ◌++◌, length, take, refl, sym, ap, subst, ◌∙◌, arith, Option, Some, None}
use Rattle.std.specs.Prelude.{⊤, is_some}
use Rattle.co_object.specs.declared.State.{State}
use Rattle.co_object.specs.declared.Reply.{Reply}
use Rattle.co_object.specs.declared.Op.{Op}
use Rattle.co_object.specs.declared.Op.TheVariants.{Call, Run}
use Rattle.co_object.specs.declared.CallOp.{CallOp}
use Rattle.co_object.specs.declared.QReply.{QReply}
use Rattle.co_object.specs.declared.QReply.TheVariants.{Off, Missing}
use Rattle.co_object.specs.declared.QOp.{QOp}
use Rattle.co_object.specs.declared.QOp.TheVariants.{Remove}
use Rattle.co_object.specs.declared.Entry.{Entry}
use Rattle.co_object.specs.declared.QEntry.{QEntry}
use Rattle.co_object.specs.declared.Note.{Note}
use Rattle.co_object.specs.declared.Place.TheVariants as place
use Rattle.co_object.specs.declared.AnyEntry.TheVariants as entry
use Rattle.co_object.specs.declared.OwnKind.{OwnKind}
use Rattle.co_object.specs.declared.OwnKind.TheVariants.{Holding, NotHolding}
use Rattle.co_object.specs.Stand.{off}
use Rattle.co_object.specs.Group.{off_of}
use Rattle.co_object.specs.History.{state, next, state_of}
use Rattle.co_object.specs.Callout.{step as callout_step}
use Rattle.co_object.specs.Queue.{Queue as TimerQueue, holds, without}
use Rattle.co_object.specs.Journal.{remove}
use Rattle.co_lock.specs.declared.Held.{Held}
use Rattle.co_lock.specs.Service.{hold_of}
use Rattle.co_program.specs.declared.Script.{Script}
use Rattle.co_program.specs.declared.Act.{Act}
use Rattle.co_program.specs.declared.Act.TheVariants.{Now, Lock, ReadLock, Unlock, Drain, Tick}
use Rattle.co_program.specs.Calls.{plain_op}
use Rattle.co_program.specs.Actors.{role_of, cpu_of}
use Rattle.co_program.specs.declared.Task.{Task}
use Rattle.co_program.specs.declared.Task.TheVariants.{Does, Soft}
use Rattle.co_program.specs.declared.Role.{Role}
use Rattle.co_program.specs.Stages.{Stage, Ready, Waiting, Popping, Picking, Locking, Beginning, Unlocking, Firing, Releasing, Ending, Freeing, Drained}
use Rattle.co_program.specs.declared.InService.{InService}
use Rattle.co_program.specs.Cursor.{Cursor}
use Rattle.co_program.specs.declared.PendingInsert.{PendingInsert}
use Rattle.co_program.specs.Action.{Action, Nothing, Silent, Take, Asks, action_for, action_with, action_in, spec_at, scans_first, scans_with, scans_at, scans_of, locks, asks_covered, asks_within, takes, asks_drain, begins_next, over, drained_of}
use Rattle.co_program.specs.declared.Asked.{Asked}
use Rattle.co_program.specs.declared.Asked.TheVariants.{Callout, Queue, Itself}
use Rattle.co_program.specs.Follows.{Histories, Fits, scan_count}
use Rattle.co_world.specs.World.{World}
use Rattle.co_world.specs.Step.{note_of, note_of_cpu, note_of_own, is_within_service, lands_here, is_in_section}
use Rattle.co_world.proofs.basics.Prefixes.{Begins, begins_take, begins_front}
use Rattle.co_world.proofs.follows.SilentSteps.{at_next_asks}
use Rattle.co_world.proofs.follows.Traces.{IsMade, knows_listed}

-- ---- only a soft act's Pop waits for Scans

abbrev NoScans : ℕ → Action → Type 0
NoScans n (Asks act (Callout i op)) = n ≡ 0
NoScans n (Asks act (Itself kind)) = n ≡ 0
NoScans n due = ⊤

no_scans_at_zero : (due : Action) → NoScans 0 due
no_scans_at_zero (Asks act (Callout i op)) = refl
no_scans_at_zero (Asks act (Itself kind)) = refl
no_scans_at_zero (Asks act (Queue cpu op)) = tt
no_scans_at_zero Nothing = tt
no_scans_at_zero (Silent to) = tt
no_scans_at_zero (Take held to) = tt

no_scans_begins : (s : Script) (role : Role) (c : Cursor) (left : List Task) → NoScans (scans_of left) (begins_next s role c left)
no_scans_begins s role c [] = no_scans_at_zero (begins_next s role c [])
no_scans_begins s role c (Soft j ∷ left) = tt
no_scans_begins s role c (Does act ∷ left) = no_scans_at_zero (begins_next s role c (Does act ∷ left))

no_scans_stage : (s : Script) (role : Role) (c : Cursor) (stage : Stage) → NoScans (scans_at c stage) (action_in s role c stage)
no_scans_stage s role c Ready = no_scans_begins s role c c.left
no_scans_stage s role c stage = no_scans_at_zero (action_in s role c stage)

no_scans_with : (s : Script) (role : Role) (c : Cursor) (parcel : Option PendingInsert) → NoScans (scans_with c parcel) (action_with s role c parcel)
no_scans_with s role c None = no_scans_stage s role c c.stage
no_scans_with s role c (Some p) = tt

no_scans : (s : Script) (a : ℕ) (c : Cursor) → NoScans (scans_first c) (action_for s a c)
no_scans s a c = no_scans_with s (role_of s a) c c.parcel

-- ---- a Remove does not change what is due

abbrev SameAsks : Action → Action → Type 0
SameAsks (Asks act asked) due = due ≡ Asks act asked
SameAsks other due = ⊤

same_choice : (b : Bool) (x y x' y' : Action) → SameAsks x x' → SameAsks y y' → SameAsks (cond b x y) (cond b x' y')
same_choice true x y x' y' h k = h
same_choice false x y x' y' h k = k

same_asks : (due : Action) → SameAsks due due
same_asks (Asks act asked) = refl
same_asks Nothing = tt
same_asks (Silent to) = tt
same_asks (Take held to) = tt

module _ (s : Script) (role : Role) (c : Cursor) (removed : Option ℕ) where
  abbrev c' : Cursor
  c' = record c { removed = removed }

  same_takes : (left : List Task) (held : Held) → SameAsks (takes c left held) (takes c' left held)
  same_takes left held = same_choice (is_some c.hold) (Asks c.act (Itself Holding)) (Take held (over c left (Some held))) (Asks c.act (Itself Holding)) (Take held (over c' left (Some held))) refl tt

  same_within : (v : InService) (acts : List Act) → SameAsks (asks_within s (cpu_of s role) c v acts) (asks_within s (cpu_of s role) c' v acts)
  same_within v [] = tt
  same_within v (act ∷ acts) = same_asks (asks_covered s c.hold c.act (plain_op act s.hz (record { time = v.at; here = cpu_of s role; me = v.i })))

  same_begins : (left : List Task) → SameAsks (begins_next s role c left) (begins_next s role c' left)
  same_begins [] = same_choice (is_some c.hold) (Silent (record c { left = []; hold = None; stage = Ready })) Nothing (Silent (record c' { left = []; hold = None; stage = Ready })) Nothing tt tt
  same_begins (Does (Now time) ∷ left) = tt
  same_begins (Does (Lock id) ∷ left) = same_takes left (record { id = id; exclusive = true })
  same_begins (Does (ReadLock id) ∷ left) = same_takes left (record { id = id; exclusive = false })
  same_begins (Does Unlock ∷ left) = same_choice (is_some c.hold) (Silent (over c left None)) (Asks c.act (Itself NotHolding)) (Silent (over c' left None)) (Asks c.act (Itself NotHolding)) tt refl
  same_begins (Does (Drain i) ∷ left) = same_asks (asks_drain c i false)
  same_begins (Does (Tick time) ∷ left) = refl
  same_begins (Does act ∷ left) = same_asks (asks_covered s c.hold c.act (plain_op act s.hz (record { time = c.now; here = cpu_of s role; me = 0 })))
  same_begins (Soft j ∷ left) = refl

  same_locks : (v : InService) (hold : Option Held) → SameAsks (locks s c v hold) (locks s c' v hold)
  same_locks v None = tt
  same_locks v (Some held) = tt

  same_stage : (stage : Stage) → SameAsks (action_in s role c stage) (action_in s role c' stage)
  same_stage Ready = same_begins c.left
  same_stage (Waiting n took) = same_asks (asks_drain c (drained_of c.left) took)
  same_stage (Popping act) = refl
  same_stage (Picking v) = refl
  same_stage (Locking v) = same_locks v (hold_of (spec_at s v.i).lock)
  same_stage (Beginning v) = refl
  same_stage (Unlocking v acts) = tt
  same_stage (Firing v acts) = same_within v acts
  same_stage (Releasing v) = tt
  same_stage (Ending v) = refl
  same_stage (Freeing v drain next) = refl
  same_stage (Drained v acts) = same_within v acts

  same_with : (parcel : Option PendingInsert) → SameAsks (action_with s role c parcel) (action_with s role c' parcel)
  same_with None = same_stage c.stage
  same_with (Some p) = refl

pub due_removed : (s : Script) (a : ℕ) (c : Cursor) (removed : Option ℕ) (act : ℕ) (asked : Asked) →
    action_for s a c ≡ Asks act asked → action_for s a (record c { removed = removed }) ≡ Asks act asked
due_removed s a c removed act asked is =
    subst (λ (d : Action). SameAsks d (action_for s a (record c { removed = removed }))) is (same_with s (role_of s a) c removed c.parcel)

-- ---- each kind of note

pub own_made : (s : Script) (H : Histories) (w : World) (a act : ℕ) (kind : OwnKind) →
    action_for s a (w.actors a).cursor ≡ Asks act (Itself kind) → IsMade s H a (w.actors a).cursor false (note_of_own s w a act kind)
own_made s H w a act kind is =
    let c : Cursor = (w.actors a).cursor in
    let none : scans_first c ≡ 0 = subst (NoScans (scans_first c)) is (no_scans s a c) in
    let note : Note = note_of_own s w a act kind in
    record {
      here = at_next_asks s a c act (Itself kind) is;
      fits = record {
        fits = subst (λ (d : Action). Fits a c d note.place note.entry) (sym is) (refl, refl);
        scanned = omega arith;
      };
      knows = refl;
    }

abbrev pub OffIsRemoved : Op → Reply → Option ℕ → Type 0
OffIsRemoved (Call op) reply removed = off_of reply ≡ removed
OffIsRemoved (Run op) reply removed = ⊤

fits_callout : (a act i : ℕ) (op : Op) (c : Cursor) (reply : Reply) → OffIsRemoved op reply c.removed →
    Fits a c (Asks act (Callout i op)) (place.Timer i) (entry.Timer (record { actor = a; act = act; op = op; reply = reply }))
fits_callout a act i (Call op) c reply h = (refl, refl, h)
fits_callout a act i (Run op) c reply h = (refl, refl)

pub callout_made : (s : Script) (H : Histories) (w : World) (a act i : ℕ) (op : Op) (outcome : State × Reply) →
    action_for s a (w.actors a).cursor ≡ Asks act (Callout i op) → callout_step (spec_at s i) (w.timers i).state op ≡ Some outcome →
    (w.timers i).state ≡ state (spec_at s i) (w.timers i).history →
    Begins ((w.timers i).history ++ record { actor = a; act = act; op = op; reply = outcome.1 } ∷ []) (H.timers i) →
    OffIsRemoved op outcome.1 (w.actors a).cursor.removed →
    IsMade s H a (w.actors a).cursor (is_some (off outcome.0)) (note_of w i (record { actor = a; act = act; op = op; reply = outcome.1 }))
callout_made s H w a act i op outcome is steps known begins_next h =
    let c : Cursor = (w.actors a).cursor in
    let e : Entry = record { actor = a; act = act; op = op; reply = outcome.1 } in
    let none : scans_first c ≡ 0 = subst (NoScans (scans_first c)) is (no_scans s a c) in
    let note : Note = note_of w i e in
    let after : next (spec_at s i) (state (spec_at s i) (w.timers i).history) e ≡ outcome.0 =
    ap (λ (x : State). next (spec_at s i) x e) (sym known) ∙ ap (λ (o : Option (State × Reply)). state_of o (w.timers i).state) steps in
    record {
      here = at_next_asks s a c act (Callout i op) is;
      fits = record {
        fits = subst (λ (d : Action). Fits a c d note.place note.entry) (sym is) (fits_callout a act i op c outcome.1 h);
        scanned = omega arith;
      };
      knows = knows_listed s H i (w.timers i).history e outcome.0 begins_next after;
    }

-- what H knows of the Scans before an entry
scans_known : (H : Histories) (cpu : ℕ) (journal : List QEntry) (e : QEntry) → Begins (journal ++ e ∷ []) (H.cpus cpu) → scan_count (take (length journal) (H.cpus cpu)) ≡ scan_count journal
scans_known H cpu journal e begins_next = ap scan_count (begins_take journal (H.cpus cpu) (begins_front journal (e ∷ []) (H.cpus cpu) begins_next))

pub queue_made : (s : Script) (H : Histories) (w : World) (a act cpu : ℕ) (op : QOp) (reply : QReply) →
    action_for s a (w.actors a).cursor ≡ Asks act (Queue cpu op) → scans_first (w.actors a).cursor ≤ scan_count (w.cpus cpu).journal →
    Begins ((w.cpus cpu).journal ++ record { actor = a; act = act; op = op; reply = reply } ∷ []) (H.cpus cpu) →
    IsMade s H a (w.actors a).cursor false (note_of_cpu w cpu (record { actor = a; act = act; op = op; reply = reply }))
queue_made s H w a act cpu op reply is scanned begins_next =
    let c : Cursor = (w.actors a).cursor in
    let e : QEntry = record { actor = a; act = act; op = op; reply = reply } in
    let note : Note = note_of_cpu w cpu e in
    let known : scan_count (take (length (w.cpus cpu).journal) (H.cpus cpu)) ≡ scan_count (w.cpus cpu).journal = scans_known H cpu (w.cpus cpu).journal e begins_next in
    record {
      here = at_next_asks s a c act (Queue cpu op) is;
      fits = record {
        fits = subst (λ (d : Action). Fits a c d note.place note.entry) (sym is) (refl, refl);
        scanned = subst (λ (n : ℕ). scans_first c ≤ n) (sym known) scanned;
      };
      knows = refl;
    }

-- the Remove before a call's entry
pub remove_made : (s : Script) (H : Histories) (w : World) (a act i cpu : ℕ) (op : CallOp) (reply : QReply) →
    action_for s a (w.actors a).cursor ≡ Asks act (Callout i (Call op)) → (w.actors a).cursor.removed ≡ None → reply ≡ Off →
    IsMade s H a (w.actors a).cursor false (note_of_cpu w cpu (record { actor = a; act = act; op = Remove i; reply = reply }))
remove_made s H w a act i cpu op reply is none_removed answer =
    let c : Cursor = (w.actors a).cursor in
    let e : QEntry = record { actor = a; act = act; op = Remove i; reply = reply } in
    let note : Note = note_of_cpu w cpu e in
    let none : scans_first c ≡ 0 = subst (NoScans (scans_first c)) is (no_scans s a c) in
    record {
      here = at_next_asks s a c act (Callout i (Call op)) is;
      fits = record {
        fits = subst (λ (d : Action). Fits a c d note.place note.entry) (sym is) (none_removed, ap (λ (r : QReply). record { actor = a; act = act; op = Remove i; reply = r }) answer);
        scanned = omega arith;
      };
      knows = refl;
    }

-- ---- within a section

-- what is due within a section: a Pick, a Free or an Insert, for which no Scan is waited
abbrev pub IsWithin : Action → Type 0
IsWithin (Asks act (Callout i (Run op))) = ⊤
IsWithin (Asks act (Queue cpu op)) = ⊤
IsWithin due = ⊥

within_stage : (s : Script) (role : Role) (c : Cursor) (stage : Stage) → (is_within_service stage || false) ≡ true → IsWithin (action_in s role c stage) × (scans_at c stage ≡ 0)
within_stage s role c (Picking v) h = (tt, refl)
within_stage s role c (Freeing v drain next) h = (tt, refl)
within_stage s role c Ready h = cc
within_stage s role c (Waiting n took) h = cc
within_stage s role c (Popping act) h = cc
within_stage s role c (Locking v) h = cc
within_stage s role c (Beginning v) h = cc
within_stage s role c (Unlocking v acts) h = cc
within_stage s role c (Firing v acts) h = cc
within_stage s role c (Releasing v) h = cc
within_stage s role c (Ending v) h = cc
within_stage s role c (Drained v acts) h = cc

within_with : (s : Script) (role : Role) (w : World) (c : Cursor) (parcel : Option PendingInsert) → (is_within_service c.stage || lands_here w parcel) ≡ true → IsWithin (action_with s role c parcel) × (scans_with c parcel ≡ 0)
within_with s role w c None h = within_stage s role c c.stage h
within_with s role w c (Some p) h = (tt, refl)

pub within_due : (s : Script) (w : World) (a : ℕ) (c : Cursor) → is_in_section w c ≡ true → IsWithin (action_for s a c) × (scans_first c ≡ 0)
within_due s w a c h = within_with s (role_of s a) w c c.parcel h

off_or_missing : (b : Bool) (x y : TimerQueue × QReply) → x.1 ≡ Off → y.1 ≡ Missing → ((cond b x y).1 ≡ Missing → ⊥) → (cond b x y).1 ≡ Off
off_or_missing true x y off missing h = off
off_or_missing false x y off missing h = absurd (h missing)

-- a Remove that isn't answered Missing is answered Off
pub removed_off : (q : TimerQueue) (i : ℕ) → ((remove q i).1 ≡ Missing → ⊥) → (remove q i).1 ≡ Off
removed_off q i h = off_or_missing (holds q i) (without q i, Off) (q, Missing) refl refl h
