-- The measure falls with every answer and with every step without a note.
use Rattle.std.proofs.Common.{◌≡◌, ℕ, ◌+◌, ◌≤◌, ◌<◌, true, false, length, refl, sym, ap, subst, ◌∙◌, arith, Option, Some, None}
use Rattle.std.specs.Prelude.{is_some}
use Rattle.co_object.specs.declared.Spec.{Spec}
use Rattle.co_object.specs.declared.State.{State}
use Rattle.co_object.specs.declared.Run.{Run}
use Rattle.co_object.specs.declared.Run.TheVariants as run
use Rattle.co_object.specs.declared.Reply.{Reply}
use Rattle.co_object.specs.declared.Op.{Op}
use Rattle.co_object.specs.declared.Op.TheVariants.{Call, Run as Serve}
use Rattle.co_object.specs.declared.CallOp.{CallOp}
use Rattle.co_object.specs.declared.RunOp.{RunOp}
use Rattle.co_object.specs.declared.RunOp.TheVariants.{Pick, Begin, End}
use Rattle.co_object.specs.declared.OwnKind.{OwnKind}
use Rattle.co_object.specs.declared.QOp.{QOp}
use Rattle.co_object.specs.declared.QOp.TheVariants.{Insert, Remove}
use Rattle.co_object.specs.declared.QReply.{QReply}
use Rattle.co_object.specs.declared.Entry.{Entry}
use Rattle.co_object.specs.declared.QEntry.{QEntry}
use Rattle.co_object.specs.Stand.{off}
use Rattle.co_object.specs.Drain.{serviced}
use Rattle.co_object.specs.Queue.{Queue as TimerQueue}
use Rattle.co_object.specs.Callout.{call, step as callout_step}
use Rattle.co_object.specs.Journal as journal
use Rattle.co_object.proofs.QueueChanges.{QChange}
use Rattle.co_lock.specs.declared.held.Held.{Held}
use Rattle.co_program.specs.declared.Script.{Script}
use Rattle.co_program.specs.Actors.{role_of, cpu_of, actor_count}
use Rattle.co_program.specs.declared.Role.{Role}
use Rattle.co_program.specs.Stages.{Stage}
use Rattle.co_program.specs.Cursor.{Cursor}
use Rattle.co_program.specs.declared.PendingInsert.{PendingInsert}
use Rattle.co_program.specs.Action.{Silent, Take, Asks, action_for, spec_at}
use Rattle.co_program.specs.declared.Asked.TheVariants.{Callout, Queue, Itself}
use Rattle.co_program.specs.Advance.{act_over, advance_callout, advance_queue}
use Rattle.co_world.specs.World.{World, with_cursor}
use Rattle.co_world.specs.Step.{enters, note_of, callout_answers, enters_journal, note_of_cpu, queue_answers, note_of_own, own_note, are_direct, world_answers}
use Rattle.co_world.specs.Measure.{tries, actor_left, queue_left, one_for, measure}
use Rattle.co_world.proofs.kept.Invariant.{IsTaken, states_of, queues_of, cursors_of}
use Rattle.co_world.proofs.basics.Changes.{IsAt, at_all, cursor_at, note_at, queue_at, state_at, states_landed}
use Rattle.co_world.proofs.basics.Actions.{IsAction, IsActionWith, inserts, goes_by, scans, starts, pops, frees}
use Rattle.co_world.proofs.kept.Operations.{Did, keeps, clears, arms, holds, goes, skips, did, did_call}
use Rattle.co_world.proofs.kept.Operations as deed
use Rattle.co_world.proofs.kept.ByOwnSteps.{view_of, callout_view}
use Rattle.co_world.proofs.kept.Passages.{changed}
use Rattle.co_world.proofs.basics.Sums.{total, total_above, total_at, total_of_ones, total_of_zeros}
use Rattle.co_world.proofs.measure.Actors.{tried, given, spread, actor_eased, silent_leaves, take_leaves, own_leaves, call_leaves, run_leaves, HasWaited}
use Rattle.co_world.proofs.measure.Queues.{crowd, crowd_falls, is_scan, queue_falls, queue_leaves}

-- ---- what an operation on a callout gives the drains of others

taken_number : (r : Run) (n cpu : ℕ) → IsTaken r n cpu → serviced r ≡ Some n
taken_number run.Idle n cpu h = absurd h
taken_number (run.Picked a) n cpu h = ap Some h.0
taken_number (run.Cancelled m at) n cpu h = ap Some h.0
taken_number (run.Running m at) n cpu h = absurd h

same_tries : (r t : Run) (n : ℕ) → serviced r ≡ serviced t → tries n (serviced t) ≤ tries n (serviced r) + 0
same_tries r t n is = let e : tries n (serviced r) ≡ tries n (serviced t) = ap (tries n) is in omega arith

did_given : (spec : Spec) (state : State) (op : Op) (reply : Reply) (t : State) → Did spec state op reply t → (n : ℕ) → tries n (serviced t.run) ≤ tries n (serviced state.run) + given op
did_given spec state op reply t (keeps x r u same on plain stays) n = same_tries state.run t.run n on.number
did_given spec state op reply t (clears x r u gone on plain same) n = same_tries state.run t.run n on.number
did_given spec state op reply t (deed.waits k k' m u gone on serves) n = same_tries state.run t.run n on.number
did_given spec state op reply t (arms x code arming u armed due on) n = same_tries state.run t.run n on.number
did_given spec state op reply t (holds m cpu time a u idle is_n is_cpu lock gone runs) n = omega (arith, tried n (serviced t.run), tried n (serviced state.run))
did_given spec state op reply t (goes m cpu time func arg u idle lock gone runs) n = omega (arith, tried n (serviced t.run), tried n (serviced state.run))
did_given spec state op reply t (deed.begins m cpu func arg u same taken runs) n = same_tries state.run t.run n (taken_number state.run m cpu taken ∙ sym (ap serviced runs))
did_given spec state op reply t (skips m cpu runs) n = omega arith
did_given spec state op reply t (deed.ends m cpu u drain woke same runs over) n =
    let rests : tries n (serviced t.run) ≡ 1 = ap (λ (r : Run). tries n (serviced r)) runs in omega (arith, rests, tried n (serviced state.run))

given_spread : (s : Script) (op : Op) → total (λ b. given op) 0 (actor_count s) ≡ spread s op
given_spread s (Call op) = total_of_zeros 0 (actor_count s)
given_spread s (Serve (Pick n cpu time)) = total_of_ones 0 (actor_count s)
given_spread s (Serve (Begin n cpu)) = total_of_zeros 0 (actor_count s)
given_spread s (Serve (End n cpu)) = total_of_zeros 0 (actor_count s)

-- ---- the two sums

abbrev pub all_actors_left : Script → World → ℕ
all_actors_left s w = total (λ a. actor_left s (states_of w) (cursors_of w a)) 0 (actor_count s)

abbrev pub all_queues_left : Script → World → ℕ
all_queues_left s w = total (λ cpu. queue_left s (queues_of w cpu)) 0 s.cpus

pub measured : (s : Script) (w : World) → measure s w ≡ all_actors_left s w + all_queues_left s w
measured s w = refl

module _ (s : Script) (w w' : World) where
  -- one actor moves, and the callouts give the others this much
  actors_change : (a : ℕ) (to : Cursor) (op : Op) → a < actor_count s → IsAt (cursors_of w) a to (cursors_of w') →
      ((i n : ℕ) → tries n (serviced (states_of w' i).run) ≤ tries n (serviced (states_of w i).run) + given op) →
      all_actors_left s w' + actor_left s (states_of w) (cursors_of w a) ≤ all_actors_left s w + spread s op + actor_left s (states_of w') to
  actors_change a to op may at eased =
      let old : ℕ → ℕ = λ b. actor_left s (states_of w) (cursors_of w b) in
      let new : ℕ → ℕ = λ b. actor_left s (states_of w') (cursors_of w' b) in
      let other : (b : ℕ) → (b ≡ a → ⊥) → new b ≤ old b + given op = λ b else.
      subst (λ (c : Cursor). actor_left s (states_of w') c ≤ old b + given op) (sym (at.else b else)) (actor_eased s (states_of w) (states_of w') (given op) eased (cursors_of w b)) in
      let sum : total new 0 (actor_count s) + old a ≤ total old 0 (actor_count s) + total (λ b. given op) 0 (actor_count s) + new a =
      total_at old new (λ b. given op) 0 (actor_count s) a (omega arith) (omega arith) other in
      let here : new a ≡ actor_left s (states_of w') to = ap (actor_left s (states_of w')) at.here in
      omega (arith, sum, here, given_spread s op)

  queues_fall : ((x : ℕ) → queue_left s (queues_of w' x) ≤ queue_left s (queues_of w x)) → all_queues_left s w' ≤ all_queues_left s w
  queues_fall less =
      omega (arith, total_above (λ x. queue_left s (queues_of w x)) (λ x. queue_left s (queues_of w' x)) (λ x. 0) 0 s.cpus (λ x low. (let h = less x in omega arith)), total_of_zeros 0 s.cpus)

  queues_change : (cpu : ℕ) (t : TimerQueue) → cpu < s.cpus → IsAt (queues_of w) cpu t (queues_of w') → all_queues_left s w' + queue_left s (queues_of w cpu) ≤ all_queues_left s w + queue_left s t
  queues_change cpu t exists at =
      let old : ℕ → ℕ = λ x. queue_left s (queues_of w x) in
      let new : ℕ → ℕ = λ x. queue_left s (queues_of w' x) in
      let sum : total new 0 s.cpus + old cpu ≤ total old 0 s.cpus + total (λ x. 0) 0 s.cpus + new cpu =
      total_at old new (λ x. 0) 0 s.cpus cpu (omega arith) (omega arith) (λ x other. (let e : new x ≡ old x = ap (queue_left s) (at.else x other) in omega arith)) in
      let here : new cpu ≡ queue_left s t = ap (queue_left s) at.here in
      omega (arith, sum, here, total_of_zeros 0 s.cpus)

-- ---- a step without a note

module _ (s : Script) (w : World) (a : ℕ) (may : a < actor_count s) where
  abbrev c : Cursor
  c = cursors_of w a

  abbrev role : Role
  role = role_of s a

  -- the measure has fallen
  abbrev HasFallen : World → Type 0
  HasFallen w' = measure s w' < measure s w

  -- a step that changes no queue and no callout
  placed : (w' : World) (to : Cursor) → IsAt (cursors_of w) a to (cursors_of w') → ((i : ℕ) → states_of w' i ≡ states_of w i) → ((x : ℕ) → queues_of w' x ≡ queues_of w x) → actor_left s (states_of w') to + 1 ≤ actor_left s (states_of w) c → HasFallen w'
  placed w' to at states queues leaves =
      let actors = actors_change s w w' a to (Serve (End 0 0)) may at (λ i n. (let e : tries n (serviced (states_of w' i).run) ≡ tries n (serviced (states_of w i).run) = ap (λ (x : State). tries n (serviced x.run)) (states i) in omega arith)) in
      let rest = queues_fall s w w' (λ x. (let e : queue_left s (queues_of w' x) ≡ queue_left s (queues_of w x) = ap (queue_left s) (queues x) in omega arith)) in
      omega (arith, actors, rest, leaves)

  silent_view : (parcel : Option PendingInsert) (to : Cursor) → IsActionWith s role c parcel (Silent to) → IsAction s role c c.stage (Silent to)
  silent_view parcel to (goes_by due view) = view

  take_view : (parcel : Option PendingInsert) (held : Held) (to : Cursor) → IsActionWith s role c parcel (Take held to) → IsAction s role c c.stage (Take held to)
  take_view parcel held to (goes_by due view) = view

  own_view : (parcel : Option PendingInsert) (act : ℕ) (kind : OwnKind) → IsActionWith s role c parcel (Asks act (Itself kind)) → IsAction s role c c.stage (Asks act (Itself kind))
  own_view parcel act kind (goes_by due view) = view

  pub silent_falls : (to : Cursor) → action_for s a c ≡ Silent to → HasFallen (with_cursor w a to)
  silent_falls to is =
      placed (with_cursor w a to) to (cursor_at w a to) (λ i. refl) (λ x. refl)
      (silent_leaves s role c.left c.act c.now c.hold c.removed c.parcel (states_of w) (states_of w) c.stage to (silent_view c.parcel to (view_of s a c (Silent to) is)))

  pub take_falls : (held : Held) (to : Cursor) → action_for s a c ≡ Take held to → HasFallen (with_cursor w a to)
  take_falls held to is =
      placed (with_cursor w a to) to (cursor_at w a to) (λ i. refl) (λ x. refl)
      (take_leaves s role c.left c.act c.now c.hold c.removed c.parcel (states_of w) (states_of w) c.stage to held (take_view c.parcel held to (view_of s a c (Take held to) is)))

  -- ---- a note of the actor's own

  pub own_falls : (act : ℕ) (kind : OwnKind) → action_for s a c ≡ Asks act (Itself kind) → HasFallen (own_note s w a act kind)
  own_falls act kind is =
      placed (own_note s w a act kind) (act_over c c.stage) (note_at s w a false (note_of_own s w a act kind)) (λ i. refl) (λ x. refl)
      (own_leaves s role c.left c.act c.now c.hold c.removed c.parcel (states_of w) (states_of w) c.stage act kind (own_view c.parcel act kind (view_of s a c (Asks act (Itself kind)) is)))

  -- ---- a callout's answer

  abbrev Answered : ℕ → ℕ → Op → State × Reply → World
  Answered act i op o = callout_answers s w a act i op (Some o)

  states_after : (act i : ℕ) (op : Op) (o : State × Reply) → IsAt (states_of w) i o.0 (states_of (Answered act i op o))
  states_after act i op o = state_at w i o.0 (record { actor = a; act = act; op = op; reply = o.1 })

  callout_falls : (act i : ℕ) (op : Op) (o : State × Reply) → Did (spec_at s i) (states_of w i) op o.1 o.0 →
      actor_left s (states_of (Answered act i op o)) (advance_callout s (record c { removed = None }) i (is_some (off o.0)) op o.1 c.stage) + (spread s op + 1) ≤ actor_left s (states_of w) c → HasFallen (Answered act i op o)
  callout_falls act i op o happened leaves =
      let w' : World = Answered act i op o in
      let made : Entry = record { actor = a; act = act; op = op; reply = o.1 } in
      let eased : (j n : ℕ) → tries n (serviced (states_of w' j).run) ≤ tries n (serviced (states_of w j).run) + given op =
      at_all (λ j (x : State). (n : ℕ) → tries n (serviced x.run) ≤ tries n (serviced (states_of w j).run) + given op) (states_of w) i o.0 (states_of w') (states_after act i op o)
      (did_given (spec_at s i) (states_of w i) op o.1 o.0 happened) (λ j other n. omega arith) in
      let actors = actors_change s w w' a (advance_callout s (record c { removed = None }) i (is_some (off o.0)) op o.1 c.stage) op may (note_at s (enters w i o.0 made) a (is_some (off o.0)) (note_of w i made)) eased in
      let rest = queues_fall s w w' (λ x. omega arith) in
      omega (arith, actors, rest, leaves)

  pub call_falls : (act i : ℕ) (op : CallOp) → action_for s a c ≡ Asks act (Callout i (Call op)) → HasWaited (states_of w i) c.stage → HasFallen (world_answers s w a act (Callout i (Call op)))
  call_falls act i op is free =
      let o : State × Reply = call (states_of w i) op in
      let happened : Did (spec_at s i) (states_of w i) (Call op) o.1 o.0 = did_call (spec_at s i) (states_of w i) op in
      callout_falls act i (Call op) o happened
      (call_leaves s role c.left c.act c.now c.hold None c.parcel (states_of w) (states_of (Answered act i (Call op) o)) c.stage act i op (is_some (off o.0)) o.1 o.0 (callout_view s a c act i (Call op) is).1 happened (states_after act i (Call op) o).here free)

  pub run_falls : (act i : ℕ) (op : RunOp) (o : State × Reply) → action_for s a c ≡ Asks act (Callout i (Serve op)) → callout_step (spec_at s i) (states_of w i) (Serve op) ≡ Some o → HasFallen (callout_answers s w a act i (Serve op) (Some o))
  run_falls act i op o is steps =
      let happened : Did (spec_at s i) (states_of w i) (Serve op) o.1 o.0 = did (spec_at s i) (states_of w i) (Serve op) o steps in
      callout_falls act i (Serve op) o happened
      (run_leaves s role c.left c.act c.now c.hold None c.parcel (states_of w) (states_of (Answered act i (Serve op) o)) c.stage act i (Serve op) (is_some (off o.0)) (states_of w i) o.0 o.1 op refl (callout_view s a c act i (Serve op) is).1 happened)

  -- ---- a queue's answer

  abbrev Entered : ℕ → ℕ → QOp → TimerQueue × QReply → World
  Entered act cpu op o = queue_answers s w a act cpu op (Some o)

  queue_after : (act cpu : ℕ) (op : QOp) (o : TimerQueue × QReply) → IsAt (queues_of w) cpu o.0 (queues_of (Entered act cpu op o))
  queue_after act cpu op o = queue_at w cpu o.0 (record { actor = a; act = act; op = op; reply = o.1 })

  cursor_put : (act cpu : ℕ) (op : QOp) (o : TimerQueue × QReply) → IsAt (cursors_of w) a (advance_queue s c cpu op o.1) (cursors_of (Entered act cpu op o))
  cursor_put act cpu op o =
      let made : QEntry = record { actor = a; act = act; op = op; reply = o.1 } in note_at s (enters_journal w cpu o.0 made) a false (note_of_cpu w cpu made)

  still : (act cpu : ℕ) (op : QOp) (o : TimerQueue × QReply) → (j n : ℕ) → tries n (serviced (states_of (Entered act cpu op o) j).run) ≤ tries n (serviced (states_of w j).run) + 0
  still act cpu op o j n = let e : tries n (serviced (states_of (Entered act cpu op o) j).run) ≡ tries n (serviced (states_of w j).run) = ap (λ (x : State). tries n (serviced x.run)) (states_landed w cpu op j) in omega arith

  same_left : (act cpu : ℕ) (op : QOp) (o : TimerQueue × QReply) (to : Cursor) → actor_left s (states_of (Entered act cpu op o)) to ≤ actor_left s (states_of w) to
  same_left act cpu op o to = let h = actor_eased s (states_of w) (states_of (Entered act cpu op o)) 0 (still act cpu op o) to in omega arith

  -- an operation that makes no more callouts come due
  quiet_falls : (act cpu : ℕ) (op : QOp) (o : TimerQueue × QReply) → crowd o.0 ≤ crowd (queues_of w cpu) → (less : ℕ) → actor_left s (states_of w) (advance_queue s c cpu op o.1) + less ≤ actor_left s (states_of w) c → measure s (Entered act cpu op o) + less ≤ measure s w
  quiet_falls act cpu op o few less leaves =
      let w' : World = Entered act cpu op o in
      let actors = actors_change s w w' a (advance_queue s c cpu op o.1) (Serve (End 0 0)) may (cursor_put act cpu op o) (still act cpu op o) in
      let rest = queues_fall s w w' (at_all (λ x (q : TimerQueue). queue_left s q ≤ queue_left s (queues_of w x)) (queues_of w) cpu o.0 (queues_of w') (queue_after act cpu op o) (queue_falls s (queues_of w cpu) o.0 few) (λ x other. omega arith)) in
      omega (arith, actors, rest, leaves, same_left act cpu op o (advance_queue s c cpu op o.1))

  -- a Remove leaves its actor what it had to do
  pub remove_stays : (act cpu i : ℕ) → measure s (world_answers s w a act (Queue cpu (Remove i))) ≤ measure s w
  remove_stays act cpu i =
      let gone : TimerQueue × QReply = journal.remove (queues_of w cpu) i in
      let h = quiet_falls act cpu (Remove i) gone (crowd_falls s.buckets (are_direct s) (queues_of w cpu) (Remove i) gone.1 gone.0 (changed s.buckets (are_direct s) (queues_of w cpu) (Remove i) gone refl) refl) 0 (omega arith) in
      omega arith

  insert_falls : (p : PendingInsert) (o : TimerQueue × QReply) → c.parcel ≡ Some p → QChange s.buckets (are_direct s) (queues_of w p.cpu) (Insert p.i p.n p.due) o.1 o.0 → HasFallen (Entered p.act p.cpu (Insert p.i p.n p.due) o)
  insert_falls p o is change =
      let one : one_for c.parcel ≡ 1 = ap (λ (x : Option PendingInsert). one_for x) is in
      let h = quiet_falls p.act p.cpu (Insert p.i p.n p.due) o (crowd_falls s.buckets (are_direct s) (queues_of w p.cpu) (Insert p.i p.n p.due) o.1 o.0 change refl) 1 (omega (arith, one)) in
      omega (arith, h)

  at_stage_falls : (act cpu : ℕ) (op : QOp) (o : TimerQueue × QReply) → cpu < s.cpus → IsAction s role c c.stage (Asks act (Queue cpu op)) → QChange s.buckets (are_direct s) (queues_of w cpu) op o.1 o.0 → (is_scan op ≡ true → crowd o.0 ≤ length s.timers) → HasFallen (Entered act cpu op o)
  at_stage_falls act cpu op o exists view change few =
      let w' : World = Entered act cpu op o in
      let actors = actors_change s w w' a (advance_queue s c cpu op o.1) (Serve (End 0 0)) may (cursor_put act cpu op o) (still act cpu op o) in
      let queues = queues_change s w w' cpu o.0 exists (queue_after act cpu op o) in
      let leaves = queue_leaves s role c.left c.act c.now c.hold c.removed c.parcel (states_of w) s.buckets (are_direct s) (queues_of w cpu) o.0 c.stage act cpu op o.1 view change few in
      omega (arith, actors, queues, leaves, same_left act cpu op o (advance_queue s c cpu op o.1))

  -- the queue that a server asks is its own
  asks_own : (stage : Stage) (act cpu : ℕ) (op : QOp) → IsAction s role c stage (Asks act (Queue cpu op)) → cpu ≡ cpu_of s role
  asks_own stage act cpu op (scans time more is) = refl
  asks_own stage act cpu op (starts j more is) = refl
  asks_own stage act cpu op (pops act') = refl
  asks_own stage act cpu op (frees v drain next) = refl

  queue_at_falls : (act cpu : ℕ) (op : QOp) (o : TimerQueue × QReply) (parcel : Option PendingInsert) → cpu_of s role < s.cpus → c.parcel ≡ parcel → IsActionWith s role c parcel (Asks act (Queue cpu op)) → QChange s.buckets (are_direct s) (queues_of w cpu) op o.1 o.0 →
      (is_scan op ≡ true → crowd o.0 ≤ length s.timers) → HasFallen (Entered act cpu op o)
  queue_at_falls act cpu op o parcel exists is (inserts p) change few = insert_falls p o is change
  queue_at_falls act cpu op o parcel exists is (goes_by due view) change few = at_stage_falls act cpu op o (subst (λ (x : ℕ). x < s.cpus) (sym (asks_own c.stage act cpu op view)) exists) view change few

  pub queue_answer_falls : (act cpu : ℕ) (op : QOp) (o : TimerQueue × QReply) → cpu_of s role < s.cpus → action_for s a c ≡ Asks act (Queue cpu op) → journal.step s.buckets (are_direct s) (queues_of w cpu) op ≡ Some o →
      (is_scan op ≡ true → crowd o.0 ≤ length s.timers) → HasFallen (queue_answers s w a act cpu op (Some o))
  queue_answer_falls act cpu op o exists is steps few =
      queue_at_falls act cpu op o c.parcel exists refl (view_of s a c (Asks act (Queue cpu op)) is) (changed s.buckets (are_direct s) (queues_of w cpu) op o steps) few
