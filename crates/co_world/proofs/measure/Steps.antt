-- Every step that is made falls: what is due is possible, and the rest of its section adds nothing.
use Rattle.std.proofs.Common.{◌≡◌, ℕ, ◌≤◌, ◌<◌, Bool, true, false, cond, length, refl, sym, ap, subst, ◌∙◌, arith, Option, Some, None}
use Rattle.std.specs.Prelude.{is_some}
use Rattle.co_object.specs.declared.State.{State}
use Rattle.co_object.specs.declared.Reply.{Reply}
use Rattle.co_object.specs.declared.Op.TheVariants.{Call, Run as Serve}
use Rattle.co_object.specs.declared.CallOp.{CallOp}
use Rattle.co_object.specs.declared.RunOp.{RunOp}
use Rattle.co_object.specs.declared.QOp.{QOp}
use Rattle.co_object.specs.declared.QOp.TheVariants.{Remove}
use Rattle.co_object.specs.declared.QReply.{QReply}
use Rattle.co_object.specs.declared.QEntry.{QEntry}
use Rattle.co_object.specs.Group.{off_of}
use Rattle.co_object.specs.Queue.{Queue as TimerQueue}
use Rattle.co_object.specs.Callout.{call, step as callout_step}
use Rattle.co_object.specs.Journal as journal
use Rattle.co_object.proofs.QueueChanges.{QChange}
use Rattle.co_program.specs.declared.Script.{Script}
use Rattle.co_program.specs.Actors.{role_of, cpu_of, actor_count}
use Rattle.co_program.specs.declared.Task.TheVariants.{Soft}
use Rattle.co_program.specs.declared.Role.{Role}
use Rattle.co_program.specs.Stages.{Stage, Waiting, Popping}
use Rattle.co_program.specs.Cursor.{Cursor}
use Rattle.co_program.specs.declared.PendingInsert.{PendingInsert}
use Rattle.co_program.specs.Action.{Action, Nothing, Silent, Take, Asks, action_for, spec_at}
use Rattle.co_program.specs.declared.Asked.{Asked}
use Rattle.co_program.specs.declared.Asked.TheVariants.{Callout, Queue, Itself}
use Rattle.co_program.specs.Existing.{IsCallout}
use Rattle.co_program.specs.Scripts.{IsScript}
use Rattle.co_world.specs.declared.turn.Why.{Why}
use Rattle.co_world.specs.declared.turn.Why.TheVariants.{Moving, Serviced}
use Rattle.co_world.specs.World.{World}
use Rattle.co_world.specs.Blocked.{blocked, waits_for, is_moving, is_waiting}
use Rattle.co_world.specs.Step.{callout_answers, queue_answers, enters_journal, note_of_cpu, are_direct, world_answers, removed_from, asked_whole, stepped, step}
use Rattle.co_world.specs.Walk.{HasFinished}
use Rattle.co_world.specs.Measure.{measure}
use Rattle.co_world.proofs.kept.Invariant.{RunFits, HoldFits, IsTaskOf, IsBetween, states_of, queues_of, cursors_of, carries, in_hand, serving_of, has_popped}
use Rattle.co_world.proofs.basics.Changes.{note_at}
use Rattle.co_world.proofs.basics.Actions.{IsAction, IsActionWith, inserts, goes_by, scans, starts, pops, picks, opens, ends, frees}
use Rattle.co_world.proofs.kept.ByOwnSteps.{view_of, callout_view}
use Rattle.co_world.proofs.kept.Servers.{IsServer, is_server, servers_task}
use Rattle.co_world.proofs.kept.Stages.{first_task}
use Rattle.co_world.proofs.kept.Passages.{changed}
use Rattle.co_world.proofs.kept.Lanes.{lane_kept}
use Rattle.co_object.proofs.EntriesKept.{entries_change}
use Rattle.co_world.proofs.measure.Possible.{insert_possible, pop_possible, begin_possible, end_possible}
use Rattle.co_world.proofs.kept.BySteps.{IsSteady}
use Rattle.co_world.proofs.schedules.DueAnswers.{removed_due}
use Rattle.co_world.proofs.names.Places.{IsPut}
use Rattle.co_world.proofs.measure.Crowds.{few_due}
use Rattle.co_world.proofs.measure.Actors.{HasWaited}
use Rattle.co_world.proofs.measure.Queues.{crowd, is_scan}
use Rattle.co_world.proofs.measure.Sections.{own_cpu, rest_stays}
use Rattle.co_world.proofs.measure.Answers.{silent_falls, take_falls, own_falls, call_falls, run_falls, remove_stays, queue_answer_falls}

some_of : {X : Type 0} (o : Option X) → is_some o ≡ true → (x : X) × (o ≡ Some x)
some_of None h = cc
some_of (Some x) h = (x, refl)

-- ---- the step

module _ (s : Script) (ok : IsScript s) (w : World) (steady : IsSteady s w) (put : IsPut s w) (a : ℕ) (may : a < actor_count s) where
  abbrev c : Cursor
  c = cursors_of w a

  abbrev role : Role
  role = role_of s a

  abbrev Falls : World → Type 0
  Falls w' = measure s w' < measure s w

  -- what is due to a queue is possible
  idle_here : has_popped c.stage ≡ false → serving_of (queues_of w (cpu_of s role)) role ≡ false
  idle_here e = steady.good.holds.busy a ∙ e

  stage_possible : (act cpu : ℕ) (op : QOp) (stage : Stage) → c.stage ≡ stage → IsAction s role c stage (Asks act (Queue cpu op)) → is_some (journal.step s.buckets (are_direct s) (queues_of w cpu) op) ≡ true
  stage_possible act cpu op stage e (scans time more is) = refl
  stage_possible act cpu op stage e (starts j more is) =
      let server : IsServer role = servers_task s role (Soft j) refl (first_task (IsTaskOf s role) c.left more (Soft j) is (steady.good.holds.roles a).tasks) in
      pop_possible s.buckets (are_direct s) (queues_of w (cpu_of s role)) role server (idle_here (ap has_popped e))
  stage_possible act cpu op stage e (pops act') =
      let server : IsServer role = is_server s role c.hold (Popping act') refl (subst (HoldFits s role c.hold) e (steady.good.holds.roles a).hold) in
      pop_possible s.buckets (are_direct s) (queues_of w (cpu_of s role)) role server (idle_here (ap has_popped e))
  stage_possible act cpu op stage e (frees v drain next) = absurd (subst IsBetween e (steady.between a))

  queue_possible : (act cpu : ℕ) (op : QOp) (parcel : Option PendingInsert) → c.parcel ≡ parcel → IsActionWith s role c parcel (Asks act (Queue cpu op)) → is_some (journal.step s.buckets (are_direct s) (queues_of w cpu) op) ≡ true
  queue_possible act cpu op parcel e (inserts p) =
      let hand : carries s a c ≡ Some p = ap (λ (o : Option PendingInsert). in_hand (cpu_of s role) o c.stage) e in
      insert_possible (queues_of w p.cpu) p.i p.n p.due (steady.good.holds.carried.apart a p p.cpu hand)
  queue_possible act cpu op parcel e (goes_by action view) = stage_possible act cpu op c.stage refl view

  -- and so is a turn of a service
  run_possible : (act i : ℕ) (op : RunOp) (stage : Stage) → c.stage ≡ stage → IsAction s role (record c { removed = None }) stage (Asks act (Callout i (Serve op))) → is_some (callout_step (spec_at s i) (states_of w i) (Serve op)) ≡ true
  run_possible act i op stage e (picks v) = absurd (subst IsBetween e (steady.between a))
  run_possible act i op stage e (opens v) = begin_possible (states_of w v.i) (states_of w v.i).run v.n (cpu_of s role) (subst (RunFits (states_of w) (cpu_of s role)) e (steady.good.holds.serving.serves a))
  run_possible act i op stage e (ends v) = end_possible (states_of w v.i) (states_of w v.i).run v.n (cpu_of s role) (subst (RunFits (states_of w) (cpu_of s role)) e (steady.good.holds.serving.serves a))

  -- no more than all callouts come due by a scan
  few_after : (cpu : ℕ) (op : QOp) (o : TimerQueue × QReply) → QChange s.buckets (are_direct s) (queues_of w cpu) op o.1 o.0 → is_scan op ≡ true → crowd o.0 ≤ length s.timers
  few_after cpu op o change scan =
      few_due s o.0
      (entries_change (λ i n t. IsCallout s i) (λ i n t u later h. h) s.buckets (are_direct s) (queues_of w cpu) op o.1 o.0 change (λ i n t is. (let clash : false ≡ true = sym (ap is_scan is) ∙ scan in cc)) (put.queues cpu))
      (lane_kept s (queues_of w cpu) op o.1 o.0 change (steady.good.holds.lanes cpu))

  queue_step_falls : (act cpu : ℕ) (op : QOp) → action_for s a c ≡ Asks act (Queue cpu op) → Falls (world_answers s w a act (Queue cpu op))
  queue_step_falls act cpu op is =
      let some = some_of (journal.step s.buckets (are_direct s) (queues_of w cpu) op) (queue_possible act cpu op c.parcel refl (view_of s a c (Asks act (Queue cpu op)) is)) in
      subst (λ (o : Option (TimerQueue × QReply)). Falls (queue_answers s w a act cpu op o)) (sym some.1)
      (queue_answer_falls s w a may act cpu op some.0 (own_cpu s ok a may) is some.1 (few_after cpu op some.0 (changed s.buckets (are_direct s) (queues_of w cpu) op some.0 some.1)))

  run_step_falls : (act i : ℕ) (op : RunOp) → action_for s a c ≡ Asks act (Callout i (Serve op)) → Falls (world_answers s w a act (Callout i (Serve op)))
  run_step_falls act i op is =
      let some = some_of (callout_step (spec_at s i) (states_of w i) (Serve op)) (run_possible act i op c.stage refl (callout_view s a c act i (Serve op) is).1) in
      subst (λ (o : Option (State × Reply)). Falls (callout_answers s w a act i (Serve op) o)) (sym some.1) (run_falls s w a may act i op some.0 is some.1)

  -- ---- a call, with the Remove before it

  module _ (act i : ℕ) (op : CallOp) (is : action_for s a c ≡ Asks act (Callout i (Call op))) where
    first_stays : (off : Option ℕ) → measure s (removed_from s w a act i off) ≤ measure s w
    first_stays None = omega arith
    first_stays (Some cpu) = remove_stays s w a may act cpu i

    has_waited : (stage : Stage) → is_waiting w i stage ≡ false → HasWaited (states_of w i) stage
    has_waited (Waiting n took) h = h
    has_waited stage h = tt

    waited_first : (off : Option ℕ) → HasWaited (states_of w i) c.stage → HasWaited (states_of (removed_from s w a act i off) i) (cursors_of (removed_from s w a act i off) a).stage
    waited_first None h = h
    waited_first (Some cpu) h =
        let gone : TimerQueue × QReply = journal.remove (queues_of w cpu) i in
        let made : QEntry = record { actor = a; act = act; op = Remove i; reply = gone.1 } in
        subst (λ (x : Cursor). HasWaited (states_of w i) x.stage) (sym (note_at s (enters_journal w cpu gone.0 made) a false (note_of_cpu w cpu made)).here) h

    call_step_falls : is_waiting w i c.stage ≡ false → Falls (asked_whole s w a act (Callout i (Call op)))
    call_step_falls free =
        let off : Option ℕ = off_of (call (states_of w i) op).1 in
        let first = first_stays off in
        let then_falls = call_falls s (removed_from s w a act i off) a may act i op (removed_due s w a act i op off is) (waited_first off (has_waited c.stage free)) in
        omega arith

  asked_falls : (act : ℕ) (asked : Asked) → action_for s a c ≡ Asks act asked → waits_for s w c (Asks act asked) ≡ None → Falls (asked_whole s w a act asked)
  asked_falls act (Itself kind) is free = own_falls s w a may act kind is
  asked_falls act (Queue cpu op) is free = queue_step_falls act cpu op is
  asked_falls act (Callout i (Serve op)) is free = run_step_falls act i op is
  asked_falls act (Callout i (Call op)) is free = call_step_falls act i op is (waited (is_moving s w i) (is_waiting w i c.stage) free) where
    waited : (m n : Bool) → cond m (Some (Moving i)) (cond n (Some (Serviced i)) None) ≡ None → n ≡ false
    waited true n h = cc
    waited false true h = cc
    waited false false h = refl

  stepped_falls : (action : Action) → action_for s a c ≡ action → waits_for s w c action ≡ None → (action ≡ Nothing → ⊥) → Falls (stepped s w a action)
  stepped_falls Nothing is free unfinished = absurd (unfinished refl)
  stepped_falls (Silent to) is free unfinished = silent_falls s w a may to is
  stepped_falls (Take held to) is free unfinished = take_falls s w a may held to is
  stepped_falls (Asks act asked) is free unfinished =
      let first = asked_falls act asked is free in
      let rest = rest_stays s ok (asked_whole s w a act asked) a may in
      omega arith

  pub step_falls : (HasFinished s w a → ⊥) → blocked s w a ≡ None → Falls (step s w a)
  step_falls unfinished free =
      subst (λ (o : Option Why). Falls (cond (is_some o) w (stepped s w a (action_for s a c)))) (sym free) (stepped_falls (action_for s a c) refl free unfinished)
