-- A section comes to its end: what is due in the middle of one is possible.
use Rattle.std.proofs.Common.{◌≡◌, ℕ, ◌<◌, Bool, true, false, cond, List, inl, inr, refl, sym, ap, subst, ◌∙◌, Option, Some, None}
use Rattle.std.specs.Prelude.{is_some}
use Rattle.co_object.specs.declared.State.{State}
use Rattle.co_object.specs.declared.Arming.{Arming}
use Rattle.co_object.specs.declared.Reply.{Reply}
use Rattle.co_object.specs.declared.Op.TheVariants.{Run as Serve}
use Rattle.co_object.specs.declared.Entry.{Entry}
use Rattle.co_object.specs.Stand.{off}
use Rattle.co_object.specs.Callout.{step as callout_step}
use Rattle.co_object.specs.Queue.{Queue as TimerQueue}
use Rattle.co_program.specs.declared.Script.{Script}
use Rattle.co_program.specs.Actors.{role_of, cpu_of, acts_at, actor_count}
use Rattle.co_program.specs.declared.Role.{Role}
use Rattle.co_program.specs.declared.Role.TheVariants.{Client, Cpu, Interrupt}
use Rattle.co_program.specs.Stages.{Stage, Ready, Waiting, Popping, Picking, Locking, Beginning, Unlocking, Firing, Releasing, Ending, Freeing, Drained}
use Rattle.co_program.specs.declared.InService.{InService}
use Rattle.co_program.specs.Cursor.{Cursor}
use Rattle.co_program.specs.declared.PendingInsert.{PendingInsert}
use Rattle.co_program.specs.Action.{Action, Asks, action_for, action_with, spec_at}
use Rattle.co_program.specs.declared.Asked.TheVariants.{Callout, Queue}
use Rattle.co_program.specs.Advance.{advance_callout}
use Rattle.co_program.specs.Scripts.{IsScript}
use Rattle.co_world.specs.World.{World}
use Rattle.co_world.specs.Step.{enters, note_of, callout_answers}
use Rattle.co_world.proofs.kept.Invariant.{IsListed, states_of, queues_of, cursors_of, carries, in_hand, in_stage, serving_of, has_popped}
use Rattle.co_world.proofs.basics.Changes.{note_at}
use Rattle.co_object.specs.declared.QOp.TheVariants.{Insert}
use Rattle.co_object.specs.declared.QReply.{QReply}
use Rattle.co_object.specs.declared.QEntry.{QEntry}
use Rattle.co_object.specs.declared.Next.{Next}
use Rattle.co_program.specs.Action.{free_of}
use Rattle.co_program.specs.Advance.{drain_acts, freed}
use Rattle.co_world.specs.Step.{enters_journal, note_of_cpu, are_direct}
use Rattle.co_world.proofs.kept.Invariant.{IsBetween, RunFits}
use Rattle.co_world.proofs.kept.Stages.{free_advance}
use Rattle.std.proofs.Common.{eq-eqb}
use Rattle.std.specs.Prelude.{◌==◌}
use Rattle.co_object.specs.declared.Run.TheVariants as run
use Rattle.co_object.specs.Stand.{is_idle}
use Rattle.std.proofs.Common.{le-leb}
use Rattle.std.specs.Prelude.{nat_le, ◌&&◌, ◌||◌}
use Rattle.co_object.specs.declared.RunOp.{RunOp}
use Rattle.co_object.specs.declared.RunOp.TheVariants.{Pick}
use Rattle.co_object.specs.Journal as journal
use Rattle.co_object.specs.Serve.{taken as taken_by}
use Rattle.co_world.specs.Step.{queue_answers, is_within_service, is_in_section, lands_here, makes_action, goes_on_in_section}
use Rattle.co_world.proofs.basics.Updates.{at_choice}
use Rattle.co_world.proofs.kept.ByAnswers.{Good, queue_good, run_good}
use Rattle.co_object.specs.declared.Reply.TheVariants.{Hold}
use Rattle.co_program.specs.Advance.{service_picked}
use Rattle.co_object.specs.Queue.{Due}
use Rattle.co_object.specs.Serve.{has_lock, pick_armed, go as go_run}
use Rattle.co_program.specs.Action.{action_in}
use Rattle.co_world.proofs.kept.AfterAnswers.{IsReady, draining_between, firing_between}

-- ---- what is due in mid-section is possible

pick_possible : (s : Script) (state : State) (i n cpu at : ℕ) → (h : IsListed state n cpu at) → is_idle state.run ≡ true → callout_step (spec_at s i) state (Serve (Pick n cpu at)) ≡ Some (taken_by (spec_at s i) state h.arming)
pick_possible s state i n cpu at h idle =
    ap (λ o. pick_armed (spec_at s i) state o n cpu at) h.armed
    ∙ ap (λ (b : Bool). cond b (Some (taken_by (spec_at s i) state h.arming)) None) (all_true (h.arming.n == n) (h.arming.cpu == cpu) (nat_le h.arming.due at) (is_idle state.run) (eq-eqb h.arming.n n h.number) (eq-eqb h.arming.cpu cpu h.place) (le-leb h.arming.due at h.due) idle) where
      all_true : (x y z u : Bool) → x ≡ true → y ≡ true → z ≡ true → u ≡ true → (x && y && z && u) ≡ true
      all_true true true true true p q r t = refl
      all_true x y z u p q r t = cc

free_possible : (m : ℕ) (direct : List Bool) (q : TimerQueue) (role : Role) → serving_of q role ≡ true → journal.step m direct q (free_of role) ≡ None → ⊥
free_possible m direct q (Client k) busy is = cc
free_possible m direct q (Cpu x) busy is = go q.serving busy is where
  go : (o : Option Due) → is_some o ≡ true → journal.free_if q o ≡ None → ⊥
  go None h e = cc
  go (Some d) h e = cc
free_possible m direct q (Interrupt x) busy is = go q.directing busy is where
  go : (o : Option Due) → is_some o ≡ true → journal.free_direct_if q o ≡ None → ⊥
  go None h e = cc
  go (Some d) h e = cc

-- ---- the rest of a section

module _ (s : Script) (ok : IsScript s) (w : World) (good : Good s w None) (a : ℕ) (may : a < actor_count s) (others : (b : ℕ) → (b ≡ a → ⊥) → IsBetween (cursors_of w b).stage) where
  abbrev c : Cursor
  c = cursors_of w a

  abbrev role : Role
  role = role_of s a

  -- the world is good, and the actor stands between two steps
  abbrev Rests : World → Type 0
  Rests x = Good s x None × IsBetween (cursors_of x a).stage

  insert_stage : (act cpu i n t : ℕ) (o : Option (TimerQueue × QReply)) → IsBetween c.stage → IsBetween (cursors_of (queue_answers s w a act cpu (Insert i n t) o) a).stage
  insert_stage act cpu i n t None h = h
  insert_stage act cpu i n t (Some o) h =
      let made : QEntry = record { actor = a; act = act; op = Insert i n t; reply = o.1 } in
      subst (λ (x : Cursor). IsBetween x.stage) (sym (note_at s (enters_journal w cpu o.0 made) a false (note_of_cpu w cpu made)).here) h

  makes_insert : (p : PendingInsert) → c.parcel ≡ Some p → IsBetween c.stage → Rests (makes_action s w a (action_for s a c))
  makes_insert p e between =
      let due : action_for s a c ≡ Asks p.act (Queue p.cpu (Insert p.i p.n p.due)) = ap (action_with s role c) e in
      subst (λ (d : Action). Rests (makes_action s w a d)) (sym due)
      (queue_good s ok w good a may p.act p.cpu (Insert p.i p.n p.due) due (inr between), insert_stage p.act p.cpu p.i p.n p.due (journal.step s.buckets (are_direct s) (queues_of w p.cpu) (Insert p.i p.n p.due)) between)

  -- a pick
  picked_between : (v : InService) (listed : Bool) (op : RunOp) (arming : Arming) → IsBetween (advance_callout s (record c { removed = None }) v.i listed (Serve op) (taken_by (spec_at s v.i) (states_of w v.i) arming).1 (Picking v)).stage
  picked_between v listed op arming = go (has_lock (spec_at s v.i).lock) where
    go : (b : Bool) → IsBetween (service_picked s (record c { removed = None }) v (cond b (record (states_of w v.i) { armed = None; run = run.Picked arming }, Hold) (go_run (record (states_of w v.i) { armed = None }) arming)).1).stage
    go true = tt
    go false = firing_between v c.hold (acts_at s.funcs arming.func)

  makes_pick : (v : InService) → c.stage ≡ Picking v → c.parcel ≡ None → Rests (makes_action s w a (action_for s a c))
  makes_pick v e empty =
      let due : action_for s a c ≡ Asks v.act (Callout v.i (Serve (Pick v.n (cpu_of s role) v.at))) = ap (action_with s role c) empty ∙ ap (action_in s role c) e in
      let hand : carries s a c ≡ Some (record { act = v.act; i = v.i; n = v.n; due = v.at; cpu = cpu_of s role }) = ap (λ (o : Option PendingInsert). in_hand (cpu_of s role) o c.stage) empty ∙ ap (in_stage (cpu_of s role)) e in
      let listed : IsListed (states_of w v.i) v.n (cpu_of s role) v.at = good.holds.carried.moves a (record { act = v.act; i = v.i; n = v.n; due = v.at; cpu = cpu_of s role }) hand in
      let idle : is_idle (states_of w v.i).run ≡ true = subst (RunFits (states_of w) (cpu_of s role)) e (good.holds.serving.serves a) in
      let outcome : State × Reply = taken_by (spec_at s v.i) (states_of w v.i) listed.arming in
      let made : Entry = record { actor = a; act = v.act; op = Serve (Pick v.n (cpu_of s role) v.at); reply = outcome.1 } in
      let after : IsBetween (cursors_of (callout_answers s w a v.act v.i (Serve (Pick v.n (cpu_of s role) v.at)) (Some outcome)) a).stage =
      subst (λ (x : Cursor). IsBetween x.stage) (sym (note_at s (enters w v.i outcome.0 made) a (is_some (off outcome.0)) (note_of w v.i made)).here)
      (subst (λ (x : Stage). IsBetween (advance_callout s (record c { removed = None }) v.i (is_some (off outcome.0)) (Serve (Pick v.n (cpu_of s role) v.at)) outcome.1 x).stage) (sym e) (picked_between v (is_some (off outcome.0)) (Pick v.n (cpu_of s role) v.at) listed.arming)) in
      subst (λ (d : Action). Rests (makes_action s w a d)) (sym due) (
        run_good s ok w good a may v.act v.i (Pick v.n (cpu_of s role) v.at) due others,
        subst (λ (o : Option (State × Reply)). IsBetween (cursors_of (callout_answers s w a v.act v.i (Serve (Pick v.n (cpu_of s role) v.at)) o) a).stage) (sym (pick_possible s (states_of w v.i) v.i v.n (cpu_of s role) v.at listed idle)) after,
      )

  -- a free
  makes_free : (v : InService) (drain : Option ℕ) (next : Option Next) → c.stage ≡ Freeing v drain next → c.parcel ≡ None → Rests (makes_action s w a (action_for s a c))
  makes_free v drain next e empty =
      let due : action_for s a c ≡ Asks v.act (Queue (cpu_of s role) (free_of role)) = ap (action_with s role c) empty ∙ ap (action_in s role c) e in
      subst (λ (d : Action). Rests (makes_action s w a d)) (sym due)
      (queue_good s ok w good a may v.act (cpu_of s role) (free_of role) due (inl empty), after (journal.step s.buckets (are_direct s) (queues_of w (cpu_of s role)) (free_of role)) refl) where
        serves_now : serving_of (queues_of w (cpu_of s role)) role ≡ true
        serves_now = good.holds.busy a ∙ ap has_popped e

        after : (o : Option (TimerQueue × QReply)) → journal.step s.buckets (are_direct s) (queues_of w (cpu_of s role)) (free_of role) ≡ o → IsBetween (cursors_of (queue_answers s w a v.act (cpu_of s role) (free_of role) o) a).stage
        after None is = absurd (free_possible s.buckets (are_direct s) (queues_of w (cpu_of s role)) role serves_now is)
        after (Some o) is =
            let made : QEntry = record { actor = a; act = v.act; op = free_of role; reply = o.1 } in
            subst (λ (x : Cursor). IsBetween x.stage) (sym ((note_at s (enters_journal w (cpu_of s role) o.0 made) a false (note_of_cpu w (cpu_of s role) made)).here ∙ free_advance s ok role c.left c.act c.now c.hold c.removed c.parcel c (cpu_of s role) o.1))
            (subst (λ (x : Stage). IsBetween (freed s c x).stage) (sym e) (draining_between v (drain_acts s drain)))

  within : (stage : Stage) → c.stage ≡ stage → c.parcel ≡ None → is_within_service stage ≡ true → Rests (makes_action s w a (action_for s a c))
  within (Picking v) e empty h = makes_pick v e empty
  within (Freeing v drain next) e empty h = makes_free v drain next e empty
  within Ready e empty h = cc
  within (Waiting n took) e empty h = cc
  within (Popping act) e empty h = cc
  within (Locking v) e empty h = cc
  within (Beginning v) e empty h = cc
  within (Unlocking v acts) e empty h = cc
  within (Firing v acts) e empty h = cc
  within (Releasing v) e empty h = cc
  within (Ending v) e empty h = cc
  within (Drained v acts) e empty h = cc

  not_within : (stage : Stage) → is_within_service stage ≡ false → IsBetween stage
  not_within (Picking v) h = cc
  not_within (Freeing v drain next) h = cc
  not_within Ready h = tt
  not_within (Waiting n took) h = tt
  not_within (Popping act) h = tt
  not_within (Locking v) h = tt
  not_within (Beginning v) h = tt
  not_within (Unlocking v acts) h = tt
  not_within (Firing v acts) h = tt
  not_within (Releasing v) h = tt
  not_within (Ending v) h = tt
  not_within (Drained v acts) h = tt

  either_false : (x y : Bool) → (x || y) ≡ false → x ≡ false
  either_false true y h = cc
  either_false false y h = refl

  or_false : (x : Bool) → (x || false) ≡ true → x ≡ true
  or_false true h = refl
  or_false false h = h

  pub rest_good : IsReady c → Rests (goes_on_in_section s w a)
  rest_good ready = at_choice Rests (is_in_section w c) (makes_action s w a (action_for s a c)) w (λ yes'. go c.parcel refl ready yes') (λ no'. (good, not_within c.stage (either_false (is_within_service c.stage) (lands_here w c.parcel) no'))) where
    go : (o : Option PendingInsert) → c.parcel ≡ o → IsReady c → is_in_section w c ≡ true → Rests (makes_action s w a (action_for s a c))
    go (Some p) e (inl empty) h = absurd (let clash : Some p ≡ None = sym e ∙ empty in cc)
    go (Some p) e (inr between) h = makes_insert p e between
    go None e r h = within c.stage refl e (or_false (is_within_service c.stage) (ap (λ (o : Option PendingInsert). is_within_service c.stage || lands_here w o) (sym e) ∙ h))
