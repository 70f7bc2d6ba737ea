-- Every step of an actor keeps the world sound.
use Rattle.std.proofs.Common.{◌≡◌, ℕ, ◌<◌, ◌⊎◌, Bool, true, false, cond, List, [], ◌∷◌, inl, inr, refl, sym, ap, subst, ◌∙◌, Option, Some, None}
use Rattle.std.specs.Prelude.{is_some}
use Rattle.co_object.specs.declared.State.{State}
use Rattle.co_object.specs.declared.Reply.{Reply}
use Rattle.co_object.specs.declared.Op.TheVariants.{Call, Run as Serve}
use Rattle.co_object.specs.declared.CallOp.{CallOp}
use Rattle.co_object.specs.declared.OwnKind.{OwnKind}
use Rattle.co_object.specs.declared.Entry.{Entry}
use Rattle.co_object.specs.Stand.{off}
use Rattle.co_object.specs.Group.{off_of}
use Rattle.co_object.specs.Callout.{step as callout_step}
use Rattle.co_object.specs.Queue.{Queue as TimerQueue}
use Rattle.co_lock.specs.declared.held.Held.{Held}
use Rattle.co_program.specs.declared.Script.{Script}
use Rattle.co_program.specs.Actors.{role_of, actor_count}
use Rattle.co_program.specs.declared.Role.{Role}
use Rattle.co_program.specs.Stages.{Stage}
use Rattle.co_program.specs.Cursor.{Cursor}
use Rattle.co_program.specs.declared.PendingInsert.{PendingInsert}
use Rattle.co_program.specs.Action.{Action, Nothing, Silent, Take, Asks, action_for, spec_at}
use Rattle.co_program.specs.declared.Asked.{Asked}
use Rattle.co_program.specs.declared.Asked.TheVariants.{Callout, Queue, Itself}
use Rattle.co_program.specs.Scripts.{IsScript}
use Rattle.co_world.specs.World.{World, with_cursor}
use Rattle.co_world.specs.Step.{enters, note_of, note_of_own, callout_answers, own_note}
use Rattle.co_world.proofs.kept.Invariant.{Holds, states_of, queues_of, cursors_of}
use Rattle.co_world.proofs.basics.Changes.{at_all, cursor_at, note_at, decide}
use Rattle.co_world.proofs.basics.Actions.{IsAction, IsActionWith, inserts, goes_by}
use Rattle.co_object.specs.Callout.{call}
use Rattle.co_object.specs.declared.QOp.{QOp}
use Rattle.co_object.specs.declared.QReply.{QReply}
use Rattle.co_object.specs.declared.QEntry.{QEntry}
use Rattle.co_program.specs.Advance.{advance_queue}
use Rattle.co_world.specs.Step.{enters_journal, note_of_cpu, are_direct}
use Rattle.co_world.proofs.kept.Invariant.{IsBetween}
use Rattle.co_world.proofs.kept.ByOwnSteps.{view_of}
use Rattle.co_object.specs.declared.RunOp.{RunOp}
use Rattle.co_object.specs.Journal as journal
use Rattle.co_world.specs.Step.{world_answers, queue_answers, removed_from, asked_whole, goes_on_in_section, stepped, step}
use Rattle.co_world.specs.Blocked.{blocked, waits_for, is_moving}
use Rattle.co_world.proofs.legal.Owners.{owned_place}
use Rattle.co_world.proofs.kept.ByOwnSteps.{callout_view, holds_silent, holds_take}
use Rattle.co_world.specs.Step.{removed_first}
use Rattle.co_world.proofs.basics.Updates.{at_choice}
use Rattle.co_world.proofs.kept.ByAnswers.{Good, queue_good, run_good, own_good, call_good, unmoved_by}
use Rattle.co_world.proofs.kept.AfterAnswers.{IsReady, firing_between, call_between, run_parcel, advance_ready, answered_else, first_else, goes_else}
use Rattle.std.specs.List.{AllByRecursion}
use Rattle.co_world.specs.Walk.{run as run_world}
use Rattle.co_world.specs.Blocked.{is_waiting}
use Rattle.co_world.specs.declared.turn.Why.TheVariants.{Moving, Serviced}
use Rattle.co_world.proofs.basics.Actions.{drops, passes, unlocks, releases, grabs, enters as enters_lock}
use Rattle.co_world.proofs.kept.ByOwnSteps.{over_parcel}
use Rattle.co_world.proofs.kept.SectionEnds.{rest_good}
use Rattle.co_world.proofs.schedules.DueAnswers.{removed_due}

silent_between : (s : Script) (role : Role) (c : Cursor) (stage : Stage) (to : Cursor) → IsAction s role c stage (Silent to) → IsBetween to.stage
silent_between s role c stage to (drops is some) = tt
silent_between s role c stage to (passes task left now held is own) = tt
silent_between s role c stage to (unlocks v acts) = firing_between v None acts
silent_between s role c stage to (releases v) = tt

take_between : (s : Script) (role : Role) (c : Cursor) (stage : Stage) (to : Cursor) (held : Held) → IsAction s role c stage (Take held to) → IsBetween to.stage
take_between s role c stage to held (grabs task left h is own free) = tt
take_between s role c stage to held (enters_lock v h is) = tt

silent_view : (s : Script) (role : Role) (c : Cursor) (parcel : Option PendingInsert) (to : Cursor) → IsActionWith s role c parcel (Silent to) → IsBetween to.stage
silent_view s role c parcel to (goes_by due view) = silent_between s role c c.stage to view

take_view : (s : Script) (role : Role) (c : Cursor) (parcel : Option PendingInsert) (held : Held) (to : Cursor) → IsActionWith s role c parcel (Take held to) → IsBetween to.stage
take_view s role c parcel held to (goes_by due view) = take_between s role c c.stage to held view

own_view : (s : Script) (role : Role) (c : Cursor) (parcel : Option PendingInsert) (act : ℕ) (kind : OwnKind) → IsActionWith s role c parcel (Asks act (Itself kind)) → parcel ≡ None
own_view s role c parcel act kind (goes_by due view) = refl

queue_ready : (s : Script) (role : Role) (c : Cursor) (parcel : Option PendingInsert) (act cpu : ℕ) (op : QOp) (reply : QReply) → c.parcel ≡ parcel → IsActionWith s role c parcel (Asks act (Queue cpu op)) → IsBetween c.stage → (advance_queue s c cpu op reply).parcel ≡ None
queue_ready s role c parcel act cpu op reply e (inserts p) between = refl
queue_ready s role c parcel act cpu op reply e (goes_by due view) between = advance_ready s c cpu op reply e between

-- the world is good, and every actor stands between two steps
pub record IsSteady (s : Script) (w : World) : Type 0 where
  pub good : Good s w None
  pub between : (b : ℕ) → IsBetween (cursors_of w b).stage

module _ (s : Script) (ok : IsScript s) (w : World) (steady : IsSteady s w) (a : ℕ) (may : a < actor_count s) where
  abbrev c : Cursor
  c = cursors_of w a

  abbrev role : Role
  role = role_of s a

  -- the world after what is asked
  abbrev Ready : World → Type 0
  Ready x = Good s x None × IsReady (cursors_of x a)

  own_ready : (act : ℕ) (kind : OwnKind) → action_for s a c ≡ Asks act (Itself kind) → Ready (own_note s w a act kind)
  own_ready act kind is = (own_good s ok w steady.good a may act kind is, own_place act kind is) where
    own_place : (act : ℕ) (kind : OwnKind) → action_for s a c ≡ Asks act (Itself kind) → IsReady (cursors_of (own_note s w a act kind) a)
    own_place act kind is = inl (ap (λ (x : Cursor). x.parcel) (note_at s w a false (note_of_own s w a act kind)).here ∙ over_parcel s ok w None steady.good.holds a c c.stage ∙ own_view s role c c.parcel act kind (view_of s a c (Asks act (Itself kind)) is))

  queue_first : (act cpu : ℕ) (op : QOp) → action_for s a c ≡ Asks act (Queue cpu op) → Ready (world_answers s w a act (Queue cpu op))
  queue_first act cpu op is = (queue_good s ok w steady.good a may act cpu op is (inr (steady.between a)), go (journal.step s.buckets (are_direct s) (queues_of w cpu) op)) where
    go : (o : Option (TimerQueue × QReply)) → IsReady (cursors_of (queue_answers s w a act cpu op o) a)
    go None = inr (steady.between a)
    go (Some o) =
        let made : QEntry = record { actor = a; act = act; op = op; reply = o.1 } in
        inl (ap (λ (x : Cursor). x.parcel) (note_at s (enters_journal w cpu o.0 made) a false (note_of_cpu w cpu made)).here ∙ queue_ready s role c c.parcel act cpu op o.1 refl (view_of s a c (Asks act (Queue cpu op)) is) (steady.between a))

  run_first : (act i : ℕ) (op : RunOp) → action_for s a c ≡ Asks act (Callout i (Serve op)) → Ready (world_answers s w a act (Callout i (Serve op)))
  run_first act i op is = (run_good s ok w steady.good a may act i op is (λ b other. steady.between b), go (callout_step (spec_at s i) (states_of w i) (Serve op))) where
    from : Cursor
    from = record c { removed = None }

    go : (o : Option (State × Reply)) → IsReady (cursors_of (callout_answers s w a act i (Serve op) o) a)
    go None = inr (steady.between a)
    go (Some o) =
        let made : Entry = record { actor = a; act = act; op = Serve op; reply = o.1 } in
        let view : (c.parcel ≡ None) × IsAction s role (record c { removed = None }) c.stage (Asks act (Callout i (Serve op))) = callout_view s a c act i (Serve op) is in
        inl (ap (λ (x : Cursor). x.parcel) (note_at s (enters w i o.0 made) a (is_some (off o.0)) (note_of w i made)).here ∙ run_parcel s role c.left c.act c.now c.hold None c.parcel c.stage act i op (is_some (off o.0)) o.1 view.1 ∙ view.0)

  module _ (act i : ℕ) (op : CallOp) (is : action_for s a c ≡ Asks act (Callout i (Call op))) (still : is_moving s w i ≡ false) where
    call_place : (x : World) → action_for s a (cursors_of x a) ≡ Asks act (Callout i (Call op)) → IsBetween (cursors_of (world_answers s x a act (Callout i (Call op))) a).stage
    call_place x due =
        let d : Cursor = cursors_of x a in
        let outcome : State × Reply = call (states_of x i) op in
        let made : Entry = record { actor = a; act = act; op = Call op; reply = outcome.1 } in
        subst (λ (y : Cursor). IsBetween y.stage) (sym (note_at s (enters x i outcome.0 made) a (is_some (off outcome.0)) (note_of x i made)).here)
        (call_between s role d.left d.act d.now d.hold None d.parcel d.stage act i op (is_some (off outcome.0)) outcome.1 (callout_view s a d act i (Call op) due).1)

    call_first : Ready (asked_whole s w a act (Callout i (Call op)))
    call_first = (
      call_good s ok w steady.good a may act i op is (unmoved_by s ok w steady.good a may i steady.between still),
      inr (call_place (removed_from s w a act i (off_of (call (states_of w i) op).1)) (removed_due s w a act i op (off_of (call (states_of w i) op).1) is)),
    )

  asked_first : (act : ℕ) (asked : Asked) → action_for s a c ≡ Asks act asked → waits_for s w c (Asks act asked) ≡ None → Ready (asked_whole s w a act asked)
  asked_first act (Itself kind) is free = own_ready act kind is
  asked_first act (Queue cpu op) is free = queue_first act cpu op is
  asked_first act (Callout i (Serve op)) is free = run_first act i op is
  asked_first act (Callout i (Call op)) is free = call_first act i op is (still (is_moving s w i) (is_waiting w i c.stage) free) where
    still : (m n : Bool) → cond m (Some (Moving i)) (cond n (Some (Serviced i)) None) ≡ None → m ≡ false
    still true n h = cc
    still false n h = refl

  asked_steady : (act : ℕ) (asked : Asked) → action_for s a c ≡ Asks act asked → waits_for s w c (Asks act asked) ≡ None → IsSteady s (goes_on_in_section s (asked_whole s w a act asked) a)
  asked_steady act asked is free =
      let first : World = removed_first s w a act asked in
      let w1 : World = asked_whole s w a act asked in
      let now : Ready w1 = asked_first act asked is free in
      let others : (b : ℕ) → (b ≡ a → ⊥) → IsBetween (cursors_of w1 b).stage = λ b other.
      subst (λ (x : Cursor). IsBetween x.stage) (sym (answered_else s first a act asked b other ∙ first_else s w a act asked b other)) (steady.between b) in
      let rest : Good s (goes_on_in_section s w1 a) None × IsBetween (cursors_of (goes_on_in_section s w1 a) a).stage = rest_good s ok w1 now.0 a may others now.1 in
      record {
        good = rest.0;
        between = λ b. whose b (decide b a) rest.1 (λ other. subst (λ (x : Cursor). IsBetween x.stage) (sym (goes_else s w1 a b other)) (others b other));
      } where
        whose : (b : ℕ) → (b ≡ a) ⊎ (b ≡ a → ⊥) → IsBetween (cursors_of (goes_on_in_section s (asked_whole s w a act asked) a) a).stage → ((b ≡ a → ⊥) → IsBetween (cursors_of (goes_on_in_section s (asked_whole s w a act asked) a) b).stage) → IsBetween (cursors_of (goes_on_in_section s (asked_whole s w a act asked) a) b).stage
        whose b (inl own) here else = subst (λ (k : ℕ). IsBetween (cursors_of (goes_on_in_section s (asked_whole s w a act asked) a) k).stage) (sym own) here
        whose b (inr other) here else = else other

  placed : (to : Cursor) → Holds s (with_cursor w a to) None → IsBetween to.stage → IsSteady s (with_cursor w a to)
  placed to holds between = record {
    good = record { holds = holds; owned = owned_place s w a to steady.good.owned };
    between = at_all (λ b (x : Cursor). IsBetween x.stage) (cursors_of w) a to (cursors_of (with_cursor w a to)) (cursor_at w a to) between (λ b other. steady.between b);
  }

  stepped_steady : (due : Action) → action_for s a c ≡ due → waits_for s w c due ≡ None → IsSteady s (stepped s w a due)
  stepped_steady Nothing is free = steady
  stepped_steady (Silent to) is free = placed to (holds_silent s ok w None steady.good.holds a to is) (silent_view s role c c.parcel to (view_of s a c (Silent to) is))
  stepped_steady (Take held to) is free = placed to (holds_take s ok w None steady.good.holds a held to is) (take_view s role c c.parcel held to (view_of s a c (Take held to) is))
  stepped_steady (Asks act asked) is free = asked_steady act asked is free

  none_of : {X : Type 0} (o : Option X) → is_some o ≡ false → o ≡ None
  none_of None h = refl
  none_of (Some x) h = cc

  pub step_steady : IsSteady s (step s w a)
  step_steady = at_choice (IsSteady s) (is_some (blocked s w a)) w (stepped s w a (action_for s a c)) (λ e. steady) (λ e. stepped_steady (action_for s a c) refl (none_of (blocked s w a) e))

pub run_steady : (s : Script) → IsScript s → (schedule : List ℕ) (w : World) → AllByRecursion (λ a. a < actor_count s) schedule → IsSteady s w → IsSteady s (run_world s w schedule)
run_steady s ok [] w may steady = steady
run_steady s ok (a ∷ schedule) w may steady = run_steady s ok schedule (step s w a) may.1 (step_steady s ok w steady a may.0)
