-- A call in code: from the ledger and the depot before it to those after it.
use Rattle.std.proofs.Common.{◌≡◌, ℕ, ◌<◌, Bool, true, false, cond, length, refl, sym, ap, ◌∙◌, subst, arith, Option, Some, None}
use Rattle.std.specs.Prelude.{is_some}
use Rattle.co_object.specs.declared.State.{State}
use Rattle.co_object.specs.declared.Op.TheVariants.{Call}
use Rattle.co_object.specs.declared.CallOp.{CallOp}
use Rattle.co_object.specs.declared.Reply.{Reply}
use Rattle.co_object.specs.declared.QOp.TheVariants.{Insert, Remove}
use Rattle.co_object.specs.declared.QReply.TheVariants.{At, Off}
use Rattle.co_object.specs.Callout.{call}
use Rattle.co_object.specs.Entries.{is_armed}
use Rattle.co_object.specs.Group.{off_of}
use Rattle.co_object.specs.Queue.{Queue as TimerQueue}
use Rattle.co_object.specs.Stand.{off}
use Rattle.co_program.specs.declared.cursor.PendingInsert.{PendingInsert}
use Rattle.co_program.specs.declared.action.Asked.TheVariants.{Callout}
use Rattle.co_program.specs.declared.script.Script.{Script}
use Rattle.co_program.specs.Cursor.{Cursor}
use Rattle.co_program.specs.Action.{Asks, action_for}
use Rattle.co_program.specs.Scripts.{IsScript}
use Rattle.co_program.specs.Indexed.{cursor_of}
use Rattle.co_wheel.specs.Callouts.{is_here}
use Rattle.co_wheel.specs.Cpu.{Cpu as WheelOf}
use Rattle.co_wheel.specs.Parcel.{Parcel}
use Rattle.co_world.specs.declared.turn.Why.TheVariants.{Moving, Serviced}
use Rattle.co_world.specs.World.{World}
use Rattle.co_world.specs.Blocked.{is_moving, is_waiting, waits_for}
use Rattle.co_world.specs.Step.{callout_answers, queue_answers, removed_from, step}
use Rattle.co_core.specs.Stored.{Stored, IsCalled, wheel_at, stand_at, bag_at, with_bag, with_wheel}
use Rattle.co_core.specs.Written.{Written, cursor_at}
use Rattle.co_world.specs.Placed.{stage_callout}
use Rattle.co_core.specs.Acting.{IsDue}
use Rattle.co_core.specs.Stands.{StandsFor, IsBag, ShowsWritten}
use Rattle.co_core.proofs.calls.Wheels.{is_at_wheel}
use Rattle.co_core.proofs.calls.Calling.{Calling, answer_reply}
use Rattle.co_core.proofs.calls.Entered.{removed_world}
use Rattle.co_core.proofs.calls.Outcomes.{IsDone, Tail, ends_there, one_more}
use Rattle.co_core.proofs.calls.Section.{call_done}
use Rattle.co_world.proofs.kept.Invariant.{states_of, cursors_of}
use Rattle.co_world.proofs.kept.ByOwnSteps.{callout_view}
use Rattle.co_world.proofs.names.Calls.{cursor_names, names_of, Names}
use Rattle.co_program.proofs.Homes.{NamesCpu}
use Rattle.co_core.proofs.stored.Places.{reached_after}
use Rattle.co_core.proofs.tables.Values.{read, long}
use Rattle.co_world.proofs.sections.Ways.{stands_of}

-- a call that nothing blocks is of a callout that stands still
pub still_of : (s : Script) (w : World) (a act i : ℕ) (op : CallOp) → IsDue s w a (Asks act (Callout i (Call op))) → is_moving s w i ≡ false
still_of s w a act i op due = go (is_moving s w i) (is_waiting w i (cursors_of w a).stage) (sym (ap (waits_for s w (cursors_of w a)) due.due) ∙ due.free) where
  go : (m n : Bool) → cond m (Some (Moving i)) (cond n (Some (Serviced i)) None) ≡ None → m ≡ false
  go true n h = cc
  go false n h = refl

module _ (s : Script) (ok : IsScript s) (ledger : Written) (depot : Stored) (w : World) (stands : StandsFor s ledger depot w) (a act i : ℕ) (op : CallOp) (due : IsDue s w a (Asks act (Callout i (Call op)))) where
  named : (i < length s.timers) × NamesCpu s.cpus op
  named = names_of s a act i (cursors_of w a) op (subst (λ (c : Cursor). Names s (action_for s a c)) same (cursor_names s ok a due.may (cursor_at ledger a) (λ j is. stands.placed.known a j due.may (ap (λ (c : Cursor). stage_callout c.stage) (sym same) ∙ is)))) due.due where
    same : cursor_of s a (cursor_at ledger a) ≡ cursors_of w a
    same = stands.written.each_place a due.may

  pub known : i < length s.timers
  known = named.0

  pub stand_there : i < length depot.stands
  stand_there = let l = long depot.stands (length s.timers) (stands_of w) stands.stored.each_stand in let k = known in omega (arith, l, k)

  -- an actor that calls moves nothing
  pub bag_empty : bag_at depot a ≡ None
  bag_empty = subst (λ (o : Option PendingInsert). IsBag s w o (bag_at depot a)) (callout_view s a (cursors_of w a) act i (Call op) due.due).0 (stands.stored.each_bag a due.may)

  still : is_moving s w i ≡ false
  still = still_of s w a act i op due

module _ (s : Script) (ok : IsScript s) (ledger : Written) (depot : Stored) (w : World) (stands : StandsFor s ledger depot w) (a act i : ℕ) (op : CallOp) (due : IsDue s w a (Asks act (Callout i (Call op)))) (cpu : ℕ) (is_cpu : cpu ≡ stand_at depot i) where
  known' : i < length s.timers
  known' = known s ok ledger depot w stands a act i op due

  named' : NamesCpu s.cpus op
  named' = (named s ok ledger depot w stands a act i op due).1

  still' : is_moving s w i ≡ false
  still' = still_of s w a act i op due

  stand_is : stands_of w i ≡ cpu
  stand_is = sym (read depot.stands (length s.timers) (stands_of w) i 0 stands.stored.each_stand known') ∙ sym is_cpu

  calling : Calling s depot w a act i cpu op
  calling = record { ok = ok; stored = stands.stored; placed = stands.placed; may = due.may; due = due.due; still = still'; known = known'; names = named'; stand = stand_is }

  pub cpu_below : cpu < s.cpus
  cpu_below = subst (λ (y : ℕ). y < s.cpus) stand_is (stands.placed.cpus_known i known').stand

  pub cpu_there : cpu < length depot.wheels
  cpu_there = let l = stands.stored.wheels_long in let b = cpu_below in omega (arith, l, b)

  pub here : is_here (wheel_at depot cpu).callouts i ≡ true
  here = is_at_wheel s depot w stands.stored i cpu known' cpu_below stand_is still'

  abbrev r : Reply
  r = (call (states_of w i) op).1

  abbrev t : State
  t = (call (states_of w i) op).0

  abbrev Wheeled : Reply → Bool → Bool → Option ℕ → Option Parcel → WheelOf → Type 0
  Wheeled reply gone listed at out after = IsCalled (wheel_at depot cpu) i op reply gone listed at out after

  module _ (reply : Reply) (gone listed : Bool) (at : Option ℕ) (out : Option Parcel) (after : WheelOf) (wheeled0 : Wheeled reply gone listed at out after) where
    reply_same : reply ≡ r
    reply_same = answer_reply calling reply out after wheeled0.callouts

    wheeled : Wheeled r gone listed at out after
    wheeled = subst (λ (y : Reply). Wheeled y gone listed at out after) reply_same wheeled0

    abbrev w1 : World
    w1 = removed_from s w a act i (off_of r)

    abbrev w2 : World
    w2 = callout_answers s w1 a act i (Call op) (Some (t, r))

    done : IsDone calling wheeled
    done = call_done calling wheeled due

    module _ (ledger1 : Written) (stays1 : gone ≡ false → ledger1 ≡ ledger) (written1 : (queue : TimerQueue) → gone ≡ true → (v : World) → ShowsWritten s ledger v → ShowsWritten s ledger1 (queue_answers s v a act cpu (Remove i) (Some (queue, Off)))) where
      first : ShowsWritten s ledger1 w1
      first = go (off_of r) refl where
        go : (o : Option ℕ) → off_of r ≡ o → ShowsWritten s ledger1 (removed_from s w a act i (off_of r))
        go None is =
            subst (λ (o : Option ℕ). ShowsWritten s ledger1 (removed_from s w a act i o)) (sym is) (subst (λ (b : Written). ShowsWritten s b w) (sym (stays1 (wheeled.removed ∙ ap is_some is))) stands.written)
        go (Some y) is =
            let world = removed_world calling wheeled y is in
            subst (λ (v : World). ShowsWritten s ledger1 v) (sym world.1) (written1 world.0 (wheeled.removed ∙ ap is_some is) w stands.written)

      pub first_world : (v : World) × ShowsWritten s ledger1 v
      first_world = (w1, first)

      module _ (ledger2 : Written) (written2 : (state : State) → (is_armed reply ≡ true → listed ≡ is_some (off state)) → (v : World) → ShowsWritten s ledger1 v → ShowsWritten s ledger2 (callout_answers s v a act i (Call op) (Some (state, reply)))) where
        second : ShowsWritten s ledger2 w2
        second = subst (λ (y : Reply). ShowsWritten s ledger2 (callout_answers s w1 a act i (Call op) (Some (t, y)))) reply_same (written2 t (λ armed. done.listing (ap is_armed (sym reply_same) ∙ armed)) w1 first)

        -- the parcel that the ledger has is the world's
        there : (cursor_at ledger2 a).parcel ≡ (w2.actors a).cursor.parcel
        there = ap (λ (c : Cursor). c.parcel) (second.each_place a due.may)

        pub second_world : (v : World) × ShowsWritten s ledger2 v
        second_world = (w2, second)

        pub parcel_there : is_some at ≡ true → (p : PendingInsert) × ((cursor_at ledger2 a).parcel ≡ Some p) × (p.cpu < s.cpus)
        parcel_there timed = go done.tail where
          go : Tail calling wheeled → (p : PendingInsert) × ((cursor_at ledger2 a).parcel ≡ Some p) × (p.cpu < s.cpus)
          go (ends_there none is) = let clash : true ≡ false = sym timed ∙ ap is_some none in cc
          go (one_more time q2 p is carried below same) = (p, there ∙ carried, below)

        module _ (ledger3 : Written) (stays3 : at ≡ None → ledger3 ≡ ledger2)
            (written3 : (queue : TimerQueue) (p : PendingInsert) (time : ℕ) → at ≡ Some time → (cursor_at ledger2 a).parcel ≡ Some p → (v : World) → ShowsWritten s ledger2 v → ShowsWritten s ledger3 (queue_answers s v a p.act p.cpu (Insert p.i p.n p.due) (Some (queue, At time)))) where
          third : ShowsWritten s ledger3 (step s w a)
          third = go done.tail where
            go : Tail calling wheeled → ShowsWritten s ledger3 (step s w a)
            go (ends_there none is) = subst (ShowsWritten s ledger3) (sym is) (subst (λ (b : Written). ShowsWritten s b w2) (sym (stays3 none)) second)
            go (one_more time q2 p is carried below same) = subst (ShowsWritten s ledger3) (sym same) (written3 q2 p time is (there ∙ carried) w2 second)

          pub stands_called : StandsFor s ledger3 (with_bag (with_wheel depot cpu after) a out) (step s w a)
          stands_called = record { written = third; stored = done.stored_so; placed = done.placed_so; reached = reached_after s w a due.may stands.reached }
