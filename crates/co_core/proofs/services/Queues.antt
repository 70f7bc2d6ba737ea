-- A section on a queue alone: a scan, and a pop that finds nothing due.
use Rattle.std.proofs.Common.{◌≡◌, ℕ, ◌+◌, ◌<◌, Bool, true, false, List, [], ◌∷◌, length, refl, sym, ap, ◌∙◌, subst, arith, Option, Some, None}
use Rattle.std.specs.Prelude.{◌||◌}
use Rattle.co_object.specs.declared.QOp.{QOp}
use Rattle.co_object.specs.declared.QOp.TheVariants.{Scan}
use Rattle.co_object.specs.declared.QReply.{QReply}
use Rattle.co_object.specs.declared.QReply.TheVariants.{Count}
use Rattle.co_object.specs.Journal as journal
use Rattle.co_object.specs.Queue.{Queue as TimerQueue}
use Rattle.co_program.specs.declared.role.Role.{Role}
use Rattle.co_program.specs.declared.role.Role.TheVariants as role
use Rattle.co_program.specs.declared.cursor.PendingInsert.{PendingInsert}
use Rattle.co_program.specs.declared.action.Asked.TheVariants.{Queue}
use Rattle.co_program.specs.declared.script.Script.{Script}
use Rattle.co_program.specs.Actors.{role_of, cpu_of}
use Rattle.co_program.specs.Stages.{Stage, Ready, Popping}
use Rattle.co_program.specs.Cursor.{Cursor}
use Rattle.co_program.specs.Action.{Asks, pop_of, free_of}
use Rattle.co_program.specs.Advance.{advance_queue}
use Rattle.co_program.specs.Scripts.{IsScript}
use Rattle.co_wheel.specs.Cpu.{Cpu as WheelOf}
use Rattle.co_wheel.specs.Turns.{Shows, Takes, Turns}
use Rattle.co_world.specs.World.{World}
use Rattle.co_world.specs.Step.{are_direct, goes_on_in_section, queue_answers, is_in_section, is_within_service, lands_here, step}
use Rattle.co_core.specs.Stored.{Stored, IsScanned, wheel_at, with_wheel}
use Rattle.co_core.specs.Written.{Written}
use Rattle.co_world.specs.Placed.{IsPlaced, server_slot, in_slot, stage_callout}
use Rattle.co_core.specs.Acting.{IsDue}
use Rattle.co_core.specs.Stands.{StandsFor, IsAtWheel, ShowsStored, ShowsWritten}
use Rattle.co_world.proofs.basics.Actions.{IsAction, IsActionWith, inserts, goes_by, scans, starts, pops, frees}
use Rattle.co_core.proofs.stored.Slots.{answered_so, quiet_slots, all_slots}
use Rattle.co_world.proofs.kept.ByOwnSteps.{view_of}
use Rattle.co_world.proofs.kept.Invariant.{states_of, queues_of, cursors_of}
use Rattle.co_world.proofs.basics.Changes.{IsAt}
use Rattle.co_world.proofs.sections.Movers.{parcels_of}
use Rattle.co_world.proofs.names.Calls.{role_cpu}
use Rattle.co_core.proofs.stored.Places.{stored_queue, placed_queue, reached_after}
use Rattle.co_world.proofs.sections.Ways.{Goes, goes_queue, moves_none, step_free, goes_no_further, stands_of}

module _ (s : Script) (ok : IsScript s) (ledger : Written) (depot : Stored) (w : World) (stands : StandsFor s ledger depot w) (a act cpu : ℕ) (op : QOp) (reply : QReply) (due : IsDue s w a (Asks act (Queue cpu op)))
    (on : cpu < s.cpus) (moves_not : moves_none op ≡ true) (empty : parcels_of w a ≡ None) (after : WheelOf) (callouts : after.callouts ≡ (wheel_at depot cpu).callouts) (turns : Turns (wheel_at depot cpu) ((op, reply) ∷ []) after)
    (d : Cursor) (d_is : advance_queue s (cursors_of w a) cpu op reply ≡ d) (d_parcel : d.parcel ≡ None) (d_within : is_within_service d.stage ≡ false) where
  abbrev before : WheelOf
  before = wheel_at depot cpu

  abbrev q0 : TimerQueue
  q0 = queues_of w cpu

  wheel : IsAtWheel s w cpu before
  wheel = stands.stored.each_wheel cpu on

  takes : Takes s.buckets (are_direct s) ((op, reply) ∷ []) q0 (Shows after)
  takes =
      subst (λ (m : ℕ). Takes m (are_direct s) ((op, reply) ∷ []) q0 (Shows after)) wheel.buckets
      (subst (λ (direct : List Bool). Takes before.timers.buckets direct ((op, reply) ∷ []) q0 (Shows after)) wheel.direct (turns.outcome q0 wheel.shows))

  abbrev q2 : TimerQueue
  q2 = journal.queue_of (journal.step s.buckets (are_direct s) q0 op) q0

  pub answers : journal.step s.buckets (are_direct s) q0 op ≡ Some (q2, reply)
  answers = answered_so (journal.step s.buckets (are_direct s) q0 op) q0 reply takes.0

  abbrev w' : World
  w' = queue_answers s w a act cpu op (Some (q2, reply))

  goes : (i : ℕ) → Goes w w' i cpu a (states_of w i) (stands_of w i) q2 (advance_queue s (cursors_of w a) cpu op reply)
  goes i = goes_queue s w i cpu a act op (q2, reply) moves_not

  cursors : IsAt (cursors_of w) a d (cursors_of w')
  cursors = subst (λ (c : Cursor). IsAt (cursors_of w) a c (cursors_of w')) d_is (goes 0).cursors

  quiet : is_in_section w' (cursors_of w' a) ≡ false
  quiet = ap (is_in_section w') cursors.here ∙ ap (λ (b : Bool). b || lands_here w' d.parcel) d_within ∙ ap (lands_here w') d_parcel

  is : step s w a ≡ w'
  is = step_free s w a (Asks act (Queue cpu op)) due.due due.free ∙ ap (λ (o : Option (TimerQueue × QReply)). goes_on_in_section s (queue_answers s w a act cpu op o) a) answers ∙ goes_no_further s w' a quiet

  pub stands_turned : (ledger' : Written) → ((queue : TimerQueue) → ShowsWritten s ledger' (queue_answers s w a act cpu op (Some (queue, reply)))) →
      ((q : TimerQueue) → journal.step s.buckets (are_direct s) q0 op ≡ Some (q, reply) → (ro : Role) → server_slot ro q ≡ server_slot ro q0) → in_slot (cursors_of w a).stage ≡ in_slot d.stage → ((j : ℕ) → stage_callout d.stage ≡ Some j → j < length s.timers) →
      StandsFor s ledger' (with_wheel depot cpu after) (step s w a)
  stands_turned ledger' written same_slots stage callout = record {
    written = subst (ShowsWritten s ledger') (sym is) (written q2);
    stored = subst (ShowsStored s (with_wheel depot cpu after)) (sym is)
        (stored_queue s depot w w' cpu a q2 d after on (λ j. (goes j).states.here) (λ j. (goes j).stands.here) (goes 0).queues cursors (d_parcel ∙ sym empty) stands.stored callouts turns.buckets turns.direct takes.1);
    placed = subst (IsPlaced s) (sym is)
        (placed_queue s depot w w' cpu a q2 d after on (λ j. (goes j).states.here) (λ j. (goes j).stands.here) (goes 0).queues cursors (d_parcel ∙ sym empty) stands.placed
        (slots (role_of s a) (cpu_of s (role_of s a)) ∙ stands.placed.serves a due.may ∙ stage) callout (λ b other below. slots (role_of s b) (cpu_of s (role_of s b))));
    reached = reached_after s w a due.may stands.reached;
  } where
    slots : (ro : Role) (y : ℕ) → server_slot ro (queues_of w' y) ≡ server_slot ro (queues_of w y)
    slots = all_slots w w' 0 cpu a (states_of w 0) (stands_of w 0) q2 (advance_queue s (cursors_of w a) cpu op reply) (goes 0) (same_slots q2 answers)

-- ---- a scan

no_scan : (r : Role) (time : ℕ) → (pop_of r ≡ Scan time → ⊥) × (free_of r ≡ Scan time → ⊥)
no_scan (role.Client k) time = (λ e. cc, λ e. cc)
no_scan (role.Cpu y) time = (λ e. cc, λ e. cc)
no_scan (role.Interrupt y) time = (λ e. cc, λ e. cc)

scan_stage : (s : Script) (r : Role) (c : Cursor) (stage : Stage) (act cpu : ℕ) (op : QOp) (time : ℕ) → IsAction s r c stage (Asks act (Queue cpu op)) → op ≡ Scan time → (stage ≡ Ready) × (cpu ≡ cpu_of s r)
scan_stage s r c stage act cpu op time (scans t left is) e = (refl, refl)
scan_stage s r c stage act cpu op time (starts j left is) e = absurd ((no_scan r time).0 e)
scan_stage s r c stage act cpu op time (pops k) e = absurd ((no_scan r time).0 e)
scan_stage s r c stage act cpu op time (frees v drain next) e = absurd ((no_scan r time).1 e)

scan_view : (s : Script) (r : Role) (c : Cursor) (parcel : Option PendingInsert) (act cpu : ℕ) (op : QOp) (time : ℕ) → IsActionWith s r c parcel (Asks act (Queue cpu op)) → op ≡ Scan time → (parcel ≡ None) × (c.stage ≡ Ready) × (cpu ≡ cpu_of s r)
scan_view s r c parcel act cpu op time (inserts p) e = cc
scan_view s r c parcel act cpu op time (goes_by action view) e = let at = scan_stage s r c c.stage act cpu op time view e in (refl, at.0, at.1)

module _ (s : Script) (ok : IsScript s) (ledger : Written) (depot : Stored) (w : World) (stands : StandsFor s ledger depot w) (a act cpu time : ℕ) (due : IsDue s w a (Asks act (Queue cpu (Scan time)))) where
  scanning : (parcels_of w a ≡ None) × ((cursors_of w a).stage ≡ Ready) × (cpu ≡ cpu_of s (role_of s a))
  scanning = scan_view s (role_of s a) (cursors_of w a) (parcels_of w a) act cpu (Scan time) time (view_of s a (cursors_of w a) (Asks act (Queue cpu (Scan time))) due.due) refl

  pub scan_below : cpu < s.cpus
  scan_below = subst (λ (y : ℕ). y < s.cpus) (sym scanning.2) (role_cpu s ok a due.may)

  pub scan_there : cpu < length depot.wheels
  scan_there = let l = stands.stored.wheels_long in let b = scan_below in omega (arith, l, b)

  pub stands_scanned : (count : ℕ) (after : WheelOf) → IsScanned (wheel_at depot cpu) time count after → (ledger' : Written) → ((queue : TimerQueue) → ShowsWritten s ledger' (queue_answers s w a act cpu (Scan time) (Some (queue, Count count)))) →
      StandsFor s ledger' (with_wheel depot cpu after) (step s w a)
  stands_scanned count after scanned ledger' written =
      let c : Cursor = cursors_of w a in
      let d : Cursor = record c { act = c.act + 1; stage = Popping c.act } in
      stands_turned s ok ledger depot w stands a act cpu (Scan time) (Count count) due scan_below refl scanning.0 after scanned.callouts scanned.queue d refl scanning.0 refl ledger' written
      (λ q is. quiet_slots s.buckets (are_direct s) (queues_of w cpu) (Scan time) (q, Count count) is (λ e. cc) (λ e. cc) (λ e. cc) (λ e. cc)) (ap in_slot scanning.1) (λ j e. cc)
