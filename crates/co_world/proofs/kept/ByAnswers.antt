-- Each answer keeps what holds of the world, and is its actor's.
use Rattle.std.proofs.Common.{◌≡◌, ℕ, ◌+◌, ◌≤◌, ◌<◌, ◌⊎◌, Bool, true, false, cond, List, inl, inr, refl, sym, ap, subst, ◌∙◌, arith, Option, Some, None}
use Rattle.std.specs.Prelude.{is_some}
use Rattle.co_object.specs.declared.State.{State}
use Rattle.co_object.specs.declared.Reply.{Reply}
use Rattle.co_object.specs.declared.Op.{Op}
use Rattle.co_object.specs.declared.Op.TheVariants.{Call, Run as Serve}
use Rattle.co_object.specs.declared.CallOp.{CallOp}
use Rattle.co_object.specs.declared.OwnKind.{OwnKind}
use Rattle.co_object.specs.Stand.{off}
use Rattle.co_object.specs.Group.{off_of}
use Rattle.co_object.specs.Callout.{step as callout_step}
use Rattle.co_object.specs.Queue.{Queue as TimerQueue}
use Rattle.co_object.proofs.PassageOnce.{stands}
use Rattle.co_program.specs.declared.Script.{Script}
use Rattle.co_program.specs.Actors.{role_of, cpu_of, actor_count}
use Rattle.co_program.specs.declared.Role.{Role}
use Rattle.co_program.specs.declared.Role.TheVariants.{Client, Cpu, Interrupt}
use Rattle.co_program.specs.Stages.{Stage, Popping, Picking, Beginning, Ending, Freeing}
use Rattle.co_program.specs.Cursor.{Cursor}
use Rattle.co_program.specs.declared.PendingInsert.{PendingInsert}
use Rattle.co_program.specs.Action.{Asks, action_for, spec_at}
use Rattle.co_program.specs.declared.Asked.TheVariants.{Callout, Queue, Itself}
use Rattle.co_program.specs.Scripts.{IsScript}
use Rattle.co_world.specs.World.{World}
use Rattle.co_world.specs.Step.{notes_down, note_of, note_of_own, callout_answers, own_note}
use Rattle.co_world.proofs.kept.Invariant.{Holds, FitsRole, states_of, queues_of, cursors_of, carries, in_hand, in_stage, has_popped, under_way, service_of}
use Rattle.co_world.proofs.basics.Ranges.{any_at}
use Rattle.co_world.proofs.basics.Changes.{IsAt, at_all, note_at}
use Rattle.co_world.proofs.basics.Actions.{IsAction, IsActionWith, inserts, goes_by}
use Rattle.co_world.proofs.kept.Operations.{Did, keeps, clears, arms, did, did_call}
use Rattle.co_object.specs.Callout.{call}
use Rattle.co_program.specs.Actors.{client_count}
use Rattle.co_world.proofs.basics.Roles.{interrupt_version}
use Rattle.co_world.proofs.kept.Operations as deed
use Rattle.co_world.proofs.follows.DueNotes.{due_removed}
use Rattle.co_world.proofs.kept.Stages.{Fits}
use Rattle.co_object.specs.declared.QOp.{QOp}
use Rattle.co_object.specs.declared.QOp.TheVariants.{Insert, Remove, Scan}
use Rattle.co_object.specs.declared.QReply.{QReply}
use Rattle.co_object.specs.declared.QReply.TheVariants.{Got, Off}
use Rattle.co_object.specs.declared.QEntry.{QEntry}
use Rattle.co_object.specs.Queue.{without}
use Rattle.co_object.proofs.QueueChanges.{QChange, removes}
use Rattle.co_program.specs.declared.Task.TheVariants.{Does, Soft}
use Rattle.co_program.specs.declared.Act.TheVariants.{Tick}
use Rattle.co_program.specs.Action.{pop_of, free_of}
use Rattle.co_program.specs.Advance.{advance_queue, tail_of, popped, pop_answered}
use Rattle.co_world.specs.Step.{enters_journal, note_of_cpu, are_direct}
use Rattle.co_world.proofs.kept.Invariant.{IsBetween, IsTaskOf}
use Rattle.co_world.proofs.basics.Actions.{scans as due_scans, starts, pops as due_pops, frees as due_frees}
use Rattle.co_world.proofs.kept.Passages.{Popped, has, none, popped_by}
use Rattle.co_world.proofs.kept.Lanes.{lane_got}
use Rattle.co_world.proofs.kept.Listed.{no_out, listed_off}
use Rattle.co_world.proofs.kept.Servers.{IsServer, is_server, servers_task}
use Rattle.co_world.proofs.kept.Stages.{first_task, fits_queue, pop_advance}
use Rattle.co_world.proofs.basics.Roles.{cpu_number, interrupt_number}
use Rattle.co_world.proofs.kept.ByOwnSteps.{view_of}
use Rattle.std.proofs.Common.{eq-eqb}
use Rattle.std.specs.Prelude.{◌==◌}
use Rattle.co_world.specs.Laws.{actors_of}
use Rattle.co_world.proofs.basics.Roles.{server_of_lane}
use Rattle.co_object.specs.declared.RunOp.{RunOp}
use Rattle.co_object.specs.declared.QReply.TheVariants.{Missing}
use Rattle.co_object.specs.History.{IsOfItsActor}
use Rattle.co_object.specs.Journal as journal
use Rattle.co_world.specs.Step.{world_answers, queue_answers, removed_from, asked_whole}
use Rattle.co_world.specs.Blocked.{is_moving, moves}
use Rattle.co_world.proofs.legal.Owners.{IsOwned, owned_callout, owned_queue, owned_own}
use Rattle.co_world.proofs.kept.ByCalls.{holds_call, TookOut}
use Rattle.co_world.proofs.kept.ByServices.{holds_run}
use Rattle.co_world.proofs.kept.ByOwnSteps.{callout_view, holds_own}
use Rattle.co_world.proofs.kept.ByInserts.{holds_insert, holds_remove}
use Rattle.co_world.proofs.kept.ByPops.{holds_scan, holds_free, holds_empty, holds_got}
use Rattle.co_world.proofs.kept.QueueNotes.{between_hand}
use Rattle.co_world.proofs.kept.Passages.{changed, remove_is}
use Rattle.co_world.proofs.basics.Actions.{picks, opens, ends}
use Rattle.co_object.specs.Scan.{is_direct}
use Rattle.co_world.proofs.kept.Invariant.{serves_direct, HoldFits}
use Rattle.co_object.proofs.QueueChanges.{inserts as change_inserts, misses as change_misses, scans as change_scans, pops as change_pops, finds_none, frees as change_frees, pops_direct, finds_no_direct, frees_direct}

-- what holds, and whose the entries are
pub record Good (s : Script) (w : World) (out : Option ℕ) : Type 0 where
  pub holds : Holds s w out
  pub owned : IsOwned s w

scan_no_got : (m : ℕ) (direct : List Bool) (q : TimerQueue) (op : QOp) (r : QReply) (t : TimerQueue) (now i n time : ℕ) → QChange m direct q op r t → op ≡ Scan now → r ≡ Got i n time → ⊥
scan_no_got m direct q op r t now i n time (change_inserts j k u free) is pop_answered = cc
scan_no_got m direct q op r t now i n time (removes j held) is pop_answered = cc
scan_no_got m direct q op r t now i n time (change_misses j) is pop_answered = cc
scan_no_got m direct q op r t now i n time (change_scans at count) is pop_answered = cc
scan_no_got m direct q op r t now i n time (change_pops d ds first) is pop_answered = cc
scan_no_got m direct q op r t now i n time finds_none is pop_answered = cc
scan_no_got m direct q op r t now i n time change_frees is pop_answered = cc
scan_no_got m direct q op r t now i n time (pops_direct d ds first) is pop_answered = cc
scan_no_got m direct q op r t now i n time finds_no_direct is pop_answered = cc
scan_no_got m direct q op r t now i n time frees_direct is pop_answered = cc

free_no_got : (m : ℕ) (direct : List Bool) (role : Role) (q : TimerQueue) (op : QOp) (r : QReply) (t : TimerQueue) (i n time : ℕ) → QChange m direct q op r t → op ≡ free_of role → r ≡ Got i n time → ⊥
free_no_got m direct role q op r t i n time (change_inserts j k u free) is pop_answered = cc
free_no_got m direct role q op r t i n time (removes j held) is pop_answered = cc
free_no_got m direct role q op r t i n time (change_misses j) is pop_answered = cc
free_no_got m direct role q op r t i n time (change_scans at count) is pop_answered = cc
free_no_got m direct (Client k) q op r t i n time (change_pops d ds first) is pop_answered = cc
free_no_got m direct (Cpu k) q op r t i n time (change_pops d ds first) is pop_answered = cc
free_no_got m direct (Interrupt k) q op r t i n time (change_pops d ds first) is pop_answered = cc
free_no_got m direct role q op r t i n time finds_none is pop_answered = cc
free_no_got m direct role q op r t i n time change_frees is pop_answered = cc
free_no_got m direct (Client k) q op r t i n time (pops_direct d ds first) is pop_answered = cc
free_no_got m direct (Cpu k) q op r t i n time (pops_direct d ds first) is pop_answered = cc
free_no_got m direct (Interrupt k) q op r t i n time (pops_direct d ds first) is pop_answered = cc
free_no_got m direct role q op r t i n time finds_no_direct is pop_answered = cc
free_no_got m direct role q op r t i n time frees_direct is pop_answered = cc

not_missing : (m : ℕ) (direct : List Bool) (q : TimerQueue) (op : QOp) (r : QReply) (t : TimerQueue) → QChange m direct q op r t → ((j : ℕ) → op ≡ Remove j → ⊥) → r ≡ Missing → ⊥
not_missing m direct q op r t (change_inserts j k u free) other is = cc
not_missing m direct q op r t (removes j held) other is = cc
not_missing m direct q op r t (change_misses j) other is = other j refl
not_missing m direct q op r t (change_scans at count) other is = cc
not_missing m direct q op r t (change_pops d ds first) other is = cc
not_missing m direct q op r t finds_none other is = cc
not_missing m direct q op r t change_frees other is = cc
not_missing m direct q op r t (pops_direct d ds first) other is = cc
not_missing m direct q op r t finds_no_direct other is = cc
not_missing m direct q op r t frees_direct other is = cc

no_remove : (r : Role) (j : ℕ) → (pop_of r ≡ Remove j → ⊥) × (free_of r ≡ Remove j → ⊥)
no_remove (Client k) j = (λ e. cc, λ e. cc)
no_remove (Cpu x) j = (λ e. cc, λ e. cc)
no_remove (Interrupt x) j = (λ e. cc, λ e. cc)

-- ---- who makes an entry

-- a server makes its own lane's Pops and Frees
server_pops : (s : Script) (a : ℕ) (r : Role) → role_of s a ≡ r → IsServer r → journal.IsOfItsActor (actors_of s) (cpu_of s r) a (pop_of r) × journal.IsOfItsActor (actors_of s) (cpu_of s r) a (free_of r)
server_pops s a (Client k) is server = absurd server
server_pops s a (Cpu x) is server = ((cpu_number s a x is).0, (cpu_number s a x is).0)
server_pops s a (Interrupt x) is server = (interrupt_number s a x is, interrupt_number s a x is)

scanner_of : (s : Script) (a time : ℕ) (r : Role) → a < actor_count s → role_of s a ≡ r → IsTaskOf s r (Does (Tick time)) → journal.IsOfItsActor (actors_of s) (cpu_of s r) a (Scan time)
scanner_of s a time (Client k) may is task = absurd task
scanner_of s a time (Cpu x) may is task =
    (cpu_number s a x is).0 ∙ sym (ap (λ (b : Bool). cond b (client_count s + x) (client_count s + s.cpus + x)) (eq-eqb s.version 1 task))
scanner_of s a time (Interrupt x) may is task =
    let two : s.version ≡ 2 = (interrupt_version s a x may is).0 in
    interrupt_number s a x is ∙ sym (ap (λ (v : ℕ). cond (v == 1) (client_count s + x) (client_count s + s.cpus + x)) two)

-- ---- queues

module _ (s : Script) (ok : IsScript s) (w : World) (good : Good s w None) (a : ℕ) (may : a < actor_count s) where
  abbrev c : Cursor
  c = cursors_of w a

  abbrev role : Role
  role = role_of s a

  abbrev After : ℕ → ℕ → QOp → TimerQueue → QReply → World
  After act cpu op q' reply = notes_down s (enters_journal w cpu q' (record { actor = a; act = act; op = op; reply = reply })) a false (note_of_cpu w cpu (record { actor = a; act = act; op = op; reply = reply }))

  popped_at : (act act' cpu : ℕ) (op : QOp) (q' : TimerQueue) (reply : QReply) (d : Cursor) → QChange s.buckets (are_direct s) (queues_of w cpu) op reply q' → Popped s.buckets (are_direct s) role (queues_of w cpu) reply q' →
      advance_queue s c cpu op reply ≡ pop_answered d act' reply → d.left ≡ c.left → d.parcel ≡ None → c.parcel ≡ None → op ≡ pop_of role → IsServer role → cpu ≡ cpu_of s role → Fits s role (advance_queue s c cpu op reply) →
      service_of c.stage ≡ None → has_popped c.stage ≡ false → in_stage (cpu_of s role) c.stage ≡ None → ((x : ℕ) → role ≡ Interrupt x → under_way c.stage ≡ 1) → Holds s (After act cpu op q' reply) None
  popped_at act act' cpu op q' reply d change (has i n time t serves) to_is left parcel parcel_is op_is server cpu_is fits rest free hand ticks =
      holds_got s ok w None good.holds a act cpu op q' reply change act' parcel_is op_is server cpu_is refl fits may rest free hand ticks i n time refl serves
      (ap (λ (x : Cursor). x.stage) to_is) (ap (λ (x : Cursor). x.left) to_is ∙ left) (ap (λ (x : Cursor). x.parcel) to_is ∙ parcel)
  popped_at act act' cpu op q' reply d change none to_is left parcel parcel_is op_is server cpu_is fits rest free hand ticks =
      holds_empty s ok w None good.holds a act cpu op q' reply change act' parcel_is op_is server cpu_is refl fits may rest free hand ticks refl
      (ap (λ (x : Cursor). x.stage) to_is) (ap (λ (x : Cursor). x.left) to_is ∙ ap tail_of left) (ap (λ (x : Cursor). x.parcel) to_is ∙ parcel)

  no_soft : (r : Role) (j x : ℕ) → IsTaskOf s r (Soft j) → r ≡ Interrupt x → ⊥
  no_soft (Client k) j x h is = h
  no_soft (Cpu y) j x h is = cc
  no_soft (Interrupt y) j x h is = h

  queue_at_stage : (act cpu : ℕ) (op : QOp) (q' : TimerQueue) (reply : QReply) (stage : Stage) → QChange s.buckets (are_direct s) (queues_of w cpu) op reply q' → c.stage ≡ stage → c.parcel ≡ None → IsAction s role c stage (Asks act (Queue cpu op)) →
      Fits s role (advance_queue s c cpu op reply) → Holds s (After act cpu op q' reply) None
  queue_at_stage act cpu op q' reply stage change e parcel_is (due_scans time more left_is) fits =
      holds_scan s ok w None good.holds a c.act (cpu_of s role) (Scan time) q' reply change time more e left_is parcel_is refl refl refl fits
  queue_at_stage act cpu op q' reply stage change e parcel_is (starts j more left_is) fits =
      let task : IsTaskOf s role (Soft j) = first_task (IsTaskOf s role) c.left more (Soft j) left_is (good.holds.roles a).tasks in
      let server : IsServer role = servers_task s role (Soft j) refl task in
      popped_at c.act c.act (cpu_of s role) (pop_of role) q' reply (record c { act = c.act + 1 }) change (popped_by s.buckets (are_direct s) role (queues_of w (cpu_of s role)) (pop_of role) reply q' server refl change)
      (pop_advance s ok role c.left c.act c.now c.hold c.removed c.parcel c (cpu_of s role) reply server ∙ ap (popped c reply) e) refl parcel_is parcel_is refl server refl fits
      (ap service_of e) (ap has_popped e) (ap (in_stage (cpu_of s role)) e) (λ x is. absurd (no_soft role j x task is))
  queue_at_stage act cpu op q' reply stage change e parcel_is (due_pops act') fits =
      let server : IsServer role = is_server s role c.hold (Popping act') refl (subst (HoldFits s role c.hold) e (good.holds.roles a).hold) in
      popped_at act' act' (cpu_of s role) (pop_of role) q' reply c change (popped_by s.buckets (are_direct s) role (queues_of w (cpu_of s role)) (pop_of role) reply q' server refl change)
      (pop_advance s ok role c.left c.act c.now c.hold c.removed c.parcel c (cpu_of s role) reply server ∙ ap (popped c reply) e) refl parcel_is parcel_is refl server refl fits
      (ap service_of e) (ap has_popped e) (ap (in_stage (cpu_of s role)) e) (λ x is. ap under_way e)
  queue_at_stage act cpu op q' reply stage change e parcel_is (due_frees v drain next) fits =
      let server : IsServer role = is_server s role c.hold (Freeing v drain next) refl (subst (HoldFits s role c.hold) e (good.holds.roles a).hold) in
      holds_free s ok w None good.holds a v.act (cpu_of s role) (free_of role) q' reply change v drain next e parcel_is refl server refl refl fits

  -- a Pop's reply is of the lane
  lane_of : (act cpu : ℕ) (op : QOp) (q' : TimerQueue) (reply : QReply) (stage : Stage) → QChange s.buckets (are_direct s) (queues_of w cpu) op reply q' → IsAction s role c stage (Asks act (Queue cpu op)) → HoldFits s role c.hold stage →
      (i n time : ℕ) → reply ≡ Got i n time → is_direct (are_direct s) i ≡ serves_direct role
  lane_of act cpu op q' reply stage change (due_scans time more left_is) fits i n time' is = absurd (no_got change is) where
    no_got : QChange s.buckets (are_direct s) (queues_of w cpu) (Scan time) reply q' → reply ≡ Got i n time' → ⊥
    no_got h e = scan_no_got s.buckets (are_direct s) (queues_of w cpu) (Scan time) reply q' time i n time' h refl e
  lane_of act cpu op q' reply stage change (starts j more left_is) fits i n time is =
      lane_got s role (queues_of w cpu) (pop_of role) reply q' (servers_task s role (Soft j) refl (first_task (IsTaskOf s role) c.left more (Soft j) left_is (good.holds.roles a).tasks)) refl change (good.holds.lanes cpu) i n time is
  lane_of act cpu op q' reply stage change (due_pops act') fits i n time is =
      lane_got s role (queues_of w cpu) (pop_of role) reply q' (is_server s role c.hold (Popping act') refl fits) refl change (good.holds.lanes cpu) i n time is
  lane_of act cpu op q' reply stage change (due_frees v drain next) fits i n time is = absurd (free_no_got s.buckets (are_direct s) role (queues_of w cpu) (free_of role) reply q' i n time change refl is)

  -- the actor and the reply of a queue's entry
  queue_own : (act cpu : ℕ) (op : QOp) (q' : TimerQueue) (reply : QReply) (stage : Stage) → QChange s.buckets (are_direct s) (queues_of w cpu) op reply q' → IsAction s role c stage (Asks act (Queue cpu op)) → HoldFits s role c.hold stage →
      journal.IsOfItsActor (actors_of s) cpu a op × (reply ≡ Missing → ⊥)
  queue_own act cpu op q' reply stage change (due_scans time more left_is) fits =
      (scanner_of s a time role may refl (first_task (IsTaskOf s role) c.left more (Does (Tick time)) left_is (good.holds.roles a).tasks), not_missing s.buckets (are_direct s) (queues_of w cpu) (Scan time) reply q' change (λ j e. cc))
  queue_own act cpu op q' reply stage change (starts j more left_is) fits =
      ((server_pops s a role refl (servers_task s role (Soft j) refl (first_task (IsTaskOf s role) c.left more (Soft j) left_is (good.holds.roles a).tasks))).0, not_missing s.buckets (are_direct s) (queues_of w cpu) (pop_of role) reply q' change (λ k e. (no_remove role k).0 e))
  queue_own act cpu op q' reply stage change (due_pops act') fits =
      ((server_pops s a role refl (is_server s role c.hold (Popping act') refl fits)).0, not_missing s.buckets (are_direct s) (queues_of w cpu) (pop_of role) reply q' change (λ k e. (no_remove role k).0 e))
  queue_own act cpu op q' reply stage change (due_frees v drain next) fits =
      ((server_pops s a role refl (is_server s role c.hold (Freeing v drain next) refl fits)).1, not_missing s.buckets (are_direct s) (queues_of w cpu) (free_of role) reply q' change (λ k e. (no_remove role k).1 e))

  queue_entered : (act cpu : ℕ) (op : QOp) (q' : TimerQueue) (reply : QReply) (parcel : Option PendingInsert) → QChange s.buckets (are_direct s) (queues_of w cpu) op reply q' → c.parcel ≡ parcel → IsActionWith s role c parcel (Asks act (Queue cpu op)) →
      (c.parcel ≡ None) ⊎ IsBetween c.stage → Good s (After act cpu op q' reply) None
  queue_entered act cpu op q' reply parcel change e (inserts p) (inl empty) = absurd (let clash : Some p ≡ None = sym e ∙ empty in cc)
  queue_entered act cpu op q' reply parcel change e (inserts p) (inr between) = record {
    holds = holds_insert s ok w None good.holds a p.act p.cpu (Insert p.i p.n p.due) q' reply change p e refl refl between refl;
    owned = owned_queue s w p.cpu a q' (record { actor = a; act = p.act; op = Insert p.i p.n p.due; reply = reply }) (note_of_cpu w p.cpu (record { actor = a; act = p.act; op = Insert p.i p.n p.due; reply = reply })) good.owned
        (tt, not_missing s.buckets (are_direct s) (queues_of w p.cpu) (Insert p.i p.n p.due) reply q' change (λ j e. cc));
  }
  queue_entered act cpu op q' reply parcel change e (goes_by due view) h = record {
    holds = queue_at_stage act cpu op q' reply c.stage change refl e view
        (fits_queue s ok role c.left c.act c.now c.hold c.removed c.parcel c.stage act cpu op reply view (lane_of act cpu op q' reply c.stage change view (good.holds.roles a).hold) (good.holds.roles a));
    owned = owned_queue s w cpu a q' (record { actor = a; act = act; op = op; reply = reply }) (note_of_cpu w cpu (record { actor = a; act = act; op = op; reply = reply })) good.owned
        (queue_own act cpu op q' reply c.stage change view (good.holds.roles a).hold);
  }

  pub queue_good : (act cpu : ℕ) (op : QOp) → action_for s a c ≡ Asks act (Queue cpu op) → (c.parcel ≡ None) ⊎ IsBetween c.stage → Good s (world_answers s w a act (Queue cpu op)) None
  queue_good act cpu op is ready = go (journal.step s.buckets (are_direct s) (queues_of w cpu) op) refl where
    go : (o : Option (TimerQueue × QReply)) → journal.step s.buckets (are_direct s) (queues_of w cpu) op ≡ o → Good s (queue_answers s w a act cpu op o) None
    go None e = good
    go (Some o) e = queue_entered act cpu op o.0 o.1 c.parcel (changed s.buckets (are_direct s) (queues_of w cpu) op o e) refl (view_of s a c (Asks act (Queue cpu op)) is) ready

  -- ---- callouts

  run_own : (act i : ℕ) (op : RunOp) (stage : Stage) → c.stage ≡ stage → IsAction s role (record c { removed = None }) stage (Asks act (Callout i (Serve op))) → IsOfItsActor (actors_of s) (spec_at s i) a (Serve op)
  run_own act i op stage e (picks v) = let fits : FitsRole s role c.left c.hold (Picking v) = subst (FitsRole s role c.left c.hold) e (good.holds.roles a) in server_of_lane s a v.i (is_server s role c.hold (Picking v) refl fits.hold) fits.lane
  run_own act i op stage e (opens v) = let fits : FitsRole s role c.left c.hold (Beginning v) = subst (FitsRole s role c.left c.hold) e (good.holds.roles a) in server_of_lane s a v.i (is_server s role c.hold (Beginning v) refl fits.hold) fits.lane
  run_own act i op stage e (ends v) = let fits : FitsRole s role c.left c.hold (Ending v) = subst (FitsRole s role c.left c.hold) e (good.holds.roles a) in server_of_lane s a v.i (is_server s role c.hold (Ending v) refl fits.hold) fits.lane

  pub run_good : (act i : ℕ) (op : RunOp) → action_for s a c ≡ Asks act (Callout i (Serve op)) → ((b : ℕ) → (b ≡ a → ⊥) → IsBetween (cursors_of w b).stage) → Good s (world_answers s w a act (Callout i (Serve op))) None
  run_good act i op is between = go (callout_step (spec_at s i) (states_of w i) (Serve op)) refl where
    go : (o : Option (State × Reply)) → callout_step (spec_at s i) (states_of w i) (Serve op) ≡ o → Good s (callout_answers s w a act i (Serve op) o) None
    go None e = good
    go (Some o) e = record {
      holds = holds_run s ok w good.holds a act i op o.0 o.1 may is (did (spec_at s i) (states_of w i) (Serve op) o e) between;
      owned = owned_callout s w i a o.0 (record { actor = a; act = act; op = Serve op; reply = o.1 }) (is_some (off o.0)) (note_of w i (record { actor = a; act = act; op = Serve op; reply = o.1 })) good.owned
          (run_own act i op c.stage refl (callout_view s a c act i (Serve op) is).1);
    }

  pub own_good : (act : ℕ) (kind : OwnKind) → action_for s a c ≡ Asks act (Itself kind) → Good s (own_note s w a act kind) None
  own_good act kind is = record { holds = holds_own s ok w None good.holds a act kind is; owned = owned_own s w a (note_of_own s w a act kind) good.owned }

  -- ---- calls

  -- a callout that nobody in the script is moving is in no hand
  pub unmoved_by : (i : ℕ) → ((b : ℕ) → IsBetween (cursors_of w b).stage) → is_moving s w i ≡ false → (b : ℕ) (p : PendingInsert) → carries s b (cursors_of w b) ≡ Some p → p.i ≡ i → ⊥
  unmoved_by i between still b p is number = go (good.holds.carried.listed p.i p.cpu (listed_off (states_of w p.i) p.n p.cpu p.due (good.holds.carried.moves b p is))) where
    in_parcel : (d : ℕ) (r : PendingInsert) (o : Option PendingInsert) → in_hand (cpu_of s (role_of s d)) o (cursors_of w d).stage ≡ Some r → r.i ≡ i → moves i o ≡ true
    in_parcel d r None e same = absurd (let clash : Some r ≡ None = sym e ∙ between_hand (cpu_of s (role_of s d)) (cursors_of w d).stage (between d) in cc)
    in_parcel d r (Some p') e same = let one : p' ≡ r = cc in eq-eqb p'.i i (ap (λ (y : PendingInsert). y.i) one ∙ same)

    go : (1 ≤ stands p.i (queues_of w p.cpu)) ⊎ ((no_out ≡ Some p.i) ⊎ ((d : ℕ) × (r : PendingInsert) × (d < actor_count s) × (carries s d (cursors_of w d) ≡ Some r) × (r.i ≡ p.i))) → ⊥
    go (inl some) = let z = good.holds.carried.apart b p p.cpu is in omega arith
    go (inr (inl removed)) = cc
    go (inr (inr held)) =
        let found : is_moving s w i ≡ true = any_at (λ d. moves i (cursors_of w d).parcel) 0 (actor_count s) held.0 (omega arith) (let h = held.2 in omega arith) (in_parcel held.0 held.1 (cursors_of w held.0).parcel held.3 (held.4 ∙ number)) in
        let clash : true ≡ false = sym found ∙ still in cc

  module _ (act i : ℕ) (op : CallOp) (is : action_for s a c ≡ Asks act (Callout i (Call op))) (unmoved : (b : ℕ) (p : PendingInsert) → carries s b (cursors_of w b) ≡ Some p → p.i ≡ i → ⊥) where
    abbrev outcome : State × Reply
    outcome = call (states_of w i) op

    d : Did (spec_at s i) (states_of w i) (Call op) outcome.1 outcome.0
    d = did_call (spec_at s i) (states_of w i) op

    off_was : (o : Option ℕ) (cpu : ℕ) (op' : Op) (r : Reply) (t : State) → Did (spec_at s i) (states_of w i) op' r t → off_of r ≡ Some cpu → off (states_of w i) ≡ Some cpu
    off_was o cpu op' r t (keeps x y z same on plain stays) e = let clash : Some cpu ≡ None = sym e ∙ stays in cc
    off_was o cpu op' r t (clears x y z gone on plain same) e = sym same ∙ e
    off_was o cpu op' r t (deed.waits x y n z gone on is) e = e
    off_was o cpu op' r t (arms x code arming z armed due on) e = e
    off_was o cpu op' r t (deed.holds n x at arming z rest n_is x_is lock gone runs) e = cc
    off_was o cpu op' r t (deed.goes n x at func arg z rest lock gone runs) e = cc
    off_was o cpu op' r t (deed.begins n x func arg z same taken runs) e = cc
    off_was o cpu op' r t (deed.skips n x runs) e = cc
    off_was o cpu op' r t (deed.ends n x z drain woke same runs over) e = cc

    stood : (cpu : ℕ) → off_of outcome.1 ≡ Some cpu → 1 ≤ stands i (queues_of w cpu)
    stood cpu e = go (good.holds.carried.listed i cpu (off_was None cpu (Call op) outcome.1 outcome.0 d e)) where
      go : (1 ≤ stands i (queues_of w cpu)) ⊎ ((no_out ≡ Some i) ⊎ ((b : ℕ) × (r : PendingInsert) × (b < actor_count s) × (carries s b (cursors_of w b) ≡ Some r) × (r.i ≡ i))) → 1 ≤ stands i (queues_of w cpu)
      go (inl some) = some
      go (inr (inl removed)) = cc
      go (inr (inr held)) = absurd (unmoved held.0 held.1 held.3 held.4)

    call_from : (o : Option ℕ) → off_of outcome.1 ≡ o → Good s (world_answers s (removed_from s w a act i o) a act (Callout i (Call op))) None
    call_from None e = record {
      holds = holds_call s ok w None good.holds a act i op outcome.0 outcome.1 may is d unmoved (subst (λ (x : Option ℕ). TookOut x i None) (sym e) refl);
      owned = owned_callout s w i a outcome.0 (record { actor = a; act = act; op = Call op; reply = outcome.1 }) (is_some (off outcome.0)) (note_of w i (record { actor = a; act = act; op = Call op; reply = outcome.1 })) good.owned tt;
    }
    call_from (Some cpu) e =
        let q : TimerQueue = queues_of w cpu in
        let gone : TimerQueue × QReply = journal.remove q i in
        let made : QEntry = record { actor = a; act = act; op = Remove i; reply = gone.1 } in
        let w1 : World = After act cpu (Remove i) gone.0 gone.1 in
        let removed : ◌≡◌ {A = TimerQueue × QReply} (journal.remove q i) (without q i, Off) = remove_is s.buckets (are_direct s) q i (stood cpu e) in
        let here : IsAt (cursors_of w) a (record c { removed = Some cpu }) (cursors_of w1) = note_at s (enters_journal w cpu gone.0 made) a false (note_of_cpu w cpu made) in
        let first : Holds s w1 (Some i) = holds_remove s ok w None good.holds a act cpu (Remove i) gone.0 gone.1 (changed s.buckets (are_direct s) q (Remove i) gone refl) i refl (ap (λ (o : TimerQueue × QReply). o.0) removed) (stood cpu e) refl in
        let off_reply : gone.1 ≡ Off = ap (λ (o : TimerQueue × QReply). o.1) removed in
        let owned : IsOwned s w1 = owned_queue s w cpu a gone.0 made (note_of_cpu w cpu made) good.owned (tt, λ missing. (let clash : Off ≡ Missing = sym off_reply ∙ missing in cc)) in
        let due : action_for s a (cursors_of w1 a) ≡ Asks act (Callout i (Call op)) = ap (action_for s a) here.here ∙ due_removed s a c (Some cpu) act (Callout i (Call op)) is in
        let hands : (b : ℕ) → carries s b (cursors_of w1 b) ≡ carries s b (cursors_of w b) = at_all (λ b (x : Cursor). carries s b x ≡ carries s b (cursors_of w b)) (cursors_of w) a (record c { removed = Some cpu }) (cursors_of w1) here refl (λ b other. refl) in
        record {
          holds = holds_call s ok w1 (Some i) first a act i op outcome.0 outcome.1 may due d (λ b p carried number. unmoved b p (sym (hands b) ∙ carried) number) (subst (λ (x : Option ℕ). TookOut x i (Some i)) (sym e) refl);
          owned = owned_callout s w1 i a outcome.0 (record { actor = a; act = act; op = Call op; reply = outcome.1 }) (is_some (off outcome.0)) (note_of w1 i (record { actor = a; act = act; op = Call op; reply = outcome.1 })) owned tt;
        }

    pub call_good : Good s (asked_whole s w a act (Callout i (Call op))) None
    call_good = call_from (off_of outcome.1) refl
