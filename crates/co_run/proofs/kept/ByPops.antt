-- What is kept of an actor, is kept where it takes the next callout that has come due.
use Rattle.std.proofs.Common.{◌≡◌, ℕ, ◌*◌, length, append_assoc, ◌+◌, ◌≤◌, ◌<◌, Bool, true, false, cond, List, [], ◌∷◌, ◌++◌, refl, sym, ap, subst, ◌∙◌, Option, Some, None, arith}
use Rattle.std.specs.List.{AllByRecursion}
use Rattle.co_object.specs.declared.Note.{Note}
use Rattle.co_object.specs.declared.Reply.{Reply}
use Rattle.co_object.specs.declared.Reply.TheVariants.{Hold, Go}
use Rattle.co_object.specs.declared.Op.TheVariants.{Run}
use Rattle.co_object.specs.declared.RunOp.TheVariants.{Pick}
use Rattle.co_object.specs.History.{server}
use Rattle.co_object.specs.Scan.{is_direct}
use Rattle.co_object.specs.Serve.{has_lock}
use Rattle.co_object.proofs.Passing.{passing, count-passing}
use Rattle.co_object.specs.declared.QEntry.{QEntry}
use Rattle.co_object.specs.declared.QOp.{QOp}
use Rattle.co_object.specs.declared.QOp.TheVariants.{Scan, Pop, PopDirect}
use Rattle.co_object.specs.declared.QReply.{QReply}
use Rattle.co_object.specs.declared.QReply.TheVariants.{Got, Empty}
use Rattle.co_object.specs.declared.Place.TheVariants as place
use Rattle.co_object.specs.declared.AnyEntry.TheVariants as entry
use Rattle.co_object.specs.Actors.{cpu_actor, interrupt_actor}
use Rattle.co_object.specs.Group.{Placed, placed}
use Rattle.co_lock.specs.declared.Held.{Held}
use Rattle.co_program.specs.declared.Script.{Script}
use Rattle.co_program.specs.declared.Task.TheVariants.{Soft}
use Rattle.co_program.specs.declared.InService.{InService}
use Rattle.co_program.specs.declared.Role.{Role}
use Rattle.co_program.specs.declared.Role.TheVariants.{Client, Cpu, Interrupt}
use Rattle.co_program.specs.declared.Asked.TheVariants.{Queue, Callout}
use Rattle.co_program.specs.Scripts.{IsScript}
use Rattle.co_program.specs.Stages.{Stage, Ready, Popping, Picking}
use Rattle.co_program.specs.Cursor.{Cursor}
use Rattle.co_program.specs.Action.{Asks, action_with, spec_at, firing, action_for, scans_first, pop_of, free_of}
use Rattle.co_program.specs.Actors.{role_of, cpu_of}
use Rattle.co_program.specs.Advance.{tail_of, advance, advance_queue, popped, pop_answered, service_picked}
use Rattle.co_program.specs.Existing.{ActionExists, IsCallout}
use Rattle.co_program.proofs.Existing.{action_exists}
use Rattle.co_program.specs.Follows.{Histories, scan_count, one_scan}
use Rattle.co_world.proofs.basics.Actions.{IsAction, scans, starts, pops, frees}
use Rattle.co_world.proofs.kept.Invariant.{IsTaskOf, FitsRole, serves_direct}
use Rattle.co_world.proofs.kept.Operations.{did}
use Rattle.co_program.specs.Runs.{are_direct}
use Rattle.co_world.proofs.basics.Roles.{is_direct_at}
use Rattle.co_world.proofs.kept.Stages.{Fits, fits_queue, fits_callout, first_task, pop_goes}
use Rattle.co_world.proofs.kept.Servers.{IsServer, is_server, servers_task}
use Rattle.co_world.proofs.follows.Traces.{Trace}
use Rattle.co_desk.specs.declared.outs.Taken.{Taken}
use Rattle.co_desk.specs.declared.outs.Taken.TheVariants.{Empty as Nothing, Took}
use Rattle.co_desk.specs.Name.{ServiceName}
use Rattle.co_desk.specs.Outcomes.{queue_entry_by}
use Rattle.co_desk.specs.Params.{actors_of}
use Rattle.co_desk.specs.Services.{IsFree, IsServing, IsTaken, IsNothing, IsTaking, HasNext, FollowsScans}
use Rattle.co_desk.specs.Desk.{scans_in, is_scan}
use Rattle.co_desk.specs.Serving.{stage_picked as progress}
use Rattle.co_wheel.specs.Turns.{pop_of as lane_pop}
use Rattle.co_desk.specs.Views.{PassesView, AreOf, journal_seen}
use Rattle.co_desk.specs.Writes.{WritesAt}
use Rattle.co_run.specs.Acting.{IsActing, ServesAsStage, ServesAt, params_of}
use Rattle.co_run.specs.Going.{SeenBegins}
use Rattle.co_run.specs.Shown.{IsFoundThere}
use Rattle.co_run.proofs.follows.EachAnswer.{turn_step}
use Rattle.co_run.proofs.follows.GoesBack.{goes_back}
use Rattle.co_run.proofs.places.AfterSilentSteps.{stage_view}
use Rattle.co_run.proofs.shown.OneMore.{shown_all, sized_all}
use Rattle.co_object.specs.declared.AnyEntry.{AnyEntry}
use Rattle.co_object.specs.History.{reply_of}
use Rattle.co_program.specs.declared.Act.{Act}
use Rattle.co_program.specs.Actors.{acts_at}
use Rattle.co_program.specs.Existing.{IsIn}
use Rattle.co_world.proofs.basics.Actions.{picks}
use Rattle.co_world.proofs.kept.Invariant.{IsBetween}
use Rattle.co_desk.specs.declared.params.Params.{Params}
use Rattle.co_desk.specs.Params.{spec_at as spec_in}
use Rattle.co_desk.specs.Serving.{lane_actor}
use Rattle.co_desk.proofs.SameActor.{writes_keep}
use Rattle.co_run.specs.Acting.{TaskLocks}
use Rattle.co_run.specs.Noted.{gone_on, taken_notes}
use Rattle.co_run.specs.Roomy.{AreShort, room_at}
use Rattle.co_run.proofs.places.AfterCalls.{tail_exists, firing_exists, firing_between, serves_firing}
use Rattle.co_run.proofs.follows.ServiceNotes.{IsRun, run_step, run_of}
use Rattle.co_run.proofs.follows.ServiceReplies.{IsPicked, picked_reply, lane_of}
use Rattle.co_run.proofs.kept.Scanned.{IsUnderWay, none_ended, none_within, scanned_on, scans_more, soft_interrupt}

-- ---- the Scans before a Pop

same_scans : (J : List QEntry) → scans_in J ≡ scan_count J
same_scans J = count-passing (λ (e : QEntry). is_scan e.op) J ∙ counts J where
  one : (op : QOp) → cond (is_scan op) 1 0 ≡ one_scan op
  one (Scan now) = refl
  one op = refl

  counts : (J : List QEntry) → passing (λ (e : QEntry). is_scan e.op) J ≡ scan_count J
  counts [] = refl
  counts (e ∷ J) = let rest = counts J in omega (arith, one e.op, rest)

-- ---- where an actor takes the next callout

abbrev IsPopOp : QOp → Type 0
IsPopOp Pop = Unit {0}
IsPopOp PopDirect = Unit {0}
IsPopOp op = ⊥

free_other : (role : Role) → IsPopOp (free_of role) → ⊥
free_other (Client k) h = h
free_other (Cpu x) h = h
free_other (Interrupt x) h = h

pub record IsPopping (s : Script) (role : Role) (c : Cursor) (stage : Stage) (act cpu : ℕ) (op : QOp) : Type 0 where
  pub op_is : op ≡ pop_of role
  pub server : IsServer role
  pub cpu_is : cpu ≡ cpu_of s role
  -- the number of the next act then
  pub next : ℕ
  pub goes : (reply : QReply) → popped c reply stage ≡ pop_answered (record c { act = next }) act reply
  pub free : (direct : Bool) (q : PassesView) → ServesAt direct q cpu stage → IsFree direct q cpu
  pub under : IsUnderWay role stage

pop_view : (s : Script) (role : Role) (c : Cursor) (stage : Stage) (act cpu : ℕ) (op : QOp) → IsAction s role c stage (Asks act (Queue cpu op)) → IsPopOp op → FitsRole s role c.left c.hold stage → IsPopping s role c stage act cpu op
pop_view s role c stage act cpu op (scans time left is) h fits = absurd h
pop_view s role c stage act cpu op (starts j left is) h fits =
    let task : IsTaskOf s role (Soft j) = first_task (IsTaskOf s role) c.left left (Soft j) is fits.tasks in
    record { op_is = refl; server = servers_task s role (Soft j) refl task; cpu_is = refl; next = c.act + 1; goes = λ reply. refl; free = λ direct q k. k; under = λ x e. absurd (soft_interrupt s role j x e task) }
pop_view s role c stage act cpu op (pops m) h fits = record { op_is = refl; server = is_server s role c.hold (Popping m) refl fits.hold; cpu_is = refl; next = c.act; goes = λ reply. refl; free = λ direct q k. k; under = λ x e. refl }
pop_view s role c stage act cpu op (frees v drain next) h fits = absurd (free_other role h)

is_pop : (direct : Bool) → IsPopOp (lane_pop direct)
is_pop true = tt
is_pop false = tt

firing_room : (longest : ℕ) (v : InService) (hold : Option Held) (acts : List Act) → length acts ≤ longest → room_at longest (firing v hold acts) ≤ 6 + 6 * longest
firing_room longest v hold (act ∷ acts) short = omega arith
firing_room longest v None [] short = omega arith
firing_room longest v (Some held) [] short = omega arith

-- the lane of a role
same_lane : (role : Role) (direct : Bool) → IsServer role → lane_pop direct ≡ pop_of role → serves_direct role ≡ direct
same_lane (Client k) direct h is = absurd h
same_lane (Cpu x) true h is = cc
same_lane (Cpu x) false h is = refl
same_lane (Interrupt x) true h is = refl
same_lane (Interrupt x) false h is = cc

pub from_lane : (s : Script) (role : Role) (direct : Bool) (q : PassesView) (stage : Stage) → IsServer role → serves_direct role ≡ direct → ServesAsStage role q stage → ServesAt direct q (cpu_of s role) stage
from_lane s (Client k) direct q stage h is serves = absurd h
from_lane s (Cpu x) direct q stage h is serves = subst (λ (b : Bool). ServesAt b q x stage) is serves
from_lane s (Interrupt x) direct q stage h is serves = subst (λ (b : Bool). ServesAt b q x stage) is serves

pub to_lane : (s : Script) (role : Role) (direct : Bool) (q : PassesView) (stage : Stage) → IsServer role → serves_direct role ≡ direct → ServesAt direct q (cpu_of s role) stage → ServesAsStage role q stage
to_lane s (Client k) direct q stage h is serves = tt
to_lane s (Cpu x) direct q stage h is serves = subst (λ (b : Bool). ServesAt b q x stage) (sym is) serves
to_lane s (Interrupt x) direct q stage h is serves = subst (λ (b : Bool). ServesAt b q x stage) (sym is) serves

module _ (s : Script) (ok : IsScript s) (name : ServiceName) (a : ℕ) (p : PassesView) (c : Cursor) (hold : Option Held) (notes : List Note) (made act cpu : ℕ) (direct : Bool) (acting : IsActing s name a p c hold notes made)
    (is : action_for s a c ≡ Asks act (Queue cpu (lane_pop direct))) where
  abbrev role : Role
  role = role_of s a

  view : IsAction s role c c.stage (Asks act (Queue cpu (lane_pop direct)))
  view = stage_view s a c (Asks act (Queue cpu (lane_pop direct))) acting.place.parcel is

  pub popping : IsPopping s role c c.stage act cpu (lane_pop direct)
  popping = pop_view s role c c.stage act cpu (lane_pop direct) view (is_pop direct) acting.place.fits

  pub lane : serves_direct role ≡ direct
  lane = same_lane role direct popping.server popping.op_is

  pub pop_here : cpu < s.cpus
  pop_here = let exists : ActionExists s (Asks act (Queue cpu (lane_pop direct))) = subst (ActionExists s) is (action_exists s ok a acting.below c acting.place.is_in) in exists.0

  pub pop_free : IsFree direct p cpu
  pop_free = popping.free direct p (subst (λ (x : ℕ). ServesAt direct p x c.stage) (sym popping.cpu_is) (from_lane s role direct p c.stage popping.server lane acting.serves))

  -- the place after the Pop
  abbrev after_pop : QReply → Cursor
  after_pop reply = pop_answered (record c { act = popping.next }) act reply

  pop_leads_to : (reply : QReply) (note : Note) → placed note ≡ (place.Cpu cpu, entry.Cpu (record { actor = a; act = act; op = lane_pop direct; reply = reply })) → (b : Bool) → advance s c b note.place note.entry ≡ after_pop reply
  pop_leads_to reply note at b =
      subst (λ (x : Placed). advance s c b x.0 x.1 ≡ after_pop reply) (sym at)
      (ap (λ (op : QOp). advance_queue s c cpu op reply) popping.op_is ∙ (pop_goes s role c cpu reply ∙ popping.goes reply))

  module _ (scans : ℕ) (scans_is : scans ≡ scans_first c) where
    pop_leads : (H : Histories) (between : PassesView) (reply : QReply) (note : Note) → placed note ≡ (place.Cpu cpu, entry.Cpu (record { actor = a; act = act; op = lane_pop direct; reply = reply })) →
        WritesAt p note.place note.entry note.pos between → FollowsScans scans (journal_seen between cpu) → SeenBegins H between → SeenBegins H p → Trace s H a (record { cursor = after_pop reply; notes = notes ++ note ∷ [] })
    pop_leads H between reply note at w follows on before =
        let e : QEntry = record { actor = a; act = act; op = lane_pop direct; reply = reply } in
        let led = turn_step s a H p between c notes act cpu (lane_pop direct) reply note (acting.leads H before) is
        (λ front h. let enough = follows front e h in subst (λ (n : ℕ). n ≤ scan_count front) scans_is (subst (λ (n : ℕ). scans ≤ n) (same_scans front) enough)) at w (on.cpus cpu) (on.few_cpus cpu) in
        subst (λ (k : Cursor). Trace s H a (record { cursor = k; notes = notes ++ note ∷ [] })) (pop_leads_to reply note at false) led

    mine : (reply : QReply) (note : Note) → placed note ≡ (place.Cpu cpu, entry.Cpu (queue_entry_by p act (lane_pop direct) reply)) → placed note ≡ (place.Cpu cpu, entry.Cpu (record { actor = a; act = act; op = lane_pop direct; reply = reply }))
    mine reply note at = subst (λ (b : ℕ). placed note ≡ (place.Cpu cpu, entry.Cpu (record { actor = b; act = act; op = lane_pop direct; reply = reply }))) acting.actor at

    -- nothing had come due
    acts_empty : (q : PassesView) (note : Note) → IsNothing direct p cpu act note q → AreOf name (params_of s) q → q.actor ≡ p.actor → IsFree direct q cpu → FollowsScans scans (journal_seen q cpu) →
        IsActing s name a q (after_pop Empty) hold (notes ++ note ∷ []) made
    acts_empty q note nothing of same free follows =
        let at = mine Empty note (λ d. (nothing.popped.place d, nothing.popped.entry d)) in
        let w : WritesAt p note.place note.entry note.pos q = subst (WritesAt p note.place note.entry note.pos) (sym nothing.written.2) nothing.written.1 in
        let fits : Fits s role (after_pop Empty) = subst (Fits s role) (ap (λ (op : QOp). advance_queue s c cpu op Empty) popping.op_is ∙ (pop_goes s role c cpu Empty ∙ popping.goes Empty))
        (fits_queue s ok role c.left c.act c.now c.hold c.removed c.parcel c.stage act cpu (lane_pop direct) Empty view (λ i n time h. cc) acting.place.fits) in
        record {
          of = of;
          actor = same ∙ acting.actor;
          below = acting.below;
          sized = sized_all s p q (note ∷ []) nothing.written acting.sized;
          held = acting.held;
          place = record { fits = fits; is_in = record { left = tail_exists _ c.left acting.place.is_in.left; stage = tt; parcel = acting.place.is_in.parcel }; locks = tail_exists _ c.left acting.place.locks; parcel = acting.place.parcel; removed = acting.place.removed; between = tt };
          scanned = scanned_on s role p q c.left (tail_of c.left) c.stage Ready (scans_more p q (note ∷ []) nothing.written) (none_ended role c.left c.stage popping.under) acting.scanned;
          serves = to_lane s role direct q Ready popping.server lane (subst (IsFree direct q) popping.cpu_is free);
          shown = shown_all s a made p q notes (note ∷ []) acting.actor acting.sized (subst (λ (x : Placed). IsFoundThere x.1) (sym at) (λ h. cc), tt) nothing.written acting.shown;
          leads = λ H goes. pop_leads H q Empty note at w follows goes (goes_back H p q (note ∷ []) nothing.written goes);
        }

    -- a callout is taken into service
    module _ (q : PassesView) (i n time : ℕ) (reply : Reply) (pop pick : Note) (took : IsTaking direct p cpu act i n time reply pop pick q) where
      abbrev service : InService
      service = record { act = act; i = i; n = n; at = time }

      abbrev at_pick : Cursor
      at_pick = record c { act = popping.next; stage = Picking service }

      -- the place after the Pick
      abbrev after_took : Reply → Cursor
      after_took r = service_picked s (record c { act = popping.next; stage = Picking service; removed = None }) service r

      abbrev between : PassesView
      between = took.written.0

      pop_at : placed pop ≡ (place.Cpu cpu, entry.Cpu (record { actor = a; act = act; op = lane_pop direct; reply = Got i n time }))
      pop_at = mine (Got i n time) pop (λ d. (took.popped.place d, took.popped.entry d))

      pick_at : placed pick ≡ (place.Timer i, entry.Timer (run_of a act (Pick n cpu time) reply))
      pick_at = subst (λ (b : ℕ). placed pick ≡ (place.Timer i, entry.Timer (run_of b act (Pick n cpu time) reply))) acting.actor (λ d. (took.place d, took.entry d))

      last : WritesAt between pick.place pick.entry pick.pos q
      last = subst (WritesAt between pick.place pick.entry pick.pos) (sym took.written.2.2) took.written.2.1

      params_between : between.params ≡ params_of s
      params_between = (writes_keep p between (pop ∷ []) (between, took.written.1, refl)).params ∙ acting.of.params_are

      pick_due : action_for s a at_pick ≡ Asks act (Callout i (Run (Pick n cpu time)))
      pick_due = ap (action_with s role at_pick) acting.place.parcel ∙ ap (λ (x : ℕ). Asks act (Callout i (Run (Pick n x time)))) (sym popping.cpu_is)

      run : IsRun s a at_pick (notes ++ pop ∷ []) between i (Pick n cpu time) reply pick q
      run = run_step s a between q at_pick (notes ++ pop ∷ []) act i (Pick n cpu time) reply pick (ap (λ (r : Params). spec_in r i) params_between) pick_due pick_at last

      pub pick_reply : IsPicked (has_lock (spec_at s i).lock) reply
      pick_reply = picked_reply (spec_at s i) run.before n cpu time reply (ap reply_of run.served.answers)

      here : IsCallout s i
      here =
          let w = subst (λ (x : Placed). WritesAt between x.0 x.1 pick.pos q) pick_at last in
          let sized = (sized_all s p between (pop ∷ []) (between, took.written.1, refl) acting.sized).timers in
          let below = w.1.below in omega arith

      lane_is : (d : Bool) → direct ≡ d → (spec_at s i).direct ≡ d
      lane_is true is_true =
          (lane_of (actors_of (params_of s)) (spec_at s i) cpu pop_here).0
          (sym (subst (λ (r : Params). a ≡ server (actors_of r) (spec_at s i) cpu) params_between run.server) ∙ (sym acting.actor
          ∙ subst (λ (r : Params). p.actor ≡ interrupt_actor (actors_of r) cpu) acting.of.params_are (subst (λ (b : Bool). p.actor ≡ lane_actor b (actors_of p.params) cpu) is_true pop_free.actor)))
      lane_is false is_false =
          (lane_of (actors_of (params_of s)) (spec_at s i) cpu pop_here).1
          (sym (subst (λ (r : Params). a ≡ server (actors_of r) (spec_at s i) cpu) params_between run.server) ∙ (sym acting.actor
          ∙ subst (λ (r : Params). p.actor ≡ cpu_actor (actors_of r) cpu) acting.of.params_are (subst (λ (b : Bool). p.actor ≡ lane_actor b (actors_of p.params) cpu) is_false pop_free.actor)))

      of_lane : is_direct (are_direct s) i ≡ serves_direct role
      of_lane = is_direct_at s i ∙ (lane_is direct refl ∙ sym lane)

      fits_pop : Fits s role at_pick
      fits_pop = subst (Fits s role) (ap (λ (op : QOp). advance_queue s c cpu op (Got i n time)) popping.op_is ∙ (pop_goes s role c cpu (Got i n time) ∙ popping.goes (Got i n time)))
          (fits_queue s ok role c.left c.act c.now c.hold c.removed c.parcel c.stage act cpu (lane_pop direct) (Got i n time) view
          (λ j m t h. let same : i ≡ j = cc in subst (λ (x : ℕ). is_direct (are_direct s) x ≡ serves_direct role) same of_lane) acting.place.fits)

      fits_pick : Fits s role (after_took reply)
      fits_pick = fits_callout s ok role c.left popping.next c.now c.hold None c.parcel (Picking service) act i (Run (Pick n cpu time)) false run.before run.served.after reply
          (subst (λ (x : ℕ). IsAction s role (record at_pick { removed = None }) (Picking service) (Asks act (Callout i (Run (Pick n x time))))) (sym popping.cpu_is) (picks service))
          (did (spec_at s i) run.before (Run (Pick n cpu time)) (run.served.after, reply) run.served.answers) fits_pop

      record IsStarted (longest : ℕ) (r : Reply) : Type 0 where
        is_in : IsIn s (after_took r)
        same : (after_took r).left ≡ c.left
        locks : AllByRecursion (TaskLocks s) (after_took r).left
        parcel : (after_took r).parcel ≡ None
        removed : (after_took r).removed ≡ None
        between : IsBetween (after_took r).stage
        held : (after_took r).hold ≡ c.hold
        serves : IsServing direct q cpu (record { i = i; n = n }) (progress n r) → ServesAt direct q cpu (after_took r).stage
        room : room_at longest (after_took r).stage ≤ 6 + 6 * longest

      kinds : (P : Reply → Type 0) (b : Bool) (r : Reply) → IsPicked b r → P Hold → ((func arg : ℕ) → P (Go func arg)) → P r
      kinds P true r h hold go = subst P (sym h) hold
      kinds P false (Go func arg) h hold go = go func arg
      kinds P false r h hold go = absurd h

      taken : (longest : ℕ) → AreShort s longest → (r : Reply) → IsPicked (has_lock (spec_at s i).lock) r → IsStarted longest r
      taken longest short r h = kinds (IsStarted longest) (has_lock (spec_at s i).lock) r h
          (record { same = refl; is_in = record { left = acting.place.is_in.left; stage = here; parcel = acting.place.is_in.parcel }; locks = acting.place.locks; parcel = acting.place.parcel; removed = refl; between = tt; held = refl; serves = λ k. k; room = omega arith })
          (λ func arg. record {
            same = refl;
            is_in = record { left = acting.place.is_in.left; stage = firing_exists s service c.hold (acts_at s.funcs func) here (ok.funcs_name func); parcel = acting.place.is_in.parcel };
            locks = acting.place.locks;
            parcel = acting.place.parcel;
            removed = refl;
            between = firing_between service c.hold (acts_at s.funcs func);
            held = refl;
            serves = λ k. serves_firing direct q cpu service c.hold (acts_at s.funcs func) k;
            room = firing_room longest service c.hold (acts_at s.funcs func) (short func);
          })

      pub took_room : (longest : ℕ) → AreShort s longest → room_at longest (after_took reply).stage ≤ 6 + 6 * longest
      took_room longest short = (taken longest short reply pick_reply).room

      pub took_goes : (b d : Bool) → advance s (advance s c b pop.place pop.entry) d pick.place pick.entry ≡ after_took reply
      took_goes b d =
          ap (λ (k : Cursor). advance s k d pick.place pick.entry) (pop_leads_to (Got i n time) pop pop_at b)
          ∙ subst (λ (x : Placed). advance s at_pick d x.0 x.1 ≡ after_took reply) (sym pick_at) refl

      pub acts_took : AreOf name (params_of s) q → q.actor ≡ p.actor → IsServing direct q cpu (record { i = i; n = n }) (progress n reply) → FollowsScans scans (journal_seen q cpu) →
          IsActing s name a q (after_took reply) hold (notes ++ pop ∷ pick ∷ []) made
      acts_took of same serving follows =
          let rest : IsStarted 4096 reply = taken 4096 ok.short_funcs reply pick_reply in
          record {
            of = of;
            actor = same ∙ acting.actor;
            below = acting.below;
            sized = sized_all s p q (pop ∷ pick ∷ []) took.written acting.sized;
            held = acting.held ∙ sym rest.held;
            place = record { fits = fits_pick; is_in = rest.is_in; locks = rest.locks; parcel = rest.parcel; removed = rest.removed; between = rest.between };
            scanned = scanned_on s role p q c.left (after_took reply).left c.stage (after_took reply).stage (scans_more p q (pop ∷ pick ∷ []) took.written) (none_within role c.left (after_took reply).left c.stage (after_took reply).stage rest.same popping.under) acting.scanned;
            serves = to_lane s role direct q (after_took reply).stage popping.server lane (subst (λ (x : ℕ). ServesAt direct q x (after_took reply).stage) popping.cpu_is (rest.serves serving));
            shown = shown_all s a made p q notes (pop ∷ pick ∷ []) acting.actor acting.sized (subst (λ (x : Placed). IsFoundThere x.1) (sym pop_at) (λ h. cc), (subst (λ (x : Placed). IsFoundThere x.1) (sym pick_at) tt, tt)) took.written acting.shown;
            leads = λ H goes.
                let on : SeenBegins H between = goes_back H between q (pick ∷ []) (q, last, refl) goes in
                let kept : journal_seen q cpu ≡ journal_seen between cpu = (let w = subst (λ (x : Placed). WritesAt between x.0 x.1 pick.pos q) pick_at last in ap (λ (x : PassesView). journal_seen x cpu) w.1.passes) in
                let popped_now = pop_leads H between (Got i n time) pop pop_at took.written.1 (subst (FollowsScans scans) kept follows) on (goes_back H p q (pop ∷ pick ∷ []) took.written goes) in
                let led = run.leads H goes popped_now in
                let put : Trace s H a (record { cursor = after_took reply; notes = (notes ++ pop ∷ []) ++ pick ∷ [] }) =
                subst (λ (x : AnyEntry). Trace s H a (record { cursor = advance s at_pick false (place.Timer i) x; notes = (notes ++ pop ∷ []) ++ pick ∷ [] })) (ap (λ (x : Placed). x.1) pick_at) led in
                subst (λ (l : List Note). Trace s H a (record { cursor = after_took reply; notes = l })) (append_assoc notes (pop ∷ []) (pick ∷ [])) put;
          }

    -- either
    pub acts_popped : (q : PassesView) (taken : Taken) → IsTaken direct p cpu act taken q → AreOf name (params_of s) q → q.actor ≡ p.actor → HasNext direct q cpu taken → FollowsScans scans (journal_seen q cpu) →
        IsActing s name a q (gone_on s c (taken_notes taken)) hold (notes ++ taken_notes taken) made
    acts_popped q (Nothing note) is of same free follows =
        subst (λ (k : Cursor). IsActing s name a q k hold (notes ++ note ∷ []) made) (sym (pop_leads_to Empty note (mine Empty note (λ d. (is.popped.place d, is.popped.entry d))) false)) (acts_empty q note is of same free follows)
    acts_popped q (Took i n time reply pop pick) is of same serving follows =
        subst (λ (k : Cursor). IsActing s name a q k hold (notes ++ pop ∷ pick ∷ []) made) (sym (took_goes q i n time reply pop pick is true false)) (acts_took q i n time reply pop pick is of same serving follows)

    pub popped_room : (q : PassesView) (taken : Taken) → IsTaken direct p cpu act taken q → (longest : ℕ) → AreShort s longest → room_at longest (gone_on s c (taken_notes taken)).stage ≤ 6 + 6 * longest
    popped_room q (Nothing note) is longest short =
        subst (λ (k : Cursor). room_at longest k.stage ≤ 6 + 6 * longest) (sym (pop_leads_to Empty note (mine Empty note (λ d. (is.popped.place d, is.popped.entry d))) false)) (omega arith)
    popped_room q (Took i n time reply pop pick) is longest short =
        subst (λ (k : Cursor). room_at longest k.stage ≤ 6 + 6 * longest) (sym (took_goes q i n time reply pop pick is true false)) (took_room q i n time reply pop pick is longest short)
