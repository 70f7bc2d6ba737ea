-- What is kept of an actor, is kept where it ends a service.
use Rattle.std.proofs.Common.{◌≡◌, ℕ, ◌*◌, length, map, append_assoc, ◌≤◌, ◌<◌, Bool, true, false, List, [], ◌∷◌, ◌++◌, refl, sym, ap, subst, ◌∙◌, Option, Some, None, arith}
use Rattle.std.specs.List.{AllByRecursion}
use Rattle.co_object.specs.declared.Note.{Note}
use Rattle.co_object.specs.declared.Reply.{Reply}
use Rattle.co_object.specs.declared.Reply.TheVariants.{Ended}
use Rattle.co_object.specs.declared.Op.TheVariants.{Run}
use Rattle.co_object.specs.declared.Op.{Op}
use Rattle.co_object.specs.declared.Spec.{Spec}
use Rattle.co_object.specs.declared.State.{State}
use Rattle.co_object.specs.declared.RunOp.TheVariants.{End}
use Rattle.co_object.specs.declared.QOp.{QOp}
use Rattle.co_object.specs.declared.Place.{Place}
use Rattle.co_object.specs.declared.Place.TheVariants as place
use Rattle.co_object.specs.declared.AnyEntry.TheVariants as entry
use Rattle.co_object.specs.Queue.{Due}
use Rattle.co_object.specs.Group.{Placed, placed}
use Rattle.co_lock.specs.declared.Held.{Held}
use Rattle.co_program.specs.declared.Script.{Script}
use Rattle.co_program.specs.declared.InService.{InService}
use Rattle.co_program.specs.declared.Role.{Role}
use Rattle.co_program.specs.declared.Role.TheVariants.{Client, Cpu, Interrupt}
use Rattle.co_program.specs.declared.Asked.TheVariants.{Queue, Callout}
use Rattle.co_program.specs.Scripts.{IsScript}
use Rattle.co_program.specs.Stages.{Stage, Ending, Freeing}
use Rattle.co_program.specs.Cursor.{Cursor}
use Rattle.co_program.specs.Action.{Asks, action_with, spec_at, draining, action_for, scans_first, scans_with, free_of}
use Rattle.co_program.specs.Actors.{role_of, cpu_of}
use Rattle.co_program.specs.Advance.{advance, advance_callout, advance_queue, service_ended, drain_acts, parcel_of}
use Rattle.co_program.specs.Existing.{ActionExists, StageExists, IsCallout}
use Rattle.co_program.proofs.Existing.{action_exists}
use Rattle.co_program.specs.Follows.{Histories}
use Rattle.co_world.proofs.basics.Actions.{IsAction, frees}
use Rattle.co_world.proofs.kept.Invariant.{FitsRole, serves_direct, under_way}
use Rattle.co_world.proofs.kept.Operations.{Did, did}
use Rattle.co_world.proofs.kept.Operations as deed
use Rattle.co_world.proofs.kept.Stages.{Fits, fits_callout, fits_queue, free_goes}
use Rattle.co_world.proofs.kept.Servers.{IsServer, is_server}
use Rattle.co_world.proofs.basics.Actions.{frees}
use Rattle.co_program.specs.Existing.{ActsExist}
use Rattle.co_wheel.specs.Turns.{free_of as lane_free}
use Rattle.co_world.proofs.follows.DueNotes.{due_removed}
use Rattle.co_world.proofs.follows.Traces.{Trace}
use Rattle.co_object.specs.declared.Next.{Next}
use Rattle.co_object.specs.declared.QOp.TheVariants.{Insert}
use Rattle.co_object.specs.declared.QReply.TheVariants.{Freed, At}
use Rattle.co_desk.specs.Call.{landing}
use Rattle.co_desk.specs.Name.{ServiceName}
use Rattle.co_desk.specs.Services.{IsFree, IsServing, IsEnded, next_target, target_of_next}
use Rattle.co_desk.specs.Serving.{Runs}
use Rattle.co_desk.specs.Views.{PassesView, AreOf}
use Rattle.co_desk.specs.Writes.{WritesAt, Writes}
use Rattle.co_run.specs.Acting.{IsActing, CursorFits, ServesAt, params_of}
use Rattle.co_world.specs.Placed.{due_in_service}
use Rattle.co_run.specs.Going.{SeenBegins}
use Rattle.co_run.specs.Shown.{IsFoundThere}
use Rattle.co_run.proofs.follows.GoesBack.{goes_back}
use Rattle.co_run.proofs.places.AfterSilentSteps.{stage_view}
use Rattle.co_run.proofs.shown.OneMore.{shown_all, sized_all}
use Rattle.co_program.specs.declared.Act.{Act}
use Rattle.co_world.proofs.basics.Actions.{opens, asks, drains, waits, picks, fires, ends, serves}
use Rattle.co_desk.specs.declared.params.Params.{Params}
use Rattle.co_desk.specs.Params.{spec_at as spec_in}
use Rattle.co_run.specs.Noted.{gone_on, are_some}
use Rattle.co_run.specs.Roomy.{AreShort, room_at}
use Rattle.co_run.proofs.follows.EachAnswer.{turn_step}
use Rattle.co_run.proofs.places.AfterCalls.{draining_exists, draining_between, serves_draining}
use Rattle.co_run.proofs.follows.ServiceNotes.{IsRun, run_step, run_of}
use Rattle.co_run.proofs.follows.CallGroups.{first_is, rest_is, no_more}
use Rattle.co_run.proofs.kept.ByCalls.{found_notes}
use Rattle.co_run.proofs.kept.ByPops.{from_lane, to_lane}
use Rattle.co_run.proofs.kept.Scanned.{none_within, scanned_on, scans_more}

-- ---- where an actor ends a service

pub record IsEndOf (s : Script) (role : Role) (c : Cursor) (stage : Stage) (act i n cpu : ℕ) : Type 0 where
  pub service : InService
  pub stage_is : stage ≡ Ending service
  pub act_is : act ≡ service.act
  pub i_is : i ≡ service.i
  pub n_is : n ≡ service.n
  pub cpu_is : cpu ≡ cpu_of s role

abbrev IsEndAt : (s : Script) (role : Role) (c : Cursor) (stage : Stage) (act i : ℕ) → Op → Type 0
IsEndAt s role c stage act i (Run (End n cpu)) = IsEndOf s role c stage act i n cpu
IsEndAt s role c stage act i op = Unit {0}

end_view : (s : Script) (role : Role) (c : Cursor) (stage : Stage) (act i : ℕ) (op : Op) → IsAction s role c stage (Asks act (Callout i op)) → IsEndAt s role c stage act i op
end_view s role c stage act i op (asks task left j x is own) = tt
end_view s role c stage act i op (drains j left is none) = tt
end_view s role c stage act i op (waits n took none) = tt
end_view s role c stage act i op (picks v) = tt
end_view s role c stage act i op (opens v) = tt
end_view s role c stage act i op (fires v x acts j y) = tt
end_view s role c stage act i op (ends v) = record { service = v; stage_is = refl; act_is = refl; i_is = refl; n_is = refl; cpu_is = refl }
end_view s role c stage act i op (serves v x acts j y) = tt

-- an End is answered Ended
abbrev IsEndReply : Op → Reply → Type 0
IsEndReply (Run (End n cpu)) (Ended drain next woke) = Unit {0}
IsEndReply (Run (End n cpu)) reply = ⊥
IsEndReply op reply = Unit {0}

end_reply : (spec : Spec) (st : State) (op : Op) (r : Reply) (t : State) → Did spec st op r t → IsEndReply op r
end_reply spec st op r t (deed.keeps o x after same on plain none) = tt
end_reply spec st op r t (deed.clears o x after same on plain none) = tt
end_reply spec st op r t (deed.waits took took' n after same on is) = tt
end_reply spec st op r t (deed.arms o code m after same due on) = tt
end_reply spec st op r t (deed.holds n cpu at m after idle is_n is_cpu lock none runs) = tt
end_reply spec st op r t (deed.goes n cpu at func arg after idle lock none runs) = tt
end_reply spec st op r t (deed.begins n cpu func arg after same taken runs) = tt
end_reply spec st op r t (deed.skips n cpu is) = tt
end_reply spec st op r t (deed.ends n cpu after drain woke same runs over) = tt

draining_room : (longest : ℕ) (v : InService) (acts : List Act) → length acts ≤ longest → room_at longest (draining v acts) ≤ 3 * longest
draining_room longest v [] short = omega arith
draining_room longest v (act ∷ acts) short = omega arith

-- the lane of a role
same_free : (role : Role) (direct : Bool) → IsServer role → serves_direct role ≡ direct → free_of role ≡ lane_free direct
same_free (Client k) direct h is = absurd h
same_free (Cpu x) true h is = cc
same_free (Cpu x) false h is = refl
same_free (Interrupt x) true h is = refl
same_free (Interrupt x) false h is = cc

module _ (s : Script) (ok : IsScript s) (name : ServiceName) (a : ℕ) (p : PassesView) (c : Cursor) (hold : Option Held) (notes : List Note) (made act i n cpu : ℕ) (direct : Bool) (acting : IsActing s name a p c hold notes made)
    (is : action_for s a c ≡ Asks act (Callout i (Run (End n cpu)))) (lane : serves_direct (role_of s a) ≡ direct) where
  abbrev role : Role
  role = role_of s a

  abbrev cleared : Cursor
  cleared = record c { removed = None }

  pub ending : IsEndOf s role c c.stage act i n cpu
  ending = end_view s role c c.stage act i (Run (End n cpu)) (stage_view s a c (Asks act (Callout i (Run (End n cpu)))) acting.place.parcel is)

  abbrev v : InService
  v = ending.service

  fits_here : FitsRole s role c.left c.hold (Ending v)
  fits_here = subst (FitsRole s role c.left c.hold) ending.stage_is acting.place.fits

  server : IsServer role
  server = is_server s role c.hold (Ending v) refl fits_here.hold

  abbrev due : Due
  due = record { i = i; n = n }

  same_due : due_in_service v ≡ due
  same_due = λ d. record { i = sym ending.i_is d; n = sym ending.n_is d }

  pub end_here : cpu < s.cpus
  end_here = let exists : ActionExists s (Asks act (Callout i (Run (End n cpu)))) = subst (ActionExists s) is (action_exists s ok a acting.below c acting.place.is_in) in exists.1

  pub end_serves : IsServing direct p cpu due (Runs n)
  end_serves =
      let here : ServesAt direct p (cpu_of s role) (Ending v) = subst (ServesAt direct p (cpu_of s role)) ending.stage_is (from_lane s role direct p c.stage server lane acting.serves) in
      subst (λ (x : ℕ). IsServing direct p x due (Runs n)) (sym ending.cpu_is) (subst (λ (d : Due). IsServing direct p (cpu_of s role) d (Runs d.n)) same_due here)

  here : IsCallout s v.i
  here = subst (StageExists s) ending.stage_is acting.place.is_in.stage

  -- the place after the service
  abbrev after_end : Option ℕ → Cursor
  after_end drain = record c { removed = None; stage = draining v (drain_acts s drain); parcel = None }

  abbrev at_free : Option ℕ → Option Next → Cursor
  at_free drain next = record c { removed = None; stage = Freeing v drain next }

  drain_exists : (drain : Option ℕ) → ActsExist s (drain_acts s drain)
  drain_exists None = tt
  drain_exists (Some func) = ok.funcs_name func

  drain_short : (longest : ℕ) → AreShort s longest → (drain : Option ℕ) → length (drain_acts s drain) ≤ longest
  drain_short longest short None = omega arith
  drain_short longest short (Some func) = short func

  -- the first two notes, and the rest
  record IsCut (x y : Placed) (rest : List Placed) (ns : List Note) : Type 0 where
    first : Note
    second : Note
    others : List Note
    all : ns ≡ first ∷ second ∷ others
    first_at : placed first ≡ x
    second_at : placed second ≡ y
    others_are : map placed others ≡ rest

  cut : (x y : Placed) (rest : List Placed) (ns : List Note) → map placed ns ≡ x ∷ y ∷ rest → IsCut x y rest ns
  cut x y rest [] h = cc
  cut x y rest (f ∷ []) h = (let none = rest_is h in cc)
  cut x y rest (f ∷ g ∷ ns) h = record { first = f; second = g; others = ns; all = refl; first_at = first_is h; second_at = first_is (rest_is h); others_are = rest_is (rest_is h) }

  abbrev inserted : Option Next → ℕ → List Placed
  inserted None time = []
  inserted (Some x) time = (place.Cpu x.cpu, entry.Cpu (record { actor = a; act = act; op = Insert i x.n x.due; reply = At time })) ∷ []

  landed_is : (b : PassesView) (next : Option Next) (time : ℕ) → b.actor ≡ a → landing b act i (target_of_next next) time ≡ inserted next time
  landed_is b None time own = refl
  landed_is b (Some x) time own = ap (λ (k : ℕ). (place.Cpu x.cpu, entry.Cpu (record { actor = k; act = act; op = Insert i x.n x.due; reply = At time })) ∷ []) own

  -- nothing goes to another CPU, or it is inserted there
  abbrev sending : Option ℕ → Option Next → Cursor
  sending drain next = record c { removed = None; stage = draining v (drain_acts s drain); parcel = parcel_of v next }

  last_goes : (drain : Option ℕ) (next : Option Next) (others : List Note) (time : ℕ) → map placed others ≡ inserted next time → gone_on s (sending drain next) others ≡ after_end drain
  last_goes drain None [] time shape = refl
  last_goes drain None (m ∷ others) time shape = cc
  last_goes drain (Some x) [] time shape = cc
  last_goes drain (Some x) (m ∷ []) time shape = subst (λ (y : Placed). advance s (sending drain (Some x)) false y.0 y.1 ≡ after_end drain) (sym (first_is shape)) refl
  last_goes drain (Some x) (m ∷ k ∷ others) time shape = (let none = rest_is shape in cc)

  last_leads : (b q : PassesView) (drain : Option ℕ) (next : Option Next) (told others : List Note) (time : ℕ) → map placed others ≡ inserted next time → Writes b others q → (H : Histories) → SeenBegins H q →
      Trace s H a (record { cursor = sending drain next; notes = told }) → Trace s H a (record { cursor = after_end drain; notes = told ++ others })
  last_leads b q drain None told [] time shape writes H goes trace = subst (λ (l : List Note). Trace s H a (record { cursor = after_end drain; notes = l })) (sym (no_more told)) trace
  last_leads b q drain None told (m ∷ others) time shape writes H goes trace = cc
  last_leads b q drain (Some x) told [] time shape writes H goes trace = cc
  last_leads b q drain (Some x) told (m ∷ []) time shape writes H goes trace =
      let w : WritesAt b m.place m.entry m.pos q = subst (WritesAt b m.place m.entry m.pos) (sym writes.2) writes.1 in
      let sends : action_for s a (sending drain (Some x)) ≡ Asks act (Queue x.cpu (Insert i x.n x.due)) =
      ap (λ (k : ℕ). Asks k (Queue x.cpu (Insert v.i x.n x.due))) (sym ending.act_is) ∙ ap (λ (k : ℕ). Asks act (Queue x.cpu (Insert k x.n x.due))) (sym ending.i_is) in
      let led = turn_step s a H b q (sending drain (Some x)) told act x.cpu (Insert i x.n x.due) (At time) m trace sends (λ front h. omega arith) (first_is shape) w (goes.cpus x.cpu) (goes.few_cpus x.cpu) in
      subst (λ (k : Cursor). Trace s H a (record { cursor = k; notes = told ++ m ∷ [] })) (subst (λ (y : Placed). advance s (sending drain (Some x)) false y.0 y.1 ≡ after_end drain) (sym (first_is shape)) refl) led
  last_leads b q drain (Some x) told (m ∷ k ∷ others) time shape writes H goes trace = (let none = rest_is shape in cc)

  found_inserted : (next : Option Next) (time : ℕ) → AllByRecursion (λ (x : Placed). IsFoundThere x.1) (inserted next time)
  found_inserted None time = tt
  found_inserted (Some x) time = ((λ h. cc), tt)

  module _ (q : PassesView) (f g : Note) (b1 b2 : PassesView) (w1 : WritesAt p f.place f.entry f.pos b1) (w2 : WritesAt b1 g.place g.entry g.pos b2) (drain : Option ℕ) (next : Option Next) (woke : Bool)
      (f_at : placed f ≡ (place.Timer i, entry.Timer (run_of a act (End n cpu) (Ended drain next woke)))) (g_at : placed g ≡ (place.Cpu cpu, entry.Cpu (record { actor = a; act = act; op = lane_free direct; reply = Freed }))) where
    run : IsRun s a c notes p i (End n cpu) (Ended drain next woke) f b1
    run = run_step s a p b1 c notes act i (End n cpu) (Ended drain next woke) f (ap (λ (r : Params). spec_in r i) acting.of.params_are) is f_at w1

    goes_first : (b : Bool) → advance s c b f.place f.entry ≡ at_free drain next
    goes_first b = subst (λ (x : Placed). advance s c b x.0 x.1 ≡ at_free drain next) (sym f_at) (ap (advance_callout s cleared i b (Run (End n cpu)) (Ended drain next woke)) ending.stage_is)

    -- the place after the Free
    abbrev at_send : Cursor
    at_send = record c { removed = None; stage = draining v (drain_acts s drain); parcel = parcel_of v next }

    goes_second : (b : Bool) → advance s (at_free drain next) b g.place g.entry ≡ at_send
    goes_second b =
        subst (λ (x : Placed). advance s (at_free drain next) b x.0 x.1 ≡ at_send) (sym g_at)
        (ap (λ (op : QOp). advance_queue s (at_free drain next) cpu op Freed) (sym (same_free role direct server lane)) ∙ free_goes s role (at_free drain next) cpu Freed)

    free_due : action_for s a (at_free drain next) ≡ Asks act (Queue cpu (lane_free direct))
    free_due =
        ap (action_with s role (at_free drain next)) acting.place.parcel
        ∙ (ap (λ (x : ℕ). Asks x (Queue (cpu_of s role) (free_of role))) (sym ending.act_is)
        ∙ (ap (λ (x : ℕ). Asks act (Queue x (free_of role))) (sym ending.cpu_is) ∙ ap (λ (op : QOp). Asks act (Queue cpu op)) (same_free role direct server lane)))

    free_scans : scans_first (at_free drain next) ≡ 0
    free_scans = ap (scans_with (at_free drain next)) acting.place.parcel

    two_lead : (H : Histories) → SeenBegins H b2 → Trace s H a (record { cursor = at_send; notes = (notes ++ f ∷ []) ++ g ∷ [] })
    two_lead H on =
        let before : SeenBegins H b1 = goes_back H b1 b2 (g ∷ []) (b2, w2, refl) on in
        let led = run.leads H before (acting.leads H (goes_back H p b1 (f ∷ []) (b1, w1, refl) before)) in
        let put : Trace s H a (record { cursor = at_free drain next; notes = notes ++ f ∷ [] }) =
        subst (λ (k : Cursor). Trace s H a (record { cursor = k; notes = notes ++ f ∷ [] })) (goes_first false) (timer_led H led) in
        let freed_now = turn_step s a H b1 b2 (at_free drain next) (notes ++ f ∷ []) act cpu (lane_free direct) Freed g put free_due (λ front h. let none = free_scans in omega (arith, none)) g_at w2 (on.cpus cpu) (on.few_cpus cpu) in
        subst (λ (k : Cursor). Trace s H a (record { cursor = k; notes = (notes ++ f ∷ []) ++ g ∷ [] })) (goes_second false) freed_now where
          timer_led : (H : Histories) → Trace s H a (record { cursor = advance s c false (place.Timer i) f.entry; notes = notes ++ f ∷ [] }) → Trace s H a (record { cursor = advance s c false f.place f.entry; notes = notes ++ f ∷ [] })
          timer_led H t = subst (λ (x : Place). Trace s H a (record { cursor = advance s c false x f.entry; notes = notes ++ f ∷ [] })) (sym (ap (λ (x : Placed). x.0) f_at)) t

    fits_free : Fits s role (at_free drain next)
    fits_free = subst (Fits s role) (ap (advance_callout s cleared i false (Run (End n cpu)) (Ended drain next woke)) ending.stage_is)
        (fits_callout s ok role c.left c.act c.now c.hold None c.parcel c.stage act i (Run (End n cpu)) false run.before run.served.after (Ended drain next woke)
        (stage_view s a cleared (Asks act (Callout i (Run (End n cpu)))) acting.place.parcel (due_removed s a c None act (Callout i (Run (End n cpu))) is))
        (did (spec_at s i) run.before (Run (End n cpu)) (run.served.after, Ended drain next woke) run.served.answers) acting.place.fits)

    fits_end : FitsRole s role c.left c.hold (draining v (drain_acts s drain))
    fits_end =
        let fits = fits_queue s ok role c.left c.act c.now c.hold None c.parcel (Freeing v drain next) v.act (cpu_of s role) (free_of role) Freed (frees v drain next) (λ j m t h. cc) fits_free in
        subst (λ (k : Cursor). FitsRole s role k.left k.hold k.stage) (free_goes s role (at_free drain next) (cpu_of s role) Freed) fits

    end_place : CursorFits s a (after_end drain)
    end_place = record {
      fits = fits_end;
      is_in = record { left = acting.place.is_in.left; stage = draining_exists s v (drain_acts s drain) here (drain_exists drain); parcel = tt };
      locks = acting.place.locks;
      parcel = refl;
      removed = refl;
      between = draining_between v (drain_acts s drain);
    }

    pub acts_closed : (others : List Note) (time : ℕ) → map placed others ≡ inserted next time → Writes b2 others q → AreOf name (params_of s) q → q.actor ≡ p.actor → IsFree direct q cpu →
        IsActing s name a q (gone_on s c (f ∷ g ∷ others)) hold (notes ++ f ∷ g ∷ others) made × ((longest : ℕ) → AreShort s longest → room_at longest (gone_on s c (f ∷ g ∷ others)).stage ≤ 3 * longest)
    acts_closed others time shape writes of same free =
        let whole : Writes p (f ∷ g ∷ others) q = (b1, w1, (b2, w2, writes)) in
        let goes_all : gone_on s c (f ∷ g ∷ others) ≡ after_end drain =
        ap (λ (k : Cursor). gone_on s (advance s k (are_some others) g.place g.entry) others) (goes_first true) ∙ (ap (λ (k : Cursor). gone_on s k others) (goes_second (are_some others)) ∙ last_goes drain next others time shape) in
        let found : AllByRecursion (λ (m : Note). IsFoundThere m.entry) (f ∷ g ∷ others) =
        (subst (λ (x : Placed). IsFoundThere x.1) (sym f_at) tt, (subst (λ (x : Placed). IsFoundThere x.1) (sym g_at) (λ h. cc), found_notes others (inserted next time) shape (found_inserted next time))) in (
          subst (λ (k : Cursor). IsActing s name a q k hold (notes ++ f ∷ g ∷ others) made) (sym goes_all)
              (record {
                of = of;
                actor = same ∙ acting.actor;
                below = acting.below;
                sized = sized_all s p q (f ∷ g ∷ others) whole acting.sized;
                held = acting.held;
                place = end_place;
                scanned = scanned_on s role p q c.left c.left c.stage (draining v (drain_acts s drain)) (scans_more p q (f ∷ g ∷ others) whole) (none_within role c.left c.left c.stage (draining v (drain_acts s drain)) refl (λ x e. ap under_way ending.stage_is)) acting.scanned;
                serves = to_lane s role direct q (draining v (drain_acts s drain)) server lane (serves_draining direct q (cpu_of s role) v (drain_acts s drain) (subst (IsFree direct q) ending.cpu_is free));
                shown = shown_all s a made p q notes (f ∷ g ∷ others) acting.actor acting.sized found whole acting.shown;
                leads = λ H goes.
                    let on : SeenBegins H b2 = goes_back H b2 q others writes goes in
                    let led = last_leads b2 q drain next ((notes ++ f ∷ []) ++ g ∷ []) others time shape writes H goes (two_lead H on) in
                    subst (λ (l : List Note). Trace s H a (record { cursor = after_end drain; notes = l })) (append_assoc (notes ++ f ∷ []) (g ∷ []) others ∙ append_assoc notes (f ∷ []) (g ∷ others)) led;
              }),
          λ longest short. subst (λ (k : Cursor). room_at longest k.stage ≤ 3 * longest) (sym goes_all) (draining_room longest v (drain_acts s drain) (drain_short longest short drain)),
        )

  -- what is kept by the end of a service, and the room that is left to want
  abbrev IsEndKept : PassesView → List Note → Type 0
  IsEndKept q ns = IsActing s name a q (gone_on s c ns) hold (notes ++ ns) made × ((longest : ℕ) → AreShort s longest → room_at longest (gone_on s c ns).stage ≤ 3 * longest)

  closed_by : (q : PassesView) (reply : Reply) (time : ℕ) (f g : Note) (others : List Note) → IsEndReply (Run (End n cpu)) reply → placed f ≡ (place.Timer i, entry.Timer (run_of a act (End n cpu) reply)) →
      placed g ≡ (place.Cpu cpu, entry.Cpu (record { actor = a; act = act; op = lane_free direct; reply = Freed })) → map placed others ≡ landing p act i (next_target reply) time →
      Writes p (f ∷ g ∷ others) q → AreOf name (params_of s) q → q.actor ≡ p.actor → IsFree direct q cpu → IsEndKept q (f ∷ g ∷ others)
  closed_by q (Ended drain next woke) time f g others h f_at g_at shape writes of same free =
      acts_closed q f g writes.0 writes.2.0 writes.1 writes.2.1 drain next woke f_at g_at others time (shape ∙ landed_is p next time acting.actor) writes.2.2 of same free
  closed_by q reply time f g others h f_at g_at shape writes of same free = absurd h

  pub acts_ended : (q : PassesView) (reply : Reply) (ns : List Note) → IsEnded direct p cpu act due reply ns q → AreOf name (params_of s) q → q.actor ≡ p.actor → IsFree direct q cpu → IsEndKept q ns
  acts_ended q reply ns service_ended of same free =
      let parts = cut (place.Timer i, entry.Timer (run_of p.actor act (End n cpu) reply)) (place.Cpu cpu, entry.Cpu (record { actor = p.actor; act = act; op = lane_free direct; reply = Freed })) (landing p act i (next_target reply) service_ended.time) ns service_ended.notes_are in
      let writes : Writes p (parts.first ∷ parts.second ∷ parts.others) q = subst (λ (l : List Note). Writes p l q) parts.all service_ended.written in
      let f_at : placed parts.first ≡ (place.Timer i, entry.Timer (run_of a act (End n cpu) reply)) = subst (λ (b : ℕ). placed parts.first ≡ (place.Timer i, entry.Timer (run_of b act (End n cpu) reply))) acting.actor parts.first_at in
      let g_at : placed parts.second ≡ (place.Cpu cpu, entry.Cpu (record { actor = a; act = act; op = lane_free direct; reply = Freed })) =
      subst (λ (b : ℕ). placed parts.second ≡ (place.Cpu cpu, entry.Cpu (record { actor = b; act = act; op = lane_free direct; reply = Freed }))) acting.actor parts.second_at in
      let run : IsRun s a c notes p i (End n cpu) reply parts.first writes.0 = run_step s a p writes.0 c notes act i (End n cpu) reply parts.first (ap (λ (r : Params). spec_in r i) acting.of.params_are) is f_at writes.1 in
      let replies : IsEndReply (Run (End n cpu)) reply = end_reply (spec_at s i) run.before (Run (End n cpu)) reply run.served.after (did (spec_at s i) run.before (Run (End n cpu)) (run.served.after, reply) run.served.answers) in
      subst (IsEndKept q) (sym parts.all) (closed_by q reply service_ended.time parts.first parts.second parts.others replies f_at g_at parts.others_are writes of same free)
