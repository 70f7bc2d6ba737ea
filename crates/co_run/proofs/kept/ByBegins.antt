-- What is kept of an actor, is kept where a service begins under its lock.
use Rattle.std.proofs.Common.{◌≡◌, ℕ, ◌*◌, length, map, ◌+◌, ◌≤◌, ◌<◌, Bool, true, false, List, [], ◌∷◌, ◌++◌, refl, sym, ap, subst, ◌∙◌, Option, Some, None, arith}
use Rattle.std.specs.List.{AllByRecursion}
use Rattle.co_object.specs.declared.Note.{Note}
use Rattle.co_object.specs.declared.Reply.{Reply}
use Rattle.co_object.specs.declared.Reply.TheVariants.{Go, Skip}
use Rattle.co_object.specs.declared.Op.TheVariants.{Run}
use Rattle.co_object.specs.declared.Op.{Op}
use Rattle.co_object.specs.declared.Spec.{Spec}
use Rattle.co_object.specs.declared.State.{State}
use Rattle.co_object.specs.declared.RunOp.TheVariants.{Begin}
use Rattle.co_lock.specs.Service.{hold_of}
use Rattle.co_object.specs.declared.Place.TheVariants as place
use Rattle.co_object.specs.declared.AnyEntry.TheVariants as entry
use Rattle.co_object.specs.Queue.{Due}
use Rattle.co_object.specs.Group.{Placed, placed}
use Rattle.co_lock.specs.declared.Held.{Held}
use Rattle.co_program.specs.declared.Script.{Script}
use Rattle.co_program.specs.declared.InService.{InService}
use Rattle.co_program.specs.declared.Role.{Role}
use Rattle.co_program.specs.declared.Asked.TheVariants.{Callout}
use Rattle.co_program.specs.Scripts.{IsScript}
use Rattle.co_program.specs.Stages.{Stage, Beginning, Unlocking}
use Rattle.co_program.specs.Cursor.{Cursor}
use Rattle.co_program.specs.Action.{Asks, spec_at, firing, action_for}
use Rattle.co_program.specs.Actors.{role_of, cpu_of}
use Rattle.co_program.specs.Advance.{advance, advance_callout, service_begun}
use Rattle.co_program.specs.Existing.{ActionExists, StageExists, IsCallout}
use Rattle.co_program.proofs.Existing.{action_exists}
use Rattle.co_world.proofs.basics.Actions.{IsAction}
use Rattle.co_world.proofs.kept.Invariant.{FitsRole, serves_direct, under_way}
use Rattle.co_world.proofs.kept.Operations.{Did, did, skips}
use Rattle.co_world.proofs.kept.Operations as deed
use Rattle.co_world.proofs.basics.Roles.{is_direct_at}
use Rattle.co_world.proofs.kept.Stages.{Fits, fits_callout}
use Rattle.co_world.proofs.kept.Servers.{IsServer, is_server, server_hold}
use Rattle.co_world.proofs.basics.Updates.{cond_kept}
use Rattle.co_world.proofs.follows.DueNotes.{due_removed}
use Rattle.co_world.proofs.follows.Traces.{Trace}
use Rattle.co_desk.specs.declared.outs.Made.{Made}
use Rattle.co_desk.specs.Call.{notes_in}
use Rattle.co_desk.specs.Name.{ServiceName}
use Rattle.co_desk.specs.Services.{IsServing, IsBegun}
use Rattle.co_desk.specs.Serving.{Waits, Runs}
use Rattle.co_desk.specs.Views.{PassesView, AreOf}
use Rattle.co_desk.specs.Writes.{WritesAt, Writes}
use Rattle.co_run.specs.Acting.{IsActing, ServesAt, params_of}
use Rattle.co_world.specs.Placed.{due_in_service}
use Rattle.co_run.specs.Shown.{IsFoundThere}
use Rattle.co_run.proofs.follows.GoesBack.{goes_back}
use Rattle.co_run.proofs.places.AfterSilentSteps.{stage_view}
use Rattle.co_run.proofs.shown.OneMore.{shown_all, sized_all}
use Rattle.co_object.specs.declared.AnyEntry.{AnyEntry}
use Rattle.co_program.specs.declared.Act.{Act}
use Rattle.co_program.specs.Actors.{acts_at}
use Rattle.co_program.specs.Existing.{IsIn}
use Rattle.co_world.proofs.basics.Actions.{opens, asks, drains, waits, picks, fires, ends, serves}
use Rattle.co_world.proofs.kept.Invariant.{IsBetween}
use Rattle.co_desk.specs.declared.params.Params.{Params}
use Rattle.co_desk.specs.Params.{spec_at as spec_in}
use Rattle.co_run.specs.Acting.{TaskLocks}
use Rattle.co_run.specs.Noted.{gone_on}
use Rattle.co_run.specs.Roomy.{AreShort, room_at}
use Rattle.co_run.proofs.places.AfterCalls.{firing_exists, firing_between, serves_firing}
use Rattle.co_run.proofs.follows.ServiceNotes.{IsRun, run_step, run_of}
use Rattle.co_run.proofs.follows.CallGroups.{first_is, rest_is}
use Rattle.co_run.proofs.kept.ByPops.{from_lane, to_lane}
use Rattle.co_run.proofs.kept.Scanned.{none_within, scanned_on, scans_more}

-- ---- where an actor begins

pub record IsOpening (s : Script) (role : Role) (c : Cursor) (stage : Stage) (act i n cpu : ℕ) : Type 0 where
  pub service : InService
  pub stage_is : stage ≡ Beginning service
  pub act_is : act ≡ service.act
  pub i_is : i ≡ service.i
  pub n_is : n ≡ service.n
  pub cpu_is : cpu ≡ cpu_of s role

abbrev IsOpened : (s : Script) (role : Role) (c : Cursor) (stage : Stage) (act i : ℕ) → Op → Type 0
IsOpened s role c stage act i (Run (Begin n cpu)) = IsOpening s role c stage act i n cpu
IsOpened s role c stage act i op = Unit {0}

open_view : (s : Script) (role : Role) (c : Cursor) (stage : Stage) (act i : ℕ) (op : Op) → IsAction s role c stage (Asks act (Callout i op)) → IsOpened s role c stage act i op
open_view s role c stage act i op (asks task left j x is own) = tt
open_view s role c stage act i op (drains j left is none) = tt
open_view s role c stage act i op (waits n took none) = tt
open_view s role c stage act i op (picks v) = tt
open_view s role c stage act i op (opens v) = record { service = v; stage_is = refl; act_is = refl; i_is = refl; n_is = refl; cpu_is = refl }
open_view s role c stage act i op (fires v x acts j y) = tt
open_view s role c stage act i op (ends v) = tt
open_view s role c stage act i op (serves v x acts j y) = tt

-- a Begin is answered Go or Skip
abbrev IsOpenReply : Op → Reply → Type 0
IsOpenReply (Run (Begin n cpu)) (Go func arg) = Unit {0}
IsOpenReply (Run (Begin n cpu)) Skip = Unit {0}
IsOpenReply (Run (Begin n cpu)) reply = ⊥
IsOpenReply op reply = Unit {0}

open_reply : (spec : Spec) (st : State) (op : Op) (r : Reply) (t : State) → Did spec st op r t → IsOpenReply op r
open_reply spec st op r t (deed.keeps o x after same on plain none) = tt
open_reply spec st op r t (deed.clears o x after same on plain none) = tt
open_reply spec st op r t (deed.waits took took' n after same on is) = tt
open_reply spec st op r t (deed.arms o code m after same due on) = tt
open_reply spec st op r t (deed.holds n cpu at m after idle is_n is_cpu lock none runs) = tt
open_reply spec st op r t (deed.goes n cpu at func arg after idle lock none runs) = tt
open_reply spec st op r t (deed.begins n cpu func arg after same taken runs) = tt
open_reply spec st op r t (skips n cpu is) = tt
open_reply spec st op r t (deed.ends n cpu after drain woke same runs over) = tt

firing_low : (longest : ℕ) (v : InService) (hold : Option Held) (acts : List Act) → length acts ≤ longest → room_at longest (firing v hold acts) ≤ 3 + 6 * longest
firing_low longest v hold (act ∷ acts) short = omega arith
firing_low longest v None [] short = omega arith
firing_low longest v (Some held) [] short = omega arith

module _ (s : Script) (ok : IsScript s) (name : ServiceName) (a : ℕ) (p : PassesView) (c : Cursor) (hold : Option Held) (notes : List Note) (made act i n cpu : ℕ) (acting : IsActing s name a p c hold notes made)
    (is : action_for s a c ≡ Asks act (Callout i (Run (Begin n cpu)))) where
  abbrev role : Role
  role = role_of s a

  abbrev cleared : Cursor
  cleared = record c { removed = None }

  pub opening : IsOpening s role c c.stage act i n cpu
  opening = open_view s role c c.stage act i (Run (Begin n cpu)) (stage_view s a c (Asks act (Callout i (Run (Begin n cpu)))) acting.place.parcel is)

  abbrev v : InService
  v = opening.service

  fits_here : FitsRole s role c.left c.hold (Beginning v)
  fits_here = subst (FitsRole s role c.left c.hold) opening.stage_is acting.place.fits

  server : IsServer role
  server = is_server s role c.hold (Beginning v) refl fits_here.hold

  under : (held : Held) × (c.hold ≡ Some held) × (hold_of (spec_at s v.i).lock ≡ Some held)
  under = server_hold s role c.hold (Beginning v) server fits_here.hold

  -- a direct callout has no lock
  lane : serves_direct role ≡ false
  lane = at_lane (serves_direct role) refl where
    at_lane : (b : Bool) → serves_direct role ≡ b → b ≡ false
    at_lane false h = refl
    at_lane true h =
        let free = ok.direct v.i (sym (is_direct_at s v.i) ∙ (fits_here.lane ∙ h)) in
        let none : hold_of (spec_at s v.i).lock ≡ None = ap hold_of free in
        let some = under.2 in cc

  abbrev due : Due
  due = record { i = i; n = n }

  same_due : due_in_service v ≡ due
  same_due = λ d. record { i = sym opening.i_is d; n = sym opening.n_is d }

  pub begin_here : cpu < s.cpus
  begin_here = let exists : ActionExists s (Asks act (Callout i (Run (Begin n cpu)))) = subst (ActionExists s) is (action_exists s ok a acting.below c acting.place.is_in) in exists.1

  pub begin_serves : IsServing false p cpu due (Waits n)
  begin_serves =
      let here : ServesAt false p (cpu_of s role) (Beginning v) = subst (ServesAt false p (cpu_of s role)) opening.stage_is (from_lane s role false p c.stage server lane acting.serves) in
      subst (λ (x : ℕ). IsServing false p x due (Waits n)) (sym opening.cpu_is) (subst (λ (d : Due). IsServing false p (cpu_of s role) d (Waits d.n)) same_due here)

  pub begin_hold : (d : Due) → IsServing false p cpu d (Waits d.n) → hold_of (spec_at s d.i).lock ≡ hold
  begin_hold d serving =
      let one : due ≡ d = (let h : Some due ≡ Some d = sym begin_serves.serves ∙ serving.serves in cc) in
      subst (λ (x : Due). hold_of (spec_at s x.i).lock ≡ hold) one
      (subst (λ (x : ℕ). hold_of (spec_at s x).lock ≡ hold) (sym opening.i_is) (under.2 ∙ (sym under.1 ∙ sym acting.held)))

  pub begin_holds : (held : Held) × (hold ≡ Some held)
  begin_holds = (under.0, acting.held ∙ under.1)

  -- the place after it
  abbrev after_begin : Reply → Cursor
  after_begin r = service_begun s cleared v r

  record IsOpen (q : PassesView) (longest : ℕ) (r : Reply) : Type 0 where
    is_in : IsIn s (after_begin r)
    same : (after_begin r).left ≡ c.left
    locks : AllByRecursion (TaskLocks s) (after_begin r).left
    parcel : (after_begin r).parcel ≡ None
    removed : (after_begin r).removed ≡ None
    between : IsBetween (after_begin r).stage
    held : (after_begin r).hold ≡ c.hold
    serves : IsServing false q (cpu_of s role) (due_in_service v) (Runs v.n) → ServesAt false q (cpu_of s role) (after_begin r).stage
    room : room_at longest (after_begin r).stage ≤ 3 + 6 * longest

  kinds : (P : Reply → Type 0) (r : Reply) → IsOpenReply (Run (Begin n cpu)) r → ((func arg : ℕ) → P (Go func arg)) → P Skip → P r
  kinds P (Go func arg) h go skip = go func arg
  kinds P Skip h go skip = skip
  kinds P r h go skip = absurd h

  here : IsCallout s v.i
  here = subst (StageExists s) opening.stage_is acting.place.is_in.stage

  opened : (q : PassesView) (longest : ℕ) → AreShort s longest → (r : Reply) → IsOpenReply (Run (Begin n cpu)) r → IsOpen q longest r
  opened q longest short r h = kinds (IsOpen q longest) r h
      (λ func arg. at_test (spec_at s v.i).returns_unlocked func arg)
      (record { same = refl; is_in = record { left = acting.place.is_in.left; stage = here; parcel = acting.place.is_in.parcel }; locks = acting.place.locks; parcel = acting.place.parcel; removed = refl; between = tt; held = refl; serves = λ k. k; room = omega arith }) where
        at_test : (b : Bool) (func arg : ℕ) → IsOpen q longest (Go func arg)
        at_test b func arg = record {
          same = refl;
          is_in = record { left = acting.place.is_in.left; stage = cond_kept (StageExists s) (spec_at s v.i).returns_unlocked (Unlocking v (acts_at s.funcs func)) (firing v c.hold (acts_at s.funcs func)) (here, ok.funcs_name func) (firing_exists s v c.hold (acts_at s.funcs func) here (ok.funcs_name func)); parcel = acting.place.is_in.parcel };
          locks = acting.place.locks;
          parcel = acting.place.parcel;
          removed = refl;
          between = cond_kept IsBetween (spec_at s v.i).returns_unlocked (Unlocking v (acts_at s.funcs func)) (firing v c.hold (acts_at s.funcs func)) tt (firing_between v c.hold (acts_at s.funcs func));
          held = refl;
          serves = λ k. cond_kept (ServesAt false q (cpu_of s role)) (spec_at s v.i).returns_unlocked (Unlocking v (acts_at s.funcs func)) (firing v c.hold (acts_at s.funcs func)) k (serves_firing false q (cpu_of s role) v c.hold (acts_at s.funcs func) k);
          room = cond_kept (λ (stage : Stage). room_at longest stage ≤ 3 + 6 * longest) (spec_at s v.i).returns_unlocked (Unlocking v (acts_at s.funcs func)) (firing v c.hold (acts_at s.funcs func)) (let few = short func in omega arith) (firing_low longest v c.hold (acts_at s.funcs func) (short func));
        }

  module _ (q : PassesView) (out : Made) (begin : IsBegun p cpu act due out q) where
    -- it has one note
    only : (l : List Note) → map placed l ≡ (place.Timer i, entry.Timer (run_of a act (Begin n cpu) out.reply)) ∷ [] → (note : Note) × (l ≡ note ∷ []) × (placed note ≡ (place.Timer i, entry.Timer (run_of a act (Begin n cpu) out.reply)))
    only [] h = cc
    only (note ∷ []) h = (note, refl, first_is h)
    only (note ∷ more ∷ l) h = let none = rest_is h in cc

    single : (note : Note) × (notes_in out.notes ≡ note ∷ []) × (placed note ≡ (place.Timer i, entry.Timer (run_of a act (Begin n cpu) out.reply)))
    single = only (notes_in out.notes) (subst (λ (b : ℕ). map placed (notes_in out.notes) ≡ (place.Timer i, entry.Timer (run_of b act (Begin n cpu) out.reply)) ∷ []) acting.actor begin.notes_are)

    abbrev note : Note
    note = single.0

    written : Writes p (note ∷ []) q
    written = subst (λ (l : List Note). Writes p l q) single.1 begin.written

    last : WritesAt p note.place note.entry note.pos q
    last = subst (WritesAt p note.place note.entry note.pos) (sym written.2) written.1

    run : IsRun s a c notes p i (Begin n cpu) out.reply note q
    run = run_step s a p q c notes act i (Begin n cpu) out.reply note (ap (λ (r : Params). spec_in r i) acting.of.params_are) is single.2 last

    begin_did : Did (spec_at s i) run.before (Run (Begin n cpu)) out.reply run.served.after
    begin_did = did (spec_at s i) run.before (Run (Begin n cpu)) (run.served.after, out.reply) run.served.answers

    replies : IsOpenReply (Run (Begin n cpu)) out.reply
    replies = open_reply (spec_at s i) run.before (Run (Begin n cpu)) out.reply run.served.after begin_did

    goes_at : advance_callout s cleared i false (Run (Begin n cpu)) out.reply c.stage ≡ after_begin out.reply
    goes_at = ap (advance_callout s cleared i false (Run (Begin n cpu)) out.reply) opening.stage_is

    pub begin_goes : gone_on s c (notes_in out.notes) ≡ after_begin out.reply
    begin_goes = ap (gone_on s c) single.1 ∙ (subst (λ (x : Placed). advance s c false x.0 x.1 ≡ advance_callout s cleared i false (Run (Begin n cpu)) out.reply c.stage) (sym single.2) refl ∙ goes_at)

    fits_begin : Fits s role (after_begin out.reply)
    fits_begin = subst (Fits s role) goes_at
        (fits_callout s ok role c.left c.act c.now c.hold None c.parcel c.stage act i (Run (Begin n cpu)) false run.before run.served.after out.reply
        (stage_view s a cleared (Asks act (Callout i (Run (Begin n cpu)))) acting.place.parcel (due_removed s a c None act (Callout i (Run (Begin n cpu))) is)) begin_did acting.place.fits)

    pub begin_room : (longest : ℕ) → AreShort s longest → room_at longest (gone_on s c (notes_in out.notes)).stage ≤ 3 + 6 * longest
    begin_room longest short = subst (λ (k : Cursor). room_at longest k.stage ≤ 3 + 6 * longest) (sym begin_goes) (opened q longest short out.reply replies).room

    pub acts_begun : AreOf name (params_of s) q → q.actor ≡ p.actor → IsServing false q cpu due (Runs n) → IsActing s name a q (gone_on s c (notes_in out.notes)) hold (notes ++ notes_in out.notes) made
    acts_begun of same serving =
        let rest : IsOpen q 4096 out.reply = opened q 4096 ok.short_funcs out.reply replies in
        let runs : IsServing false q (cpu_of s role) (due_in_service v) (Runs v.n) =
        subst (λ (d : Due). IsServing false q (cpu_of s role) d (Runs d.n)) (sym same_due) (subst (λ (x : ℕ). IsServing false q x due (Runs n)) opening.cpu_is serving) in
        subst (λ (k : Cursor). IsActing s name a q k hold (notes ++ notes_in out.notes) made) (sym begin_goes)
        (subst (λ (l : List Note). IsActing s name a q (after_begin out.reply) hold (notes ++ l) made) (sym single.1)
        (record {
          of = of;
          actor = same ∙ acting.actor;
          below = acting.below;
          sized = sized_all s p q (note ∷ []) written acting.sized;
          held = acting.held ∙ sym rest.held;
          place = record { fits = fits_begin; is_in = rest.is_in; locks = rest.locks; parcel = rest.parcel; removed = rest.removed; between = rest.between };
          scanned = scanned_on s role p q c.left (after_begin out.reply).left c.stage (after_begin out.reply).stage (scans_more p q (note ∷ []) written) (none_within role c.left (after_begin out.reply).left c.stage (after_begin out.reply).stage rest.same (λ x e. ap under_way opening.stage_is)) acting.scanned;
          serves = to_lane s role false q (after_begin out.reply).stage server lane (rest.serves runs);
          shown = shown_all s a made p q notes (note ∷ []) acting.actor acting.sized (subst (λ (x : Placed). IsFoundThere x.1) (sym single.2) tt, tt) written acting.shown;
          leads = λ H goes.
              let led = run.leads H goes (acting.leads H (goes_back H p q (note ∷ []) written goes)) in
              let put : Trace s H a (record { cursor = advance s c false (place.Timer i) (entry.Timer (run_of a act (Begin n cpu) out.reply)); notes = notes ++ note ∷ [] }) =
              subst (λ (x : AnyEntry). Trace s H a (record { cursor = advance s c false (place.Timer i) x; notes = notes ++ note ∷ [] })) (ap (λ (x : Placed). x.1) single.2) led in
              subst (λ (k : Cursor). Trace s H a (record { cursor = k; notes = notes ++ note ∷ [] })) goes_at put;
        }))
