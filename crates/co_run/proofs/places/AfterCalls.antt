-- Where an actor is in its program after a call, or after a note of its own.
use Rattle.std.proofs.Common.{◌≡◌, ℕ, Bool, true, false, List, [], ◌∷◌, ◌++◌, map, refl, sym, subst, ◌∙◌, Option, Some, None, inl, inr}
use Rattle.std.specs.List.{AllByRecursion}
use Rattle.co_object.specs.declared.Reply.{Reply}
use Rattle.co_object.specs.declared.Reply.TheVariants.{Armed, NotArmed, NoHandler, Worn, Stopped, Wait, Drained as IsDrained, Busy, Yes, No, Done, Go, Hold, Skip, Ended, Live, Retired, InUse}
use Rattle.co_object.specs.declared.Op.{Op}
use Rattle.co_object.specs.declared.Op.TheVariants.{Call}
use Rattle.co_object.specs.declared.CallOp.{CallOp}
use Rattle.co_object.specs.declared.Entry.{Entry}
use Rattle.co_object.specs.declared.Note.{Note}
use Rattle.co_object.specs.declared.QOp.TheVariants.{Remove, Insert}
use Rattle.co_object.specs.declared.QReply.TheVariants.{Off, At}
use Rattle.co_object.specs.declared.Place.TheVariants as place
use Rattle.co_object.specs.declared.AnyEntry.TheVariants as entry
use Rattle.co_object.specs.Entries.{is_armed}
use Rattle.co_object.specs.Callout.{call}
use Rattle.co_object.specs.Queue.{Due}
use Rattle.co_object.specs.Group.{Placed, placed, off_of, removal_notes}
use Rattle.co_lock.specs.declared.Held.{Held}
use Rattle.co_program.specs.declared.Script.{Script}
use Rattle.co_program.specs.declared.Act.{Act}
use Rattle.co_program.specs.declared.Role.{Role}
use Rattle.co_program.specs.declared.Role.TheVariants.{Client, Cpu, Interrupt}
use Rattle.co_program.specs.declared.InService.{InService}
use Rattle.co_program.specs.declared.PendingInsert.{PendingInsert}
use Rattle.co_program.specs.Scripts.{IsScript, names_exist}
use Rattle.co_program.specs.Stages.{Stage, Ready, Waiting, Popping, Picking, Locking, Beginning, Unlocking, Firing, Releasing, Ending, Freeing, Drained}
use Rattle.co_program.specs.Cursor.{Cursor}
use Rattle.co_program.specs.Action.{Action, Asks, action_for, action_with, action_in, spec_at, firing, draining}
use Rattle.co_program.specs.Actors.{role_of}
use Rattle.co_program.specs.Advance.{advance, advance_callout, call_made, act_over, tail_of}
use Rattle.co_program.specs.declared.Asked.TheVariants.{Callout, Itself}
use Rattle.co_program.specs.Existing.{IsIn, StageExists, TaskExists, ActsExist, IsCallout}
use Rattle.co_world.proofs.basics.Actions.{IsAction, due_stage, stays, pops, picks, opens, ends, enters, unlocks, releases, frees}
use Rattle.co_world.proofs.kept.Operations.{Did, did_call}
use Rattle.co_world.proofs.kept.Invariant.{IsBetween}
use Rattle.co_world.proofs.follows.DueNotes.{due_removed}
use Rattle.co_world.proofs.kept.Stages.{Fits, is_acting, fits_callout, fits_over}
use Rattle.co_desk.specs.Services.{IsFree, IsServing}
use Rattle.co_desk.specs.Serving.{Runs, Waits, ServiceStage}
use Rattle.co_desk.specs.Views.{PassesView}
use Rattle.co_desk.proofs.CallGroup.{entry_of}
use Rattle.co_run.specs.Acting.{CursorFits, ServesAt, ServesAsStage, TaskLocks}
use Rattle.co_world.specs.Placed.{due_in_service}
use Rattle.co_run.specs.Noted.{gone_on, are_some}
use Rattle.co_run.proofs.follows.CallGroups.{IsTold, AreParts, IsOneInsert, first_is, rest_is}

-- ---- the stages in which an actor makes a call, or a note of its own

abbrev pub IsSpoken : Action → Type 0
IsSpoken (Asks act (Callout i (Call op))) = Unit {0}
IsSpoken (Asks act (Itself kind)) = Unit {0}
IsSpoken action = ⊥

module _ (s : Script) (role : Role) (c : Cursor) where
  acting_at : (stage : Stage) (due : Action) → IsAction s role c stage due → IsSpoken due → is_acting stage ≡ true
  acting_at Ready due view h = refl
  acting_at (Waiting n took) due view h = refl
  acting_at (Firing v acts) due view h = refl
  acting_at (Drained v acts) due view h = refl
  acting_at (Popping act) due (pops m) h = absurd h
  acting_at (Popping act) due (stays m) h = absurd h
  acting_at (Picking v) due (picks m) h = absurd h
  acting_at (Picking v) due (stays m) h = absurd h
  acting_at (Locking v) due (enters m held is) h = absurd h
  acting_at (Locking v) due (stays m) h = absurd h
  acting_at (Beginning v) due (opens m) h = absurd h
  acting_at (Beginning v) due (stays m) h = absurd h
  acting_at (Unlocking v acts) due (unlocks m l) h = absurd h
  acting_at (Unlocking v acts) due (stays m) h = absurd h
  acting_at (Releasing v) due (releases m) h = absurd h
  acting_at (Releasing v) due (stays m) h = absurd h
  acting_at (Ending v) due (ends m) h = absurd h
  acting_at (Ending v) due (stays m) h = absurd h
  acting_at (Freeing v drain next) due (frees m d n) h = absurd h
  acting_at (Freeing v drain next) due (stays m) h = absurd h

pub acting_of : (s : Script) (a : ℕ) (c : Cursor) (due : Action) → c.parcel ≡ None → action_for s a c ≡ due → IsSpoken due → is_acting c.stage ≡ true
acting_of s a c due none is h = acting_at s (role_of s a) c c.stage (action_in s (role_of s a) c c.stage) (due_stage s (role_of s a) c c.stage)
    (subst (λ (x : Option PendingInsert). IsSpoken (action_with s (role_of s a) c x)) none (subst IsSpoken (sym is) h))

-- ---- the place after a call

abbrev pub cleared : Cursor → Cursor
cleared c = record c { removed = None }

advance_called : (s : Script) (c : Cursor) (b : Bool) (i : ℕ) (e : Entry) (stage : Stage) → is_acting stage ≡ true → advance_callout s (cleared c) i b e.op e.reply stage ≡ call_made (cleared c) i b e.op e.reply
advance_called s c b i e Ready h = refl
advance_called s c b i e (Waiting n took) h = refl
advance_called s c b i e (Firing v acts) h = refl
advance_called s c b i e (Drained v acts) h = refl
advance_called s c b i e (Popping act) h = cc
advance_called s c b i e (Picking v) h = cc
advance_called s c b i e (Locking v) h = cc
advance_called s c b i e (Beginning v) h = cc
advance_called s c b i e (Unlocking v acts) h = cc
advance_called s c b i e (Releasing v) h = cc
advance_called s c b i e (Ending v) h = cc
advance_called s c b i e (Freeing v drain next) h = cc

over_parcel : (c : Cursor) (stage : Stage) → (act_over c stage).parcel ≡ c.parcel
over_parcel c Ready = refl
over_parcel c (Waiting n took) = refl
over_parcel c (Firing v acts) = refl
over_parcel c (Drained v acts) = refl
over_parcel c (Popping act) = refl
over_parcel c (Picking v) = refl
over_parcel c (Locking v) = refl
over_parcel c (Beginning v) = refl
over_parcel c (Unlocking v acts) = refl
over_parcel c (Releasing v) = refl
over_parcel c (Ending v) = refl
over_parcel c (Freeing v drain next) = refl

-- once what was armed stands in its queue, the place is that after a call that armed nothing there
landed : (c : Cursor) (i : ℕ) (op : Op) (reply : Reply) → is_armed reply ≡ true → c.parcel ≡ None → record (call_made c i true op reply) { parcel = None } ≡ call_made c i false op reply
landed c i op (Armed code n cpu o) is none =
    let k : Cursor = act_over c c.stage in
    let same : None ≡ k.parcel = sym (over_parcel c c.stage ∙ none) in
    subst (λ (x : Option PendingInsert). record k { parcel = x } ≡ k) (sym same) refl
landed c i op (NotArmed code) is none = cc
landed c i op NoHandler is none = cc
landed c i op Worn is none = cc
landed c i op (Stopped code o) is none = cc
landed c i op (Wait n took o) is none = cc
landed c i op (IsDrained code o) is none = cc
landed c i op Busy is none = cc
landed c i op Yes is none = cc
landed c i op No is none = cc
landed c i op Done is none = cc
landed c i op (Go func arg) is none = cc
landed c i op Hold is none = cc
landed c i op Skip is none = cc
landed c i op (Ended drain next woke) is none = cc
landed c i op Live is none = cc
landed c i op Retired is none = cc
landed c i op (InUse armed serviced) is none = cc

module _ (s : Script) (a act i : ℕ) (op : CallOp) (reply : Reply) where
  abbrev e : Entry
  e = entry_of a act (Call op) reply

  entry_goes : (c : Cursor) (b : Bool) (note : Note) → is_acting c.stage ≡ true → placed note ≡ (place.Timer i, entry.Timer e) → advance s c b note.place note.entry ≡ call_made (cleared c) i b (Call op) reply
  entry_goes c b note acting at = subst (λ (x : Placed). advance s c b x.0 x.1 ≡ call_made (cleared c) i b (Call op) reply) (sym at) (advance_called s c b i e c.stage acting)

  from_entry : (c : Cursor) (ns : List Note) (time : ℕ) (rest : List Placed) → c.parcel ≡ None → is_acting c.stage ≡ true → map placed ns ≡ (place.Timer i, entry.Timer e) ∷ rest → IsOneInsert a act i reply time rest →
      gone_on s c ns ≡ call_made (cleared c) i false (Call op) reply
  from_entry c [] time rest none acting shape one = cc
  from_entry c (note ∷ []) time rest none acting shape one = entry_goes c false note acting (first_is shape)
  from_entry c (note ∷ more ∷ []) time rest none acting shape (inl empty) = cc (rest_is shape ∙ empty)
  from_entry c (note ∷ more ∷ []) time rest none acting shape (inr one) =
      let at : placed more ≡ (place.Cpu one.2, entry.Cpu (record { actor = a; act = act; op = Insert i one.0 one.1; reply = At time })) = first_is (rest_is shape ∙ one.4) in
      subst (λ (k : Cursor). advance s k false more.place more.entry ≡ call_made (cleared c) i false (Call op) reply) (sym (entry_goes c true note acting (first_is shape)))
      (subst (λ (x : Placed). advance s (call_made (cleared c) i true (Call op) reply) false x.0 x.1 ≡ call_made (cleared c) i false (Call op) reply) (sym at) (landed (cleared c) i (Call op) reply one.3 none))
  from_entry c (note ∷ more ∷ x ∷ ns) time rest none acting shape (inl empty) = cc (rest_is shape ∙ empty)
  from_entry c (note ∷ more ∷ x ∷ ns) time rest none acting shape (inr one) = cc (rest_is (rest_is shape ∙ one.4))

  parts_go : (o : Option ℕ) (c : Cursor) (ns : List Note) (time : ℕ) (rest : List Placed) → c.parcel ≡ None → is_acting c.stage ≡ true →
      map placed ns ≡ (removal_notes i e o ++ (place.Timer i, entry.Timer e) ∷ []) ++ rest → IsOneInsert a act i reply time rest → gone_on s c ns ≡ call_made (cleared c) i false (Call op) reply
  parts_go None c ns time rest none acting shape one = from_entry c ns time rest none acting shape one
  parts_go (Some cpu) c [] time rest none acting shape one = cc
  parts_go (Some cpu) c (note ∷ ns) time rest none acting shape one =
      let at : placed note ≡ (place.Cpu cpu, entry.Cpu (record { actor = a; act = act; op = Remove i; reply = Off })) = first_is shape in
      subst (λ (x : Placed). gone_on s (advance s c (are_some ns) x.0 x.1) ns ≡ call_made (cleared c) i false (Call op) reply) (sym at)
      (from_entry (record c { removed = Some cpu }) ns time rest none acting (rest_is shape) one)

  pub call_goes : (c : Cursor) (ns : List Note) → c.parcel ≡ None → c.removed ≡ None → is_acting c.stage ≡ true → AreParts a act i op reply ns → gone_on s c ns ≡ call_made c i false (Call op) reply
  call_goes c ns none removed acting parts =
      subst (λ (x : Option ℕ). gone_on s c ns ≡ call_made (record c { removed = x }) i false (Call op) reply) (sym removed) (parts_go (off_of reply) c ns parts.time parts.rest none acting parts.whole parts.one)

-- ---- what is kept of it

-- a call that isn't listed ends the act, or waits in its drain
pub called_kinds : (P : Cursor → Type 0) (c : Cursor) (i : ℕ) (op : Op) (reply : Reply) → P (act_over c c.stage) → ((n : ℕ) (took : Bool) → P (record c { stage = Waiting n took })) → P (call_made c i false op reply)
called_kinds P c i op (Wait n took o) over waits = waits n took
called_kinds P c i op reply over waits = over

pub tail_exists : {X : Type 0} (P : X → Type 0) (xs : List X) → AllByRecursion P xs → AllByRecursion P (tail_of xs)
tail_exists P [] all = tt
tail_exists P (x ∷ xs) all = all.1

pub firing_exists : (s : Script) (v : InService) (hold : Option Held) (acts : List Act) → IsCallout s v.i → ActsExist s acts → StageExists s (firing v hold acts)
firing_exists s v hold (act ∷ acts) here all = (here, all)
firing_exists s v None [] here all = here
firing_exists s v (Some held) [] here all = here

pub draining_exists : (s : Script) (v : InService) (acts : List Act) → IsCallout s v.i → ActsExist s acts → StageExists s (draining v acts)
draining_exists s v (act ∷ acts) here all = (here, all)
draining_exists s v [] here all = tt

pub firing_between : (v : InService) (hold : Option Held) (acts : List Act) → IsBetween (firing v hold acts)
firing_between v hold (act ∷ acts) = tt
firing_between v None [] = tt
firing_between v (Some held) [] = tt

pub draining_between : (v : InService) (acts : List Act) → IsBetween (draining v acts)
draining_between v [] = tt
draining_between v (act ∷ acts) = tt

-- what is left of a place once it is known to fit
record IsRest (s : Script) (c : Cursor) : Type 0 where
  is_in : IsIn s c
  locks : AllByRecursion (TaskLocks s) c.left
  parcel : c.parcel ≡ None
  removed : c.removed ≡ None
  between : IsBetween c.stage

rest_over : (s : Script) (c : Cursor) (stage : Stage) → is_acting stage ≡ true → AllByRecursion (TaskExists s) c.left → AllByRecursion (TaskLocks s) c.left → StageExists s stage → c.parcel ≡ None → c.removed ≡ None → IsRest s (act_over c stage)
rest_over s c Ready acting left locks exists parcel removed = record { is_in = record { left = tail_exists (TaskExists s) c.left left; stage = tt; parcel = rw parcel tt }; locks = tail_exists (TaskLocks s) c.left locks; parcel = parcel; removed = removed; between = tt }
rest_over s c (Waiting n took) acting left locks exists parcel removed = record { is_in = record { left = tail_exists (TaskExists s) c.left left; stage = tt; parcel = rw parcel tt }; locks = tail_exists (TaskLocks s) c.left locks; parcel = parcel; removed = removed; between = tt }
rest_over s c (Firing v acts) acting left locks exists parcel removed = record {
  is_in = record { left = left; stage = firing_exists s v c.hold (tail_of acts) exists.0 (tail_exists (λ act. names_exist s act ≡ true) acts exists.1); parcel = rw parcel tt };
  locks = locks;
  parcel = parcel;
  removed = removed;
  between = firing_between v c.hold (tail_of acts);
}
rest_over s c (Drained v acts) acting left locks exists parcel removed = record {
  is_in = record { left = left; stage = draining_exists s v (tail_of acts) exists.0 (tail_exists (λ act. names_exist s act ≡ true) acts exists.1); parcel = rw parcel tt };
  locks = locks;
  parcel = parcel;
  removed = removed;
  between = draining_between v (tail_of acts);
}
rest_over s c (Popping act) acting left locks exists parcel removed = cc
rest_over s c (Picking v) acting left locks exists parcel removed = cc
rest_over s c (Locking v) acting left locks exists parcel removed = cc
rest_over s c (Beginning v) acting left locks exists parcel removed = cc
rest_over s c (Unlocking v acts) acting left locks exists parcel removed = cc
rest_over s c (Releasing v) acting left locks exists parcel removed = cc
rest_over s c (Ending v) acting left locks exists parcel removed = cc
rest_over s c (Freeing v drain next) acting left locks exists parcel removed = cc

placed_by : (s : Script) (a : ℕ) (c : Cursor) → Fits s (role_of s a) c → IsRest s c → CursorFits s a c
placed_by s a c fits rest = record { fits = fits; is_in = rest.is_in; locks = rest.locks; parcel = rest.parcel; removed = rest.removed; between = rest.between }

pub over_placed : (s : Script) → IsScript s → (a : ℕ) (c : Cursor) → is_acting c.stage ≡ true → CursorFits s a c → CursorFits s a (act_over c c.stage)
over_placed s ok a c acting place =
    placed_by s a (act_over c c.stage) (fits_over s ok (role_of s a) c.left c.act c.now c.hold c.removed c.parcel c.stage acting place.fits)
    (rest_over s c c.stage acting place.is_in.left place.locks place.is_in.stage place.parcel place.removed)

pub called_placed : (s : Script) → IsScript s → (a act i : ℕ) (c : Cursor) (op : CallOp) (reply : Reply) (seen : List Entry) → action_for s a c ≡ Asks act (Callout i (Call op)) → IsTold (spec_at s i) op reply seen → CursorFits s a c →
    CursorFits s a (call_made c i false (Call op) reply)
called_placed s ok a act i c op reply seen is told place =
    let acting : is_acting c.stage ≡ true = acting_of s a c (Asks act (Callout i (Call op))) place.parcel is tt in
    let c' : Cursor = cleared c in
    let due : action_in s (role_of s a) c' c.stage ≡ Asks act (Callout i (Call op)) =
    subst (λ (x : Option PendingInsert). action_with s (role_of s a) c' x ≡ Asks act (Callout i (Call op))) place.parcel (due_removed s a c None act (Callout i (Call op)) is) in
    let view : IsAction s (role_of s a) c' c.stage (Asks act (Callout i (Call op))) = subst (IsAction s (role_of s a) c' c.stage) due (due_stage s (role_of s a) c' c.stage) in
    let fits = fits_callout s ok (role_of s a) c.left c.act c.now c.hold None c.parcel c.stage act i (Call op) false told.before (call told.before op).0 reply view
    (subst (λ (r : Reply). Did (spec_at s i) told.before (Call op) r (call told.before op).0) told.answers (did_call (spec_at s i) told.before op)) place.fits in
    let called_fits : Fits s (role_of s a) (call_made c' i false (Call op) reply) = subst (Fits s (role_of s a)) (advance_called s c false i (entry_of a act (Call op) reply) c.stage acting) fits in
    let here : Fits s (role_of s a) (call_made c i false (Call op) reply) = subst (λ (x : Option ℕ). Fits s (role_of s a) (call_made (record c { removed = x }) i false (Call op) reply)) (sym place.removed) called_fits in
    placed_by s a (call_made c i false (Call op) reply) here
    (called_kinds (IsRest s) c i (Call op) reply (rest_over s c c.stage acting place.is_in.left place.locks place.is_in.stage place.parcel place.removed)
    (λ n took. record { is_in = record { left = place.is_in.left; stage = tt; parcel = place.is_in.parcel }; locks = place.locks; parcel = place.parcel; removed = place.removed; between = tt }))

-- ---- what it has in service

pub serves_firing : (direct : Bool) (q : PassesView) (cpu : ℕ) (v : InService) (hold : Option Held) (acts : List Act) → IsServing direct q cpu (due_in_service v) (Runs v.n) → ServesAt direct q cpu (firing v hold acts)
serves_firing direct q cpu v hold (act ∷ acts) h = h
serves_firing direct q cpu v None [] h = h
serves_firing direct q cpu v (Some held) [] h = h

pub serves_draining : (direct : Bool) (q : PassesView) (cpu : ℕ) (v : InService) (acts : List Act) → IsFree direct q cpu → ServesAt direct q cpu (draining v acts)
serves_draining direct q cpu v [] h = h
serves_draining direct q cpu v (act ∷ acts) h = h

serves_over : (direct : Bool) (q : PassesView) (cpu : ℕ) (c : Cursor) (stage : Stage) → is_acting stage ≡ true → ServesAt direct q cpu stage → ServesAt direct q cpu (act_over c stage).stage
serves_over direct q cpu c Ready acting h = h
serves_over direct q cpu c (Waiting n took) acting h = h
serves_over direct q cpu c (Firing v acts) acting h = serves_firing direct q cpu v c.hold (tail_of acts) h
serves_over direct q cpu c (Drained v acts) acting h = serves_draining direct q cpu v (tail_of acts) h
serves_over direct q cpu c (Popping act) acting h = cc
serves_over direct q cpu c (Picking v) acting h = cc
serves_over direct q cpu c (Locking v) acting h = cc
serves_over direct q cpu c (Beginning v) acting h = cc
serves_over direct q cpu c (Unlocking v acts) acting h = cc
serves_over direct q cpu c (Releasing v) acting h = cc
serves_over direct q cpu c (Ending v) acting h = cc
serves_over direct q cpu c (Freeing v drain next) acting h = cc

pub over_serves : (role : Role) (q : PassesView) (c : Cursor) → is_acting c.stage ≡ true → ServesAsStage role q c.stage → ServesAsStage role q (act_over c c.stage).stage
over_serves (Client k) q c acting h = tt
over_serves (Cpu x) q c acting h = serves_over false q x c c.stage acting h
over_serves (Interrupt x) q c acting h = serves_over true q x c c.stage acting h

-- a server never waits in a drain
pub called_serves : (s : Script) (role : Role) (q : PassesView) (c : Cursor) (i : ℕ) (op : Op) (reply : Reply) → is_acting c.stage ≡ true → Fits s role (call_made c i false op reply) → ServesAsStage role q c.stage → ServesAsStage role q (call_made c i false op reply).stage
called_serves s (Client k) q c i op reply acting fits h = tt
called_serves s (Cpu x) q c i op reply acting fits h = called_kinds (λ (k : Cursor). Fits s (Cpu x) k → ServesAsStage (Cpu x) q k.stage) c i op reply (λ f. serves_over false q x c c.stage acting h) (λ n took f. absurd f.hold) fits
called_serves s (Interrupt x) q c i op reply acting fits h = called_kinds (λ (k : Cursor). Fits s (Interrupt x) k → ServesAsStage (Interrupt x) q k.stage) c i op reply (λ f. serves_over true q x c c.stage acting h) (λ n took f. absurd f.hold) fits

-- what was in service stays so
serves_kept : (direct : Bool) (p q : PassesView) (cpu : ℕ) (stage : Stage) → (IsFree direct p cpu → IsFree direct q cpu) → ((d : Due) (far : ServiceStage) → IsServing direct p cpu d far → IsServing direct q cpu d far) → ServesAt direct p cpu stage → ServesAt direct q cpu stage
serves_kept direct p q cpu Ready free serving h = free h
serves_kept direct p q cpu (Waiting n took) free serving h = free h
serves_kept direct p q cpu (Popping act) free serving h = free h
serves_kept direct p q cpu (Picking v) free serving h = tt
serves_kept direct p q cpu (Locking v) free serving h = serving (due_in_service v) (Waits v.n) h
serves_kept direct p q cpu (Beginning v) free serving h = serving (due_in_service v) (Waits v.n) h
serves_kept direct p q cpu (Unlocking v acts) free serving h = serving (due_in_service v) (Runs v.n) h
serves_kept direct p q cpu (Firing v acts) free serving h = serving (due_in_service v) (Runs v.n) h
serves_kept direct p q cpu (Releasing v) free serving h = serving (due_in_service v) (Runs v.n) h
serves_kept direct p q cpu (Ending v) free serving h = serving (due_in_service v) (Runs v.n) h
serves_kept direct p q cpu (Freeing v drain next) free serving h = tt
serves_kept direct p q cpu (Drained v acts) free serving h = free h

pub still_serves : (role : Role) (p q : PassesView) (stage : Stage) → ((direct : Bool) (cpu : ℕ) → IsFree direct p cpu → IsFree direct q cpu) →
    ((direct : Bool) (cpu : ℕ) (d : Due) (far : ServiceStage) → IsServing direct p cpu d far → IsServing direct q cpu d far) → ServesAsStage role p stage → ServesAsStage role q stage
still_serves (Client k) p q stage free serving h = tt
still_serves (Cpu x) p q stage free serving h = serves_kept false p q x stage (free false x) (serving false x) h
still_serves (Interrupt x) p q stage free serving h = serves_kept true p q x stage (free true x) (serving true x) h
