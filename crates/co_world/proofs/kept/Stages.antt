-- Every step leaves an actor at a place that fits its role.
use Rattle.std.proofs.Common.{◌≡◌, ℕ, suc, ◌+◌, Bool, true, false, cond, List, [], ◌∷◌, length, refl, sym, ap, subst, ◌∙◌, arith, Option, Some, None}
use Rattle.std.specs.List.{AllByRecursion}
use Rattle.co_object.specs.declared.Spec.{Spec}
use Rattle.co_object.specs.declared.LockUse.{LockUse}
use Rattle.co_object.specs.declared.LockUse.TheVariants.{Free, Mtx, Rw, RwShared}
use Rattle.co_object.specs.declared.State.{State}
use Rattle.co_object.specs.declared.Reply.{Reply}
use Rattle.co_object.specs.declared.Reply.TheVariants.{NotArmed, Armed, Stopped, Done, Drained as IsDrained, Wait, Hold, Go, Ended, NoHandler, Worn, Busy, Yes, No, Live, Retired, InUse, Skip}
use Rattle.co_object.specs.declared.Op.{Op}
use Rattle.co_object.specs.declared.Op.TheVariants.{Call}
use Rattle.co_object.specs.declared.CallOp.{CallOp}
use Rattle.co_object.specs.declared.CallOp.TheVariants.{Plain, DrainTry}
use Rattle.co_object.specs.declared.QOp.{QOp}
use Rattle.co_object.specs.declared.QReply.{QReply}
use Rattle.co_object.specs.declared.QReply.TheVariants.{At, Off, Missing, Count, Got, Empty, Freed}
use Rattle.co_object.specs.Scan.{is_direct}
use Rattle.co_object.specs.Serve.{has_lock, next_of}
use Rattle.co_object.specs.Stand.{off}
use Rattle.co_lock.specs.declared.held.Held.{Held}
use Rattle.co_lock.specs.Service.{hold_of}
use Rattle.co_program.specs.declared.Script.{Script}
use Rattle.co_program.specs.declared.Act.{Act}
use Rattle.co_program.specs.declared.Act.TheVariants.{Drain, Tick}
use Rattle.co_program.specs.Actors.{softs, cpu_of, acts_at}
use Rattle.co_program.specs.declared.Task.{Task}
use Rattle.co_program.specs.declared.Task.TheVariants.{Does, Soft}
use Rattle.co_program.specs.declared.Role.{Role}
use Rattle.co_program.specs.declared.Role.TheVariants.{Client, Cpu, Interrupt}
use Rattle.co_program.specs.Stages.{Stage, Ready, Waiting, Popping, Picking, Locking, Beginning, Unlocking, Firing, Releasing, Ending, Freeing, Drained}
use Rattle.co_program.specs.declared.InService.{InService}
use Rattle.co_program.specs.Cursor.{Cursor}
use Rattle.co_program.specs.declared.PendingInsert.{PendingInsert}
use Rattle.co_program.specs.Action.{Silent, Take, Asks, spec_at, firing, draining, pop_of, free_of}
use Rattle.co_program.specs.declared.Asked.TheVariants.{Callout, Queue}
use Rattle.co_program.specs.Advance.{tail_of, act_over, call_made, advance_callout, drain_acts, pop_answered, popped, freed, advance_queue}
use Rattle.co_program.specs.Scripts.{IsScript, is_call}
use Rattle.co_world.specs.Step.{are_direct}
use Rattle.co_world.proofs.kept.Invariant.{ServerHold, HoldFits, HasActs, IsTaskOf, BeginsDrain, IsDraining, LaneFits, AreSoft, FitsRole, serves_direct, hold_within}
use Rattle.co_world.proofs.basics.Actions.{IsAction, drops, passes, grabs, asks, drains, scans, starts, waits, pops, picks, enters, opens, unlocks, fires, releases, ends, frees, serves}
use Rattle.co_world.proofs.kept.Operations.{Did, is_plain, keeps, clears, arms, holds, goes, skips}
use Rattle.co_world.proofs.kept.Operations as deed
use Rattle.co_world.proofs.kept.Servers.{IsServer, server_hold, hold_server, is_server, servers_task, clients_act, client_ready, none_ready}

-- ---- what is left

tasks_tail : (P : Task → Type 0) (left : List Task) → AllByRecursion P left → AllByRecursion P (tail_of left)
tasks_tail P [] h = tt
tasks_tail P (task ∷ left) h = h.1

soft_at : (task : Task) (left : List Task) (k n : ℕ) → task ∷ left ≡ softs k (suc n) → left ≡ softs (suc k) n
soft_at task left k n is = cc

soft_tail : (s : Script) (role : Role) (left : List Task) → AreSoft s role left → AreSoft s role (tail_of left)
soft_tail s (Cpu x) [] h = h
soft_tail s (Cpu x) (task ∷ left) h = λ two. (
    let all : (k : ℕ) × (k + suc (length left) ≡ length (acts_at s.ticks x)) × (task ∷ left ≡ softs k (suc (length left))) = h two in
    (suc all.0, (let sum = all.1 in omega arith), soft_at task left all.0 (length left) all.2)
    )
soft_tail s (Client c) left h = tt
soft_tail s (Interrupt x) left h = tt

-- after a task, with another hold between acts
module _ (s : Script) (role : Role) where
  pub fits_ready : (left : List Task) (held to : Option Held) (stage : Stage) → HoldFits s role to Ready → FitsRole s role left held stage → FitsRole s role (tail_of left) to Ready
  fits_ready left held to stage hold fits = record {
    tasks = tasks_tail (IsTaskOf s role) left fits.tasks;
    soft = soft_tail s role left fits.soft;
    hold = hold;
    acts = tt;
    draining = tt;
    lane = tt;
  }

  -- the same tasks at another stage
  pub fits_stage : (left : List Task) (held to : Option Held) (stage next : Stage) → HoldFits s role to next → HasActs next → IsDraining left next → LaneFits s role next → FitsRole s role left held stage → FitsRole s role left to next
  fits_stage left held to stage next hold acts draining lane fits = record { tasks = fits.tasks; soft = fits.soft; hold = hold; acts = acts; draining = draining; lane = lane }

-- ---- a step without a note

-- a cursor's fields
abbrev pub place : (left : List Task) (number now : ℕ) (held : Option Held) (stage : Stage) (removed : Option ℕ) (parcel : Option PendingInsert) → Cursor
place left number now held stage removed parcel = record { left = left; act = number; now = now; hold = held; stage = stage; removed = removed; parcel = parcel }

-- the place fits
abbrev pub Fits : Script → Role → Cursor → Type 0
Fits s role c = FitsRole s role c.left c.hold c.stage

-- what is left after the acts of a function
fits_firing : (s : Script) (role : Role) (left : List Task) (held to : Option Held) (stage : Stage) (v : InService) (acts : List Act) → IsServer role → to ≡ hold_within (spec_at s v.i) →
    AllByRecursion (λ act. is_call act ≡ true) acts → is_direct (are_direct s) v.i ≡ serves_direct role → FitsRole s role left held stage → FitsRole s role left to (firing v to acts)
fits_firing s role left held to stage v (act ∷ acts) server is calls lane fits = fits_stage s role left held to stage (Firing v (act ∷ acts)) (hold_server s role to (Firing v (act ∷ acts)) server is) calls tt lane fits
fits_firing s role left held None stage v [] server is calls lane fits = fits_stage s role left held None stage (Ending v) (hold_server s role None (Ending v) server refl) tt tt lane fits
fits_firing s role left held (Some x) stage v [] server is calls lane fits =
    fits_stage s role left held (Some x) stage (Releasing v) (hold_server s role (Some x) (Releasing v) server (x, refl, locked (spec_at s v.i) is)) tt tt lane fits where
      locked : (spec : Spec) → Some x ≡ hold_within spec → hold_of spec.lock ≡ Some x
      locked spec e = go spec.returns_unlocked e where
        go : (b : Bool) → Some x ≡ cond b None (hold_of spec.lock) → hold_of spec.lock ≡ Some x
        go true h = cc
        go false h = sym h

locks : (lock : LockUse) → has_lock lock ≡ true → (held : Held) × (hold_of lock ≡ Some held)
locks Free is = cc
locks (Mtx id) is = (record { id = id; exclusive = true }, refl)
locks (Rw id) is = (record { id = id; exclusive = true }, refl)
locks (RwShared id) is = (record { id = id; exclusive = false }, refl)

none_within : (spec : Spec) → has_lock spec.lock ≡ false → hold_within spec ≡ None
none_within spec is = go spec.returns_unlocked (hold_of spec.lock) (free spec.lock is) where
  free : (lock : LockUse) → has_lock lock ≡ false → hold_of lock ≡ None
  free Free h = refl
  free (Mtx id) h = cc
  free (Rw id) h = cc
  free (RwShared id) h = cc

  go : (b : Bool) (o : Option Held) → o ≡ None → cond b None o ≡ None
  go true o h = refl
  go false o h = h

-- a reply that neither arms nor waits ends the act
pub plain_called : (c : Cursor) (i : ℕ) (listed : Bool) (op : Op) (reply : Reply) → is_plain reply ≡ true → call_made c i listed op reply ≡ act_over c c.stage
plain_called c i true op (NotArmed code) plain = refl
plain_called c i true op NoHandler plain = refl
plain_called c i true op Worn plain = refl
plain_called c i true op (Stopped code gone) plain = refl
plain_called c i true op (IsDrained code gone) plain = refl
plain_called c i true op Busy plain = refl
plain_called c i true op Yes plain = refl
plain_called c i true op No plain = refl
plain_called c i true op Done plain = refl
plain_called c i true op (Go func arg) plain = refl
plain_called c i true op Hold plain = refl
plain_called c i true op Skip plain = refl
plain_called c i true op (Ended drain next woke) plain = refl
plain_called c i true op Live plain = refl
plain_called c i true op Retired plain = refl
plain_called c i true op (InUse armed serviced) plain = refl
plain_called c i true op (Armed code n cpu gone) plain = cc
plain_called c i true op (Wait n took gone) plain = cc
plain_called c i false op (NotArmed code) plain = refl
plain_called c i false op NoHandler plain = refl
plain_called c i false op Worn plain = refl
plain_called c i false op (Stopped code gone) plain = refl
plain_called c i false op (IsDrained code gone) plain = refl
plain_called c i false op Busy plain = refl
plain_called c i false op Yes plain = refl
plain_called c i false op No plain = refl
plain_called c i false op Done plain = refl
plain_called c i false op (Go func arg) plain = refl
plain_called c i false op Hold plain = refl
plain_called c i false op Skip plain = refl
plain_called c i false op (Ended drain next woke) plain = refl
plain_called c i false op Live plain = refl
plain_called c i false op Retired plain = refl
plain_called c i false op (InUse armed serviced) plain = refl
plain_called c i false op (Armed code n cpu gone) plain = cc
plain_called c i false op (Wait n took gone) plain = cc

-- a stage in which an act is made
abbrev pub is_acting : Stage → Bool
is_acting Ready = true
is_acting (Waiting n took) = true
is_acting (Firing v acts) = true
is_acting (Drained v acts) = true
is_acting stage = false

waiting_hold : (s : Script) (role : Role) (held : Option Held) (m n : ℕ) (before after : Bool) → HoldFits s role held (Waiting m before) → HoldFits s role held (Waiting n after)
waiting_hold s (Client c) held m n before after h = h
waiting_hold s (Cpu x) held m n before after h = absurd h
waiting_hold s (Interrupt x) held m n before after h = absurd h

waiting_ready : (s : Script) (role : Role) (held : Option Held) (n : ℕ) (took : Bool) → HoldFits s role held (Waiting n took) → HoldFits s role held Ready
waiting_ready s (Client c) held n took h = tt
waiting_ready s (Cpu x) held n took h = absurd h
waiting_ready s (Interrupt x) held n took h = absurd h

fits_draining : (s : Script) (role : Role) (left : List Task) (held : Option Held) (stage : Stage) (v : InService) (acts : List Act) → IsServer role → held ≡ None →
    AllByRecursion (λ act. is_call act ≡ true) acts → FitsRole s role left held stage → FitsRole s role left held (draining v acts)
fits_draining s role left held stage v [] server is calls fits = fits_stage s role left held held stage (Popping v.act) (hold_server s role held (Popping v.act) server is) tt tt tt fits
fits_draining s role left held stage v (act ∷ acts) server is calls fits = fits_stage s role left held held stage (Drained v (act ∷ acts)) (hold_server s role held (Drained v (act ∷ acts)) server is) calls tt tt fits

pub first_task : (P : Task → Type 0) (left more : List Task) (task : Task) → left ≡ task ∷ more → AllByRecursion P left → P task
first_task P [] more task is h = cc
first_task P (x ∷ xs) more task is h = let same : x ≡ task = cc in subst P same h.0

tail_is : (left more : List Task) (task : Task) → left ≡ task ∷ more → tail_of left ≡ more
tail_is left more task is = ap tail_of is

-- a Pop or a Free leads on alike in both lanes
pub pop_goes : (s : Script) (role : Role) (c : Cursor) (cpu : ℕ) (reply : QReply) → advance_queue s c cpu (pop_of role) reply ≡ popped c reply c.stage
pop_goes s (Client k) c cpu reply = refl
pop_goes s (Cpu x) c cpu reply = refl
pop_goes s (Interrupt x) c cpu reply = refl

pub free_goes : (s : Script) (role : Role) (c : Cursor) (cpu : ℕ) (reply : QReply) → advance_queue s c cpu (free_of role) reply ≡ freed s c c.stage
free_goes s (Client k) c cpu reply = refl
free_goes s (Cpu x) c cpu reply = refl
free_goes s (Interrupt x) c cpu reply = refl

module _ (s : Script) (ok : IsScript s) (role : Role) (left : List Task) (number now : ℕ) (held : Option Held) (removed : Option ℕ) (parcel : Option PendingInsert) where
  abbrev at : Stage → Cursor
  at stage = place left number now held stage removed parcel

  pub fits_silent : (stage : Stage) (to : Cursor) → IsAction s role (at stage) stage (Silent to) → FitsRole s role left held stage → Fits s role to
  fits_silent stage to (drops is some) fits = record { tasks = tt; soft = subst (AreSoft s role) is fits.soft; hold = none_ready s role; acts = tt; draining = tt; lane = tt }
  fits_silent stage to (passes task more time to_hold is own) fits =
      let client : (c : ℕ) × (role ≡ Client c) = clients_act s role task own (first_task (IsTaskOf s role) left more task is fits.tasks) in
      subst (λ (xs : List Task). FitsRole s role xs to_hold Ready) (tail_is left more task is) (fits_ready s role left held to_hold stage (client_ready s role to_hold client.0 client.1) fits)
  fits_silent stage to (unlocks v acts) fits =
      let server : IsServer role = is_server s role held (Unlocking v acts) refl fits.hold in
      let within : ServerHold s held (Unlocking v acts) = server_hold s role held (Unlocking v acts) server fits.hold in
      fits_firing s role left held None stage v acts server (ap (λ (b : Bool). cond b None (hold_of (spec_at s v.i).lock)) (sym within.0)) fits.acts fits.lane fits
  fits_silent stage to (releases v) fits =
      let server : IsServer role = is_server s role held (Releasing v) refl fits.hold in
      fits_stage s role left held None stage (Ending v) (hold_server s role None (Ending v) server refl) tt tt fits.lane fits

  pub fits_take : (stage : Stage) (to : Cursor) (held' : Held) → IsAction s role (at stage) stage (Take held' to) → FitsRole s role left held stage → Fits s role to
  fits_take stage to held' (grabs task more x is own none) fits =
      let client : (c : ℕ) × (role ≡ Client c) = clients_act s role task own (first_task (IsTaskOf s role) left more task is fits.tasks) in
      subst (λ (xs : List Task). FitsRole s role xs (Some x) Ready) (tail_is left more task is) (fits_ready s role left held (Some x) stage (client_ready s role (Some x) client.0 client.1) fits)
  fits_take stage to held' (enters v x is) fits =
      let server : IsServer role = is_server s role held (Locking v) refl fits.hold in
      fits_stage s role left held (Some x) stage (Beginning v) (hold_server s role (Some x) (Beginning v) server (x, refl, is)) tt tt fits.lane fits

  -- ---- a note

  -- after an act
  pub fits_over : (x : Stage) → is_acting x ≡ true → FitsRole s role left held x → Fits s role (act_over (at x) x)
  fits_over Ready h f = fits_ready s role left held held Ready f.hold f
  fits_over (Waiting n took) h f = fits_ready s role left held held (Waiting n took) (waiting_ready s role held n took f.hold) f
  fits_over (Firing v (act ∷ acts)) h f =
      let server : IsServer role = is_server s role held (Firing v (act ∷ acts)) refl f.hold in
      fits_firing s role left held held (Firing v (act ∷ acts)) v acts server (server_hold s role held (Firing v (act ∷ acts)) server f.hold) f.acts.1 f.lane f
  fits_over (Drained v (act ∷ acts)) h f =
      let server : IsServer role = is_server s role held (Drained v (act ∷ acts)) refl f.hold in
      fits_draining s role left held (Drained v (act ∷ acts)) v acts server (server_hold s role held (Drained v (act ∷ acts)) server f.hold) f.acts.1 f
  fits_over (Firing v []) h f = absurd f.acts
  fits_over (Drained v []) h f = absurd f.acts
  fits_over (Popping act) h f = cc
  fits_over (Picking v) h f = cc
  fits_over (Locking v) h f = cc
  fits_over (Beginning v) h f = cc
  fits_over (Unlocking v acts) h f = cc
  fits_over (Releasing v) h f = cc
  fits_over (Ending v) h f = cc
  fits_over (Freeing v drain next) h f = cc

  wait_fits : (stage : Stage) (act i n : ℕ) (took took' : Bool) → IsAction s role (at stage) stage (Asks act (Callout i (Call (DrainTry took)))) → FitsRole s role left held stage → FitsRole s role left held (Waiting n took')
  wait_fits stage act i n took took' (drains j more is none) fits =
      let client : (c : ℕ) × (role ≡ Client c) = clients_act s role (Does (Drain j)) refl (first_task (IsTaskOf s role) left more (Does (Drain j)) is fits.tasks) in
      fits_stage s role left held held stage (Waiting n took') (subst (λ (r : Role). HoldFits s r held (Waiting n took')) (sym client.1) none) tt (subst BeginsDrain (sym is) tt) tt fits
  wait_fits stage act i n took took' (waits m before none) fits = record { tasks = fits.tasks; soft = fits.soft; hold = waiting_hold s role held m n before took' fits.hold; acts = tt; draining = fits.draining; lane = tt }

  fits_called : (stage : Stage) (act i : ℕ) (op : CallOp) (listed : Bool) (state after : State) (reply : Reply) → IsAction s role (at stage) stage (Asks act (Callout i (Call op))) → Did (spec_at s i) state (Call op) reply after →
      is_acting stage ≡ true → FitsRole s role left held stage → Fits s role (call_made (at stage) i listed (Call op) reply)
  fits_called stage act i op listed state after reply view (keeps x r t same on plain none) acting fits =
      subst (Fits s role) (sym (plain_called (at stage) i listed (Call op) reply plain)) (fits_over stage acting fits)
  fits_called stage act i op listed state after reply view (clears x r t same on plain none) acting fits =
      subst (Fits s role) (sym (plain_called (at stage) i listed (Call op) reply plain)) (fits_over stage acting fits)
  fits_called stage act i op listed state after reply view (deed.waits took took' n t same on is) acting fits = waited listed where
    waited : (b : Bool) → Fits s role (call_made (at stage) i b (Call (DrainTry took)) (Wait n took' (off state)))
    waited true = wait_fits stage act i n took took' view fits
    waited false = wait_fits stage act i n took took' view fits
  fits_called stage act i op listed state after reply view (arms x code arming t same due on) acting fits = armed listed where
    armed : (b : Bool) → Fits s role (call_made (at stage) i b (Call (Plain x)) (Armed code arming.n arming.cpu (off state)))
    armed true = record { tasks = over.tasks; soft = over.soft; hold = over.hold; acts = over.acts; draining = over.draining; lane = over.lane } where
      over : Fits s role (act_over (at stage) stage)
      over = fits_over stage acting fits
    armed false = fits_over stage acting fits

  pub fits_callout : (stage : Stage) (act i : ℕ) (op : Op) (listed : Bool) (state after : State) (reply : Reply) → IsAction s role (at stage) stage (Asks act (Callout i op)) → Did (spec_at s i) state op reply after →
      FitsRole s role left held stage → Fits s role (advance_callout s (at stage) i listed op reply stage)
  fits_callout stage act i op listed state after reply (asks task more j x is own) d fits = fits_called stage act i (Plain x) listed state after reply (asks task more j x is own) d refl fits
  fits_callout stage act i op listed state after reply (drains j more is none) d fits = fits_called stage act i (DrainTry false) listed state after reply (drains j more is none) d refl fits
  fits_callout stage act i op listed state after reply (waits n took none) d fits = fits_called stage act i (DrainTry took) listed state after reply (waits n took none) d refl fits
  fits_callout stage act i op listed state after reply (fires v x acts j p) d fits = fits_called stage act i (Plain p) listed state after reply (fires v x acts j p) d refl fits
  fits_callout stage act i op listed state after reply (serves v x acts j p) d fits = fits_called stage act i (Plain p) listed state after reply (serves v x acts j p) d refl fits
  fits_callout stage act i op listed state after reply (picks v) (holds n cpu time a t idle is_n is_cpu lock none runs) fits =
      let server : IsServer role = is_server s role held (Picking v) refl fits.hold in
      let free : held ≡ None = server_hold s role held (Picking v) server fits.hold in
      fits_stage s role left held held stage (Locking v) (hold_server s role held (Locking v) server (free, locks (spec_at s v.i).lock lock)) tt tt fits.lane fits
  fits_callout stage act i op listed state after reply (picks v) (goes n cpu time func arg t idle lock none runs) fits =
      let server : IsServer role = is_server s role held (Picking v) refl fits.hold in
      let free : held ≡ None = server_hold s role held (Picking v) server fits.hold in
      fits_firing s role left held held stage v (acts_at s.funcs func) server (free ∙ sym (none_within (spec_at s v.i) lock)) (ok.funcs func) fits.lane fits
  fits_callout stage act i op listed state after reply (opens v) (deed.begins n cpu func arg t same taken runs) fits = begun_at (spec_at s v.i).returns_unlocked refl where
    server : IsServer role
    server = is_server s role held (Beginning v) refl fits.hold

    under : ServerHold s held (Beginning v)
    under = server_hold s role held (Beginning v) server fits.hold

    begun_at : (b : Bool) → (spec_at s v.i).returns_unlocked ≡ b → Fits s role (record (at stage) { stage = cond b (Unlocking v (acts_at s.funcs func)) (firing v held (acts_at s.funcs func)) })
    begun_at true is = fits_stage s role left held held stage (Unlocking v (acts_at s.funcs func)) (hold_server s role held (Unlocking v (acts_at s.funcs func)) server (is, under.0, under.1, under.2)) (ok.funcs func) tt fits.lane fits
    begun_at false is = fits_firing s role left held held stage v (acts_at s.funcs func) server (under.1 ∙ sym under.2 ∙ sym (ap (λ (b : Bool). cond b None (hold_of (spec_at s v.i).lock)) is)) (ok.funcs func) fits.lane fits
  fits_callout stage act i op listed state after reply (opens v) (skips n cpu is) fits =
      let server : IsServer role = is_server s role held (Beginning v) refl fits.hold in
      fits_stage s role left held held stage (Releasing v) (hold_server s role held (Releasing v) server (server_hold s role held (Beginning v) server fits.hold)) tt tt fits.lane fits
  fits_callout stage act i op listed state after reply (ends v) (deed.ends n cpu t drain woke same runs over) fits =
      let server : IsServer role = is_server s role held (Ending v) refl fits.hold in
      fits_stage s role left held held stage (Freeing v drain (next_of state.armed (cpu_of s role))) (hold_server s role held (Freeing v drain (next_of state.armed (cpu_of s role))) server (server_hold s role held (Ending v) server fits.hold)) tt tt tt fits

  -- ---- a note of a queue's

  fits_got : (stage : Stage) (number' : ℕ) (reply : QReply) → IsServer role → HoldFits s role held Ready → held ≡ None → ((i n time : ℕ) → reply ≡ Got i n time → is_direct (are_direct s) i ≡ serves_direct role) → FitsRole s role left held stage →
      (m : ℕ) → Fits s role (pop_answered (place left m now held stage removed parcel) number' reply)
  fits_got stage number (Got i n time) server ready none lane fits m =
      fits_stage s role left held held stage (Picking (record { act = number; i = i; n = n; at = time })) (hold_server s role held (Picking (record { act = number; i = i; n = n; at = time })) server none) tt tt (lane i n time refl) fits
  fits_got stage number (At time) server ready none lane fits m = fits_ready s role left held held stage ready fits
  fits_got stage number Off server ready none lane fits m = fits_ready s role left held held stage ready fits
  fits_got stage number Missing server ready none lane fits m = fits_ready s role left held held stage ready fits
  fits_got stage number (Count n) server ready none lane fits m = fits_ready s role left held held stage ready fits
  fits_got stage number Empty server ready none lane fits m = fits_ready s role left held held stage ready fits
  fits_got stage number Freed server ready none lane fits m = fits_ready s role left held held stage ready fits

  -- the reply of a Pop is a callout of the actor's lane
  abbrev pub OfLane : QReply → Type 0
  OfLane reply = (i n time : ℕ) → reply ≡ Got i n time → is_direct (are_direct s) i ≡ serves_direct role

  ready_none : IsServer role → HoldFits s role held Ready → held ≡ None
  ready_none server h = server_hold s role held Ready server h

  pub pop_advance : (c : Cursor) (cpu : ℕ) (reply : QReply) → IsServer role → advance_queue s c cpu (pop_of role) reply ≡ popped c reply c.stage
  pop_advance c cpu reply server = pop_goes s role c cpu reply

  pub free_advance : (c : Cursor) (cpu : ℕ) (reply : QReply) → advance_queue s c cpu (free_of role) reply ≡ freed s c c.stage
  free_advance c cpu reply = free_goes s role c cpu reply

  none_calls : (drain : Option ℕ) → AllByRecursion (λ act. is_call act ≡ true) (drain_acts s drain)
  none_calls None = tt
  none_calls (Some func) = ok.funcs func

  pub fits_queue : (stage : Stage) (act cpu : ℕ) (op : QOp) (reply : QReply) → IsAction s role (at stage) stage (Asks act (Queue cpu op)) → OfLane reply → FitsRole s role left held stage → Fits s role (advance_queue s (at stage) cpu op reply)
  fits_queue stage act cpu op reply (scans time more is) lane fits =
      let server : IsServer role = servers_task s role (Does (Tick time)) refl (first_task (IsTaskOf s role) left more (Does (Tick time)) is fits.tasks) in
      fits_stage s role left held held stage (Popping number) (hold_server s role held (Popping number) server (ready_none server fits.hold)) tt tt tt fits
  fits_queue stage act cpu op reply (starts j more is) lane fits =
      let server : IsServer role = servers_task s role (Soft j) refl (first_task (IsTaskOf s role) left more (Soft j) is fits.tasks) in
      subst (Fits s role) (sym (pop_advance (at Ready) (cpu_of s role) reply server)) (fits_got stage number reply server fits.hold (ready_none server fits.hold) lane fits (number + 1))
  fits_queue stage act cpu op reply (pops number') lane fits =
      let server : IsServer role = is_server s role held (Popping number') refl fits.hold in
      let none : held ≡ None = server_hold s role held (Popping number') server fits.hold in
      subst (Fits s role) (sym (pop_advance (at (Popping number')) (cpu_of s role) reply server)) (fits_got stage number' reply server (hold_server s role held Ready server none) none lane fits number)
  fits_queue stage act cpu op reply (frees v drain next) lane fits =
      let server : IsServer role = is_server s role held (Freeing v drain next) refl fits.hold in
      let none : held ≡ None = server_hold s role held (Freeing v drain next) server fits.hold in
      let drained : FitsRole s role left held (draining v (drain_acts s drain)) = fits_draining s role left held stage v (drain_acts s drain) server none (none_calls drain) fits in
      subst (Fits s role) (sym (free_advance (at (Freeing v drain next)) (cpu_of s role) reply))
      (record { tasks = drained.tasks; soft = drained.soft; hold = drained.hold; acts = drained.acts; draining = drained.draining; lane = drained.lane })
