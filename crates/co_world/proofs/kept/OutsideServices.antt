-- What a step that is no turn of a service keeps of an actor's stage.
use Rattle.std.proofs.Common.{◌≡◌, ℕ, Bool, true, false, List, [], ◌∷◌, length, refl, sym, ap, ◌∙◌, Option, Some, None}
use Rattle.std.specs.Prelude.{⊤}
use Rattle.co_object.specs.declared.Run.{Run}
use Rattle.co_object.specs.declared.Run.TheVariants as run
use Rattle.co_object.specs.declared.State.{State}
use Rattle.co_object.specs.declared.Op.TheVariants.{Call}
use Rattle.co_object.specs.declared.CallOp.{CallOp}
use Rattle.co_object.specs.declared.OwnKind.{OwnKind}
use Rattle.co_lock.specs.declared.held.Held.{Held}
use Rattle.co_program.specs.declared.Script.{Script}
use Rattle.co_program.specs.declared.Act.{Act}
use Rattle.co_program.specs.declared.Act.TheVariants.{Drain}
use Rattle.co_program.specs.declared.Task.{Task}
use Rattle.co_program.specs.declared.Task.TheVariants.{Does}
use Rattle.co_program.specs.declared.Role.{Role}
use Rattle.co_program.specs.declared.Role.TheVariants.{Client, Cpu, Interrupt}
use Rattle.co_program.specs.Stages.{Stage, Ready, Waiting, Popping, Picking, Locking, Beginning, Unlocking, Firing, Releasing, Ending, Freeing, Drained}
use Rattle.co_program.specs.declared.InService.{InService}
use Rattle.co_program.specs.Cursor.{Cursor}
use Rattle.co_program.specs.declared.PendingInsert.{PendingInsert}
use Rattle.co_program.specs.Action.{Silent, Take, Asks, firing, draining}
use Rattle.co_program.specs.declared.Asked.TheVariants.{Callout, Itself}
use Rattle.co_program.specs.Advance.{act_over, tail_of}
use Rattle.co_world.proofs.kept.Invariant.{RunFits, IsRunning, IsOver, HoldFits, FitsRole, IsTaskOf, service_of, has_popped, under_way, in_stage}
use Rattle.co_world.proofs.basics.Actions.{IsAction, drops, passes, grabs, tells, asks, drains, waits, waits_told, enters, unlocks, fires, fires_told, releases, serves, serves_told, is_clients}
use Rattle.co_world.proofs.kept.Stages.{place, is_acting, first_task}
use Rattle.co_world.proofs.kept.Servers.{clients_act}

-- from one stage to the next, with what is left
pub record SameTurn (role : Role) (left : List Task) (stage : Stage) (left' : List Task) (stage' : Stage) : Type 0 where
  pub service : service_of stage' ≡ service_of stage
  pub popped : has_popped stage' ≡ has_popped stage
  pub runs : (states : ℕ → State) (cpu : ℕ) → RunFits states cpu stage → RunFits states cpu stage'
  pub ticks : (x : ℕ) → role ≡ Interrupt x → (length left' ≡ length left) × (under_way stage' ≡ under_way stage)
  pub hands : (cpu : ℕ) → (in_stage cpu stage ≡ None) × (in_stage cpu stage' ≡ None)

pub running_over : (r : Run) (n cpu : ℕ) → IsRunning r n cpu → IsOver r n cpu
running_over run.Idle n cpu h = absurd h
running_over (run.Picked a) n cpu h = absurd h
running_over (run.Cancelled m at) n cpu h = absurd h
running_over (run.Running m at) n cpu h = h

-- a function that runs
pub record Runs (v : InService) (stage : Stage) : Type 0 where
  pub service : service_of stage ≡ Some v
  pub popped : has_popped stage ≡ true
  pub runs : (states : ℕ → State) (cpu : ℕ) → IsRunning (states v.i).run v.n cpu → RunFits states cpu stage
  pub under : under_way stage ≡ 1
  pub hands : (cpu : ℕ) → in_stage cpu stage ≡ None

pub firing_runs : (v : InService) (held : Option Held) (acts : List Act) → Runs v (firing v held acts)
firing_runs v held (act ∷ acts) = record { service = refl; popped = refl; runs = λ states cpu h. h; under = refl; hands = λ cpu. refl }
firing_runs v None [] = record { service = refl; popped = refl; runs = λ states cpu h. running_over (states v.i).run v.n cpu h; under = refl; hands = λ cpu. refl }
firing_runs v (Some held) [] = record { service = refl; popped = refl; runs = λ states cpu h. running_over (states v.i).run v.n cpu h; under = refl; hands = λ cpu. refl }

pub same_running : (role : Role) (left : List Task) (stage next : Stage) (v : InService) → service_of stage ≡ Some v → has_popped stage ≡ true → ((states : ℕ → State) (cpu : ℕ) → RunFits states cpu stage → IsRunning (states v.i).run v.n cpu) →
    under_way stage ≡ 1 → ((cpu : ℕ) → in_stage cpu stage ≡ None) → Runs v next → SameTurn role left stage left next
same_running role left stage next v service popped runs under hands new = record {
  service = new.service ∙ sym service;
  popped = new.popped ∙ sym popped;
  runs = λ states cpu h. new.runs states cpu (runs states cpu h);
  ticks = λ x is. (refl, new.under ∙ sym under);
  hands = λ cpu. (hands cpu, new.hands cpu);
}

-- at rest before and after, and no tick of an interrupt
pub at_rest : (role : Role) (left left' : List Task) (stage stage' : Stage) → service_of stage ≡ None → service_of stage' ≡ None → has_popped stage ≡ false → has_popped stage' ≡ false → ((states : ℕ → State) (cpu : ℕ) → RunFits states cpu stage') →
    ((x : ℕ) → role ≡ Interrupt x → (length left' ≡ length left) × (under_way stage' ≡ under_way stage)) → ((cpu : ℕ) → (in_stage cpu stage ≡ None) × (in_stage cpu stage' ≡ None)) → SameTurn role left stage left' stage'
at_rest role left left' stage stage' a b c d runs ticks hands = record { service = b ∙ sym a; popped = d ∙ sym c; runs = λ states cpu h. runs states cpu; ticks = ticks; hands = hands }

-- a client ticks nobody
no_interrupt : {X : Type 0} (role : Role) (c x : ℕ) → role ≡ Client c → role ≡ Interrupt x → X
no_interrupt role c x is it = let clash : Client c ≡ Interrupt x = sym is ∙ it in cc

pub waiting_client : (s : Script) (role : Role) (held : Option Held) (n : ℕ) (took : Bool) → HoldFits s role held (Waiting n took) → (c : ℕ) × (role ≡ Client c)
waiting_client s (Client c) held n took h = (c, refl)
waiting_client s (Cpu x) held n took h = absurd h
waiting_client s (Interrupt x) held n took h = absurd h

module _ (s : Script) (role : Role) (left : List Task) (number now : ℕ) (held : Option Held) (removed : Option ℕ) (parcel : Option PendingInsert) where
  abbrev at : Stage → Cursor
  at stage = place left number now held stage removed parcel

  client_of : (stage : Stage) (task : Task) (more : List Task) → left ≡ task ∷ more → is_clients task ≡ true → FitsRole s role left held stage → (c : ℕ) × (role ≡ Client c)
  client_of stage task more is own fits = clients_act s role task own (first_task (IsTaskOf s role) left more task is fits.tasks)

  ready_next : (c : ℕ) (left' : List Task) → role ≡ Client c → SameTurn role left Ready left' Ready
  ready_next c left' client = at_rest role left left' Ready Ready refl refl refl refl (λ states cpu. tt) (λ x is. no_interrupt role c x client is) (λ cpu. (refl, refl))

  pub turn_silent : (stage : Stage) (to : Cursor) → IsAction s role (at stage) stage (Silent to) → FitsRole s role left held stage → SameTurn role left stage to.left to.stage × (to.parcel ≡ parcel)
  turn_silent stage to (drops is some) fits = (at_rest role left [] Ready Ready refl refl refl refl (λ states cpu. tt) (λ x e. (sym (ap length is), refl)) (λ cpu. (refl, refl)), refl)
  turn_silent stage to (passes task more time hold is own) fits = let client = client_of stage task more is own fits in (ready_next client.0 more client.1, refl)
  turn_silent stage to (unlocks v acts) fits = (same_running role left (Unlocking v acts) (firing v None acts) v refl refl (λ states cpu h. h) refl (λ cpu. refl) (firing_runs v None acts), refl)
  turn_silent stage to (releases v) fits = (record { service = refl; popped = refl; runs = λ states cpu h. h; ticks = λ x is. (refl, refl); hands = λ cpu. (refl, refl) }, refl)

  pub turn_take : (stage : Stage) (to : Cursor) (held' : Held) → IsAction s role (at stage) stage (Take held' to) → FitsRole s role left held stage → SameTurn role left stage to.left to.stage × (to.parcel ≡ parcel)
  turn_take stage to held' (grabs task more x is own none) fits = let client = client_of stage task more is own fits in (ready_next client.0 more client.1, refl)
  turn_take stage to held' (enters v x is) fits = (record { service = refl; popped = refl; runs = λ states cpu h. h; ticks = λ x is. (refl, refl); hands = λ cpu. (refl, refl) }, refl)

  -- a stage in which an act is made, by a client where it is between acts
  abbrev pub IsActing : Stage → Type 0
  IsActing Ready = (c : ℕ) × (role ≡ Client c)
  IsActing (Waiting n took) = (c : ℕ) × (role ≡ Client c)
  IsActing (Firing v acts) = ⊤
  IsActing (Drained v acts) = ⊤
  IsActing stage = ⊥

  pub acts_own : (stage : Stage) (act : ℕ) (kind : OwnKind) → IsAction s role (at stage) stage (Asks act (Itself kind)) → FitsRole s role left held stage → IsActing stage
  acts_own stage act kind (tells task more k is own) fits = client_of stage task more is own fits
  acts_own stage act kind (waits_told n took k some) fits = waiting_client s role held n took fits.hold
  acts_own stage act kind (fires_told v x acts k) fits = tt
  acts_own stage act kind (serves_told v x acts k) fits = tt

  pub acts_call : (stage : Stage) (act i : ℕ) (op : CallOp) → IsAction s role (at stage) stage (Asks act (Callout i (Call op))) → FitsRole s role left held stage → IsActing stage
  acts_call stage act i op (asks task more j x is own) fits = client_of stage task more is own fits
  acts_call stage act i op (drains j more is none) fits = client_of stage (Does (Drain j)) more is refl fits
  acts_call stage act i op (waits n took none) fits = waiting_client s role held n took fits.hold
  acts_call stage act i op (fires v x acts j p) fits = tt
  acts_call stage act i op (serves v x acts j p) fits = tt

  pub is_acting_of : (stage : Stage) → IsActing stage → is_acting stage ≡ true
  is_acting_of Ready h = refl
  is_acting_of (Waiting n took) h = refl
  is_acting_of (Firing v acts) h = refl
  is_acting_of (Drained v acts) h = refl
  is_acting_of (Popping act) h = absurd h
  is_acting_of (Picking v) h = absurd h
  is_acting_of (Locking v) h = absurd h
  is_acting_of (Beginning v) h = absurd h
  is_acting_of (Unlocking v acts) h = absurd h
  is_acting_of (Releasing v) h = absurd h
  is_acting_of (Ending v) h = absurd h
  is_acting_of (Freeing v drain next) h = absurd h

  draining_turn : (v : InService) (acts acts' : List Act) → SameTurn role left (Drained v acts) left (draining v acts')
  draining_turn v acts [] = at_rest role left left (Drained v acts) (Popping v.act) refl refl refl refl (λ states cpu. tt) (λ x e. (refl, refl)) (λ cpu. (refl, refl))
  draining_turn v acts (act ∷ acts') = at_rest role left left (Drained v acts) (Drained v (act ∷ acts')) refl refl refl refl (λ states cpu. tt) (λ x e. (refl, refl)) (λ cpu. (refl, refl))

  -- an act that is over
  pub turn_over : (stage : Stage) → IsActing stage → SameTurn role left stage (act_over (at stage) stage).left (act_over (at stage) stage).stage
  turn_over Ready h = ready_next h.0 (tail_of left) h.1
  turn_over (Waiting n took) h = at_rest role left (tail_of left) (Waiting n took) Ready refl refl refl refl (λ states cpu. tt) (λ x is. no_interrupt role h.0 x h.1 is) (λ cpu. (refl, refl))
  turn_over (Firing v acts) h = same_running role left (Firing v acts) (firing v held (tail_of acts)) v refl refl (λ states cpu k. k) refl (λ cpu. refl) (firing_runs v held (tail_of acts))
  turn_over (Drained v acts) h = draining_turn v acts (tail_of acts)
  turn_over (Popping act) h = absurd h
  turn_over (Picking v) h = absurd h
  turn_over (Locking v) h = absurd h
  turn_over (Beginning v) h = absurd h
  turn_over (Unlocking v acts) h = absurd h
  turn_over (Releasing v) h = absurd h
  turn_over (Ending v) h = absurd h
  turn_over (Freeing v drain next) h = absurd h

  -- a drain that waits, or waits again
  pub turn_wait : (stage : Stage) (n : ℕ) (took : Bool) → IsActing stage → service_of stage ≡ None → has_popped stage ≡ false → (c : ℕ) × (role ≡ Client c) → SameTurn role left stage left (Waiting n took)
  turn_wait stage n took acting none rest client = at_rest role left left stage (Waiting n took) none refl rest refl (λ states cpu. tt) (λ x is. no_interrupt role client.0 x client.1 is) (λ cpu. (at_hand stage acting cpu, refl)) where
    at_hand : (x : Stage) → IsActing x → (cpu : ℕ) → in_stage cpu x ≡ None
    at_hand Ready h cpu = refl
    at_hand (Waiting m t) h cpu = refl
    at_hand (Firing v acts) h cpu = refl
    at_hand (Drained v acts) h cpu = refl
    at_hand (Popping act) h cpu = absurd h
    at_hand (Picking v) h cpu = absurd h
    at_hand (Locking v) h cpu = absurd h
    at_hand (Beginning v) h cpu = absurd h
    at_hand (Unlocking v acts) h cpu = absurd h
    at_hand (Releasing v) h cpu = absurd h
    at_hand (Ending v) h cpu = absurd h
    at_hand (Freeing v drain next) h cpu = absurd h
