-- What an actor's call names exists: its callout and its CPU.
use Rattle.std.proofs.Common.{◌≡◌, ℕ, zero, suc, ◌≤◌, ◌<◌, Bool, true, false, List, [], ◌∷◌, length, drop, refl, subst, arith, ltb-true, Option, Some, None}
use Rattle.std.specs.Prelude.{⊤, is_some}
use Rattle.std.specs.List.{AllByRecursion}
use Rattle.co_object.specs.declared.PlainOp.{PlainOp}
use Rattle.co_object.specs.declared.PlainOp.TheVariants as op
use Rattle.co_object.specs.declared.Op.TheVariants.{Call}
use Rattle.co_object.specs.declared.CallOp.{CallOp}
use Rattle.co_object.specs.declared.CallOp.TheVariants.{Plain, DrainTry}
use Rattle.co_object.specs.declared.OwnKind.TheVariants.{NotHeld, HoldsLock, Holding, NotHolding}
use Rattle.co_lock.specs.declared.held.Held.{Held}
use Rattle.co_lock.specs.Covers.{covers}
use Rattle.co_lock.specs.Service.{hold_of}
use Rattle.co_program.specs.declared.act.Act.{Act}
use Rattle.co_program.specs.declared.act.Act.TheVariants.{Now, Lock, ReadLock, Unlock, Drain, Tick}
use Rattle.co_program.specs.declared.act.Scene.{Scene}
use Rattle.co_program.specs.declared.role.Role.{Role}
use Rattle.co_program.specs.declared.program.Task.{Task}
use Rattle.co_program.specs.declared.program.Task.TheVariants.{Does, Soft}
use Rattle.co_program.specs.declared.cursor.InService.{InService}
use Rattle.co_program.specs.declared.cursor.PendingInsert.{PendingInsert}
use Rattle.co_program.specs.declared.cursor.Cursor.{Cursor as CursorAt}
use Rattle.co_program.specs.declared.cursor.Stage.{Stage as StageAt}
use Rattle.co_program.specs.declared.cursor.Stage.TheVariants as stage_at
use Rattle.co_program.specs.declared.action.Asked.TheVariants.{Callout, Itself}
use Rattle.co_program.specs.declared.script.Script.{Script}
use Rattle.co_program.specs.Actors.{actor_count, role_of, cpu_of, program_of, acts_at}
use Rattle.co_program.specs.Calls.{plain_op}
use Rattle.co_program.specs.Stages.{Stage, Ready, Waiting, Popping, Picking, Locking, Beginning, Unlocking, Firing, Releasing, Ending, Freeing, Drained}
use Rattle.co_program.specs.Cursor.{Cursor}
use Rattle.co_program.specs.Action.{Action, Nothing, Silent, Take, Asks, action_for, action_with, action_in, spec_at, asks_covered, asks_within, asks_drain, takes, begins_next, drained_of, over, locks}
use Rattle.co_program.specs.Existing.{IsCallout, IsCpu, TaskExists, ActsExist, CpuExists, PlainOpExists}
use Rattle.co_program.specs.Scripts.{IsScript, names_exist}
use Rattle.co_program.specs.Indexed.{cursor_of, stage_of}
use Rattle.co_program.proofs.Existing.{CallExists, call_in, start_in, cpu_in}
use Rattle.co_program.proofs.Homes.{IsBelow, NamesCpu}
use Rattle.co_world.specs.Placed.{stage_callout}
use Rattle.co_world.proofs.basics.Updates.{at_choice}

module _ (s : Script) where
  -- what a call names exists, and nothing is said of other actions
  abbrev pub Names : Action → Type 0
  Names (Asks act (Callout i (Call call))) = (i < length s.timers) × NamesCpu s.cpus call
  Names action = ⊤

  below : (cpu : Option ℕ) → CpuExists s cpu → IsBelow s.cpus cpu
  below None h = tt
  below (Some cpu) h = h

  named : (p : PlainOp) → PlainOpExists s p → NamesCpu s.cpus (Plain p)
  named (op.Reset due prec func arg cpu) h = below cpu h
  named (op.Schedule due prec cpu) h = below cpu h
  named p h = tt

  -- ---- one act

  module _ (at : Scene) (me : IsCallout s at.me) (here : IsCpu s at.here) where
    covered : (hold : Option Held) (n : ℕ) (call : Option (ℕ × PlainOp)) → CallExists s at here me call → Names (asks_covered s hold n call)
    covered hold n None h = tt
    covered hold n (Some (i, p)) h = at_choice Names (covers hold (spec_at s i) (Plain p)) (Asks n (Callout i (Call (Plain p)))) (Asks n (Itself NotHeld)) (λ e. (h.0, named p h.1)) (λ e. tt)

    call_names : (hold : Option Held) (n : ℕ) (act : Act) → names_exist s act ≡ true → Names (asks_covered s hold n (plain_op act s.hz at))
    call_names hold n act is = covered hold n (plain_op act s.hz at) (call_in s at here me act s.hz is)

  -- ---- a place in a program

  module _ (some : 1 ≤ length s.timers) (r : Role) (on : cpu_of s r < s.cpus) (c : Cursor) where
    drain_names : (i : ℕ) (took : Bool) → i < length s.timers → Names (asks_drain c i took)
    drain_names i took there = at_choice Names (is_some c.hold) (Asks c.act (Itself HoldsLock)) (Asks c.act (Callout i (Call (DrainTry took)))) (λ e. tt) (λ e. (there, tt))

    takes_names : (left : List Task) (held : Held) → Names (takes c left held)
    takes_names left held = at_choice Names (is_some c.hold) (Asks c.act (Itself Holding)) (Take held (over c left (Some held))) (λ e. tt) (λ e. tt)

    within_names : (v : InService) (acts : List Act) → v.i < length s.timers → ActsExist s acts → Names (asks_within s (cpu_of s r) c v acts)
    within_names v [] me names = tt
    within_names v (act ∷ acts) me names = call_names (record { time = v.at; here = cpu_of s r; me = v.i }) me on c.hold c.act act names.0

    does_names : (act : Act) (left : List Task) → names_exist s act ≡ true → Names (begins_next s r c (Does act ∷ left))
    does_names (Now time) left is = tt
    does_names (Lock id) left is = takes_names left (record { id = id; exclusive = true })
    does_names (ReadLock id) left is = takes_names left (record { id = id; exclusive = false })
    does_names Unlock left is = at_choice Names (is_some c.hold) (Silent (over c left None)) (Asks c.act (Itself NotHolding)) (λ e. tt) (λ e. tt)
    does_names (Drain i) left is = drain_names i false (ltb-true i (length s.timers) is)
    does_names (Tick time) left is = tt
    does_names act left is = call_names (record { time = c.now; here = cpu_of s r; me = 0 }) (omega arith) on c.hold c.act act is

    begins_names : (left : List Task) → AllByRecursion (TaskExists s) left → Names (begins_next s r c left)
    begins_names [] all = at_choice Names (is_some c.hold) (Silent (record c { left = []; hold = None; stage = Ready })) Nothing (λ e. tt) (λ e. tt)
    begins_names (Does act ∷ left) all = does_names act left all.0
    begins_names (Soft j ∷ left) all = tt

    drained_there : (left : List Task) → AllByRecursion (TaskExists s) left → drained_of left < length s.timers
    drained_there [] all = omega arith
    drained_there (Soft j ∷ left) all = omega arith
    drained_there (Does (Drain i) ∷ left) all = ltb-true i (length s.timers) all.0
    drained_there (Does act ∷ left) all = omega arith

    lock_names : (v : InService) (hold : Option Held) → Names (locks s c v hold)
    lock_names v None = tt
    lock_names v (Some held) = tt

    -- the acts of a stage
    abbrev StageNames : Stage → Type 0
    StageNames (Firing v acts) = ActsExist s acts
    StageNames (Drained v acts) = ActsExist s acts
    StageNames stage = ⊤

    in_names : (stage : Stage) → AllByRecursion (TaskExists s) c.left → StageNames stage → ((i : ℕ) → stage_callout stage ≡ Some i → i < length s.timers) → Names (action_in s r c stage)
    in_names Ready left acts me = begins_names c.left left
    in_names (Waiting n took) left acts me = drain_names (drained_of c.left) took (drained_there c.left left)
    in_names (Popping act) left acts me = tt
    in_names (Picking v) left acts me = tt
    in_names (Locking v) left acts me = lock_names v (hold_of (spec_at s v.i).lock)
    in_names (Beginning v) left acts me = tt
    in_names (Unlocking v x) left acts me = tt
    in_names (Firing v x) left acts me = within_names v x (me v.i refl) acts
    in_names (Releasing v) left acts me = tt
    in_names (Ending v) left acts me = tt
    in_names (Freeing v drain next) left acts me = tt
    in_names (Drained v x) left acts me = within_names v x (me v.i refl) acts

    pub place_names : (parcel : Option PendingInsert) → AllByRecursion (TaskExists s) c.left → StageNames c.stage → ((i : ℕ) → stage_callout c.stage ≡ Some i → i < length s.timers) → Names (action_with s r c parcel)
    place_names (Some p) left acts me = tt
    place_names None left acts me = in_names c.stage left acts me

  -- ---- a place by index

  all_drop : {X : Type 0} (P : X → Type 0) (n : ℕ) (xs : List X) → AllByRecursion P xs → AllByRecursion P (drop n xs)
  all_drop P zero xs all = all
  all_drop P (suc n) [] all = all
  all_drop P (suc n) (x ∷ xs) all = all_drop P n xs all.1

  pub role_cpu : IsScript s → (a : ℕ) → a < actor_count s → cpu_of s (role_of s a) < s.cpus
  role_cpu ok a may = cpu_in s ok a may

  pub cursor_names : IsScript s → (a : ℕ) → a < actor_count s → (c : CursorAt) → ((i : ℕ) → stage_callout (cursor_of s a c).stage ≡ Some i → i < length s.timers) → Names (action_for s a (cursor_of s a c))
  cursor_names ok a may c me =
      place_names ok.timers.0 (role_of s a) (role_cpu ok a may) (cursor_of s a c) (cursor_of s a c).parcel (all_drop (TaskExists s) c.task (program_of s (role_of s a)) (start_in s ok a).left) (stage_names c.stage) me where
        stage_names : (stage : StageAt) → StageNames ok.timers.0 (role_of s a) (role_cpu ok a may) (cursor_of s a c) (stage_of s stage)
        stage_names (stage_at.Firing v left) = all_drop (λ act. names_exist s act ≡ true) left.done (acts_at s.funcs left.func) (ok.funcs_name left.func)
        stage_names (stage_at.Drained v left) = all_drop (λ act. names_exist s act ≡ true) left.done (acts_at s.funcs left.func) (ok.funcs_name left.func)
        stage_names stage_at.Ready = tt
        stage_names (stage_at.Waiting n took) = tt
        stage_names (stage_at.Popping act) = tt
        stage_names (stage_at.Picking v) = tt
        stage_names (stage_at.Locking v) = tt
        stage_names (stage_at.Beginning v) = tt
        stage_names (stage_at.Unlocking v left) = tt
        stage_names (stage_at.Releasing v) = tt
        stage_names (stage_at.Ending v) = tt
        stage_names (stage_at.Freeing v drain next) = tt

  -- a call that is due names what exists
  pub names_of : (a act i : ℕ) (c : Cursor) (call : CallOp) → Names (action_for s a c) → action_for s a c ≡ Asks act (Callout i (Call call)) → (i < length s.timers) × NamesCpu s.cpus call
  names_of a act i c call names is = subst Names is names
