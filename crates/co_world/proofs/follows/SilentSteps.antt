-- The steps without a note come to an end, so that any count of them that is large enough leads to the same place.
use Rattle.std.proofs.Common.{◌≡◌, ℕ, zero, suc, ◌<◌, ◌≤◌, Bool, true, false, cond, List, [], ◌∷◌, length, refl, subst, ◌∙◌, ap, arith, Option, Some, None}
use Rattle.std.specs.Prelude.{⊤, is_some}
use Rattle.co_object.specs.declared.PlainOp.{PlainOp}
use Rattle.co_object.specs.declared.Op.TheVariants.{Call}
use Rattle.co_object.specs.declared.CallOp.TheVariants.{Plain, DrainTry}
use Rattle.co_object.specs.declared.OwnKind.TheVariants.{NotHeld, HoldsLock, Holding, NotHolding}
use Rattle.co_lock.specs.declared.Held.{Held}
use Rattle.co_lock.specs.Covers.{covers}
use Rattle.co_lock.specs.Service.{hold_of}
use Rattle.co_program.specs.declared.Script.{Script}
use Rattle.co_program.specs.declared.Act.{Act}
use Rattle.co_program.specs.declared.Act.TheVariants.{Now, Lock, ReadLock, Unlock, Drain, Tick}
use Rattle.co_program.specs.Calls.{plain_op}
use Rattle.co_program.specs.Actors.{role_of, cpu_of}
use Rattle.co_program.specs.declared.Task.{Task}
use Rattle.co_program.specs.declared.Task.TheVariants.{Does, Soft}
use Rattle.co_program.specs.declared.Role.{Role}
use Rattle.co_program.specs.Stages.{Stage, Ready, Waiting, Popping, Picking, Locking, Beginning, Unlocking, Firing, Releasing, Ending, Freeing, Drained}
use Rattle.co_program.specs.declared.InService.{InService}
use Rattle.co_program.specs.Cursor.{Cursor}
use Rattle.co_program.specs.declared.PendingInsert.{PendingInsert}
use Rattle.co_program.specs.Action.{Action, Nothing, Silent, Take, Asks, action_for, action_with, action_in, spec_at, firing, locks, asks_covered, asks_within, takes, asks_drain, begins_next, over, drained_of}
use Rattle.co_program.specs.declared.Asked.{Asked}
use Rattle.co_program.specs.declared.Asked.TheVariants.{Callout, Itself}
use Rattle.co_program.specs.Follows.{past, at_next_note}
use Rattle.co_world.proofs.basics.Updates.{cond_kept}

-- how many steps without a note there are at most before the next note
quiet_acts : List Task → Option Held → ℕ
quiet_acts [] None = 0
quiet_acts [] (Some held) = 1
quiet_acts (task ∷ tasks) hold = suc (suc (length tasks))

quiet_stage : Cursor → Stage → ℕ
quiet_stage c Ready = quiet_acts c.left c.hold
quiet_stage c (Locking v) = 1
quiet_stage c (Unlocking v acts) = 1
quiet_stage c (Releasing v) = 1
quiet_stage c stage = 0

quiet : Cursor → ℕ
quiet c = quiet_stage c c.stage

quiet_acts_bound : (tasks : List Task) (hold : Option Held) → quiet_acts tasks hold ≤ suc (length tasks)
unfolding quiet_acts
quiet_acts_bound [] None = omega arith
quiet_acts_bound [] (Some held) = omega arith
quiet_acts_bound (task ∷ tasks) hold = omega arith

quiet_stage_bound : (c : Cursor) (stage : Stage) → quiet_stage c stage ≤ suc (length c.left)
unfolding quiet_stage
quiet_stage_bound c Ready = quiet_acts_bound c.left c.hold
quiet_stage_bound c stage = omega arith

quiet_bound : (c : Cursor) → quiet c ≤ suc (length c.left)
unfolding quiet
quiet_bound c = quiet_stage_bound c c.stage

-- a step without a note leaves fewer of them
abbrev Fewer : ℕ → Action → Type 0
Fewer n Nothing = ⊤
Fewer n (Silent to) = quiet to < n
Fewer n (Take held to) = quiet to < n
Fewer n (Asks act asked) = ⊤

fewer_over : (c : Cursor) (left : List Task) (hold : Option Held) → quiet (over c left hold) < suc (suc (length left))
unfolding quiet quiet_stage
fewer_over c left hold = omega (arith, quiet_acts_bound left hold)

fewer_now : (c : Cursor) (left : List Task) (time : ℕ) → quiet (record (over c left c.hold) { now = time }) < suc (suc (length left))
unfolding quiet quiet_stage
fewer_now c left time = omega (arith, quiet_acts_bound left c.hold)

fewer_choice : (n : ℕ) (b : Bool) (x y : Action) → Fewer n x → Fewer n y → Fewer n (cond b x y)
fewer_choice n = cond_kept (Fewer n)

fewer_covered : (s : Script) (n : ℕ) (hold : Option Held) (act : ℕ) (call : Option (ℕ × PlainOp)) → Fewer n (asks_covered s hold act call)
fewer_covered s n hold act None = tt
fewer_covered s n hold act (Some (i, op)) = fewer_choice n (covers hold (spec_at s i) (Plain op)) (Asks act (Callout i (Call (Plain op)))) (Asks act (Itself NotHeld)) tt tt

fewer_within : (s : Script) (n cpu : ℕ) (c : Cursor) (v : InService) (acts : List Act) → Fewer n (asks_within s cpu c v acts)
fewer_within s n cpu c v [] = tt
fewer_within s n cpu c v (act ∷ acts) = fewer_covered s n c.hold c.act (plain_op act s.hz (record { time = v.at; here = cpu; me = v.i }))

fewer_takes : (c : Cursor) (left : List Task) (held : Held) → Fewer (suc (suc (length left))) (takes c left held)
fewer_takes c left held = fewer_choice _ (is_some c.hold) (Asks c.act (Itself Holding)) (Take held (over c left (Some held))) tt (fewer_over c left (Some held))

fewer_drain : (n : ℕ) (c : Cursor) (i : ℕ) (took : Bool) → Fewer n (asks_drain c i took)
fewer_drain n c i took = fewer_choice n (is_some c.hold) (Asks c.act (Itself HoldsLock)) (Asks c.act (Callout i (Call (DrainTry took)))) tt tt

fewer_end : (c : Cursor) (hold : Option Held) → Fewer (quiet_acts [] hold) (cond (is_some hold) (Silent (record c { left = []; hold = None; stage = Ready })) Nothing)
unfolding quiet quiet_stage quiet_acts
fewer_end c None = tt
fewer_end c (Some held) = omega arith

fewer_begins : (s : Script) (role : Role) (c : Cursor) (left : List Task) → Fewer (quiet_acts left c.hold) (begins_next s role c left)
unfolding quiet_acts
fewer_begins s role c [] = fewer_end c c.hold
fewer_begins s role c (Does (Now time) ∷ left) = fewer_now c left time
fewer_begins s role c (Does (Lock id) ∷ left) = fewer_takes c left (record { id = id; exclusive = true })
fewer_begins s role c (Does (ReadLock id) ∷ left) = fewer_takes c left (record { id = id; exclusive = false })
fewer_begins s role c (Does Unlock ∷ left) = fewer_choice (suc (suc (length left))) (is_some c.hold) (Silent (over c left None)) (Asks c.act (Itself NotHolding)) (fewer_over c left None) tt
fewer_begins s role c (Does (Drain i) ∷ left) = fewer_drain (suc (suc (length left))) c i false
fewer_begins s role c (Does (Tick time) ∷ left) = tt
fewer_begins s role c (Does act ∷ left) = fewer_covered s (suc (suc (length left))) c.hold c.act (plain_op act s.hz (record { time = c.now; here = cpu_of s role; me = 0 }))
fewer_begins s role c (Soft j ∷ left) = tt

fewer_locks : (s : Script) (c : Cursor) (v : InService) (hold : Option Held) → Fewer 1 (locks s c v hold)
unfolding quiet quiet_stage
fewer_locks s c v None = tt
fewer_locks s c v (Some held) = omega arith

fewer_firing : (c : Cursor) (v : InService) (acts : List Act) → quiet (record c { hold = None; stage = firing v None acts }) < 1
unfolding quiet quiet_stage
fewer_firing c v [] = omega arith
fewer_firing c v (act ∷ acts) = omega arith

fewer_ending : (c : Cursor) (v : InService) → quiet (record c { hold = None; stage = Ending v }) < 1
unfolding quiet quiet_stage
fewer_ending c v = omega arith

fewer_stage : (s : Script) (role : Role) (c : Cursor) (stage : Stage) → Fewer (quiet_stage c stage) (action_in s role c stage)
unfolding quiet_stage
fewer_stage s role c Ready = fewer_begins s role c c.left
fewer_stage s role c (Waiting n took) = fewer_drain 0 c (drained_of c.left) took
fewer_stage s role c (Popping act) = tt
fewer_stage s role c (Picking v) = tt
fewer_stage s role c (Locking v) = fewer_locks s c v (hold_of (spec_at s v.i).lock)
fewer_stage s role c (Beginning v) = tt
fewer_stage s role c (Unlocking v acts) = fewer_firing c v acts
fewer_stage s role c (Firing v acts) = fewer_within s 0 (cpu_of s role) c v acts
fewer_stage s role c (Releasing v) = fewer_ending c v
fewer_stage s role c (Ending v) = tt
fewer_stage s role c (Freeing v drain next) = tt
fewer_stage s role c (Drained v acts) = fewer_within s 0 (cpu_of s role) c v acts

fewer_with : (s : Script) (role : Role) (c : Cursor) (parcel : Option PendingInsert) → Fewer (quiet c) (action_with s role c parcel)
unfolding quiet
fewer_with s role c None = fewer_stage s role c c.stage
fewer_with s role c (Some p) = tt

fewer_due : (s : Script) (a : ℕ) (c : Cursor) → Fewer (quiet c) (action_for s a c)
fewer_due s a c = fewer_with s (role_of s a) c c.parcel

-- ---- any two counts that are large enough

past_alike : (s : Script) (a f g : ℕ) (c : Cursor) (due : Action) → Fewer (quiet c) due → quiet c ≤ f → quiet c ≤ g → past s a f c due ≡ past s a g c due
past_alike s a zero zero c due h f_enough g_enough = refl
past_alike s a zero (suc g) c Nothing h f_enough g_enough = refl
past_alike s a zero (suc g) c (Silent to) h f_enough g_enough = absurd (omega arith)
past_alike s a zero (suc g) c (Take held to) h f_enough g_enough = absurd (omega arith)
past_alike s a zero (suc g) c (Asks act asked) h f_enough g_enough = refl
past_alike s a (suc f) zero c Nothing h f_enough g_enough = refl
past_alike s a (suc f) zero c (Silent to) h f_enough g_enough = absurd (omega arith)
past_alike s a (suc f) zero c (Take held to) h f_enough g_enough = absurd (omega arith)
past_alike s a (suc f) zero c (Asks act asked) h f_enough g_enough = refl
past_alike s a (suc f) (suc g) c Nothing h f_enough g_enough = refl
past_alike s a (suc f) (suc g) c (Silent to) h f_enough g_enough = past_alike s a f g to (action_for s a to) (fewer_due s a to) (omega arith) (omega arith)
past_alike s a (suc f) (suc g) c (Take held to) h f_enough g_enough = past_alike s a f g to (action_for s a to) (fewer_due s a to) (omega arith) (omega arith)
past_alike s a (suc f) (suc g) c (Asks act asked) h f_enough g_enough = refl

at_next_by : (s : Script) (a : ℕ) (c to : Cursor) → quiet to < quiet c → past s a (length c.left) to (action_for s a to) ≡ at_next_note s a to
at_next_by s a c to h = past_alike s a (length c.left) (suc (length to.left)) to (action_for s a to) (fewer_due s a to) (omega (arith, quiet_bound c)) (quiet_bound to)

-- a step without a note does not change where the next note is made
pub at_next_silent : (s : Script) (a : ℕ) (c to : Cursor) → action_for s a c ≡ Silent to → at_next_note s a c ≡ at_next_note s a to
at_next_silent s a c to is =
    ap (past s a (suc (length c.left)) c) is ∙ at_next_by s a c to (subst (Fewer (quiet c)) is (fewer_due s a c))

pub at_next_take : (s : Script) (a : ℕ) (c to : Cursor) (held : Held) → action_for s a c ≡ Take held to → at_next_note s a c ≡ at_next_note s a to
at_next_take s a c to held is =
    ap (past s a (suc (length c.left)) c) is ∙ at_next_by s a c to (subst (Fewer (quiet c)) is (fewer_due s a c))

pub at_next_asks : (s : Script) (a : ℕ) (c : Cursor) (act : ℕ) (asked : Asked) → action_for s a c ≡ Asks act asked → at_next_note s a c ≡ c
at_next_asks s a c act asked is = ap (past s a (suc (length c.left)) c) is

pub at_next_nothing : (s : Script) (a : ℕ) (c : Cursor) → action_for s a c ≡ Nothing → at_next_note s a c ≡ c
at_next_nothing s a c is = ap (past s a (suc (length c.left)) c) is
