-- The lock that an actor takes next, as its place tells, is that of its action.
use Rattle.std.proofs.Common.{◌≡◌, ℕ, zero, suc, ◌<◌, true, false, cond, List, [], ◌∷◌, length, drop, refl, sym, ap, ◌∙◌, subst, arith, lt-ltb, Option, Some, None}
use Rattle.std.specs.Prelude.{is_some, slice_get, slice_index_or}
use Rattle.std.specs.Option.{option_and_then, option_map}
use Rattle.std.proofs.lemmas.Option.{get_or_from_slice_get}
use Rattle.co_object.specs.declared.Spec.{Spec}
use Rattle.co_object.specs.declared.OwnKind.TheVariants.{Holding}
use Rattle.co_lock.specs.declared.held.Held.{Held}
use Rattle.co_lock.specs.Service.{hold_of}
use Rattle.co_program.specs.declared.act.Act.{Act}
use Rattle.co_program.specs.declared.act.Act.TheVariants.{Now, Lock, ReadLock, Unlock, Reset, Ticks, Schedule, Stop, Drain, AsyncDrain, Active, Pending, Deactivate, Init, Retire, Tick}
use Rattle.co_program.specs.declared.script.Script.{Script}
use Rattle.co_program.specs.declared.program.Task.{Task}
use Rattle.co_program.specs.declared.program.Task.TheVariants.{Does}
use Rattle.co_program.specs.declared.role.Role.{Role}
use Rattle.co_program.specs.declared.role.Role.TheVariants.{Client}
use Rattle.co_program.specs.declared.cursor.Cursor.{Cursor as CursorAt}
use Rattle.co_program.specs.declared.cursor.InService.{InService}
use Rattle.co_program.specs.declared.cursor.Stage.{Stage as StageAt}
use Rattle.co_program.specs.declared.cursor.Stage.TheVariants as at
use Rattle.co_program.specs.declared.action.Asked.TheVariants.{Itself}
use Rattle.co_program.specs.Actors.{role_of, client_count, acts_at, program_of}
use Rattle.co_program.specs.Stages.{Beginning}
use Rattle.co_program.specs.Cursor.{Cursor}
use Rattle.co_program.specs.Action.{Take, Asks, action_for, action_with, action_in, begins_next, locks, over, spec_at}
use Rattle.co_program.specs.Indexed.{cursor_of, stage_of}
use Rattle.co_program.proofs.Remaining.{first_does}
use Rattle.co_core.specs.Taking.{lock_taken_by}

pub none-there : {X : Type 0} (o : Option X) → is_some o ≡ false → o ≡ None
none-there None h = refl
none-there (Some x) h = cc

-- ---- a client's act

-- an act that takes a lock, where none is held
begins-lock : (s : Script) (role : Role) (c : Cursor) (ts : List Task) (act : Act) (held : Held) → lock_taken_by act ≡ Some held → c.hold ≡ None → (to : Cursor) × (begins_next s role c (Does act ∷ ts) ≡ Take held to)
begins-lock s role c ts (Now time) held is free = cc
begins-lock s role c ts (Lock id) held is free =
    let same : record { id = id; exclusive = true } ≡ held = cc in
    subst (λ (h : Held). (to : Cursor) × (begins_next s role c (Does (Lock id) ∷ ts) ≡ Take h to)) same
    (over c ts (Some (record { id = id; exclusive = true })), ap (λ (o : Option Held). cond (is_some o) (Asks c.act (Itself Holding)) (Take (record { id = id; exclusive = true }) (over c ts (Some (record { id = id; exclusive = true }))))) free)
begins-lock s role c ts (ReadLock id) held is free =
    let same : record { id = id; exclusive = false } ≡ held = cc in
    subst (λ (h : Held). (to : Cursor) × (begins_next s role c (Does (ReadLock id) ∷ ts) ≡ Take h to)) same
    (over c ts (Some (record { id = id; exclusive = false })), ap (λ (o : Option Held). cond (is_some o) (Asks c.act (Itself Holding)) (Take (record { id = id; exclusive = false }) (over c ts (Some (record { id = id; exclusive = false }))))) free)
begins-lock s role c ts Unlock held is free = cc
begins-lock s role c ts (Reset who func when arg cpu prec) held is free = cc
begins-lock s role c ts (Ticks who ticks func arg cpu) held is free = cc
begins-lock s role c ts (Schedule who when cpu prec) held is free = cc
begins-lock s role c ts (Stop who) held is free = cc
begins-lock s role c ts (Drain i) held is free = cc
begins-lock s role c ts (AsyncDrain who func) held is free = cc
begins-lock s role c ts (Active who) held is free = cc
begins-lock s role c ts (Pending who) held is free = cc
begins-lock s role c ts (Deactivate who) held is free = cc
begins-lock s role c ts (Init who) held is free = cc
begins-lock s role c ts (Retire who) held is free = cc
begins-lock s role c ts (Tick time) held is free = cc

begins-first : (s : Script) (role : Role) (c : Cursor) (left : List Task) (act : Act) (held : Held) → slice_get left 0 ≡ Some (Does act) → lock_taken_by act ≡ Some held → c.hold ≡ None → (to : Cursor) × (begins_next s role c left ≡ Take held to)
begins-first s role c [] act held first is free = cc
begins-first s role c (t ∷ ts) act held first is free =
    let same : t ≡ Does act = cc in
    subst (λ (x : Task). (to : Cursor) × (begins_next s role c (x ∷ ts) ≡ Take held to)) (sym same) (begins-lock s role c ts act held is free)

-- who has acts at its number is a client
has-acts : (lists : List (List Act)) (a n : ℕ) (act : Act) → slice_get (slice_index_or lists a []) n ≡ Some act → a < length lists
has-acts [] a n act is = cc
has-acts (x ∷ xs) zero n act is = omega arith
has-acts (x ∷ xs) (suc a) n act is = let rest = has-acts xs a n act is in omega (arith, rest)

client-role : (s : Script) (a : ℕ) → a < client_count s → role_of s a ≡ Client a
client-role s a below = rw (lt-ltb a (client_count s) below) refl

client-first : (s : Script) (a n : ℕ) (act : Act) → slice_get (acts_at s.clients a) n ≡ Some act → slice_get (drop n (program_of s (role_of s a))) 0 ≡ Some (Does act)
client-first s a n act is =
    ap (λ (r : Role). slice_get (drop n (program_of s r)) 0) (client-role s a (has-acts s.clients a n act is))
    ∙ (sym (first_does (acts_at s.clients a) n) ∙ ap (option_map Does) is)

-- with nothing on its way, the action is that of the stage
staged : (s : Script) (a : ℕ) (place : CursorAt) (stage : StageAt) → place.parcel ≡ None → place.stage ≡ stage → action_for s a (cursor_of s a place) ≡ action_in s (role_of s a) (cursor_of s a place) (stage_of s stage)
staged s a place stage empty at_stage =
    ap (action_with s (role_of s a) (cursor_of s a place)) empty ∙ ap (λ (x : StageAt). action_in s (role_of s a) (cursor_of s a place) (stage_of s x)) at_stage

act-of : (found : Option Act) (held : Held) → option_and_then lock_taken_by found ≡ Some held → (act : Act) × (found ≡ Some act) × (lock_taken_by act ≡ Some held)
act-of None held is = cc
act-of (Some act) held is = (act, refl, is)

pub client-takes : (s : Script) (a : ℕ) (place : CursorAt) (held : Held) → place.parcel ≡ None → place.hold ≡ None → place.stage ≡ at.Ready →
    option_and_then lock_taken_by (slice_get (acts_at s.clients a) place.task) ≡ Some held → (to : Cursor) × (action_for s a (cursor_of s a place) ≡ Take held to)
client-takes s a place held empty free ready is =
    let found = act-of (slice_get (acts_at s.clients a) place.task) held is in
    let first = client-first s a place.task found.0 found.1 in
    let takes = begins-first s (role_of s a) (cursor_of s a place) (drop place.task (program_of s (role_of s a))) found.0 held first found.2 free in
    (takes.0, staged s a place at.Ready empty ready ∙ takes.1)

-- ---- a service's lock

spec-of : (found : Option Spec) (held : Held) → option_and_then (λ (x : Spec). hold_of x.lock) found ≡ Some held → (spec : Spec) × (found ≡ Some spec) × (hold_of spec.lock ≡ Some held)
spec-of None held is = cc
spec-of (Some spec) held is = (spec, refl, is)

pub service-takes : (s : Script) (a : ℕ) (place : CursorAt) (v : InService) (held : Held) → place.parcel ≡ None → place.stage ≡ at.Locking v →
    option_and_then (λ (x : Spec). hold_of x.lock) (slice_get s.timers v.i) ≡ Some held → (to : Cursor) × (action_for s a (cursor_of s a place) ≡ Take held to)
service-takes s a place v held empty locking is =
    let found = spec-of (slice_get s.timers v.i) held is in
    let spec = get_or_from_slice_get s.timers v.i found.0 _ found.1 in
    let hold : hold_of (spec_at s v.i).lock ≡ Some held = ap (λ (x : Spec). hold_of x.lock) spec ∙ found.2 in
    (record (cursor_of s a place) { hold = Some held; stage = Beginning v }, staged s a place (at.Locking v) empty locking ∙ ap (locks s (cursor_of s a place) v) hold)
