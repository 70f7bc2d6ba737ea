-- The room that is left after a step is enough for what the service still wants; and which questions are never due between
-- two sections.
use Rattle.std.proofs.Common.{◌≡◌, ℕ, ◌+◌, ◌*◌, ◌≤◌, Bool, true, false, List, [], ◌∷◌, length, refl, Option, Some, None, arith}
use Rattle.co_object.specs.declared.Op.{Op}
use Rattle.co_object.specs.declared.Op.TheVariants.{Call, Run}
use Rattle.co_object.specs.declared.RunOp.TheVariants.{Pick, Begin, End}
use Rattle.co_object.specs.declared.QOp.{QOp}
use Rattle.co_object.specs.declared.QOp.TheVariants.{Insert, Remove, Scan, Pop, Free, PopDirect, FreeDirect}
use Rattle.co_object.specs.declared.Reply.{Reply}
use Rattle.co_lock.specs.declared.Held.{Held}
use Rattle.co_program.specs.declared.Script.{Script}
use Rattle.co_program.specs.declared.Act.{Act}
use Rattle.co_program.specs.declared.Role.{Role}
use Rattle.co_program.specs.declared.Role.TheVariants.{Client, Cpu, Interrupt}
use Rattle.co_program.specs.declared.InService.{InService}
use Rattle.co_program.specs.declared.Asked.TheVariants.{Callout, Queue}
use Rattle.co_program.specs.Stages.{Stage, Ready, Waiting, Popping, Picking, Locking, Beginning, Unlocking, Firing, Releasing, Ending, Freeing, Drained}
use Rattle.co_program.specs.Cursor.{Cursor}
use Rattle.co_program.specs.Action.{Silent, Take, Asks, action_for, firing, draining, pop_of}
use Rattle.co_program.specs.Actors.{role_of}
use Rattle.co_program.specs.Advance.{call_made, act_over}
use Rattle.co_world.proofs.basics.Actions.{IsAction, drops, passes, grabs, asks, drains, waits, scans, starts, pops, picks, enters, opens, unlocks, fires, releases, ends, frees, serves}
use Rattle.co_world.proofs.kept.Invariant.{IsBetween, HasActs}
use Rattle.co_world.proofs.kept.Stages.{is_acting}
use Rattle.co_run.specs.Acting.{CursorFits}
use Rattle.co_run.specs.Roomy.{is_serving, room_at}
use Rattle.co_run.proofs.places.AfterCalls.{called_kinds}
use Rattle.co_run.proofs.places.AfterSilentSteps.{stage_view}

-- ---- room

firing_left : (longest before after : ℕ) (v : InService) (hold : Option Held) (acts : List Act) → 3 * length acts + 6 + 3 * longest ≤ before → before ≤ after + 3 → room_at longest (firing v hold acts) ≤ after
firing_left longest before after v hold (act ∷ acts) enough spent = omega arith
firing_left longest before after v None [] enough spent = omega arith
firing_left longest before after v (Some held) [] enough spent = omega arith

draining_left : (longest before after : ℕ) (v : InService) (acts : List Act) → 3 * length acts + 3 ≤ before → before ≤ after + 3 → room_at longest (draining v acts) ≤ after
draining_left longest before after v [] enough spent = omega arith
draining_left longest before after v (act ∷ acts) enough spent = omega arith

-- an act makes at most three notes
over_room : (longest before after : ℕ) (c : Cursor) (stage : Stage) → is_acting stage ≡ true → HasActs stage → room_at longest stage ≤ before → before ≤ after + 3 → room_at longest (act_over c stage).stage ≤ after
over_room longest before after c Ready acting has enough spent = omega arith
over_room longest before after c (Waiting n took) acting has enough spent = omega arith
over_room longest before after c (Firing v []) acting has enough spent = absurd has
over_room longest before after c (Firing v (act ∷ acts)) acting has enough spent = firing_left longest before after v c.hold acts (omega arith) spent
over_room longest before after c (Drained v []) acting has enough spent = absurd has
over_room longest before after c (Drained v (act ∷ acts)) acting has enough spent = draining_left longest before after v acts (omega arith) spent
over_room longest before after c (Popping act) acting has enough spent = cc
over_room longest before after c (Picking v) acting has enough spent = cc
over_room longest before after c (Locking v) acting has enough spent = cc
over_room longest before after c (Beginning v) acting has enough spent = cc
over_room longest before after c (Unlocking v acts) acting has enough spent = cc
over_room longest before after c (Releasing v) acting has enough spent = cc
over_room longest before after c (Ending v) acting has enough spent = cc
over_room longest before after c (Freeing v drain next) acting has enough spent = cc

pub refused_room : (longest before after : ℕ) (s : Script) (a : ℕ) (c : Cursor) → CursorFits s a c → is_acting c.stage ≡ true → room_at longest c.stage ≤ before → before ≤ after + 3 → room_at longest (act_over c c.stage).stage ≤ after
refused_room longest before after s a c place acting enough spent = over_room longest before after c c.stage acting place.fits.acts enough spent

pub called_room : (longest before after : ℕ) (s : Script) (a : ℕ) (c : Cursor) (i : ℕ) (op : Op) (reply : Reply) → CursorFits s a c → is_acting c.stage ≡ true → room_at longest c.stage ≤ before → before ≤ after + 3 →
    room_at longest (call_made c i false op reply).stage ≤ after
called_room longest before after s a c i op reply place acting enough spent =
    called_kinds (λ (k : Cursor). room_at longest k.stage ≤ after) c i op reply (over_room longest before after c c.stage acting place.fits.acts enough spent) (λ n took. omega arith)

-- within a function there is room for the next act
act_room : (longest : ℕ) (stage : Stage) → is_serving stage ≡ true → HasActs stage → 3 ≤ room_at longest stage
act_room longest (Firing v []) h has = absurd has
act_room longest (Firing v (act ∷ acts)) h has = omega arith
act_room longest (Drained v []) h has = absurd has
act_room longest (Drained v (act ∷ acts)) h has = omega arith
act_room longest Ready h has = cc
act_room longest (Waiting n took) h has = cc
act_room longest (Popping act) h has = cc
act_room longest (Picking v) h has = cc
act_room longest (Locking v) h has = cc
act_room longest (Beginning v) h has = cc
act_room longest (Unlocking v acts) h has = cc
act_room longest (Releasing v) h has = cc
act_room longest (Ending v) h has = cc
act_room longest (Freeing v drain next) h has = cc

pub within_room : (longest : ℕ) (s : Script) (a : ℕ) (c : Cursor) → CursorFits s a c → is_serving c.stage ≡ true → 3 ≤ room_at longest c.stage
within_room longest s a c place h = act_room longest c.stage h place.fits.acts

firing_same : (longest : ℕ) (v : InService) (acts : List Act) → room_at longest (firing v None acts) ≤ 3 * length acts + 3 + 3 * longest
firing_same longest v [] = omega arith
firing_same longest v (act ∷ acts) = omega arith

silent_at : (longest : ℕ) (s : Script) (role : Role) (c : Cursor) (stage : Stage) (to : Cursor) → IsAction s role c stage (Silent to) → room_at longest to.stage ≤ room_at longest stage
silent_at longest s role c stage to (drops is some) = omega arith
silent_at longest s role c stage to (passes task left now hold is own) = omega arith
silent_at longest s role c stage to (unlocks v acts) = firing_same longest v acts
silent_at longest s role c stage to (releases v) = omega arith

pub silent_room : (longest : ℕ) (s : Script) (a : ℕ) (c to : Cursor) → CursorFits s a c → action_for s a c ≡ Silent to → room_at longest to.stage ≤ room_at longest c.stage
silent_room longest s a c to place is = silent_at longest s (role_of s a) c c.stage to (stage_view s a c (Silent to) place.parcel is)

take_at : (longest : ℕ) (s : Script) (role : Role) (c : Cursor) (stage : Stage) (held : Held) (to : Cursor) → IsAction s role c stage (Take held to) → room_at longest to.stage ≤ room_at longest stage
take_at longest s role c stage held to (grabs task left x is own none) = omega arith
take_at longest s role c stage held to (enters v x is) = omega arith

pub take_room : (longest : ℕ) (s : Script) (a : ℕ) (c to : Cursor) (held : Held) → CursorFits s a c → action_for s a c ≡ Take held to → room_at longest to.stage ≤ room_at longest c.stage
take_room longest s a c to held place is = take_at longest s (role_of s a) c c.stage held to (stage_view s a c (Take held to) place.parcel is)

-- the room that there is where a service begins and where it ends
abbrev pub IsWanted : ℕ → Stage → Op → Type 0
IsWanted longest stage (Run (Pick n cpu at)) = ⊥
IsWanted longest stage (Run (Begin n cpu)) = room_at longest stage ≡ 6 + 6 * longest
IsWanted longest stage (Run (End n cpu)) = room_at longest stage ≡ 3 + 3 * longest
IsWanted longest stage (Call op) = Unit {0}

begin_at : (longest : ℕ) (s : Script) (role : Role) (c : Cursor) (stage : Stage) (act i : ℕ) (op : Op) → IsAction s role c stage (Asks act (Callout i op)) → IsBetween stage → IsWanted longest stage op
begin_at longest s role c stage act i op (asks task left j x is own) between = tt
begin_at longest s role c stage act i op (drains j left is none) between = tt
begin_at longest s role c stage act i op (waits n took none) between = tt
begin_at longest s role c stage act i op (picks v) between = between
begin_at longest s role c stage act i op (opens v) between = refl
begin_at longest s role c stage act i op (fires v x acts j y) between = tt
begin_at longest s role c stage act i op (ends v) between = refl
begin_at longest s role c stage act i op (serves v x acts j y) between = tt

-- a Pick is never due then
pub callout_room : (longest : ℕ) (s : Script) (a : ℕ) (c : Cursor) (act i : ℕ) (op : Op) → CursorFits s a c → action_for s a c ≡ Asks act (Callout i op) → IsWanted longest c.stage op
callout_room longest s a c act i op place is = begin_at longest s (role_of s a) c c.stage act i op (stage_view s a c (Asks act (Callout i op)) place.parcel is) place.between

-- a CPU's queue is asked for a Scan or a Pop alone
abbrev pub IsAsking : QOp → Type 0
IsAsking (Scan now) = Unit {0}
IsAsking Pop = Unit {0}
IsAsking PopDirect = Unit {0}
IsAsking op = ⊥

pop_asks : (role : Role) → IsAsking (pop_of role)
pop_asks (Client k) = tt
pop_asks (Cpu x) = tt
pop_asks (Interrupt x) = tt

queue_at : (s : Script) (role : Role) (c : Cursor) (stage : Stage) (act cpu : ℕ) (op : QOp) → IsAction s role c stage (Asks act (Queue cpu op)) → IsBetween stage → IsAsking op
queue_at s role c stage act cpu op (scans time left is) between = tt
queue_at s role c stage act cpu op (starts j left is) between = pop_asks role
queue_at s role c stage act cpu op (pops m) between = pop_asks role
queue_at s role c stage act cpu op (frees v drain next) between = absurd between

pub queue_asks : (s : Script) (a : ℕ) (c : Cursor) (act cpu : ℕ) (op : QOp) → CursorFits s a c → action_for s a c ≡ Asks act (Queue cpu op) → IsAsking op
queue_asks s a c act cpu op place is = queue_at s (role_of s a) c c.stage act cpu op (stage_view s a c (Asks act (Queue cpu op)) place.parcel is) place.between

-- room for the notes of an act: a service has it, and who is in none asks for it
free_room : (longest : ℕ) (stage : Stage) → is_acting stage ≡ true → is_serving stage ≡ false → room_at longest stage ≡ 0
free_room longest Ready acting h = refl
free_room longest (Waiting n took) acting h = refl
free_room longest (Firing v acts) acting h = cc
free_room longest (Drained v acts) acting h = cc
free_room longest (Popping act) acting h = cc
free_room longest (Picking v) acting h = cc
free_room longest (Locking v) acting h = cc
free_room longest (Beginning v) acting h = cc
free_room longest (Unlocking v acts) acting h = cc
free_room longest (Releasing v) acting h = cc
free_room longest (Ending v) acting h = cc
free_room longest (Freeing v drain next) acting h = cc

pub made_room : (longest count before after : ℕ) (s : Script) (a : ℕ) (c : Cursor) → CursorFits s a c → is_acting c.stage ≡ true → count ≤ 3 → room_at longest c.stage ≤ before →
    (is_serving c.stage ≡ false → count ≤ after) → (is_serving c.stage ≡ true → after ≡ before) → (count ≤ after) × (room_at longest c.stage ≤ after)
made_room longest count before after s a c place acting few room free serving = at_test (is_serving c.stage) refl where
  at_test : (b : Bool) → is_serving c.stage ≡ b → (count ≤ after) × (room_at longest c.stage ≤ after)
  at_test true h = let same = serving h in let three = within_room longest s a c place h in (omega arith, omega arith)
  at_test false h = let enough = free h in let none = free_room longest c.stage acting h in (enough, omega arith)

-- nothing else is asked
pub only_asks : (op : QOp) → IsAsking op → ((now : ℕ) → op ≡ Scan now → ⊥) → (op ≡ Pop → ⊥) → (op ≡ PopDirect → ⊥) → ⊥
only_asks (Scan now) is scan pop direct = scan now refl
only_asks Pop is scan pop direct = pop refl
only_asks PopDirect is scan pop direct = direct refl
only_asks (Insert i n due) is scan pop direct = is
only_asks (Remove i) is scan pop direct = is
only_asks Free is scan pop direct = is
only_asks FreeDirect is scan pop direct = is
