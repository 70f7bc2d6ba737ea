-- The generator: from a seed, a script of eight clients that make calls by chance on 64 callouts. All of it is our own.
use Rattle.std.specs.Prelude.{ℕ, zero, suc, ◌+◌, ◌*◌, ◌/◌, ◌%◌, ◌^◌, Bool, true, false, ◌==◌, nat_lt, if◌then◌else◌, List, [], ◌∷◌, map, Option, Some, None}
use Rattle.std.specs.List.{flat_map, range_with_len}
use Rattle.co_object.specs.declared.LockUse.{LockUse}
use Rattle.co_object.specs.declared.LockUse.TheVariants.{Free, Mtx, Rw, RwShared}
use Rattle.co_object.specs.declared.Spec.{Spec}
use Rattle.co_lock.specs.declared.LockKind.{LockKind}
use Rattle.co_lock.specs.declared.LockKind.TheVariants as lock
use Rattle.co_program.specs.declared.Act.{Act}
use Rattle.co_program.specs.declared.Act.TheVariants as act
use Rattle.co_program.specs.declared.Who.TheVariants.{Timer, Me}
use Rattle.co_program.specs.declared.When.TheVariants.{After}
use Rattle.co_program.specs.declared.Where.{Where}
use Rattle.co_program.specs.declared.Where.TheVariants.{Home, Cpu}
use Rattle.co_program.specs.declared.Script.{Script}
use Rattle.co_gen.specs.declared.choice.Choice.{Choice}
use Rattle.co_gen.specs.declared.choice.Kind.{Kind}
use Rattle.co_gen.specs.declared.choice.Kind.TheVariants as kind

-- the first n of these, counted from 0
abbrev pub first : {X : Type 0} → (ℕ → X) → ℕ → List X
first f n = map f (range_with_len 0 n)

-- ---- draws

-- the state after one more draw
abbrev pub next_state : ℕ → ℕ
next_state s = (s * 6364136223846793005 + 1442695040888963407) % 2 ^ 64

-- the state after so many draws
unfoldable pub state_after : ℕ → ℕ → ℕ
state_after seed zero = seed
state_after seed (suc k) = next_state (state_after seed k)

-- the draw that a state gives: a number below 2 ^ 31
abbrev pub draw_of : ℕ → ℕ
draw_of s = s / 2 ^ 33

-- draw k, counted from 0
abbrev pub draw : ℕ → ℕ → ℕ
draw seed k = draw_of (next_state (state_after seed k))

-- ---- the frame: locks, callouts and functions

-- mutexes and reader-writer locks take turns
abbrev pub group_kind : ℕ → LockKind
group_kind l = if l % 2 == 0 then lock.Mtx else lock.Rw

-- of four callouts the first has no lock, the others a mutex, a reader-writer lock and a mutex
abbrev pub lock_use : ℕ → LockUse
lock_use i = if i % 4 == 0 then Free
    else (if i % 4 == 1 then Mtx (2 * (i / 4 % 4))
    else (if i % 4 == 2 then Rw (2 * (i / 4 % 4) + 1)
    else Mtx (2 * (i / 4 % 4))))

-- the function of every fourth callout releases the lock itself
abbrev pub spec_of : ℕ → Spec
spec_of i = record { lock = lock_use i; returns_unlocked = i % 4 == 3; direct = false }

-- function 1 arms its callout again, function 2 asks whether it is armed, and the others do nothing
abbrev pub functions : List (List Act)
functions =
    []
    ∷ (act.Schedule Me (After 1073741824) Home 0 ∷ [])
    ∷ (act.Pending Me ∷ [])
    ∷ []
    ∷ []

-- ---- a client's groups of acts

-- the calls: three of eight are a reset
abbrev pub call_kind : ℕ → Kind
call_kind n = if nat_lt n 3 then kind.Reset
    else (if n == 3 then kind.Schedule
    else (if n == 4 then kind.Stop
    else (if n == 5 then kind.AsyncDrain
    else (if n == 6 then kind.Pending
    else kind.Drain))))

-- what a draw says of a group
abbrev pub choice_of : ℕ → Choice
choice_of d = record { timer = d % 64; kind = call_kind (d / 64 % 8); span = d / 512 % 2048 * 4194304; cpu = d / 1048576 % 8 }

-- the CPU of a reset: half of the words name one
abbrev pub where_of : ℕ → Where
where_of w = if nat_lt w 4 then Cpu w else Home

abbrev pub call_of_kind : Choice → Kind → Act
call_of_kind c kind.Reset = act.Reset (Timer c.timer) (c.timer % 4) (After c.span) c.timer (where_of c.cpu) 0
call_of_kind c kind.Schedule = act.Schedule (Timer c.timer) (After c.span) Home 0
call_of_kind c kind.Stop = act.Stop (Timer c.timer)
call_of_kind c kind.AsyncDrain = act.AsyncDrain (Timer c.timer) 3
call_of_kind c kind.Pending = act.Pending (Timer c.timer)
call_of_kind c kind.Drain = act.Drain c.timer

abbrev pub call_of : Choice → Act
call_of c = call_of_kind c c.kind

-- these calls are made under the callout's lock
abbrev pub wants_lock : Kind → Bool
wants_lock kind.Pending = false
wants_lock kind.Drain = false
wants_lock _ = true

abbrev pub lock_number : LockUse → Option ℕ
lock_number Free = None
lock_number (Mtx l) = Some l
lock_number (Rw l) = Some l
lock_number (RwShared l) = Some l

-- the lock of a group, if it has one
abbrev pub group_lock : Choice → Option ℕ
group_lock c = if wants_lock c.kind then lock_number (lock_use c.timer) else None

-- a call between the taking and the release of a lock
abbrev pub under : Option ℕ → Act → List Act
under None call = call ∷ []
under (Some l) call = act.Lock l ∷ call ∷ act.Unlock ∷ []

-- group g begins with its time
abbrev pub group : ℕ → Choice → List Act
group g c = act.Now (g * 67108864) ∷ under (group_lock c) (call_of c)

-- group g of a client that begins in this state: one draw a group
abbrev pub group_of : ℕ → ℕ → List Act
group_of state g = group g (choice_of (draw state g))

-- the first n groups of a client
abbrev pub groups : ℕ → ℕ → List Act
groups state n = flat_map (group_of state) (range_with_len 0 n)

unfoldable pub client_acts : ℕ → List Act
client_acts state = groups state 1024

-- the clients draw one after the other
abbrev pub client : ℕ → ℕ → List Act
client seed c = client_acts (state_after seed (1024 * c))

-- ---- the CPUs' ticks, from the first on

abbrev pub tick : ℕ → Act
tick t = act.Tick ((t + 1) * 67108864)

unfoldable pub tick_acts : List Act
tick_acts = first tick 1280

-- ---- the script

unfoldable pub generated : ℕ → Script
generated seed = record {
  version = 1;
  hz = 1000;
  cpus = 4;
  buckets = 256;
  locks = first group_kind 8;
  timers = first spec_of 64;
  funcs = functions;
  clients = first (client seed) 8;
  ticks = first (λ cpu. tick_acts) 4;
  turns = [];
}
