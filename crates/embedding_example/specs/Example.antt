-- What the example's service has: one client, one CPU, and one callout without a lock; what its functions call, and what a run of one is.
use Rattle.std.specs.Prelude.{◌≡◌, ℕ, ◌+◌, false, List, [], ◌∷◌, map, pos, sum}
use Rattle.std.specs.declared.option.Option.{Option}
use Rattle.std.specs.declared.option.Option.TheVariants.{None, Some}
use Rattle.co_hand.specs.declared.fire.Fire.{Fire}
use Rattle.co_hand.specs.declared.port_call.PortCall.{PortCall}
use Rattle.co_hand.specs.Handlers.{Needs}
use Rattle.co_life.specs.Rule.{capped}
use Rattle.co_lock.specs.declared.held.Held.{Held}
use Rattle.co_object.specs.declared.op.PlainOp.{PlainOp}
use Rattle.co_object.specs.declared.op.PlainOp.TheVariants.{Reset}
use Rattle.co_object.specs.declared.spec.LockUse.TheVariants.{Free}
use Rattle.co_sbt.specs.Time.{from_ticks, sat_add}
use Rattle.co_desk.specs.declared.params.Params.{Params}
use Rattle.co_timers.specs.declared.turned.Turned.{Turned}
use Rattle.embedding_example.specs.declared.parts.Heart.{Heart}

abbrev pub example : Params
example = record { version = 2; clients = 1; cpus = 1; buckets = 256; specs = record { lock = Free; returns_unlocked = false; direct = false } ∷ [] }

-- a function makes one call at most
abbrev pub example_needs : Needs
example_needs = record { callouts = 1; cpus = 1; calls = λ func. 1 }

-- a beat is counted, its argument is kept, and its only call arms its callout again for a second later
pub record IsBeat (before : Heart) (fire : Fire) (calls : List PortCall) (after : Heart) : Type 0 where
  pub counted : after.beats ≡ capped (before.beats + 1)
  pub kept : after.arg ≡ fire.arg
  pub asked : map {B = ℕ × PlainOp} (λ call. (call.i, call.op)) calls ≡ (fire.i, Reset (sat_add fire.at (from_ticks (pos 1) 1)) 0 fire.func fire.arg None) ∷ []

-- what it is to run a function of the heart: that of a service is a beat, and that of a drain changes nothing
abbrev pub BeatsOrRests : Heart → Fire → Option ℕ → Option Held → List PortCall → Heart → Type 0
BeatsOrRests before fire None hold calls after = IsBeat before fire calls after
BeatsOrRests before fire (Some func) hold calls after = after ≡ before

-- how many functions a turn called
abbrev pub called_in : Turned → ℕ
called_in t = t.direct.called + t.others.called

-- so many beats, up to 2^64 - 1, as these turns called functions
abbrev pub AreAllBeats : ℕ → List Turned → Type 0
AreAllBeats beats turns = beats ≡ capped (sum (map called_in turns))
