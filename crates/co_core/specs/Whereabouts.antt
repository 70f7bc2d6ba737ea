-- Where the records of the core's world are, and what its wheels have in service.
use Rattle.std.specs.Prelude.{◌≡◌, ℕ, ◌<◌, ◌==◌, Bool, true, false, ◌⊎◌, length}
use Rattle.std.specs.declared.option.Option.{Option}
use Rattle.std.specs.declared.option.Option.TheVariants.{Some, None}
use Rattle.co_object.specs.Queue.{Due}
use Rattle.co_program.specs.declared.script.Script.{Script}
use Rattle.co_program.specs.Actors.{actor_count}
use Rattle.co_program.specs.Scripts.{IsScript}
use Rattle.co_wheel.specs.Callouts.{callout, is_here, in_service}
use Rattle.co_wheel.specs.Parcel.{Parcel}
use Rattle.co_wheel.specs.Turns.{Shows as ShowsQueue}
use Rattle.co_core.specs.Seen.{Seen}
use Rattle.co_core.specs.Shows.{Shows}
use Rattle.co_core.specs.Stands.{alone_in}
use Rattle.co_core.specs.Stored.{Stored, wheel_at, bag_at}
use Rattle.co_world.specs.World.{World}

-- ---- records

-- the wheel of this CPU has callout i's record
abbrev pub is_at : Stored → (cpu i : ℕ) → Bool
is_at x cpu i = is_here (wheel_at x cpu).callouts i

abbrev pub is_packed : Option Parcel → ℕ → Bool
is_packed None i = false
is_packed (Some p) i = p.i == i

-- this actor is moving callout i's record
abbrev pub is_with : Stored → (a i : ℕ) → Bool
is_with x a i = is_packed (bag_at x a) i

-- the record is at the wheel of this CPU alone, and nobody is moving it
pub record IsAtOne (s : Script) (x : Stored) (i : ℕ) : Type 0 where
  pub cpu : ℕ
  pub exists : cpu < s.cpus
  pub wheels : (c : ℕ) → c < s.cpus → is_at x c i ≡ (c == cpu)
  pub actors : (a : ℕ) → a < actor_count s → is_with x a i ≡ false

-- this actor alone is moving the record, and no wheel has it
pub record IsWithOne (s : Script) (x : Stored) (i : ℕ) : Type 0 where
  pub actor : ℕ
  pub exists : actor < actor_count s
  pub wheels : (c : ℕ) → c < s.cpus → is_at x c i ≡ false
  pub actors : (a : ℕ) → a < actor_count s → is_with x a i ≡ (a == actor)

-- each record is in exactly one wheel, or with the one actor that is moving it
abbrev pub RecordsHaveOnePlace : Type 0
RecordsHaveOnePlace =
    (x : Seen) (w : World) → IsScript x.script → Shows x w → (i : ℕ) → i < length x.script.timers → IsAtOne x.script x.depot i ⊎ IsWithOne x.script x.depot i

-- ---- services

abbrev pub is_entry_of : Option Due → ℕ → Bool
is_entry_of None i = false
is_entry_of (Some d) i = d.i == i

-- callout i is in service at this CPU, or at its interrupt where direct
abbrev pub is_served : Stored → (cpu : ℕ) → Bool → (i : ℕ) → Bool
is_served x cpu direct i = is_entry_of (in_service direct (wheel_at x cpu).callouts) i

-- a callout is in at most one service
abbrev pub CalloutsHaveOneSlot : Type 0
CalloutsHaveOneSlot =
    (x : Seen) (w : World) → IsScript x.script → Shows x w → (i c d : ℕ) (b e : Bool) → c < x.script.cpus → d < x.script.cpus →
    is_served x.depot c b i ≡ true → is_served x.depot d e i ≡ true → (c ≡ d) × (b ≡ e)

-- ---- the plain world

-- a record has its callout's state, and a wheel shows its CPU's queue
pub record AreOfWorld (x : Seen) (w : World) : Type 0 where
  pub records : (cpu i : ℕ) → cpu < x.script.cpus → i < length x.script.timers → is_at x.depot cpu i ≡ true → callout (wheel_at x.depot cpu).callouts i ≡ Some (alone_in x.script w i)
  pub queues : (cpu : ℕ) → cpu < x.script.cpus → ShowsQueue (wheel_at x.depot cpu) (w.cpus cpu).queue

abbrev pub WheelsAreOfWorlds : Type 0
WheelsAreOfWorlds = (x : Seen) (w : World) → Shows x w → AreOfWorld x w
