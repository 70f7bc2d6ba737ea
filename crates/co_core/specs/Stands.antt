-- What the world in code stands for: a plain world that some schedule reaches.
use Rattle.std.specs.Prelude.{◌≡◌, ℕ, ◌≤◌, ◌<◌, ◌==◌, ◌&&◌, not, Bool, length, if◌then◌else◌}
use Rattle.std.specs.declared.option.Option.{Option}
use Rattle.std.specs.declared.option.Option.TheVariants.{Some, None}
use Rattle.co_object.specs.declared.alone.Alone.{Alone}
use Rattle.co_object.specs.declared.state.Arming.{Arming}
use Rattle.co_object.specs.Lists.{notes_of}
use Rattle.co_object.specs.declared.note.Place.TheVariants.{Actor}
use Rattle.co_program.specs.declared.script.Script.{Script}
use Rattle.co_program.specs.Actors.{actor_count}
use Rattle.co_program.specs.declared.cursor.PendingInsert.{PendingInsert}
use Rattle.co_program.specs.Action.{spec_at}
use Rattle.co_program.specs.Follows.{scan_count}
use Rattle.co_program.specs.Indexed.{IsCounted, cursor_of}
use Rattle.co_wheel.specs.Cpu.{Cpu as WheelOf}
use Rattle.co_wheel.specs.Parcel.{Parcel}
use Rattle.co_wheel.specs.Turns.{Shows}
use Rattle.co_world.specs.World.{World, lists_of}
use Rattle.co_world.specs.Blocked.{is_moving}
use Rattle.co_world.specs.Step.{are_direct}
use Rattle.co_world.specs.Laws.{IsReached}
use Rattle.co_world.specs.Placed.{IsPlaced}
use Rattle.co_core.specs.Stored.{Stored, bag_at, wheel_at}
use Rattle.co_core.specs.Table.{table}
use Rattle.co_core.specs.Written.{Booked, Written, cursor_at, with_lists}

-- ---- what has been written

-- the ledger has each actor's place and notes, and how long each history is
pub record ShowsWritten (s : Script) (x : Written) (w : World) : Type 0 where
  pub cursors_long : length x.cursors ≡ actor_count s
  pub each_place : (a : ℕ) → a < actor_count s → cursor_of s a (cursor_at x a) ≡ (w.actors a).cursor
  pub each_list : x.lists ≡ table (actor_count s) (λ a. (w.actors a).notes)
  pub each_history : x.histories ≡ table (length s.timers) (λ i. length (w.timers i).history)
  pub each_journal : x.journals ≡ table s.cpus (λ cpu. length (w.cpus cpu).journal)
  pub each_scan : x.scans ≡ table s.cpus (λ cpu. scan_count (w.cpus cpu).journal)
  pub each_own : x.own ≡ table (actor_count s) (λ a. length (notes_of (Actor a) (w.actors a).notes))
  -- each act that has begun is over in its program or has made a note, and each entry is a note
  pub counted : (a : ℕ) → a < actor_count s → IsCounted (cursor_at x a) x.made
  pub few_entries : (i : ℕ) → length (w.timers i).history ≤ x.made
  pub few_turns : (cpu : ℕ) → length (w.cpus cpu).journal ≤ x.made
  pub few_notes : (a : ℕ) → length (w.actors a).notes ≤ x.made
  pub few_own : (a : ℕ) → length (notes_of (Actor a) (w.actors a).notes) ≤ x.made

-- the same, where each actor's notes are those of the world
abbrev pub ShowsBooked : Script → Booked → World → Type 0
ShowsBooked s x w = ShowsWritten s (with_lists x (lists_of s w)) w

-- ---- where each record is

abbrev pub alone_in : Script → World → ℕ → Alone
alone_in s w i = record { spec = spec_at s i; state = (w.timers i).state }

-- callout i's record is at this CPU's wheel
abbrev pub is_home : Script → World → (cpu i : ℕ) → Bool
is_home s w cpu i = (w.timers i).stand == cpu && not (is_moving s w i)

abbrev pub at_home : Script → World → (cpu i : ℕ) → Option Alone
at_home s w cpu i = if is_home s w cpu i then Some (alone_in s w i) else None

-- a wheel has the callouts that stand at its CPU, and shows its queue
pub record IsAtWheel (s : Script) (w : World) (cpu : ℕ) (wheel : WheelOf) : Type 0 where
  pub number : wheel.callouts.cpu ≡ cpu
  pub here : wheel.callouts.here ≡ table (length s.timers) (at_home s w cpu)
  pub buckets : wheel.timers.buckets ≡ s.buckets
  pub direct : wheel.timers.direct ≡ are_direct s
  pub shows : Shows wheel (w.cpus cpu).queue

-- a bag has the callout that its actor is moving
pub record IsPacked (s : Script) (w : World) (p : PendingInsert) (bag : Option Parcel) : Type 0 where
  pub arming : Arming
  pub packed : bag ≡ Some (record { i = p.i; callout = alone_in s w p.i; arming = arming })
  pub armed : (w.timers p.i).state.armed ≡ Some arming
  pub number : arming.n ≡ p.n
  pub due : arming.due ≡ p.due
  pub cpu : arming.cpu ≡ p.cpu

abbrev pub IsBag : Script → World → Option PendingInsert → Option Parcel → Type 0
IsBag s w None bag = bag ≡ None
IsBag s w (Some p) bag = IsPacked s w p bag

pub record ShowsStored (s : Script) (x : Stored) (w : World) : Type 0 where
  pub wheels_long : length x.wheels ≡ s.cpus
  pub each_wheel : (cpu : ℕ) → cpu < s.cpus → IsAtWheel s w cpu (wheel_at x cpu)
  pub each_stand : x.stands ≡ table (length s.timers) (λ i. (w.timers i).stand)
  pub bags_long : length x.bags ≡ actor_count s
  pub each_bag : (a : ℕ) → a < actor_count s → IsBag s w (w.actors a).cursor.parcel (bag_at x a)

-- ---- the whole

-- the ledger and the depot show a world that some schedule reaches
pub record StandsFor (s : Script) (ledger : Written) (depot : Stored) (w : World) : Type 0 where
  pub written : ShowsWritten s ledger w
  pub stored : ShowsStored s depot w
  pub placed : IsPlaced s w
  pub reached : IsReached s w
