-- An actor that makes notes: the ledger books them, and a listener is told of them.
use Rattle.std.specs.Prelude.{◌≡◌, ℕ, ◌+◌, ◌^◌, ◌≤◌, ◌<◌, ◌++◌, List, [], length, map, Result, OnErr}
use Rattle.co_object.specs.declared.note.Note.{Note}
use Rattle.co_listener.specs.MadeNotes.{MadeNote}
use Rattle.co_program.specs.declared.script.Script.{Script}
use Rattle.co_program.specs.Actors.{actor_count}
use Rattle.co_program.specs.Indexed.{IsCounted}
use Rattle.co_program.specs.Scripts.{IsScript}
use Rattle.co_world.specs.World.{World}
use Rattle.co_core.specs.Stands.{ShowsWritten}
use Rattle.co_core.specs.Written.{Booked, booked_at, noted, with_lists}

-- the actor may make a note: what is booked is that of some world
pub record MayWrite (s : Script) (x : Booked) (a : ℕ) : Type 0 where
  -- the script is a sound one
  pub script : IsScript s
  -- the ledger is that of this world, and the actor is one of its actors
  pub world : World
  pub lists : List (List Note)
  pub written : ShowsWritten s (with_lists x lists) world
  pub exists : a < actor_count s
  -- no count wraps
  pub few : x.made < 2 ^ 63 + 3

-- so may one that writes in the journal of this CPU
pub record MayWriteJournal (s : Script) (x : Booked) (a cpu : ℕ) : Type 0 where
  -- the actor may make a note
  pub may : MayWrite s x a
  -- the script has the CPU
  pub known : cpu < s.cpus

-- the same of a ledger in which a history has been counted, and its note is still to come
pub record MayNote (s : Script) (x : Booked) (a : ℕ) : Type 0 where
  pub script : IsScript s
  -- the actor has a cursor
  pub cursor : a < length x.cursors
  -- each of its acts that has begun is over in its program or has made a note
  pub counted : IsCounted (booked_at x a) x.made
  pub few : x.made < 2 ^ 63 + 3

-- these notes, made by this actor
abbrev pub made_by : ℕ → List Note → List MadeNote
made_by a notes = map (λ note. record { actor = a; note = note }) notes

-- the actor has made these notes: they are counted, and a listener has been told of them and had room for each
pub record HasWritten {B : Type 0} (has : B → List MadeNote → Type 0) (room : B → ℕ) (a : ℕ) (notes : List Note) (x x2 : Booked) (old new : B) : Type 0 where
  pub made : x2.made ≡ x.made + length notes
  pub heard : (made : List MadeNote) → has old made → has new (made ++ made_by a notes)
  pub spare : room old ≤ room new + length notes

-- where a world was written, the one after it is, with these notes more
abbrev pub FollowsWorld : Script → ℕ → List Note → Booked → Booked → (World → World) → Type 0
FollowsWorld s a notes x x2 after = (lists : List (List Note)) (w : World) → ShowsWritten s (with_lists x lists) w → ShowsWritten s (with_lists x2 (noted lists a notes)) (after w)

-- a note has been made, and this is known of it and of what is written then
pub record IsNoteMade {B : Type 0} (has : B → List MadeNote → Type 0) (room : B → ℕ) (a : ℕ) (x x2 : Booked) (old new : B) (Known : List Note → Type 0) : Type 0 where
  pub notes : List Note
  -- it is one
  pub one : length notes ≡ 1
  -- how the world goes on with the note
  pub written : Known notes
  pub wrote : HasWritten has room a notes x x2 old new

-- a note has been made where there was something to note, and else none
pub record IsNoteMadeIf {B : Type 0} (has : B → List MadeNote → Type 0) (room : B → ℕ) (a : ℕ) (x x2 : Booked) (old new : B) (number : ℕ) (Nothing : Type 0) (Known : List Note → Type 0) : Type 0 where
  pub notes : List Note
  -- so many, at most one
  pub count : length notes ≡ number
  pub few : number ≤ 1
  -- where there was nothing, what is written stays
  pub stays : Nothing → (notes ≡ []) × (x2 ≡ x)
  -- how the world goes on where there was something
  pub written : Known notes
  pub wrote : HasWritten has room a notes x x2 old new

-- A listener has been told of what was done, unless memory was wanting: which it was only where the listener had no room for so
-- many notes. It is a listener of as many actors.
pub record Listens {B X E : Type 0} (actors room : B → ℕ) (most : ℕ) (old new : B) (result : Result X E) : Type 0 where
  pub as_many : actors new ≡ actors old
  pub err : OnErr result (room old < most)
