-- What contracts see of the service's values.
use Rattle.std.specs.Prelude.{◌≡◌, ℕ, ◌<◌, ◌≤◌, ◌^◌, List, [], ◌∷◌, ◌++◌, map, length, Some, slice_get, slice_index_or}
use Rattle.co_life.specs.Identity.{LifeId}
use Rattle.co_life.specs.Views.{KeeperView}
use Rattle.co_object.specs.declared.note.Entry.{Entry}
use Rattle.co_object.specs.declared.note.QEntry.{QEntry}
use Rattle.co_desk.specs.declared.params.Params.{Params}
use Rattle.co_desk.specs.declared.line.Line.{Line}
use Rattle.co_desk.specs.Name.{ServiceName}
use Rattle.co_desk.specs.Params.{actor_count}
use Rattle.co_desk.specs.Lines.{made, openings, opening_of, AllCarry}
use Rattle.co_desk.specs.Seats.{SeatsView}

-- an actor's passes: their service's name and parameters, the actor, and what it has seen of each callout and each CPU
pub record PassesView : Type 0 where
  pub name : ServiceName
  pub params : Params
  pub actor : ℕ
  pub timers : List (List Entry)
  pub cpus : List (List QEntry)

-- what the actor has seen of callout i, and of a CPU
abbrev pub seen_of : PassesView → ℕ → List Entry
seen_of p i = slice_index_or p.timers i []

abbrev pub journal_seen : PassesView → ℕ → List QEntry
journal_seen p cpu = slice_index_or p.cpus cpu []

abbrev pub passes_of : ℕ → Params → SeatsView (Line Entry) → SeatsView (Line QEntry) → PassesView
passes_of actor params timers cpus = record {
  name = record { timers = timers.name; cpus = cpus.name };
  params = params;
  actor = actor;
  timers = map made timers.seen;
  cpus = map made cpus.seen;
}

module _ {E : Type 0} where
  -- the passes of a kind of places are the actor's, and each has seen of which place it is
  pub record AreOpened (params : Params) (actor : ℕ) (count : ℕ) (s : SeatsView (Line E)) : Type 0 where
    pub own : s.actor ≡ actor
    pub named : length s.name ≡ count
    pub count_is : length s.seen ≡ count
    pub opened : (i : ℕ) → i < count → opening_of (slice_index_or s.seen i []) ≡ Some (params, i)

  -- the keeper of place i: its life, what the opening entries carry, and that the history is legal
  pub record IsKeeperOf (Legal : Params → ℕ → List E → Type 0) (lives : List LifeId) (params : Params) (i : ℕ) (k : KeeperView (Line E)) : Type 0 where
    pub life : slice_get lives i ≡ Some k.life
    pub actors : k.actors ≡ actor_count params
    pub opened : opening_of k.history ≡ Some (params, i)
    pub carry : AllCarry params i k.history
    pub count : openings k.history ≡ actor_count params
    pub legal : Legal params i (made k.history)

  -- the keeper of place i, in whose history this entry may stand next
  pub record TakesEntry (Legal : Params → ℕ → List E → Type 0) (lives : List LifeId) (params : Params) (i : ℕ) (k : KeeperView (Line E)) (e : E) : Type 0 where
    pub keeper : IsKeeperOf Legal lives params i k
    pub legal : Legal params i (made k.history ++ e ∷ [])

  -- the same keeper with the entry at the end
  pub record HasEntry (Legal : Params → ℕ → List E → Type 0) (lives : List LifeId) (params : Params) (i : ℕ) (k : KeeperView (Line E)) (e : E) (k' : KeeperView (Line E)) : Type 0 where
    pub keeper : IsKeeperOf Legal lives params i k'
    pub history : made k'.history ≡ made k.history ++ e ∷ []

pub record ArePasses (actors actor : ℕ) (params : Params) (timers : SeatsView (Line Entry)) (cpus : SeatsView (Line QEntry)) : Type 0 where
  pub count : actors ≡ actor_count params
  pub timers_opened : AreOpened params actor (length params.specs) timers
  pub cpus_opened : AreOpened params actor params.cpus cpus

-- the passes of a service
pub record AreOf (name : ServiceName) (params : Params) (p : PassesView) : Type 0 where
  pub name_is : p.name ≡ name
  pub params_are : p.params ≡ params

-- a place in a list, which is told where it is below 2^63
abbrev pub IsPlace : (pos n : ℕ) → Type 0
IsPlace pos n = (n < 2 ^ 63 → pos ≡ n) × (2 ^ 63 ≤ n → 2 ^ 63 ≤ pos)
