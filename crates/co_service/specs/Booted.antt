-- What boot makes, place by place.
use Rattle.std.specs.Prelude.{◌≡◌, ℕ, ◌+◌, ◌<◌, ◌≤◌, List, [], ◌∷◌, ◌++◌, length, map, slice_get, slice_index_or, ◌==◌, if◌then◌else◌}
use Rattle.std.specs.declared.option.Option.TheVariants.{Some, None}
use Rattle.std.specs.declared.option.Option.{Option}
use Rattle.co_life.specs.Identity.{LifeId}
use Rattle.co_life.specs.Views.{KeeperView, PassView}
use Rattle.co_object.specs.declared.note.Entry.{Entry}
use Rattle.co_object.specs.declared.note.QEntry.{QEntry}
use Rattle.co_object.specs.declared.spec.Spec.{Spec}
use Rattle.co_wheel.specs.Cpu.{Cpu, first_wheel}
use Rattle.co_desk.specs.declared.params.Params.{Params}
use Rattle.co_desk.specs.declared.line.Line.{Line}
use Rattle.co_desk.specs.declared.line.Line.TheVariants.{Opening, Made}
use Rattle.co_desk.specs.Name.{ServiceName}
use Rattle.co_desk.specs.Params.{actor_count}
use Rattle.co_desk.specs.Lines.{made, openings, opening_of, AllCarry}
use Rattle.co_desk.specs.Seats.{SeatsView, fresh_seats}
use Rattle.co_desk.specs.Views.{PassesView, IsKeeperOf}
use Rattle.co_desk.specs.Books.{IsHistoryKept, kept_of}
use Rattle.co_desk.specs.Stories.{IsJournal}

module _ {E : Type 0} where
  -- the first n actors have made their opening entries, and nothing else was made
  pub record IsOpened (p : Params) (i n : ℕ) (h : List (Line E)) : Type 0 where
    pub carry : AllCarry p i h
    pub nothing : made h ≡ []
    pub count : openings h ≡ n

  -- an opening entry is made by the actor that it names
  abbrev pub opener : Line E → ℕ → Type 0
  opener (Opening actor place params) a = a ≡ actor
  opener (Made e) a = Unit {0}

  -- an actor has seen opening entries of place i alone
  pub record IsSeated (p : Params) (i : ℕ) (h : List (Line E)) : Type 0 where
    pub opened : opening_of h ≡ Some (p, i)
    pub nothing : made h ≡ []

  -- an actor's passes of these places
  pub record AreSeatedAt (p : Params) (name : List LifeId) (a : ℕ) (s : SeatsView (Line E)) : Type 0 where
    pub name_is : s.name ≡ name
    pub actor_is : s.actor ≡ a
    pub count : length s.seen ≡ length name
    pub each : (i : ℕ) → i < length name → IsSeated p i (slice_index_or s.seen i [])

  abbrev pub seats_at : List (SeatsView (Line E)) → ℕ → SeatsView (Line E)
  seats_at all k = slice_index_or all k (fresh_seats [] 0)

  -- each of n actors has its passes of these places, and the first `done` of one place more
  pub record AreSeated (p : Params) (name more : List LifeId) (n done : ℕ) (all : List (SeatsView (Line E))) : Type 0 where
    pub count : length all ≡ n
    pub ahead : (k : ℕ) → k < done → AreSeatedAt p (name ++ more) k (seats_at all k)
    pub behind : (k : ℕ) → done ≤ k → k < n → AreSeatedAt p name k (seats_at all k)

  -- the actors from `done` on still have their passes of these places
  pub record AreLeft (p : Params) (name : List LifeId) (n done : ℕ) (all : List (SeatsView (Line E))) : Type 0 where
    pub count : length all ≡ n
    pub left : (k : ℕ) → done ≤ k → k < n → AreSeatedAt p name k (seats_at all k)

module _ {E : Type 0} where
  -- the actors may sign at place i: a history that some of them have opened is legal, and an opening entry is made by the actor that it names
  pub record MaySign (p : Params) (i : ℕ) (Legal : List (Line E) → Type 0) (actor : Line E → ℕ) : Type 0 where
    pub legal : (h : List (Line E)) (n : ℕ) → IsOpened p i n h → Legal h
    pub by : (l : Line E) → opener l (actor l)

  -- an actor has made its opening entry of place i
  pub record IsSigned (p : Params) (i actor : ℕ) (before : PassView (Line E)) (k : KeeperView (Line E)) (after : PassView (Line E)) (k' : KeeperView (Line E)) : Type 0 where
    pub keeper : k' ≡ record k { history = k'.history }
    pub opened : IsOpened p i (actor + 1) k'.history
    -- it has seen what the history has now
    pub pass : after ≡ record before { seen = k'.history }
    pub seated : IsSeated p i k'.history

  -- place i comes behind these: no actor has its pass of it yet
  pub record AreWaiting (p : Params) (name : List LifeId) (life : LifeId) (i n : ℕ) (all : List (SeatsView (Line E))) : Type 0 where
    pub place_is : i ≡ length name
    pub seats : AreSeated p name (life ∷ []) n 0 all

  -- all actors have signed there, and have their passes of it
  pub record IsPlaced (p : Params) (name : List LifeId) (life : LifeId) (i n : ℕ) (k k' : KeeperView (Line E)) (all : List (SeatsView (Line E))) : Type 0 where
    pub keeper : k' ≡ record k { history = k'.history }
    pub opened : IsOpened p i n k'.history
    pub seats : AreSeated p name (life ∷ []) n n all

module _ {E : Type 0} where
  -- the keeper of place i, where all actors have made their opening entries
  pub record IsReady (p : Params) (actors i : ℕ) (lives : List LifeId) (k : KeeperView (Line E)) : Type 0 where
    pub life : slice_get lives i ≡ Some k.life
    pub actors_are : k.actors ≡ actors
    pub opened : IsOpened p i actors k.history

  -- so many places, with their lives, their keepers, and each actor's passes of them
  pub record ArePlaces (p : Params) (count actors : ℕ) (lives : List LifeId) (keepers : List (KeeperView (Line E))) (all : List (SeatsView (Line E))) : Type 0 where
    pub lives_are : length lives ≡ count
    pub keepers_are : length keepers ≡ count
    pub ready : (i : ℕ) (k : KeeperView (Line E)) → slice_get keepers i ≡ Some k → IsReady p actors i lives k
    pub seated : AreSeated p lives [] actors 0 all

module _ {E : Type 0} where
  -- the keeper of place i, in whose history no call has made an entry
  pub record IsNewKeeper (Legal : Params → ℕ → List E → Type 0) (lives : List LifeId) (p : Params) (i : ℕ) (k : KeeperView (Line E)) : Type 0 where
    pub kept : IsKeeperOf Legal lives p i k
    pub nothing : made k.history ≡ []

  -- the keepers of all places of a kind, in whose histories no call has made an entry
  pub record AreBegun (Legal : Params → ℕ → List E → Type 0) (lives : List LifeId) (p : Params) (keepers : List (KeeperView (Line E))) : Type 0 where
    pub each : (i : ℕ) (k : KeeperView (Line E)) → slice_get keepers i ≡ Some k → IsKeeperOf Legal lives p i k
    pub nothing : (i : ℕ) (k : KeeperView (Line E)) → slice_get keepers i ≡ Some k → made k.history ≡ []

  -- so many of them
  pub record AreAllBegun (Legal : Params → ℕ → List E → Type 0) (lives : List LifeId) (p : Params) (count : ℕ) (keepers : List (KeeperView (Line E))) : Type 0 where
    pub keepers_are : length keepers ≡ count
    pub begun : AreBegun Legal lives p keepers

  -- so many places of a kind, and each actor's passes of them
  pub record AreSetUp (Legal : Params → ℕ → List E → Type 0) (p : Params) (count : ℕ) (lives : List LifeId) (keepers : List (KeeperView (Line E))) (all : List (SeatsView (Line E))) : Type 0 where
    pub lives_are : length lives ≡ count
    pub keepers_are : length keepers ≡ count
    pub begun : AreBegun Legal lives p keepers
    pub left : AreLeft p lives (actor_count p) 0 all

-- passes that have seen nothing
abbrev pub booted : ServiceName → Params → ℕ → PassesView
booted name p a = record { name = name; params = p; actor = a; timers = map (λ _. []) name.timers; cpus = map (λ _. []) name.cpus }

-- one actor's passes after the other, and none has seen anything
pub record AreBooted (name : ServiceName) (p : Params) (all : List PassesView) : Type 0 where
  pub count : length all ≡ actor_count p
  pub each : (j : ℕ) → j < actor_count p → slice_get all j ≡ Some (booted name p j)

-- how many callouts begin at a CPU: all begin at CPU 0
abbrev pub come_to : ℕ → List Spec → ℕ
come_to cpu specs = if cpu == 0 then length specs else 0

-- the keepers of the callouts of a CPU, in whose histories no call has made an entry
pub record AreFirstKeepers (lives : List LifeId) (p : Params) (cpu : ℕ) (keepers : List (Option (KeeperView (Line Entry)))) : Type 0 where
  pub each : (i : ℕ) → IsHistoryKept lives p i (slice_index_or keepers i None)
  pub size : length keepers ≡ length p.specs
  pub come : (i : ℕ) → i < come_to cpu p.specs → kept_of (slice_index_or keepers i None) ≡ Some []
  pub missing : (i : ℕ) → come_to cpu p.specs ≤ i → kept_of (slice_index_or keepers i None) ≡ None

-- what a CPU has before the first call: its wheel, and keepers of the service in whose histories no call has made an entry
pub record IsDeskParts (name : ServiceName) (p : Params) (cpu : ℕ) (w : Cpu) (keepers : List (Option (KeeperView (Line Entry)))) (journal : KeeperView (Line QEntry)) : Type 0 where
  pub wheel : w ≡ first_wheel p.specs p.buckets cpu
  pub first : AreFirstKeepers name.timers p cpu keepers
  pub own : IsKeeperOf IsJournal name.cpus p cpu journal
  pub nothing : made journal.history ≡ []
