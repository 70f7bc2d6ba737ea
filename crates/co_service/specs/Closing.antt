-- The end of a service: the final histories.
use Rattle.std.specs.Prelude.{◌≡◌, ◌==◌, ℕ, ◌<◌, ◌≤◌, ◌^◌, List, [], length, slice_get}
use Rattle.std.specs.declared.option.Option.TheVariants.{Some}
use Rattle.std.specs.List.{All, count_by}
use Rattle.co_life.specs.Identity.{LifeId}
use Rattle.co_life.specs.Views.{KeeperView}
use Rattle.co_object.specs.declared.note.Entry.{Entry}
use Rattle.co_object.specs.declared.note.QEntry.{QEntry}
use Rattle.co_sbt.specs.RoomView.{RoomView}
use Rattle.co_desk.specs.Books.{BooksView}
use Rattle.co_desk.specs.declared.params.Params.{Params}
use Rattle.co_desk.specs.declared.line.Line.{Line}
use Rattle.co_desk.specs.Name.{ServiceName}
use Rattle.co_desk.specs.Params.{actor_count}
use Rattle.co_desk.specs.Kinds.{KindOf, cpu_kind, seen, timer_kind}
use Rattle.co_desk.specs.Seats.{IsShown}
use Rattle.co_desk.specs.Views.{PassesView, AreOf}

-- a service's name, and the final history of each callout and each CPU
pub record ClosingView : Type 0 where
  pub name : ServiceName
  pub timers : List (List Entry)
  pub cpus : List (List QEntry)

module _ {E : Type 0} (kind : KindOf E) where
  -- a final history is legal, each entry is of one of the service's actors
  pub record IsFinal (p : Params) (i : ℕ) (H : List E) : Type 0 where
    pub legal : kind.Legal p i H
    pub actors : All (λ e. kind.made_by e < actor_count p) H

  -- what an actor has seen of place i begins its final history, which has no more entries of the actor
  abbrev pub Shows : List E → ℕ → PassesView → Type 0
  Shows H i q = IsShown kind.made_by q.actor H (seen kind q i)

  -- a final history of place i, by one actor's passes
  pub record Ends (H : List E) (i : ℕ) (q : PassesView) : Type 0 where
    pub shown : Shows H i q
    pub final : IsFinal q.params i H

  -- each of these is the final history of its place, by all these passes
  abbrev pub EndEach : List PassesView → List (List E) → Type 0
  EndEach all Hs = (i : ℕ) (H : List E) → slice_get Hs i ≡ Some H → All (Ends H i) all

  -- the final histories of so many places, and what the actors had seen of each
  pub record AreFinal (n : ℕ) (p : Params) (all : List PassesView) (Hs : List (List E)) : Type 0 where
    pub count : length Hs ≡ n
    pub final : (i : ℕ) (H : List E) → slice_get Hs i ≡ Some H → IsFinal p i H
    pub shown : (i : ℕ) (H : List E) → slice_get Hs i ≡ Some H → All (Shows H i) all

-- all these passes were compared with a keeper's history: nothing has changed, and this is known of each
pub record AreMeeting {E : Type 0} (k k' : KeeperView E) (all all' : List PassesView) (Met : PassesView → Type 0) : Type 0 where
  pub keeper : k' ≡ k
  pub passes : all' ≡ all
  pub met : All Met all

-- all actors' passes of a service
pub record AreAll (name : ServiceName) (p : Params) (all : List PassesView) : Type 0 where
  pub count : length all ≡ actor_count p
  pub of : All (AreOf name p) all

-- how many of these passes are an actor's
abbrev pub of_actor : List PassesView → ℕ → ℕ
of_actor all actor = count_by (λ (q : PassesView). q.actor == actor) all

-- each actor's passes are among these, once
pub record HasEach (p : Params) (all : List PassesView) : Type 0 where
  pub once : (actor : ℕ) → actor < actor_count p → of_actor all actor ≡ 1

-- the final history of each callout, and what the actors had seen of it
abbrev pub AreEnded : Params → List PassesView → List (List Entry) → Type 0
AreEnded p all Hs = AreFinal timer_kind (length p.specs) p all Hs

-- the same of the CPUs' journals
abbrev pub AreEndedCpus : Params → List PassesView → List (List QEntry) → Type 0
AreEndedCpus p all Js = AreFinal cpu_kind p.cpus p all Js

-- what there is room for
pub record EndingView : Type 0 where
  pub books : RoomView BooksView
  pub timers : RoomView (List (Line Entry))
  pub cpus : RoomView (List (Line QEntry))

-- room for the most CPUs and the most callouts that a service may have
pub record IsEnding (e : EndingView) : Type 0 where
  pub for_books : (e.books.items ≡ []) × (16 ≤ e.books.spare)
  pub for_timers : (e.timers.items ≡ []) × (1024 ≤ e.timers.spare)
  pub for_cpus : (e.cpus.items ≡ []) × (16 ≤ e.cpus.spare)

-- the places of a kind may end: there is room for what is left of each
pub record MayEndAll {H : Type 0} (name lives : List LifeId) (room : RoomView H) : Type 0 where
  pub lives_are : lives ≡ name
  pub few : length name < 2 ^ 32
  pub empty : room.items ≡ []
  pub spare : length name ≤ room.spare

-- one has ended: the passes are as before, and by each of them this is known
pub record HasEnded (all all' : List PassesView) (Ends : PassesView → Type 0) : Type 0 where
  pub passes : all' ≡ all
  pub ends : All Ends all

-- all have ended
pub record HaveEnded {H : Type 0} (n : ℕ) (all all' : List PassesView) (finals : List H) (Ends : Type 0) : Type 0 where
  pub passes : all' ≡ all
  pub count : length finals ≡ n
  pub ends : Ends

-- what is left of a service
pub record IsClosing (name : ServiceName) (all : List PassesView) (c : ClosingView) : Type 0 where
  pub name_is : c.name ≡ name
  pub timers_count : length c.timers ≡ length name.timers
  pub timers : EndEach timer_kind all c.timers
  pub cpus_count : length c.cpus ≡ length name.cpus
  pub cpus : EndEach cpu_kind all c.cpus
