-- What the actors of a run begin with, and what they bring back.
use Rattle.std.specs.Prelude.{◌≡◌, ℕ, ◌+◌, ◌<◌, ◌≤◌, ◌^◌, List, [], Some, Result, IfOk, IsOkAnd, length, slice_get}
use Rattle.co_object.specs.declared.note.Note.{Note}
use Rattle.co_program.specs.declared.script.Script.{Script}
use Rattle.co_program.specs.Actors.{actor_count, client_count}
use Rattle.co_program.specs.Scripts.{IsScript}
use Rattle.co_sbt.specs.declared.seq.NoMemory.{NoMemory}
use Rattle.co_desk.specs.declared.params.Params.{Params}
use Rattle.co_service.specs.Booted.{AreBooted, booted}
use Rattle.co_service.specs.Fresh.{AreNamed}
use Rattle.co_desk.specs.Name.{ServiceName}
use Rattle.co_desk.specs.Views.{PassesView}
use Rattle.co_run.specs.Acting.{HasLocks, params_of}
use Rattle.co_run.specs.Over.{IsActorOver}
use Rattle.co_run.specs.declared.book.KeptBook.{KeptBook}
use Rattle.co_run.specs.declared.jobs.Crew.{Crew}
use Rattle.co_run.specs.declared.jobs.Kit.{Kit}

-- the script may be run over a service of this name and of these parameters, by actors with these passes
pub record MayRun (s : Script) (name : ServiceName) (p : Params) (passes : List PassesView) : Type 0 where
  -- the script keeps what every script keeps
  pub script : IsScript s
  -- the locks that it names exist
  pub locks : HasLocks s
  -- the service has its numbers of clients and CPUs, and its callouts
  pub params : p ≡ params_of s
  -- each of its places has a life
  pub named : AreNamed name (params_of s)
  -- the passes are those of the service's boot, and have seen nothing
  pub passes_are : AreBooted name (params_of s) passes

-- a book without notes, and with room for fewer than one list ever has
pub record IsEmpty (notes : List Note) (spare : ℕ) : Type 0 where
  pub nothing : notes ≡ []
  pub few : spare < 2 ^ 56

-- each of these books is empty
abbrev pub AreEmptyBooks : {B : Type 0} → (B → List Note) → (B → ℕ) → List B → Type 0
AreEmptyBooks {B} notes spare books = (k : ℕ) (book : B) → slice_get books k ≡ Some book → IsEmpty (notes book) (spare book)

-- each actor of the script has a book
pub record HaveBooks {B : Type 0} (notes : B → List Note) (spare : B → ℕ) (s : Script) (books : List B) : Type 0 where
  -- there is one for each
  pub count : length books ≡ actor_count s
  -- all are empty
  pub empty : AreEmptyBooks notes spare books

-- each of these has no notes and no room
abbrev pub AreBlank : {T : Type 0} → List (KeptBook T) → Type 0
AreBlank {T} books = (k : ℕ) (book : KeptBook T) → slice_get books k ≡ Some book → (book.notes.items ≡ []) × (book.spare ≡ 0)

-- one actor's passes after the other, and none has seen anything
abbrev pub AreUnseen : ServiceName → Params → List PassesView → Type 0
AreUnseen name p all = (k : ℕ) (q : PassesView) → slice_get all k ≡ Some q → q ≡ booted name p k

-- the passes and the books of the first actors, which have no jobs yet
pub record AreLeft {B : Type 0} (notes : B → List Note) (spare : B → ℕ) (s : Script) (name : ServiceName) (passes : List PassesView) (books : List B) : Type 0 where
  -- there are no more than actors
  pub few : length passes ≤ actor_count s
  -- each has its book
  pub count : length books ≡ length passes
  -- the passes have seen nothing
  pub first : AreUnseen name (params_of s) passes
  -- the books have no notes
  pub empty : AreEmptyBooks notes spare books

-- the actor of this number has passes that have seen nothing, and an empty book
pub record IsJob (s : Script) (name : ServiceName) (number : ℕ) (q : PassesView) (notes : List Note) (spare : ℕ) : Type 0 where
  pub below : number < actor_count s
  pub passes : q ≡ booted name (params_of s) number
  pub empty : IsEmpty notes spare

-- nothing was played yet in this seat
abbrev pub IsSeat : {B E : Type 0} → Script → ServiceName → (B → List Note) → (B → ℕ) → Result (Kit B) E → Type 0
IsSeat s name notes spare seat = IfOk seat (λ kit. IsJob s name kit.passes.actor kit.passes (notes kit.book) (spare kit.book))

-- the actor of this seat has played its whole program, if it was not refused memory
abbrev pub HasPlayed : {B E : Type 0} → Script → ServiceName → (B → List Note) → Result (Kit B) E → Result (Kit B) E → Type 0
HasPlayed s name notes before after = IfOk before (λ kit. IfOk after (λ played. IsActorOver s name kit.passes.actor played.passes (notes played.book)))

-- nothing was played yet in the seats of the actors before number `end`, the last of which comes first
abbrev pub AreJobs : {B E : Type 0} → Script → ServiceName → (B → List Note) → (B → ℕ) → ℕ → List (Result (Kit B) E) → Type 0
AreJobs {B} {E} s name notes spare end seats = (k : ℕ) (seat : Result (Kit B) E) → slice_get seats k ≡ Some seat → (a : ℕ) → a + k + 1 ≡ end → IsOkAnd seat (λ kit. IsJob s name a kit.passes (notes kit.book) (spare kit.book))

-- these actors have played their whole programs, those that were not refused memory
abbrev pub HavePlayed : {B E : Type 0} → (B → List Note) → Script → ServiceName → ℕ → List (Result (Kit B) E) → Type 0
HavePlayed {B} {E} notes s name end seats = (k : ℕ) (seat : Result (Kit B) E) → slice_get seats k ≡ Some seat → (a : ℕ) → a + k + 1 ≡ end → IfOk seat (λ kit. IsActorOver s name a kit.passes (notes kit.book))

-- these are of the actors from `first` on and before `end`
pub record IsGroup {X : Type 0} (Are : ℕ → List X → Type 0) (first end : ℕ) (xs : List X) : Type 0 where
  pub count : first + length xs ≡ end
  pub each : Are end xs

-- these are the seats of the clients, of the CPUs and of the interrupts
pub record IsCrew {B : Type 0} (s : Script) (Are : ℕ → List (Result (Kit B) NoMemory) → Type 0) (crew : Crew B) : Type 0 where
  pub of_clients : IsGroup Are 0 (client_count s) crew.clients.items
  pub of_cpus : IsGroup Are (client_count s) (client_count s + s.cpus) crew.cpus.items
  pub of_interrupts : IsGroup Are (client_count s + s.cpus) (actor_count s) crew.interrupts.items
