-- The posts of a service: who has not left yet, and who is back.
use Rattle.std.specs.Prelude.{◌≡◌, ℕ, ◌+◌, ◌≤◌, Bool, false, ◌&&◌, List, [], ◌∷◌, ◌++◌, length, nat_lt, slice_get, slice_index_or, slice_set, if◌then◌else◌}
use Rattle.std.specs.declared.option.Option.{Option}
use Rattle.std.specs.declared.option.Option.TheVariants.{Some}
use Rattle.std.specs.List.{All}
use Rattle.co_lock.specs.declared.lock_kind.LockKind.{LockKind}
use Rattle.co_object.specs.Actors.{cpu_actor, interrupt_actor}
use Rattle.co_sbt.specs.RoomView.{RoomView}
use Rattle.co_desk.specs.declared.params.Params.{Params}
use Rattle.co_service.specs.Booted.{AreBooted, booted}
use Rattle.co_service.specs.Fresh.{AreNamed, FreshView}
use Rattle.co_desk.specs.Name.{ServiceName}
use Rattle.co_desk.specs.Params.{AreParams, actor_count, actors_of}
use Rattle.co_desk.specs.Views.{AreOf, PassesView}
use Rattle.co_timers.specs.Timers.{HaveLocks}

pub record FreshTimers : Type 0 where
  pub name : ServiceName
  pub params : Params
  pub locks : List LockKind

pub record AreFreshTimers (fresh : FreshView) (passes : List PassesView) (p : Params) (locks kinds : List LockKind) : Type 0 where
  pub same : fresh.params ≡ p
  pub booted : AreBooted fresh.name p passes
  pub limits : AreParams p
  pub version : p.version ≡ 2
  pub named : AreNamed fresh.name p
  pub locks_are : HaveLocks locks p
  pub kinds_are : kinds ≡ locks

pub record PostsView : Type 0 where
  pub params : Params
  -- by actor: whether it has not left yet
  pub here : List Bool
  -- the passes that were brought back
  pub back : List PassesView

-- who is here has seen nothing, and there is room for all to come back
pub record ArePosts (name : ServiceName) (p : Params) (seats : List (Option PassesView)) (back : RoomView PassesView) : Type 0 where
  pub count : length seats ≡ actor_count p
  pub each : (j : ℕ) (q : PassesView) → slice_get seats j ≡ Some (Some q) → q ≡ booted name p j
  pub named : AreNamed name p
  pub of : All (AreOf name p) back.items
  pub room : actor_count p ≤ length back.items + back.spare

-- actor j is here
abbrev pub is_posted : PostsView → ℕ → Bool
is_posted p j = slice_index_or p.here j false

-- client k exists and is here
abbrev pub is_client : PostsView → ℕ → Bool
is_client p k = nat_lt k p.params.clients && is_posted p k

-- CPU k exists, and its own actor is here
abbrev pub is_cpu : PostsView → ℕ → Bool
is_cpu p k = nat_lt k p.params.cpus && is_posted p (cpu_actor (actors_of p.params) k)

-- CPU k exists, and its interrupt is here
abbrev pub is_interrupt : PostsView → ℕ → Bool
is_interrupt p k = nat_lt k p.params.cpus && is_posted p (interrupt_actor (actors_of p.params) k)

-- CPU k exists, and both its actors are here
abbrev pub is_whole : PostsView → ℕ → Bool
is_whole p k = nat_lt k p.params.cpus && (is_posted p (cpu_actor (actors_of p.params) k) && is_posted p (interrupt_actor (actors_of p.params) k))

-- actor j leaves, where it does
abbrev pub actor_leaves : PostsView → ℕ → Bool → PostsView
actor_leaves p j b = record p { here = if b then slice_set p.here j false else p.here }

-- both actors of CPU k leave, where they do
abbrev pub both_leave : PostsView → ℕ → Bool → PostsView
both_leave p k b = actor_leaves (actor_leaves p (cpu_actor (actors_of p.params) k) b) (interrupt_actor (actors_of p.params) k) b

-- an actor's passes are back, unless as many are as there are actors
abbrev pub back_with : PostsView → PassesView → PostsView
back_with p q = record p { back = if nat_lt (length p.back) (length p.here) then p.back ++ q ∷ [] else p.back }
